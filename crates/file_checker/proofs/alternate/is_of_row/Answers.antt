use Rattle.std.proofs.Common.{◌≡◌, ◌+◌, ◌==◌, true, ap, sym, ◌∙◌, take, ℕ, List, Option, Some, Bor}
use Rattle.std.specs.Option.{option_copied}
use Rattle.std.proofs.lemmas.Bool.{eq-eqb}
use Rattle.std.proofs.lemmas.Slice.Eq.{bytes_eq-Decides}
use Rattle.byteorder.specs.Endian.{big_number}
use Rattle.pages.specs.PageList.{pages_in}
use Rattle.record_heap.specs.Standing.{slot_off}
use Rattle.open_file.specs.Fields.{heap_of}
use Rattle.open_file.proofs.PartsLemmas.{from_eq}
use Rattle.bplus_tree.specs.Fields.{tree_shape}
use Rattle.file_checker.specs.Rows.{place_at}
use Rattle.file_checker.proofs.StampLemmas.{rest_from}
use Rattle.file_checker.proofs.PrimeAheadLemmas.{entry_parts}
use Rattle.file_checker.proofs.AlternateRowLemmas.{entry_is}
use Rattle.file_checker.proofs.alternate.is_of_row.Goals.{then-eq, else-eq}
use Rattle.file_checker.proofs.alternate.is_of_row.Goals as goal

pub returns-then-read_u64-stamp-clause-entry : goal.returns-then-read_u64-stamp-clause-entry
returns-then-read_u64-stamp-clause-entry g c = λ list has yes. elim c.if-eq.branch [
  | then-eq w ↦
      let file = c.args.file.now in
      let e = c.args.entry_bytes.now in
      let width = c.args.index.width in
      let place : place_at file list c.args.leader ≡ c.in-Some.place = sym (c.in-Some.ensures.place list (c.stored_at.follows.holds-at-none.1 list has)) in
      let there : slot_off (heap_of file) (pages_in list) (place_at file list c.args.leader) ≡ Some c.in-Some-stored_at.stored.now =
      ap (slot_off (heap_of file) (pages_in list)) place ∙ sym (c.stored_at.follows.holds-at-none.0 list has) ∙ ap (λ (o : Option (Bor (List ℕ))). option_copied o) c.in-Some-stored_at.is in
      let value = (bytes_eq-Decides (take width e) c.value.result.now).0 (sym c.eq.ensures ∙ w.if-eq.true) in
      let number = ap (big_number 8) (sym (rest_from width e)) ∙ sym w.read_u64.ensures in
      let stamp = from_eq w.read_u64.result w.stamp.result (sym w.value-is ∙ c.if-read_u64-stamp.true) in
      let prime = (bytes_eq-Decides _ c.value-then-read_u64-stamp.result.now).0 (sym c.eq-then-read_u64-stamp.ensures ∙ yes) in
      entry_is file list c.args.leader c.in-Some-stored_at.stored.now e width (tree_shape c.args.index.tree).key there (value ∙ rw c.shape-k.ensures at c.value.ensures)
      (number ∙ stamp ∙ rw c.shape-k.ensures at w.stamp.ensures)
      (sym (rest_from (width + 8) e) ∙ prime ∙ c.value-then-read_u64-stamp.ensures)
  | else-eq w ↦ (let off = w.value-is in let on = c.if-read_u64-stamp.true in absurd (cc (off, on)))
]

pub returns-then-read_u64-stamp-clause-refused : goal.returns-then-read_u64-stamp-clause-refused
returns-then-read_u64-stamp-clause-refused g c = λ list has its is.
    let file = c.args.file.now in
    let e = c.args.entry_bytes.now in
    let width = c.args.index.width in
    let place : place_at file list c.args.leader ≡ c.in-Some.place = sym (c.in-Some.ensures.place list (c.stored_at.follows.holds-at-none.1 list has)) in
    let there : slot_off (heap_of file) (pages_in list) (place_at file list c.args.leader) ≡ Some c.in-Some-stored_at.stored.now =
    ap (slot_off (heap_of file) (pages_in list)) place ∙ sym (c.stored_at.follows.holds-at-none.0 list has) ∙ ap (λ (o : Option (Bor (List ℕ))). option_copied o) c.in-Some-stored_at.is in
    let parts = entry_parts file list c.args.index c.args.leader e c.in-Some-stored_at.stored.now there is in
    let prime = rest_from (width + 8) e ∙ parts.prime ∙ sym c.value-then-read_u64-stamp.ensures in
    c.eq-then-read_u64-stamp.ensures ∙ (bytes_eq-Decides _ _).1 prime

pub returns-else-read_u64-stamp-clause-refused : goal.returns-else-read_u64-stamp-clause-refused
returns-else-read_u64-stamp-clause-refused g c = λ list has its is.
    let file = c.args.file.now in
    let e = c.args.entry_bytes.now in
    let width = c.args.index.width in
    let place : place_at file list c.args.leader ≡ c.in-Some.place = sym (c.in-Some.ensures.place list (c.stored_at.follows.holds-at-none.1 list has)) in
    let there : slot_off (heap_of file) (pages_in list) (place_at file list c.args.leader) ≡ Some c.in-Some-stored_at.stored.now =
    ap (slot_off (heap_of file) (pages_in list)) place ∙ sym (c.stored_at.follows.holds-at-none.0 list has) ∙ ap (λ (o : Option (Bor (List ℕ))). option_copied o) c.in-Some-stored_at.is in
    let parts = entry_parts file list c.args.index c.args.leader e c.in-Some-stored_at.stored.now there is in
    elim c.if-eq.branch [
      | then-eq w ↦
          let number = w.read_u64.ensures ∙ ap (big_number 8) (rest_from width e) ∙ parts.stamp ∙ sym (rw c.shape-k.ensures at w.stamp.ensures) in
          let yes : (w.read_u64.result == w.stamp.result) ≡ true = eq-eqb w.read_u64.result w.stamp.result number in
          let on = w.value-is ∙ yes in
          let off = c.if-read_u64-stamp.false in
          absurd (cc (on, off))
      | else-eq w ↦
          let value = parts.value ∙ sym (rw c.shape-k.ensures at c.value.ensures) in
          let yes = c.eq.ensures ∙ (bytes_eq-Decides _ _).1 value in
          let off = w.if-eq.false in
          absurd (cc (yes, off))
    ]
