-- The file of a unit, opened by the header that a look had accepted.
use Rattle.std.proofs.Common.{◌≡◌, ◌≢◌, ℕ, true, false, Bool, List, IsTrue, IsFalse, IfOk, IfErr, OnOk, OnErr, Result, Ok, Err, refl, sym, ap, subst}
use Rattle.std.proofs.Common.{◌∙◌, arith}
use Rattle.std.specs.Prelude.{Option}
use Rattle.indexed_file.specs.Room.{PageCounts}
use Rattle.page_store.specs.ShelfState.{HasUnit}
use Rattle.shelf_library.specs.Shelves.{IsOpened, HasAccepted}
use Rattle.shelf_library.specs.Units.{counts_by}
use Rattle.shelf_library.proofs.Terms.{Fault, Damage, Memory, Schema, MayFail, untouched, OpensUnit, Holding, Named, HasOpened, holding_at, is_open, content}
use Rattle.shelf_library.proofs.Terms.{name_at, named_at, opened_from, schema_at, schema_in, DeviceFile, KeepsOthers, ShelfState, unit_file}
use Rattle.shelf_library.proofs.Terms.{unit_name, pages_counted, pages_free, counts_of, Header, look_of, named_of, is_broken_file}
use Rattle.shelf_library.proofs.Terms.{pages_behind, schema_behind, Accepted, ShelfFile, shown_by, AreUnits, ChangesAt, FitsItsFile}
use Rattle.shelf_library.proofs.Terms.{IsTrulyHeld, OpensAt, IsLooked, LibraryState, held_at, answer_open, held_open, IsShownTruly}
use Rattle.shelf_library.proofs.Terms.{IsTrulyOpen, counts_of_held, holding_of, world_of, Held, Looked}
use Rattle.shelf_library.proofs.WorldLemmas.{same_open}
use Rattle.shelf_library.proofs.AsideLemmas.{rests, are_after, held_here, holding_before, holding_after, named_before, named_after}
use Rattle.shelf_library.proofs.AsideLemmas.{images_aside}
use Rattle.shelf_library.proofs.UnitLemmas.{keeps_at, images_at}
use Rattle.shelf_library.specs.FileAcceptedLemmas.{accepted_looks, accepted_there, accepted_named}
use Rattle.shelf_library.proofs.OpensLemmas.{nothing_fits, open_fits, open_holding, is_opened, opens_unit}

-- only want of memory keeps a file from being opened
pub want_of_memory : (is_honest : Bool) (truly : Type 0) (old new : ℕ) (r : Result ShelfFile Fault) → OnErr r (r ≡ Err Memory) → IfErr r (MayFail true false is_honest truly old new)
want_of_memory is_honest truly old new (Ok file) is = tt
want_of_memory is_honest truly old new (Err fault) is =
    let same : fault ≡ Memory = cc in
    subst (λ (e : Fault). MayFail true false is_honest truly old new e) (sym same) (refl, refl)

memory_alone : (r : Result ShelfFile Fault) → OnErr r (r ≡ Err Memory) → IfErr r (λ fault. fault ≢ Damage)
memory_alone (Ok file) is = tt
memory_alone (Err fault) is = λ damage. cc

module _ (u : ℕ) (shelf : ShelfState) (header : Header) (has : HasUnit shelf u) (accepted : IsTrue shelf.is_honest → HasAccepted shelf u header) where
  pub opened_fits : (r : Result ShelfFile Fault) → IfOk r (λ held. IsOpened held u header) → FitsItsFile u (held_open r) shelf
  opened_fits (Ok file) opened = open_fits u file shelf (record { unit_is = opened.unit_is; ready = opened.ready shelf has accepted })
  opened_fits (Err fault) opened = nothing_fits u shelf

  pub opened_fine : (r : Result ShelfFile Fault) → IfOk r (λ held. IsOpened held u header) → IfOk r (λ file. IsFalse (is_broken_file file) × (schema_behind file ≡ header.schema))
  opened_fine (Ok file) opened = (opened.unbroken, opened.schema_is)
  opened_fine (Err fault) opened = tt

  pub opened_unbroken : (r : Result ShelfFile Fault) → IfOk r (λ held. IsOpened held u header) → IfOk r (λ file. IsFalse (is_broken_file file))
  opened_unbroken (Ok file) opened = opened.unbroken
  opened_unbroken (Err fault) opened = tt

  -- it reads as what its name stands for
  pub opened_reads : (r : Result ShelfFile Fault) → IfOk r (λ held. IsOpened held u header) → IsTrue shelf.is_honest
      → OnOk (answer_open r) (holding_of shelf (held_open r) ≡ opened_from (named_of (unit_file shelf u).seen))
  opened_reads (Err fault) opened honest = tt
  opened_reads (Ok file) opened honest =
      let is = accepted honest in
      let reads = opened.reads shelf is in
      open_holding shelf file opened.unbroken
      ∙ (λ i. HasOpened (opened.schema_is i) (reads i))
      ∙ ap opened_from (sym (accepted_named (unit_file shelf u) header is))

  -- it stands for what its name stands for
  opened_stands : (file : ShelfFile) → IsOpened file u header → IsTrue shelf.is_honest → IsTrulyHeld u (Looked header) shelf → IsTrulyOpen shelf file (unit_file shelf u)
  opened_stands file opened honest truly =
      let is = accepted honest in
      let closed = truly.closed header is in
      record {
        rows = closed.rows;
        stands = opened.stands shelf closed.rows is closed.stands;
        closed = λ unchanged. record {
          header = header;
          accepted = accepted_looks (content (unit_file shelf u)) header (ap look_of (sym (accepted_there (unit_file shelf u) header is)) ∙ is);
          schema_is = sym opened.schema_is;
          stands = closed.stands;
        };
      }

  pub opened_truly : (r : Result ShelfFile Fault) → IfOk r (λ held. IsOpened held u header) → IsTrue shelf.is_honest → IsTrulyHeld u (Looked header) shelf → IsTrulyHeld u (held_open r) shelf
  opened_truly (Err fault) opened honest truly = record { closed = truly.closed; opened = λ file is. absurd (cc) }
  opened_truly (Ok file) opened honest truly = record {
    closed = truly.closed;
    opened = λ other is unbroken. subst (λ (x : ShelfFile). IsTrulyOpen shelf x (unit_file shelf u)) (same_open file other is) (opened_stands file opened honest truly);
  }

-- ---- the call

module _ (u : ℕ) (header : Header) (r : Result ShelfFile Fault) (old new : LibraryState) (call : OpensAt u header r old new) where
  others : KeepsOthers u old.shelf new.shelf
  others = subst (λ (s : ShelfState). KeepsOthers u old.shelf s) (sym call.shelf) (rests old.shelf u)

  changes : ChangesAt u (held_open r) old.shelf new.shelf old.held new.held
  changes = record { attached = call.attached; others = others; holds = call.holds }

  was : IsLooked old.shelf u header
  was = call.units.looked u header call.looked

  has_unit : HasUnit new.shelf u
  has_unit =
      subst (λ (s : ShelfState). HasUnit s u) (sym call.shelf)
      (let at = call.attached in let many = call.units.many in record { attached = omega (arith, at, many) })

  accepted_now : IsTrue new.shelf.is_honest → HasAccepted new.shelf u header
  accepted_now = subst (λ (s : ShelfState). IsTrue s.is_honest → HasAccepted s u header) (sym call.shelf) was.accepted

  same_file : unit_file new.shelf u ≡ unit_file old.shelf u
  same_file = ap (λ (s : ShelfState). unit_file s u) call.shelf

  pub units_after : AreUnits new.shelf new.held
  units_after = are_after u (held_open r) old.shelf new.shelf old.held new.held call.units changes (opened_fits u new.shelf header has_unit accepted_now r call.by_header.opened)

  schema_before : schema_at (world_of old.shelf old.held) u ≡ header.schema
  schema_before = ap schema_in (holding_before u (held_open r) old.shelf new.shelf old.held new.held call.units changes ∙ ap (holding_of old.shelf) call.looked)

  pub open_opened : OnOk (answer_open r)
      (IsTrue (is_open (holding_at (world_of new.shelf new.held) u)) × (schema_at (world_of new.shelf new.held) u ≡ schema_at (world_of old.shelf old.held) u))
  open_opened =
      subst (λ (schema : Schema). OnOk (answer_open r) (IsTrue (is_open (holding_at (world_of new.shelf new.held) u)) × (schema_at (world_of new.shelf new.held) u ≡ schema)))
      (sym schema_before)
      (is_opened (λ (x : LibraryState). x) u old new r call.units changes header.schema r refl (opened_fine u new.shelf header has_unit accepted_now r call.by_header.opened))

  pub open_named : named_at (world_of new.shelf new.held) u ≡ named_at (world_of old.shelf old.held) u
  open_named =
      named_after u (held_open r) old.shelf new.shelf old.held new.held call.units changes
      ∙ ap (λ (bytes : DeviceFile). named_of bytes.seen) same_file
      ∙ sym (named_before u (held_open r) old.shelf new.shelf old.held new.held call.units changes)

  pub open_file : IsTrue new.shelf.is_honest → OnOk (answer_open r) (holding_at (world_of new.shelf new.held) u ≡ opened_from (named_at (world_of old.shelf old.held) u))
  open_file honest =
      let named : named_of (unit_file new.shelf u).seen ≡ named_at (world_of old.shelf old.held) u =
      sym (named_after u (held_open r) old.shelf new.shelf old.held new.held call.units changes) ∙ open_named in
      subst (λ (h : Holding). OnOk (answer_open r) (h ≡ opened_from (named_at (world_of old.shelf old.held) u)))
      (sym (holding_after u (held_open r) old.shelf new.shelf old.held new.held call.units changes))
      (subst (λ (n : Named). OnOk (answer_open r) (holding_of new.shelf (held_open r) ≡ opened_from n)) named
      (opened_reads u new.shelf header has_unit accepted_now r call.by_header.opened honest))

  counts_after : (x : Result ShelfFile Fault) (seen : Option (List ℕ)) → IfOk x (λ held. (pages_counted (counts_of (pages_behind held)) ≡ header.pages) × (pages_free (counts_of (pages_behind held)) ≡ header.free))
      → OnOk (answer_open x) (counts_of_held seen (held_open x) ≡ counts_by (Accepted header))
  counts_after (Ok file) seen is = let count = is.0 in let free = is.1 in λ i. record { count = count i; free = free i }
  counts_after (Err fault) seen is = tt

  -- it has the pages that it had closed
  pub open_counts : IsTrue new.shelf.is_honest
      → OnOk (answer_open r) (counts_of_held (unit_file new.shelf u).seen (held_at new.held u) ≡ counts_of_held (unit_file old.shelf u).seen (held_at old.held u))
  open_counts honest =
      let seen = (unit_file new.shelf u).seen in
      let was_honest : IsTrue old.shelf.is_honest = subst (λ (s : ShelfState). IsTrue s.is_honest) call.shelf honest in
      let before : counts_of_held (unit_file old.shelf u).seen (held_at old.held u) ≡ counts_by (Accepted header) =
      ap (counts_of_held (unit_file old.shelf u).seen) call.looked ∙ ap counts_by (was.accepted was_honest) in
      subst (λ (one : Held). OnOk (answer_open r) (counts_of_held seen one ≡ counts_of_held (unit_file old.shelf u).seen (held_at old.held u)))
      (sym (held_here u (held_open r) old.shelf new.shelf old.held new.held call.units changes))
      (subst (λ (pages : PageCounts). OnOk (answer_open r) (counts_of_held seen (held_open r) ≡ pages)) (sym before) (counts_after r seen call.by_header.counts))

  truly_now : IsTrue new.shelf.is_honest → IsTrulyHeld u (held_at old.held u) old.shelf → IsTrulyHeld u (held_open r) new.shelf
  truly_now honest truly =
      opened_truly u new.shelf header has_unit accepted_now r call.by_header.opened honest
      (subst (λ (s : ShelfState). IsTrulyHeld u (Looked header) s) (sym call.shelf) (subst (λ (one : Held). IsTrulyHeld u one old.shelf) call.looked truly))

-- nothing was read or written
pub open_opens : {S : Type 0} (state : S → LibraryState) (u : ℕ) (header : Header) (r : Result ShelfFile Fault) (old new : S) → OpensAt u header r (state old) (state new)
    → (answer : Result (Unit {0}) Fault) → answer ≡ answer_open r → OpensUnit (shown_by state) u untouched old new answer
open_opens {S} state u header r old new call answer is =
    let at = changes u header r (state old) (state new) call in
    let same = call.faults in
    subst (λ (x : Result (Unit {0}) Fault). OpensUnit (shown_by state) u untouched old new x) (sym is) (opens_unit state u old new r call.units at untouched
    (opened_unbroken u (state new).shelf header (has_unit u header r (state old) (state new) call) (accepted_now u header r (state old) (state new) call) r call.by_header.opened)
    (want_of_memory (state new).shelf.is_honest (IsShownTruly (state old).shelf (state old).held (name_at (world_of (state old).shelf (state old).held) u)) (state old).faults (state new).faults r call.by_header.memory)
    (λ honest. memory_alone r call.by_header.memory)
    (λ lacked. (call.shelf, call.faults))
    (λ honest truly. images_at state u (held_open r) old new call.units at untouched
    (images_aside state old new (unit_name (state old).shelf u) (ap (λ (s : ShelfState). s.file (unit_name (state old).shelf u)) call.shelf)) tt)
    (keeps_at state u (held_open r) old new call.units at call.limit call.frames (omega (arith, same)) (truly_now u header r (state old) (state new) call)))
