use Rattle.std.proofs.Common.{◌≡◌, ◌-◌, ◌≤◌, List, length, ap, sym, subst, ◌∙◌, arith}
use Rattle.std.specs.Option.{IfSome}
use Rattle.std.specs.Prelude.{slice_index_or}
use Rattle.std.proofs.lemmas.List.{length-map}
use Rattle.std.proofs.lemmas.List.Sorted.{length_permutation}
use Rattle.record_heap.specs.Chain.{IsOneOf}
use Rattle.key_index.specs.declared.entry.AltEntry.{AltEntry}
use Rattle.file_building.specs.declared.ranked.Ranked.{Ranked}
use Rattle.file_building.specs.Ranks.{IsSortedOf}
use Rattle.file_building.specs.Entries.{entry_in, ranked_entries}
use Rattle.file_building.specs.Held.{held_entries, held_size, held_count, entries_up_to}
use Rattle.file_building.proofs.BuiltLemmas.{each_moved, each_is_one}
use Rattle.file_building.proofs.HeldLemmas.{held_many, held_fit, ranked_at}
use Rattle.file_building.proofs.WithinLemmas.{each_one}
use Rattle.file_building.specs.declared.batch.Batch.{Batch}
use Rattle.file_building.proofs.batch.Batch.lower_part.Goals as goal

-- the place is one of an entry, and the entry is one of those held
module _ (batch : Batch) (sorted : List Ranked) (so : IsSortedOf (held_entries batch.held) (ranked_entries sorted)) where
  many_sorted : length sorted ≡ held_count batch.held
  many_sorted = sym (length-map sorted entry_in) ∙ length_permutation (held_entries batch.held) (ranked_entries sorted) so.moved
      ∙ held_many batch.held.width (held_size batch.held) (held_count batch.held) batch.held.bytes.items

  one_held : (r : Ranked) → batch.most ≤ held_count batch.held → r ≡ slice_index_or sorted (batch.most - 1) r → IsOneOf (held_entries batch.held) (entry_in r)
  one_held r many is =
      let here : IsOneOf (ranked_entries sorted) (entry_in r) = subst (λ (x : Ranked). IsOneOf (ranked_entries sorted) (entry_in x)) (sym is) (ranked_at sorted (batch.most - 1) r (omega (arith, many, many_sorted, batch.some))) in
      let all = each_moved (IsOneOf (held_entries batch.held)) (held_entries batch.held) (ranked_entries sorted) so.moved (each_is_one (held_entries batch.held)) in
      each_one (IsOneOf (held_entries batch.held)) (ranked_entries sorted) (entry_in r) all here

  fits_held : (e : AltEntry) → IsOneOf (held_entries batch.held) e → (length e.value.items ≡ batch.held.width) × (length e.prime.items ≡ batch.held.prime)
  fits_held e one =
      let held = batch.held in
      each_one (λ (x : AltEntry). (length x.value.items ≡ held.width) × (length x.prime.items ≡ held.prime)) (held_entries held) e
      (held_fit held.width held.prime (held_count held) held.bytes.items (omega (arith, held.whole))) one

pub bounds-entries-last : goal.bounds-entries-last
bounds-entries-last c =
    let batch = c.args.self.now in
    let so : IsSortedOf (held_entries batch.held) (ranked_entries c.in-Some.sorted.items) = subst (λ found. IfSome found (λ s. IsSortedOf (held_entries batch.held) (ranked_entries s.items))) c.in-Some.is c.in_ok-sorted.ensures.sorted in
    let many = many_sorted batch c.in-Some.sorted.items so in
    let same = ap length c.as_slice-entries.ensures.value in
    omega (arith, many, same, c.requires.many, batch.some)

pub offset_bounds-entries-last : goal.offset_bounds-entries-last
offset_bounds-entries-last c =
    let batch = c.args.self.now in
    let so : IsSortedOf (held_entries batch.held) (ranked_entries c.in-Some.sorted.items) = subst (λ found. IfSome found (λ s. IsSortedOf (held_entries batch.held) (ranked_entries s.items))) c.in-Some.is c.in_ok-sorted.ensures.sorted in
    let many = many_sorted batch c.in-Some.sorted.items so in
    let same = ap length c.as_slice-entries.ensures.value in
    omega (arith, many, same, c.requires.many, batch.some, c.as_slice-entries.type_inv.1)

pub set-requires-clause-value : goal.set-requires-clause-value
set-requires-clause-value c =
    let batch = c.args.self.now in
    let so : IsSortedOf (held_entries batch.held) (ranked_entries c.in-Some.sorted.items) = subst (λ found. IfSome found (λ s. IsSortedOf (held_entries batch.held) (ranked_entries s.items))) c.in-Some.is c.in_ok-sorted.ensures.sorted in
    let r = c.index-entries-last.result in
    let one = one_held batch c.in-Some.sorted.items so r c.requires.many (subst (λ (l : List Ranked). r ≡ slice_index_or l (batch.most - 1) r) c.as_slice-entries.ensures.value c.index-entries-last.is) in
    let fits = fits_held batch c.in-Some.sorted.items so (entry_in r) one in
    omega (arith, fits.0, batch.held.wide)

pub set-requires-clause-prime : goal.set-requires-clause-prime
set-requires-clause-prime c =
    let batch = c.args.self.now in
    let so : IsSortedOf (held_entries batch.held) (ranked_entries c.in-Some.sorted.items) = subst (λ found. IfSome found (λ s. IsSortedOf (held_entries batch.held) (ranked_entries s.items))) c.in-Some.is c.in_ok-sorted.ensures.sorted in
    let r = c.index-entries-last.result in
    let one = one_held batch c.in-Some.sorted.items so r c.requires.many (subst (λ (l : List Ranked). r ≡ slice_index_or l (batch.most - 1) r) c.as_slice-entries.ensures.value c.index-entries-last.is) in
    let fits = fits_held batch c.in-Some.sorted.items so (entry_in r) one in
    omega (arith, fits.1, batch.held.narrow)

pub returns-clause-parts : goal.returns-clause-parts
returns-clause-parts c =
    let batch = c.args.self.now in
    let so : IsSortedOf (held_entries batch.held) (ranked_entries c.in-Some.sorted.items) = subst (λ found. IfSome found (λ s. IsSortedOf (held_entries batch.held) (ranked_entries s.items))) c.in-Some.is c.in_ok-sorted.ensures.sorted in
    let r = c.index-entries-last.result in
    let one = one_held batch c.in-Some.sorted.items so r c.requires.many (subst (λ (l : List Ranked). r ≡ slice_index_or l (batch.most - 1) r) c.as_slice-entries.ensures.value c.index-entries-last.is) in
    record {
      one = subst (IsOneOf (held_entries batch.held)) (sym c.set.ensures) one;
      held_are = c.in_ok-held.ensures.entries ∙ ap (λ (e : AltEntry). entries_up_to e (held_entries batch.held)) (sym c.set.ensures);
      fits = c.in_ok-held.ensures.same;
    }
