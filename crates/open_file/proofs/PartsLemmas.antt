-- A change of one part leaves the others.
use Rattle.std.proofs.Common.{◌≡◌, ◌≢◌, ℕ, zero, suc, ◌+◌, ◌==◌, ◌≤◌, ◌<◌, true, false, List, [], ◌∷◌, length, Option, None, refl, ap, sym}
use Rattle.std.proofs.Common.{subst, ◌∙◌, arith}
use Rattle.std.specs.Prelude.{slice_index_or, slice_set, IsSome, nat_lt}
use Rattle.std.proofs.lemmas.Bool.{ltb-true, ltb-false}
use Rattle.std.proofs.lemmas.Grind.{common_steps}
use Rattle.std.proofs.lemmas.List.{get_or-set_same as set_same, get_or-set_other as set_other, length-set as set_length, get_or_past}
pub use Rattle.std.proofs.lemmas.List.{get_or_default as same_default}
use Rattle.pages.specs.Each.{Each}
use Rattle.pages.proofs.EachLemmas.{outside_symm}
pub use Rattle.pages.proofs.EachLemmas.{each_weaker as each_map, each_both}
use Rattle.pages.specs.PageMap.{PageMap}
use Rattle.pages.specs.Owners.{IsOutside, ChangesPages}
use Rattle.key_index.specs.declared.entry.PrimeEntry.{PrimeEntry}
use Rattle.key_index.specs.declared.entry.AltEntry.{AltEntry}
use Rattle.key_index.specs.declared.prime_index.PrimeIndex.{PrimeIndex}
use Rattle.key_index.specs.declared.alt_index.AltIndex.{AltIndex}
use Rattle.record_heap.specs.declared.heap.Heap.{Heap}
use Rattle.key_index.specs.Standing.{AltStands, AltChanged, PrimeChanged}
use Rattle.key_index.proofs.LawLemmas.{alt_live, alt_kept, prime_live, prime_kept}
use Rattle.record_heap.specs.Chain.{Slots}
use Rattle.record_heap.specs.Found.{HeapHas}
use Rattle.record_heap.proofs.StandLemmas.{heap_kept, chain_live}
use Rattle.record_heap.specs.Standing.{first_heap_page}
use Rattle.open_file.specs.Parts.{Parts, but_at, heap_pages, prime_pages, alternate_pages}
use Rattle.pages.specs.Parted.{own_at, Parted}
use Rattle.open_file.proofs.OrderLemmas.{either}

-- ---- lists

each_at : {X : Type 0} (P : X → Type 0) (xs : List X) (i : ℕ) (d : X) → i < length xs → Each P xs → P (slice_index_or xs i d)
each_at P [] i d within h = absurd (omega (arith, within))
each_at P (x ∷ xs) zero d within h = h.0
each_at P (x ∷ xs) (suc i) d within h = each_at P xs i d (omega (arith, within)) h.1

each_unset : {X : Type 0} (P : X → Type 0) (xs : List X) (i : ℕ) (y d : X) → P (slice_index_or xs i d) → Each P (slice_set xs i y) → Each P xs
each_unset P [] i y d p h = tt
each_unset P (x ∷ xs) zero y d p h = (p, h.1)
each_unset P (x ∷ xs) (suc i) y d p h = (h.0, each_unset P xs i y d p h.1)

pub from_eq : (a b : ℕ) → (a == b) ≡ true → a ≡ b
from_eq a b h = grind (arith, common_steps)

pub from_ne : (a b : ℕ) → (a == b) ≡ false → a ≢ b
from_ne a b h = grind (arith, common_steps)

pub no_some : {X : Type 0} (o : Option X) → (IsSome o → ⊥) → o ≡ None
no_some o h = grind (arith, common_steps)

pub some_none : {X : Type 0} (o : Option X) → IsSome o → o ≡ None → ⊥
some_none o s e = grind (arith, common_steps)

-- ---- the partition

-- the pages of each part are in use
abbrev pub AreUsed : PageMap → List (List ℕ) → Type 0
AreUsed pages owns = (j : ℕ) → Each (λ n. IsSome (pages n)) (own_at owns j)

unchanged : (before after : PageMap) (owns : List (List ℕ)) (i : ℕ) (now : List ℕ) → ChangesPages before after (own_at owns i) now → Parted before owns → AreUsed before owns
    → (j : ℕ) → j ≢ i → Each (λ n. after n ≡ before n) (own_at owns j)
unchanged before after owns i now changes parted used j other =
    each_both (λ n. IsSome (before n)) (λ n. IsOutside (own_at owns i) n) (λ n. after n ≡ before n) (λ n some out. (changes.others n some out).0) (own_at owns j) (used j) (parted.apart i j (λ e. other (sym e)))

outside_now : (before after : PageMap) (owns : List (List ℕ)) (i : ℕ) (now : List ℕ) → ChangesPages before after (own_at owns i) now → Parted before owns → AreUsed before owns
    → (j : ℕ) → j ≢ i → Each (λ n. IsOutside now n) (own_at owns j)
outside_now before after owns i now changes parted used j other =
    each_both (λ n. IsSome (before n)) (λ n. IsOutside (own_at owns i) n) (λ n. IsOutside now n) (λ n some out. (changes.others n some out).1) (own_at owns j) (used j) (parted.apart i j (λ e. other (sym e)))

parted_after : (before after : PageMap) (owns : List (List ℕ)) (i : ℕ) (now : List ℕ) → i < length owns → ChangesPages before after (own_at owns i) now → Parted before owns → AreUsed before owns
    → Parted after (slice_set owns i now)
parted_after before after owns i now within changes parted used = record {
  apart = λ a b differ.
      either (a == i) (Each (λ n. IsOutside (own_at (slice_set owns i now) a) n) (own_at (slice_set owns i now) b))
      (λ yes. let e = from_eq a i yes in
      let b_other : b ≢ i = λ f. differ (e ∙ sym f) in
      rw (e, set_same owns i now [] within, set_other owns i b now [] b_other) (outside_now before after owns i now changes parted used b b_other))
      (λ no. let a_other = from_ne a i no in
      either (b == i) (Each (λ n. IsOutside (own_at (slice_set owns i now) a) n) (own_at (slice_set owns i now) b))
      (λ yes. let e = from_eq b i yes in
      rw (e, set_same owns i now [] within, set_other owns i a now [] a_other)
      (outside_symm (own_at owns a) now (outside_now before after owns i now changes parted used a a_other)))
      (λ none. let b_other = from_ne b i none in
      rw (set_other owns i a now [] a_other, set_other owns i b now [] b_other) (parted.apart a b differ)));
  covers = λ n out.
      no_some (after n) (λ some.
      let here = subst (λ own. IsOutside own n) (set_same owns i now [] within) (each_at (λ own. IsOutside own n) (slice_set owns i now) i [] (omega (arith, within, set_length owns i now)) out) in
      let back = changes.no_stray n some here in
      some_none (before n) back.0 (parted.covers n (each_unset (λ own. IsOutside own n) owns i now [] back.1 out)));
}

-- ---- the parts

-- what stands at a place of a list
pub found_at : {X : Type 0} (xs : List X) (j : ℕ) → j < length xs → (x : X) × (x ≡ slice_index_or xs j x)
found_at [] j within = absurd (omega (arith, within))
found_at (x ∷ xs) zero within = (x, refl)
found_at (x ∷ xs) (suc j) within = found_at xs j (omega (arith, within))

module _ (heap : Heap) (prime : PrimeIndex) (alternates : List AltIndex) (before : PageMap) (slots : Slots) (primes : List PrimeEntry) (entries : ℕ → List AltEntry) (p : Parts heap prime alternates before slots primes entries) where
  used_alternate : (j : ℕ) → Each (λ n. IsSome (before n)) (alternate_pages p.owns j)
  used_alternate j =
      either (nat_lt j (length alternates)) (Each (λ n. IsSome (before n)) (alternate_pages p.owns j))
      (λ yes. let within = ltb-true j (length alternates) yes in
      let index = found_at alternates j within in
      (alt_live index.0 before (entries j) (alternate_pages p.owns j) (p.alternates_stand j index.0 within index.1)).live)
      (λ no. let past : length alternates ≤ j = ltb-false j (length alternates) no in
      let none : alternate_pages p.owns j ≡ [] = get_or_past p.owns (j + 2) [] (omega (arith, past, p.owners)) in
      rw none tt)

  pub used : AreUsed before p.owns
  used zero = chain_live before (first_heap_page heap) (heap_pages p.owns) p.heap_stands.chain
  used (suc zero) = (prime_live prime before primes (prime_pages p.owns) p.prime_stands).live
  used (suc (suc j)) = let e : j + 2 ≡ suc (suc j) = omega arith in subst (λ m. Each (λ n. IsSome (before n)) (own_at p.owns m)) e (used_alternate j)

  pub heap_changed : (after : PageMap) (new : Heap) (now : Slots) → HeapHas before after new (heap_pages p.owns) now → Parts new prime alternates after now primes entries
  heap_changed after new now set =
      let within : 0 < length p.owns = omega (arith, p.owners) in
      let rest = unchanged before after p.owns 0 set.own_now set.changes p.parted used in
      record {
        owns = slice_set p.owns 0 set.own_now;
        owners = set_length p.owns 0 set.own_now ∙ p.owners;
        heap_stands = rw (set_same p.owns 0 set.own_now [] within) set.stands;
        prime_stands = rw (set_other p.owns 0 1 set.own_now [] (omega arith)) (prime_kept prime before after primes (prime_pages p.owns) p.prime_stands (rest 1 (omega arith)));
        alternates_stand = λ j index lt is. rw (set_other p.owns 0 (j + 2) set.own_now [] (omega arith)) (alt_kept index before after (entries j) (alternate_pages p.owns j) (p.alternates_stand j index lt is) (rest (j + 2) (omega arith)));
        parted = parted_after before after p.owns 0 set.own_now within set.changes p.parted used;
      }

  pub prime_changed : (after : PageMap) (new : PrimeIndex) (others : List PrimeEntry) → PrimeChanged before after new (prime_pages p.owns) others → Parts heap new alternates after slots others entries
  prime_changed after new others set =
      let within : 1 < length p.owns = omega (arith, p.owners) in
      let rest = unchanged before after p.owns 1 set.own_now set.changes p.parted used in
      record {
        owns = slice_set p.owns 1 set.own_now;
        owners = set_length p.owns 1 set.own_now ∙ p.owners;
        heap_stands = rw (set_other p.owns 1 0 set.own_now [] (omega arith)) (heap_kept heap before after slots (heap_pages p.owns) (rest 0 (omega arith)) p.heap_stands);
        prime_stands = rw (set_same p.owns 1 set.own_now [] within) set.stands;
        alternates_stand = λ j index lt is. rw (set_other p.owns 1 (j + 2) set.own_now [] (omega arith)) (alt_kept index before after (entries j) (alternate_pages p.owns j) (p.alternates_stand j index lt is) (rest (j + 2) (omega arith)));
        parted = parted_after before after p.owns 1 set.own_now within set.changes p.parted used;
      }

  pub alternate_changed : (after : PageMap) (i : ℕ) (new : AltIndex) (others : List AltEntry) → i < length alternates → AltChanged before after new (alternate_pages p.owns i) others
      → Parts heap prime (slice_set alternates i new) after slots primes (but_at i others entries)
  alternate_changed after i new others inside set =
      let within : i + 2 < length p.owns = omega (arith, p.owners, inside) in
      let rest = unchanged before after p.owns (i + 2) set.own_now set.changes p.parted used in
      let many = set_length alternates i new in
      record {
        owns = slice_set p.owns (i + 2) set.own_now;
        owners = set_length p.owns (i + 2) set.own_now ∙ p.owners ∙ ap (λ n. n + 2) (sym many);
        heap_stands = rw (set_other p.owns (i + 2) 0 set.own_now [] (omega arith)) (heap_kept heap before after slots (heap_pages p.owns) (rest 0 (omega arith)) p.heap_stands);
        prime_stands = rw (set_other p.owns (i + 2) 1 set.own_now [] (omega arith)) (prime_kept prime before after primes (prime_pages p.owns) p.prime_stands (rest 1 (omega arith)));
        alternates_stand = λ j index lt is.
            either (j == i) (AltStands index after (but_at i others entries j) (own_at (slice_set p.owns (i + 2) set.own_now) (j + 2)))
            (λ yes. let e = from_eq j i yes in
            let it : index ≡ new = is ∙ ap (λ m. slice_index_or (slice_set alternates i new) m index) e ∙ set_same alternates i new index inside in
            rw (yes, e, it, set_same p.owns (i + 2) set.own_now [] within) set.stands)
            (λ no. let other = from_ne j i no in
            let apart : j + 2 ≢ i + 2 = λ e. other (omega (arith, e)) in
            rw (no, set_other p.owns (i + 2) (j + 2) set.own_now [] apart)
            (alt_kept index before after (entries j) (alternate_pages p.owns j) (p.alternates_stand j index (omega (arith, lt, many)) (is ∙ set_other alternates i j new index other)) (rest (j + 2) apart)));
        parted = parted_after before after p.owns (i + 2) set.own_now within set.changes p.parted used;
      }

  -- the same entries, said in another way
  pub said_so : (others : List PrimeEntry) (said : ℕ → List AltEntry) → others ≡ primes → ((j : ℕ) → j < length alternates → said j ≡ entries j) → Parts heap prime alternates before slots others said
  said_so others said first second = record {
    owns = p.owns;
    owners = p.owners;
    heap_stands = p.heap_stands;
    prime_stands = rw first p.prime_stands;
    alternates_stand = λ j index lt is. rw (second j lt) (p.alternates_stand j index lt is);
    parted = p.parted;
  }
