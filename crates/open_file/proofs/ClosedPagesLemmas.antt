-- The pages of all parts of a closed file.
use Rattle.std.proofs.Common.{◌≢◌, ◌⊎◌, inl, inr, ℕ, zero, suc, ◌==◌, ◌<◌, List, [], ◌∷◌, ◌++◌, length, IsSome, refl, ap, arith}
use Rattle.std.specs.Prelude.{slice_index_or}
use Rattle.std.specs.List.{All, AllPairs, Contains, concat}
use Rattle.pages.specs.Each.{Each}
use Rattle.pages.specs.PageMap.{PageMap}
use Rattle.pages.specs.Owners.{IsOutside, AreApart}
use Rattle.pages.specs.Parted.{own_at, Parted}
use Rattle.pages.proofs.EachLemmas.{each_weaker, each_both, each_join, each_left, each_right, outside_symm, apart_right, apart_across, apart_join}
use Rattle.record_heap.specs.Chain.{IsOneOf}
use Rattle.record_heap.proofs.StandLemmas.{each_of}
use Rattle.open_file.proofs.ClosedHeapLemmas.{contains, one_of, each_one}
use Rattle.open_file.proofs.OrderLemmas.{either}
use Rattle.open_file.proofs.PartsLemmas.{from_eq, from_ne, no_some, some_none}

-- ---- what holds of each member, and of each two

module _ {X : Type 0} (P : X → Type 0) where
  pub all_each : (xs : List X) → Each P xs → (k : ℕ) (d : X) → k < length xs → P (slice_index_or xs k d)
  all_each [] each k d inside = absurd (omega (arith, inside))
  all_each (x ∷ xs) each zero d inside = each.0
  all_each (x ∷ xs) each (suc k) d inside = all_each xs each.1 k d (omega (arith, inside))

  pub each_all : (xs : List X) → All P xs → Each P xs
  each_all [] all = tt
  each_all (x ∷ xs) all = (all 0 x (omega arith), each_all xs (λ k d inside. all (suc k) d (omega (arith, inside))))

module _ {X : Type 0} (R : X → X → Type 0) (P : List X → Type 0) where
  pub all_pairs : ((x : X) (xs : List X) → P (x ∷ xs) → Each (R x) xs × P xs) → (xs : List X) → P xs
      → (i j : ℕ) (d : X) → i < j → j < length xs → R (slice_index_or xs i d) (slice_index_or xs j d)
  all_pairs f [] p i j d before inside = absurd (omega (arith, inside))
  all_pairs f (x ∷ xs) p i zero d before inside = absurd (omega (arith, before))
  all_pairs f (x ∷ xs) p zero (suc j) d before inside = all_each (R x) xs (f x xs p).0 j d (omega (arith, inside))
  all_pairs f (x ∷ xs) p (suc i) (suc j) d before inside = all_pairs f xs (f x xs p).1 i j d (omega (arith, before)) (omega (arith, inside))

  pub from_pairs : P [] → ((x : X) (xs : List X) → Each (R x) xs → P xs → P (x ∷ xs)) → (xs : List X) → AllPairs R xs → P xs
  from_pairs none more [] all = none
  from_pairs none more (x ∷ xs) all = more x xs
      (each_all (R x) xs (λ j d inside. all 0 (suc j) d (omega arith) (omega (arith, inside))))
      (from_pairs none more xs (λ i j d before inside. all (suc i) (suc j) d (omega (arith, before)) (omega (arith, inside))))

-- ---- the pages of all parts

apart_left : (xs ys : List ℕ) → AreApart (xs ++ ys) → AreApart xs
apart_left [] ys apart = tt
apart_left (x ∷ xs) ys apart = (each_left (λ m. x ≢ m) xs ys apart.0, apart_left xs ys apart.1)

each_part : (P : ℕ → Type 0) (owns : List (List ℕ)) (i : ℕ) → Each P (concat owns) → Each P (own_at owns i)
each_part P [] i all = tt
each_part P (own ∷ owns) zero all = each_left P own (concat owns) all
each_part P (own ∷ owns) (suc i) all = each_part P owns i (each_right P own (concat owns) all)

part_apart : (owns : List (List ℕ)) (i : ℕ) → AreApart (concat owns) → AreApart (own_at owns i)
part_apart [] i apart = tt
part_apart (own ∷ owns) zero apart = apart_left own (concat owns) apart
part_apart (own ∷ owns) (suc i) apart = part_apart owns i (apart_right own (concat owns) apart)

parts_apart : (owns : List (List ℕ)) → AreApart (concat owns) → (i j : ℕ) → i ≢ j → Each (λ n. IsOutside (own_at owns i) n) (own_at owns j)
parts_apart [] apart i j differ = tt
parts_apart (own ∷ owns) apart zero zero differ = absurd (differ refl)
parts_apart (own ∷ owns) apart zero (suc j) differ = each_part (IsOutside own) owns j (outside_symm own (concat owns) (apart_across own (concat owns) apart))
parts_apart (own ∷ owns) apart (suc i) zero differ =
    each_weaker (IsOutside (concat owns)) (IsOutside (own_at owns i)) (λ n out. each_part (λ m. n ≢ m) owns i out) own (apart_across own (concat owns) apart)
parts_apart (own ∷ owns) apart (suc i) (suc j) differ = parts_apart owns (apart_right own (concat owns) apart) i j (λ same. differ (ap suc same))

outside_parts : (own : List ℕ) (owns : List (List ℕ)) → ((j : ℕ) → Each (IsOutside (own_at owns j)) own) → Each (IsOutside (concat owns)) own
outside_parts own [] out = each_one (IsOutside []) own (λ n of. tt)
outside_parts own (other ∷ owns) out =
    each_both (IsOutside other) (IsOutside (concat owns)) (IsOutside (other ++ concat owns)) (λ n a b. each_join (λ m. n ≢ m) other (concat owns) a b) own
    (out 0) (outside_parts own owns (λ j. out (suc j)))

join_parts : (owns : List (List ℕ)) → ((i : ℕ) → i < length owns → AreApart (own_at owns i)) → ((i j : ℕ) → i ≢ j → Each (λ n. IsOutside (own_at owns i) n) (own_at owns j)) → AreApart (concat owns)
join_parts [] each across = tt
join_parts (own ∷ owns) each across =
    apart_join own (concat owns) (each 0 (omega arith))
    (join_parts owns (λ i inside. each (suc i) (omega (arith, inside))) (λ i j differ. across (suc i) (suc j) (λ same. differ (omega (arith, same)))))
    (outside_parts own owns (λ j. across (suc j) 0 (λ same. omega (arith, same))))

outside_all : (n : ℕ) (owns : List (List ℕ)) → Each (λ own. IsOutside own n) owns → IsOutside (concat owns) n
outside_all n [] out = tt
outside_all n (own ∷ owns) out = each_join (λ m. n ≢ m) own (concat owns) out.0 (outside_all n owns out.1)

outside_each : (n : ℕ) (owns : List (List ℕ)) → IsOutside (concat owns) n → Each (λ own. IsOutside own n) owns
outside_each n [] out = tt
outside_each n (own ∷ owns) out = (each_left (λ m. n ≢ m) own (concat owns) out, outside_each n owns (each_right (λ m. n ≢ m) own (concat owns) out))

in_or_out : (n : ℕ) (xs : List ℕ) → IsOneOf xs n ⊎ IsOutside xs n
in_or_out n [] = inr tt
in_or_out n (x ∷ xs) = either (n == x) (IsOneOf (x ∷ xs) n ⊎ IsOutside (x ∷ xs) n)
    (λ yes. inl (inl (from_eq n x yes)))
    (λ no. elim (in_or_out n xs) [ inl of ↦ inl (inr of) | inr out ↦ inr (from_ne n x no, out) ])

pub pages_apart : (pages : PageMap) (owns : List (List ℕ)) → Parted pages owns → ((i : ℕ) → i < length owns → AreApart (own_at owns i)) → AllPairs (λ m n. m ≢ n) (concat owns)
pages_apart pages owns parted each = all_pairs (λ m n. m ≢ n) AreApart (λ n ns apart. (apart.0, apart.1)) (concat owns) (join_parts owns each parted.apart)

pub pages_covered : (pages : PageMap) (owns : List (List ℕ)) → Parted pages owns → (n : ℕ) → IsSome (pages n) → Contains (concat owns) n
pages_covered pages owns parted n some = elim (in_or_out n (concat owns)) [
  | inl of ↦ contains (concat owns) n of
  | inr out ↦ absurd (some_none (pages n) some (parted.covers n (outside_each n owns out)))
]

module _ (pages : PageMap) (owns : List (List ℕ)) (apart : AllPairs (λ m n. m ≢ n) (concat owns)) where
  all_apart : AreApart (concat owns)
  all_apart = from_pairs (λ m n. m ≢ n) AreApart tt (λ n ns out rest. (out, rest)) (concat owns) apart

  pub own_apart : (i : ℕ) → AreApart (own_at owns i)
  own_apart i = part_apart owns i all_apart

  pub pages_parted : ((n : ℕ) → IsSome (pages n) → Contains (concat owns) n) → Parted pages owns
  pages_parted covers = record {
    apart = parts_apart owns all_apart;
    covers = λ n out. no_some (pages n) (λ some. each_of (λ m. n ≢ m) (concat owns) n (outside_all n owns out) (one_of (concat owns) n (covers n some)) refl);
  }
