-- The parts of a file, from the pages that walks reached.
use Rattle.std.proofs.Common.{◌≡◌, ◌≢◌, ◌⊎◌, ℕ, zero, suc, ◌<◌, ◌≤◌, List, [], ◌∷◌, None, refl, ap, sym, ◌∙◌, arith, inl, inr}
use Rattle.pages.specs.Each.{Each}
use Rattle.pages.specs.Owners.{IsOutside, AreApart}
use Rattle.pages.specs.Parted.{own_at, all_of}
use Rattle.pages.specs.PartLaw.{MarksPartThePages}
use Rattle.pages.proofs.EachLemmas.{each_weaker, each_join, each_left, each_right, outside_symm, apart_right, apart_across}

pub each_part : (P : ℕ → Type 0) (owns : List (List ℕ)) (i : ℕ) → Each P (all_of owns) → Each P (own_at owns i)
each_part P [] i all = tt
each_part P (own ∷ owns) zero all = each_left P own (all_of owns) all
each_part P (own ∷ owns) (suc i) all = each_part P owns i (each_right P own (all_of owns) all)

parts_apart : (owns : List (List ℕ)) → AreApart (all_of owns) → (i j : ℕ) → i ≢ j → Each (λ n. IsOutside (own_at owns i) n) (own_at owns j)
parts_apart [] h i j differ = tt
parts_apart (own ∷ owns) h zero zero differ = absurd (differ refl)
parts_apart (own ∷ owns) h zero (suc j) differ = each_part (IsOutside own) owns j (outside_symm own (all_of owns) (apart_across own (all_of owns) h))
parts_apart (own ∷ owns) h (suc i) zero differ =
    each_weaker (IsOutside (all_of owns)) (IsOutside (own_at owns i)) (λ n out. each_part (λ m. n ≢ m) owns i out) own (apart_across own (all_of owns) h)
parts_apart (own ∷ owns) h (suc i) (suc j) differ = parts_apart owns (apart_right own (all_of owns) h) i j (λ same. differ (ap suc same))

outside_all : (n : ℕ) (owns : List (List ℕ)) → Each (λ own. IsOutside own n) owns → IsOutside (all_of owns) n
outside_all n [] h = tt
outside_all n (own ∷ owns) h = each_join (λ m. n ≢ m) own (all_of owns) h.0 (outside_all n owns h.1)

pub low_or_not : (n count : ℕ) → (n < count) ⊎ (count ≤ n)
low_or_not n zero = inr (omega arith)
low_or_not zero (suc count) = inl (omega arith)
low_or_not (suc n) (suc count) = next (low_or_not n count)
  where
    next : (n < count) ⊎ (count ≤ n) → (suc n < suc count) ⊎ (suc count ≤ suc n)
    next (inl h) = inl (omega arith)
    next (inr h) = inr (omega arith)

pub parted : MarksPartThePages
parted pages count start final owns marks all free past = record {
  apart = parts_apart owns marks.apart;
  covers = λ n out. by_place n out (low_or_not n count);
}
  where
    by_place : (n : ℕ) → Each (λ own. IsOutside own n) owns → (n < count) ⊎ (count ≤ n) → pages n ≡ None
    by_place n out (inl h) = free n (sym (marks.others n (outside_all n owns out)) ∙ all n h)
    by_place n out (inr h) = past n h
