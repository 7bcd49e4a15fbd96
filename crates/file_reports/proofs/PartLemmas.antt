-- How many pages a file has, by its parts.
use Rattle.std.proofs.Common.{◌≡◌, ◌≢◌, ℕ, zero, suc, ◌<◌, ◌≤◌, ◌⊎◌, inl, inr, List, [], ◌∷◌, ◌++◌, length, refl, ap, sym, ◌∙◌, arith, subst}
use Rattle.pages.specs.Each.{Each}
use Rattle.pages.specs.Owners.{IsOutside, AreApart}
use Rattle.pages.specs.Parted.{own_at, all_of}
use Rattle.pages.proofs.EachLemmas.{each_weaker, each_join, each_left, each_right, apart_join}

-- the page stands in the list
record Split (n : ℕ) (ns : List ℕ) : Type 0 where
  pub front : List ℕ
  pub back : List ℕ
  pub is : ns ≡ front ++ n ∷ back

same_or_not : (n m : ℕ) → (n ≡ m) ⊎ (n ≢ m)
same_or_not zero zero = inl refl
same_or_not zero (suc m) = inr (λ e. absurd (omega (arith, e)))
same_or_not (suc n) zero = inr (λ e. absurd (omega (arith, e)))
same_or_not (suc n) (suc m) = next (same_or_not n m)
  where
    next : (n ≡ m) ⊎ (n ≢ m) → (suc n ≡ suc m) ⊎ (suc n ≢ suc m)
    next (inl e) = inl (ap suc e)
    next (inr other) = inr (λ e. other (omega (arith, e)))

look : (n : ℕ) (ns : List ℕ) → IsOutside ns n ⊎ Split n ns
look n [] = inl tt
look n (m ∷ ms) = by_test (same_or_not n m) (look n ms)
  where
    by_test : (n ≡ m) ⊎ (n ≢ m) → IsOutside ms n ⊎ Split n ms → IsOutside (m ∷ ms) n ⊎ Split n (m ∷ ms)
    by_test (inl e) rest = inr (record { front = []; back = ms; is = ap (λ (k : ℕ). k ∷ ms) (sym e) })
    by_test (inr other) (inl out) = inl (other, out)
    by_test (inr other) (inr found) = inr (record { front = m ∷ found.front; back = found.back; is = ap (λ (l : List ℕ). m ∷ l) found.is })

module _ (k : ℕ) (ys : List ℕ) where
  each_out : (P : ℕ → Type 0) (xs : List ℕ) → Each P (xs ++ k ∷ ys) → Each P (xs ++ ys)
  each_out P [] h = h.1
  each_out P (x ∷ xs) h = (h.0, each_out P xs h.1)

  each_in : (P : ℕ → Type 0) (xs : List ℕ) → P k → Each P (xs ++ ys) → Each P (xs ++ k ∷ ys)
  each_in P [] p h = (p, h)
  each_in P (x ∷ xs) p h = (h.0, each_in P xs p h.1)

  apart_out : (xs : List ℕ) → AreApart (xs ++ k ∷ ys) → AreApart (xs ++ ys)
  apart_out [] h = h.1
  apart_out (x ∷ xs) h = (each_out (λ m. x ≢ m) xs h.0, apart_out xs h.1)

  outside_rest : (xs : List ℕ) → AreApart (xs ++ k ∷ ys) → IsOutside (xs ++ ys) k
  outside_rest [] h = h.0
  outside_rest (x ∷ xs) h = ((λ e. (each_right (λ m. x ≢ m) xs (k ∷ ys) h.0).0 (sym e)), outside_rest xs h.1)

  length_in : (xs : List ℕ) → length (xs ++ k ∷ ys) ≡ suc (length (xs ++ ys))
  length_in [] = refl
  length_in (x ∷ xs) = ap suc (length_in xs)

-- pages from 1 on, below this number
abbrev pub IsWithin : ℕ → ℕ → Type 0
IsWithin count n = (1 ≤ n) × (n < count)

-- each page from 1 on below the count stands once in the list, and no other
pub count_pages : (k : ℕ) (ns : List ℕ) → AreApart ns → Each (IsWithin (suc k)) ns → ((n : ℕ) → 1 ≤ n → n < suc k → IsOutside ns n → ⊥) → length ns ≡ k
count_pages zero [] apart within covers = refl
count_pages zero (n ∷ ns) apart within covers = absurd (let a = within.0.0 in let b = within.0.1 in omega arith)
count_pages (suc k) ns apart within covers = by_look (look (suc k) ns) (count_pages k)
  where
    by_look : IsOutside ns (suc k) ⊎ Split (suc k) ns
        → ((ms : List ℕ) → AreApart ms → Each (IsWithin (suc k)) ms → ((n : ℕ) → 1 ≤ n → n < suc k → IsOutside ms n → ⊥) → length ms ≡ k) → length ns ≡ suc k
    by_look (inl out) rec = absurd (covers (suc k) (omega arith) (omega arith) out)
    by_look (inr at) rec =
        let xs = at.front in
        let ys = at.back in
        let apart_split = subst AreApart at.is apart in
        let within_split = subst (Each (IsWithin (suc (suc k)))) at.is within in
        let out = outside_rest (suc k) ys xs apart_split in
        let small : Each (IsWithin (suc k)) (xs ++ ys) =
        both (xs ++ ys) (each_out (suc k) ys (IsWithin (suc (suc k))) xs within_split) out in
        let covered : (n : ℕ) → 1 ≤ n → n < suc k → IsOutside (xs ++ ys) n → ⊥ =
        λ n some low rest. covers n some (omega arith) (subst (λ (l : List ℕ). IsOutside l n) (sym at.is)
        (each_in (suc k) ys (λ m. n ≢ m) xs (λ e. absurd (omega (arith, e))) rest)) in
        ap length at.is ∙ length_in (suc k) ys xs ∙ ap suc (rec (xs ++ ys) (apart_out (suc k) ys xs apart_split) small covered)
      where
        both : (ms : List ℕ) → Each (IsWithin (suc (suc k))) ms → IsOutside ms (suc k) → Each (IsWithin (suc k)) ms
        both [] h o = tt
        both (m ∷ ms) h o = ((h.0.0, low m h.0.1 o.0), both ms h.1 o.1)
          where
            low : (m : ℕ) → m < suc (suc k) → suc k ≢ m → m < suc k
            low m h h2 = by_same (same_or_not (suc k) m)
              where
                by_same : (suc k ≡ m) ⊎ (suc k ≢ m) → m < suc k
                by_same (inl e) = absurd (h2 e)
                by_same (inr o) = omega (arith, h, o)

module _ {X : Type 0} where
  each_all : (P : ℕ → X → Type 0) (xs : List X) → ((i : ℕ) → Each (P i) xs) → Each (λ x. (i : ℕ) → P i x) xs
  each_all P [] h = tt
  each_all P (x ∷ xs) h = ((λ i. (h i).0), each_all P xs (λ i. (h i).1))

outside_all : (n : ℕ) (owns : List (List ℕ)) → ((i : ℕ) → IsOutside (own_at owns i) n) → IsOutside (all_of owns) n
outside_all n [] h = tt
outside_all n (own ∷ owns) h = each_join (λ m. n ≢ m) own (all_of owns) (h 0) (outside_all n owns (λ i. h (suc i)))

pub outside_each : (n : ℕ) (owns : List (List ℕ)) → IsOutside (all_of owns) n → Each (λ own. IsOutside own n) owns
outside_each n [] h = tt
outside_each n (own ∷ owns) h = (each_left (λ m. n ≢ m) own (all_of owns) h, outside_each n owns (each_right (λ m. n ≢ m) own (all_of owns) h))

-- the pages of parts that share none, each of which has each page once
pub all_apart : (owns : List (List ℕ)) → ((i : ℕ) → AreApart (own_at owns i)) → ((i j : ℕ) → i ≢ j → Each (λ n. IsOutside (own_at owns i) n) (own_at owns j)) → AreApart (all_of owns)
all_apart [] each apart = tt
all_apart (own ∷ owns) each apart =
    apart_join own (all_of owns) (each 0) (all_apart owns (λ i. each (suc i)) (λ i j differ. apart (suc i) (suc j) (λ e. differ (omega (arith, e)))))
    (each_weaker (λ n. (i : ℕ) → IsOutside (own_at owns i) n) (IsOutside (all_of owns)) (λ n h. outside_all n owns h) own
    (each_all (λ i n. IsOutside (own_at owns i) n) own (λ i. apart (suc i) 0 (λ e. absurd (omega (arith, e))))))

pub each_of_all : (P : ℕ → Type 0) (owns : List (List ℕ)) → ((i : ℕ) → Each P (own_at owns i)) → Each P (all_of owns)
each_of_all P [] h = tt
each_of_all P (own ∷ owns) h = each_join P own (all_of owns) (h 0) (each_of_all P owns (λ i. h (suc i)))
