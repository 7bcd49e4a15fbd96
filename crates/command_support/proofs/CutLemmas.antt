-- The cuts of a text, read one after another.
use Rattle.std.proofs.Common.{◌≡◌, ℕ, List, [], ◌∷◌, ◌++◌, length, Option, Some, None, refl, sym, ap, ap₂, subst, ◌∙◌, append_assoc, Bor, Bool, true, false, arith, ◌==◌}
use Rattle.std.specs.List.{position_or_len, slice_split, onto_first}
use Rattle.std.proofs.lemmas.Str.Pattern.{IsSplitOnceResult, split_once_first}
use Rattle.std.proofs.lemmas.List.Splits.{slice_split_first, slice_split-cons_no}
use Rattle.command_words.specs.Asks.{IsNumber}
use Rattle.command_support.specs.Cuts.{between_commas, AreNumbers, AreCuts}

-- one more text is read
pub numbers_push : (texts : List (List ℕ)) (numbers : List ℕ) (text : List ℕ) (n : ℕ) → AreNumbers texts numbers → IsNumber 16 text n → AreNumbers (texts ++ text ∷ []) (numbers ++ n ∷ [])
numbers_push [] [] text n are is = (is, tt)
numbers_push [] (m ∷ numbers) text n are is = absurd are
numbers_push (t ∷ texts) [] text n are is = absurd are
numbers_push (t ∷ texts) (m ∷ numbers) text n are is = (are.0, numbers_push texts numbers text n are.1 is)

-- where one text is no number, they are no numbers
pub no_numbers : (texts : List (List ℕ)) (text : List ℕ) (more : List (List ℕ)) → ((n : ℕ) → IsNumber 16 text n → ⊥) → (numbers : List ℕ) → AreNumbers (texts ++ text ∷ more) numbers → ⊥
no_numbers [] text more none [] are = are
no_numbers [] text more none (n ∷ numbers) are = none n are.0
no_numbers (t ∷ texts) text more none [] are = are
no_numbers (t ∷ texts) text more none (n ∷ numbers) are = no_numbers texts text more none numbers are.1

-- texts are read as the same numbers
pub one_reading : (texts : List (List ℕ)) (a b : List ℕ) → AreNumbers texts a → AreNumbers texts b → a ≡ b
one_reading [] [] [] as_a as_b = refl
one_reading [] [] (n ∷ b) as_a as_b = absurd as_b
one_reading [] (n ∷ a) b as_a as_b = absurd as_a
one_reading (t ∷ texts) [] b as_a as_b = absurd as_a
one_reading (t ∷ texts) (m ∷ a) [] as_a as_b = absurd as_b
one_reading (t ∷ texts) (m ∷ a) (n ∷ b) as_a as_b = ap₂ (λ (x : ℕ) (xs : List ℕ). x ∷ xs) (as_a.0.2 ∙ sym as_b.0.2) (one_reading texts a b as_a.1 as_b.1)

-- ---- what is cut off at a comma

-- up to the first comma, and behind it
pub cut_off : (rest : List ℕ) (r : Option (Bor (List ℕ) × Bor (List ℕ))) (front behind : Bor (List ℕ)) → IsSplitOnceResult 44 rest r → r ≡ Some (front, behind)
    → between_commas rest ≡ front.now ∷ between_commas behind.now
cut_off rest r front behind is some =
    let at = rw some at (split_once_first 44 rest r is (omega arith)) in
    rw at.1 (rw at.2 (slice_split_first (λ byte. byte == 44) rest 0 at.0))

whole_part : (p : ℕ → Bool) (xs : List ℕ) → position_or_len p xs ≡ length xs → slice_split p xs ≡ xs ∷ []
whole_part p [] is = refl
whole_part p (x ∷ xs) is = go (p x) refl (λ rest. whole_part p xs rest)
  where
    go : (b : Bool) → p x ≡ b → (position_or_len p xs ≡ length xs → slice_split p xs ≡ xs ∷ []) → slice_split p (x ∷ xs) ≡ (x ∷ xs) ∷ []
    go true e whole = let never = rw e at is in absurd (omega arith)
    go false e whole = let rest = rw e at is in slice_split-cons_no p x xs e ∙ ap (onto_first x) (whole (omega arith))

-- where there is none, all of it
pub not_cut : (rest : List ℕ) (r : Option (Bor (List ℕ) × Bor (List ℕ))) → IsSplitOnceResult 44 rest r → r ≡ None → between_commas rest ≡ rest ∷ []
not_cut rest r is none = whole_part (λ byte. byte == 44) rest (rw none at (split_once_first 44 rest r is (omega arith)))

-- ---- a reading in steps

module _ (text rest : List ℕ) (done : List (List ℕ)) (cuts : List ℕ) (so_far : between_commas text ≡ done ++ between_commas rest) (are : AreNumbers done cuts) where
  -- one more text of some is read
  pub read_on : (front behind after : List ℕ) → between_commas rest ≡ front ∷ between_commas behind → (n : ℕ) × IsNumber 16 front n × (after ≡ cuts ++ n ∷ [])
      → (more : List (List ℕ)) × (between_commas text ≡ more ++ between_commas behind) × AreNumbers more after
  read_on front behind after off one = (
    done ++ front ∷ [],
    so_far ∙ ap (λ (l : List (List ℕ)). done ++ l) off ∙ sym (append_assoc done (front ∷ []) (between_commas behind)),
    subst (AreNumbers (done ++ front ∷ [])) (sym one.2) (numbers_push done cuts front one.0 are one.1),
  )

  -- the last one is read
  pub read_all : (after : List ℕ) → between_commas rest ≡ rest ∷ [] → (n : ℕ) × IsNumber 16 rest n × (after ≡ cuts ++ n ∷ []) → AreCuts text after
  read_all after off one =
      subst (λ (texts : List (List ℕ)). AreNumbers texts after) (sym (so_far ∙ ap (λ (l : List (List ℕ)). done ++ l) off))
      (subst (AreNumbers (done ++ rest ∷ [])) (sym one.2) (numbers_push done cuts rest one.0 are one.1))

  -- one is no number
  pub not_read : (front : List ℕ) (more : List (List ℕ)) → between_commas rest ≡ front ∷ more → ((n : ℕ) → IsNumber 16 front n → ⊥) → (numbers : List ℕ) → AreCuts text numbers → ⊥
  not_read front more off none numbers would =
      no_numbers done front more none numbers (subst (λ (texts : List (List ℕ)). AreNumbers texts numbers) (so_far ∙ ap (λ (l : List (List ℕ)). done ++ l) off) would)
