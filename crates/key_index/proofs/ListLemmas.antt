-- Look-ups and edits of a list of entries, and of the list of what stands for each of them.
use Rattle.std.proofs.Common.{◌≡◌, ℕ, Bool, true, false, not, cond, List, [], ◌∷◌, map, Some, refl, ap, ◌∙◌}
use Rattle.std.specs.Prelude.{find, filter, option_map, IfSome}
use Rattle.pages.specs.Each.{Each}
use Rattle.tree_search.specs.Calls.{last_of}

module _ {X : Type 0} (bytes : X → List ℕ) (Fits : X → Type 0) where
  -- a test of the bytes that says the same of each entry as a test of the entry
  module _ (p : List ℕ → Bool) (q : X → Bool) (alike : (x : X) → Fits x → p (bytes x) ≡ q x) where
    pub found : (xs : List X) → Each Fits xs → find p (map bytes xs) ≡ option_map bytes (find q xs)
    found [] fit = refl
    found (x ∷ xs) fit = ap (λ b. cond b (Some (bytes x)) (find p (map bytes xs))) (alike x fit.0) ∙ by_test (found xs fit.1) (q x)
      where
        by_test : find p (map bytes xs) ≡ option_map bytes (find q xs) → (b : Bool) → cond b (Some (bytes x)) (find p (map bytes xs)) ≡ option_map bytes (cond b (Some x) (find q xs))
        by_test rest true = refl
        by_test rest false = rest

    pub filtered : (xs : List X) → Each Fits xs → filter (λ e. not (p e)) (map bytes xs) ≡ map bytes (filter (λ e. not (q e)) xs)
    filtered [] fit = refl
    filtered (x ∷ xs) fit =
        ap (λ b. cond (not b) (bytes x ∷ filter (λ e. not (p e)) (map bytes xs)) (filter (λ e. not (p e)) (map bytes xs))) (alike x fit.0) ∙ by_test (filtered xs fit.1) (q x)
      where
        by_test : filter (λ e. not (p e)) (map bytes xs) ≡ map bytes (filter (λ e. not (q e)) xs) → (b : Bool) → cond (not b) (bytes x ∷ filter (λ e. not (p e)) (map bytes xs)) (filter (λ e. not (p e)) (map bytes xs))
            ≡ map bytes (cond (not b) (x ∷ filter (λ e. not (q e)) xs) (filter (λ e. not (q e)) xs))
        by_test rest true = rest
        by_test rest false = ap (λ (l : List (List ℕ)). bytes x ∷ l) rest

  -- two tests that say the same of each entry find the same
  pub found_alike : (p q : X → Bool) → ((x : X) → Fits x → p x ≡ q x) → (xs : List X) → Each Fits xs → find p xs ≡ find q xs
  found_alike p q alike [] fit = refl
  found_alike p q alike (x ∷ xs) fit =
      ap (λ b. cond b (Some x) (find p xs)) (alike x fit.0) ∙ ap (λ o. cond (q x) (Some x) o) (found_alike p q alike xs fit.1)

  pub found_fits : (q : X → Bool) (xs : List X) → Each Fits xs → IfSome (find q xs) Fits
  found_fits q [] fit = tt
  found_fits q (x ∷ xs) fit = by_test (found_fits q xs fit.1) (q x)
    where
      by_test : IfSome (find q xs) Fits → (b : Bool) → IfSome (cond b (Some x) (find q xs)) Fits
      by_test rest true = fit.0
      by_test rest false = rest

  pub filtered_fits : (q : X → Bool) (xs : List X) → Each Fits xs → Each Fits (filter q xs)
  filtered_fits q [] fit = tt
  filtered_fits q (x ∷ xs) fit = by_test (filtered_fits q xs fit.1) (q x)
    where
      by_test : Each Fits (filter q xs) → (b : Bool) → Each Fits (cond b (x ∷ filter q xs) (filter q xs))
      by_test rest true = (fit.0, rest)
      by_test rest false = rest

  pub last : (xs : List X) → last_of (map bytes xs) ≡ option_map bytes (last_of xs)
  last (x ∷ (y ∷ ys)) = last (y ∷ ys)
  last xs = refl

  pub last_fits : (xs : List X) → Each Fits xs → IfSome (last_of xs) Fits
  last_fits [] fit = tt
  last_fits (x ∷ []) fit = fit.0
  last_fits (x ∷ (y ∷ ys)) fit = last_fits (y ∷ ys) fit.1
