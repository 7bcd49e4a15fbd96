-- Lists of pages side by side.
use Rattle.std.proofs.Common.{◌≢◌, ℕ, List, [], ◌∷◌, ◌++◌, sym}
use Rattle.pages.specs.Each.{Each}
use Rattle.pages.specs.Owners.{IsOutside, AreApart}

module _ {X : Type 0} where
  pub each_weaker : (P Q : X → Type 0) → ((x : X) → P x → Q x) → (xs : List X) → Each P xs → Each Q xs
  each_weaker P Q f [] h = tt
  each_weaker P Q f (x ∷ xs) h = (f x h.0, each_weaker P Q f xs h.1)

  pub each_both : (P Q R : X → Type 0) → ((x : X) → P x → Q x → R x) → (xs : List X) → Each P xs → Each Q xs → Each R xs
  each_both P Q R f [] h k = tt
  each_both P Q R f (x ∷ xs) h k = (f x h.0 k.0, each_both P Q R f xs h.1 k.1)

  pub each_join : (P : X → Type 0) (xs ys : List X) → Each P xs → Each P ys → Each P (xs ++ ys)
  each_join P [] ys h k = k
  each_join P (x ∷ xs) ys h k = (h.0, each_join P xs ys h.1 k)

  pub each_left : (P : X → Type 0) (xs ys : List X) → Each P (xs ++ ys) → Each P xs
  each_left P [] ys h = tt
  each_left P (x ∷ xs) ys h = (h.0, each_left P xs ys h.1)

  pub each_right : (P : X → Type 0) (xs ys : List X) → Each P (xs ++ ys) → Each P ys
  each_right P [] ys h = h
  each_right P (x ∷ xs) ys h = each_right P xs ys h.1

pub outside_symm : (xs ys : List ℕ) → Each (IsOutside ys) xs → Each (IsOutside xs) ys
outside_symm xs [] h = tt
outside_symm xs (y ∷ ys) h = (
  each_weaker (λ x. IsOutside (y ∷ ys) x) (λ x. y ≢ x) (λ x k e. k.0 (sym e)) xs h,
  outside_symm xs ys (each_weaker (IsOutside (y ∷ ys)) (IsOutside ys) (λ x k. k.1) xs h),
)

pub apart_right : (xs ys : List ℕ) → AreApart (xs ++ ys) → AreApart ys
apart_right [] ys h = h
apart_right (x ∷ xs) ys h = apart_right xs ys h.1

pub apart_across : (xs ys : List ℕ) → AreApart (xs ++ ys) → Each (IsOutside ys) xs
apart_across [] ys h = tt
apart_across (x ∷ xs) ys h = (each_right (λ m. x ≢ m) xs ys h.0, apart_across xs ys h.1)

pub apart_join : (xs ys : List ℕ) → AreApart xs → AreApart ys → Each (IsOutside ys) xs → AreApart (xs ++ ys)
apart_join [] ys h k across = k
apart_join (x ∷ xs) ys h k across = (each_join (λ m. x ≢ m) xs ys h.0 across.0, apart_join xs ys h.1 k across.1)
