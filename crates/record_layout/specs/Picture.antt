-- What a picture means: how many characters it is for, all of them X or all of them 9.
-- ANSI X3.23-1985, Nucleus module, PICTURE clause. That a picture has one symbol alone is ours.
use Rattle.std.specs.Prelude.{◌≡◌, ℕ, ◌+◌, ◌-◌, ◌*◌, ◌<◌, ◌≤◌, ◌==◌, Bool, true, false, ◌||◌, ◌⊎◌, List, []}
use Rattle.std.specs.Prelude.{◌∷◌, ◌++◌, length, sum, fold, if◌then◌else◌}
use Rattle.std.specs.List.{list_all}
use Rattle.std.specs.Char.{is_ascii_digit}
use Rattle.record_layout.specs.declared.picture.Picture.{Picture}

-- the number that digits stand for
abbrev pub number : List ℕ → ℕ
number digits = fold (λ n digit. n * 10 + (digit - 48)) 0 digits

-- a symbol alone stands for one character, and a symbol with (n) for n of them: the symbol of a
-- numeric item is 9, that of any other X, in either case of letter
abbrev pub IsGroup : Bool → List ℕ → ℕ → Type 0
IsGroup numeric [] n = ⊥
IsGroup numeric (symbol ∷ rest) n =
    ((if numeric then symbol == 57 else symbol == 88 || symbol == 120) ≡ true)
    × (((rest ≡ []) × (n ≡ 1)) ⊎ ((digits : List ℕ) × (rest ≡ 40 ∷ digits ++ 41 ∷ [])
    × (list_all is_ascii_digit digits ≡ true) × (0 < length digits) × (n ≡ number digits) × (0 < n)))

-- groups one after another, for so many characters each
abbrev pub AreGroups : Bool → List ℕ → List ℕ → Type 0
AreGroups numeric text [] = text ≡ []
AreGroups numeric text (n ∷ ns) = (group : List ℕ) × (rest : List ℕ) × (text ≡ group ++ rest)
    × IsGroup numeric group n × AreGroups numeric rest ns

-- the text is one group or more, for n characters in all, however many they are
abbrev pub Means : Bool → List ℕ → ℕ → Type 0
Means numeric text n = (sizes : List ℕ) × (0 < length sizes) × AreGroups numeric text sizes × (n ≡ sum sizes)

-- the text is this picture: one group or more, for at most 4,000 characters in all, and at most 18
-- where they are digits
pub record IsPicture (text : List ℕ) (picture : Picture) : Type 0 where
  pub means : (sizes : List ℕ) × (0 < length sizes) × AreGroups picture.numeric text sizes
      × (picture.length ≡ sum sizes)
  pub short : picture.length ≤ 4000
  pub digits : picture.numeric ≡ true → picture.length ≤ 18

-- the text is a picture of X for more than 4,000 characters
abbrev pub IsTooLong : List ℕ → Type 0
IsTooLong text = (n : ℕ) × Means false text n × (4000 < n)

-- the text is no picture, but perhaps one of more than 18 digits
abbrev pub IsBad : List ℕ → Type 0
IsBad text = (numeric : Bool) (n : ℕ) → Means numeric text n → (numeric ≡ true) × (18 < n)
