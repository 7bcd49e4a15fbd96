-- What each element of a list has.
use Rattle.std.specs.Prelude.{List, [], ◌∷◌, ⊤}

-- each element has this property
abbrev pub Each : {X : Type 0} → (X → Type 0) → List X → Type 0
Each P [] = ⊤
Each P (x ∷ xs) = P x × Each P xs
