-- A table as the code has it, and as the definitions have it.
use Rattle.std.proofs.Common.{◌≡◌, ℕ, Bool, true, false, List, [], ◌∷◌, Option, Some, map, option_map, if◌then◌else◌, refl}
use Rattle.explanations.specs.Explained.{text_in, text_in_table}
use Rattle.std.specs.Str.{bytes_eq}
use denote.Ref.{Bor}

-- the first row, if it is the one that is looked for, or else what is found behind it
pub first_or : (here : Bool) (row : Bor (List ℕ) × Bor (List ℕ)) (more : Option (Bor (List ℕ) × Bor (List ℕ))) (others : Option (List ℕ × List ℕ))
    → option_map (λ row. row.1.now) more ≡ option_map (λ row. row.1) others
    → option_map (λ row. row.1.now) (if here then Some row else more) ≡ option_map {T = List ℕ × List ℕ} (λ row. row.1) (if here then Some (row.0.now, row.1.now) else others)
first_or true row more others same = refl
first_or false row more others same = same

-- the text is the same in both
pub same_text : (rows : List (Bor (List ℕ) × Bor (List ℕ))) (number : List ℕ) → text_in_table rows number ≡ text_in (map (λ row. (row.0.now, row.1.now)) rows) number
same_text [] number = refl
same_text (row ∷ rows) number = first_or (bytes_eq row.0.now number) row _ _ (same_text rows number)
