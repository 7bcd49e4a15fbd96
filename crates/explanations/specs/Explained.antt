-- Which words name what is explained. All of this is ours.
use Rattle.std.specs.Prelude.{ℕ, ◌+◌, List, [], ◌∷◌, codes, bytes_eq, find, Option, None, option_map}
use Rattle.std.specs.Prelude.{if◌then◌else◌}
use denote.Ref.{Bor}

-- a table: in each row the number as it is written, and the text
abbrev pub Table : Type 0
Table = List (List ℕ × List ℕ)

-- the text of a number in a table
abbrev pub text_in : Table → List ℕ → Option (List ℕ)
text_in rows number = option_map (λ row. row.1) (find (λ row. bytes_eq row.0 number) rows)

-- the same in a table as the code has it
abbrev pub text_in_table : List (Bor (List ℕ) × Bor (List ℕ)) → List ℕ → Option (List ℕ)
text_in_table rows number = option_map (λ row. row.1.now) (find (λ row. bytes_eq row.0.now number) rows)

-- the text that two words name: the kind, and the number as it is written
abbrev pub explained : (statuses faults reasons : Table) → (kind number : List ℕ) → Option (List ℕ)
explained statuses faults reasons kind number =
    if bytes_eq kind (codes "status") then text_in statuses number else (
    if bytes_eq kind (codes "fault") then text_in faults number else (
    if bytes_eq kind (codes "unsound") then text_in reasons number else None))

-- a number below ten as it is written
abbrev pub digit_of : ℕ → List ℕ
digit_of n = (48 + n) ∷ []
