-- A line of JSON: an object of strings, and LF.
-- RFC 8259, The JavaScript Object Notation (JSON) Data Interchange Format: objects and strings.
use Rattle.std.specs.Prelude.{ℕ, ◌==◌, ◌||◌, List, [], ◌∷◌, ◌++◌, flat_map, if◌then◌else◌}
use Rattle.deck_runner.specs.Line.{shown_byte}

-- a character of printable ASCII in a string: a quote and a backslash stand behind a backslash
abbrev pub escaped : ℕ → List ℕ
escaped byte = if (byte == 34) || (byte == 92) then 92 ∷ byte ∷ [] else byte ∷ []

-- a string of printable ASCII
abbrev pub string : List ℕ → List ℕ
string text = 34 ∷ (flat_map escaped text ++ 34 ∷ [])

-- bytes as they are shown, in a string
abbrev pub escaped_bytes : List ℕ → List ℕ
escaped_bytes bytes = flat_map (λ byte. flat_map escaped (shown_byte byte)) bytes

-- a member of an object: its name, and a string
pub record Member : Type 0 where
  pub name : List ℕ
  pub value : List ℕ

abbrev pub member : Member → List ℕ
member m = string m.name ++ 58 ∷ string m.value

-- members, with a comma between each and the next one
abbrev pub members : List Member → List ℕ
members [] = []
members (m ∷ ms) = member m ++ flat_map (λ more. 44 ∷ member more) ms

abbrev pub json_line : List Member → List ℕ
json_line ms = 123 ∷ (members ms ++ 125 ∷ 10 ∷ [])
