-- How a program stands in its text. Free form has no columns; in fixed form a compiler reads
-- columns 8 to 72 of each line.
use Rattle.std.specs.Prelude.{◌≡◌, ◌≤◌, ℕ, List, [], ◌++◌, length, flat_map, codes, All}
use Rattle.cobol_program.specs.declared.form.SourceForm.{SourceForm}
use Rattle.cobol_program.specs.declared.form.SourceForm.TheVariants.{Free, Fixed}

-- what stands before each line: in fixed form seven spaces
abbrev pub margin : SourceForm → List ℕ
margin Free = []
margin Fixed = codes "       "

-- a line in the text
abbrev pub laid : SourceForm → List ℕ → List ℕ
laid form line = margin form ++ (line ++ codes "\n")

-- a line fits between columns 8 and 72
abbrev pub FitsLine : List ℕ → Type 0
FitsLine line = length line ≤ 65

-- the text is lines that fit, each behind the margin of the form: so none is past column 72
abbrev pub IsLaidOut : SourceForm → List ℕ → Type 0
IsLaidOut form text = (lines : List (List ℕ)) × All FitsLine lines × (text ≡ flat_map (laid form) lines)
