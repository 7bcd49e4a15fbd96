-- The text of a literal.
use Rattle.std.specs.Prelude.{ℕ, ◌==◌, if◌then◌else◌, List, [], ◌∷◌, Option, Some, None, option_map, length}
use Rattle.deck_parser.specs.ByteClass.{is_of_literal}

-- a text and what comes after it, with one byte more before the text
abbrev pub with_first : ℕ → Option (List ℕ × List ℕ) → Option (List ℕ × List ℕ)
with_first byte None = None
with_first byte (Some cut) = Some (byte ∷ cut.0, cut.1)

-- behind an opening mark: the text up to the closing one, and what comes after that
abbrev pub cut_literal : ℕ → List ℕ → Option (List ℕ × List ℕ)
cut_literal mark [] = None
cut_literal mark (b ∷ []) = if b == mark then Some ([], []) else None
cut_literal mark (b ∷ c ∷ bytes) =
    if b == mark then (if c == mark then with_first mark (cut_literal mark bytes) else Some (
      [],
      c ∷ bytes,
    )) else (
    if is_of_literal b then with_first b (cut_literal mark (c ∷ bytes)) else None)

-- the text alone, and nothing where no mark closes it
abbrev pub text_of_cut : Option (List ℕ × List ℕ) → List ℕ
text_of_cut None = []
text_of_cut (Some cut) = cut.0

-- how many bytes the text has that is cut, and what follows it
abbrev pub length_cut : Option (List ℕ × List ℕ) → Option (ℕ × List ℕ)
length_cut cut = option_map (λ found. (length found.0, found.1)) cut
