-- The cuts of a text. All of this is ours.
use Rattle.std.specs.Prelude.{◌≡◌, ℕ, ◌==◌, true, List, [], ◌∷◌, ⊤}
use Rattle.std.specs.List.{slice_split}
use Rattle.command_words.specs.Asks.{IsNumber}
use Rattle.record_text.specs.Parts.{do_rise}

-- the texts before, between and behind the commas of a text
abbrev pub between_commas : List ℕ → List (List ℕ)
between_commas text = slice_split (λ byte. byte == 44) text

-- each of these texts is the number in its place
abbrev pub AreNumbers : List (List ℕ) → List ℕ → Type 0
AreNumbers [] [] = ⊤
AreNumbers [] (n ∷ numbers) = ⊥
AreNumbers (text ∷ texts) [] = ⊥
AreNumbers (text ∷ texts) (n ∷ numbers) = IsNumber 16 text n × AreNumbers texts numbers

-- a text is these numbers, with commas between
abbrev pub AreCuts : List ℕ → List ℕ → Type 0
AreCuts text cuts = AreNumbers (between_commas text) cuts

-- it is no numbers that rise from 1 on, with commas between
abbrev pub AreNoCuts : List ℕ → Type 0
AreNoCuts text = (cuts : List ℕ) → AreCuts text cuts → do_rise 0 cuts ≡ true → ⊥
