-- What was told of lines that were rejected.
use Rattle.std.specs.Prelude.{◌≡◌, ℕ, List, [], ◌∷◌}
use Rattle.record_loading.specs.declared.rejected.RejectedLine.{RejectedLine}

-- a line that was told as rejected, and its bytes as they stand in the text, with its line end
pub record ToldLine : Type 0 where
  pub rejected : RejectedLine
  pub bytes : List ℕ

-- lines were told one after another, and nothing else was, where this is how a log follows another one by a line
-- and its bytes
abbrev pub AreToldRejected : {R : Type 0} → (Tells : R → R → RejectedLine → List ℕ → Type 0) → List ToldLine
    → (old new : R) → Type 0
AreToldRejected Tells [] old new = new ≡ old
AreToldRejected {R} Tells (line ∷ lines) old new =
    (between : R) × Tells old between line.rejected line.bytes × AreToldRejected Tells lines between new

-- some lines were told so, of which this is true
abbrev pub TellsRejected : {R : Type 0} → (Tells : R → R → RejectedLine → List ℕ → Type 0) → (old new : R)
    → (List ToldLine → Type 0) → Type 0
TellsRejected Tells old new Fact = (told : List ToldLine) × AreToldRejected Tells told old new × Fact told
