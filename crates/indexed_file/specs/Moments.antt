-- What a crash may leave of a name, at the moments of a stretch of time.
use Rattle.std.specs.Prelude.{◌⊎◌, ℕ, List}
use Rattle.indexed_file.specs.World.{Named}

-- the images of a name, which are what a crash may leave of it, from one library to another. From a
-- library to itself this speaks of the images now
pub record Moments (S : Type 0) : Type 1 where
  -- at some moment from the one library to the other a crash may leave what reads as this
  pub IsImage : (old new : S) → (name : List ℕ) → Named → Type 0
  -- at each moment whatever a crash may leave is what it reads as: absent, closed or refused
  pub AreReal : (old new : S) → (name : List ℕ) → Type 0

-- at each moment from the one library to the other each image of the name is real, and is such
abbrev pub EachImage : {S : Type 0} → Moments S → (Named → Type 0) → S → S → List ℕ → Type 0
EachImage moments IsSuch old new name = moments.AreReal old new name
    × ((image : Named) → moments.IsImage old new name image → IsSuch image)

-- two stretches of time in a row are one: each image in it is one in the first or in the second
abbrev pub JoinsStretches : {S : Type 0} → Moments S → Type 0
JoinsStretches {S} moments =
    (first then last : S) (name : List ℕ) → moments.AreReal first then name
    → moments.AreReal then last name → EachImage moments
    (λ image. moments.IsImage first then name image ⊎ moments.IsImage then last name image) first last name

-- the last moment of a stretch is now
abbrev pub EndsNow : {S : Type 0} → Moments S → Type 0
EndsNow {S} moments = (old new : S) (name : List ℕ) → moments.AreReal old new name
    → EachImage moments (moments.IsImage old new name) new new name
