-- How the lines of a transcript end, by the bytes that were written. All of this is ours.
use Rattle.std.specs.Prelude.{◌≡◌, ℕ, Bool, false, ◌&&◌, ◌||◌, ◌==◌, List, [], ◌∷◌, length, drop}
use Rattle.streams.specs.declared.line_ends.LineEnds.{LineEnds}

-- the digits are those of a status by which a run is not as it was asked: 24, 30, 90, 91 or 92
abbrev pub is_failing : (first second : ℕ) → Bool
is_failing first second = (first == 50 && second == 52) || (first == 51 && second == 48)
    || (first == 57 && (second == 48 || second == 49 || second == 50))

-- a line ends in such a status: with a space, its digits and LF
abbrev pub is_failed_end : (space first second end : ℕ) → Bool
is_failed_end space first second end = space == 32 && is_failing first second && end == 10

-- a line ends so here
abbrev pub ends_failed : List ℕ → Bool
ends_failed (space ∷ first ∷ second ∷ end ∷ bytes) = is_failed_end space first second end
ends_failed bytes = false

-- some line ends so
abbrev pub has_failed_line : List ℕ → Bool
has_failed_line [] = false
has_failed_line (byte ∷ bytes) = ends_failed (byte ∷ bytes) || has_failed_line bytes

-- what is noted is so of these bytes: their last three, where LF stands before the first one, and
-- whether some line ended so
pub record AreEndsOf (bytes : List ℕ) (ends : LineEnds) : Type 0 where
  pub window : drop (length bytes) (10 ∷ 10 ∷ 10 ∷ bytes) ≡ ends.third ∷ ends.second ∷ ends.last ∷ []
  pub failed : ends.failed ≡ has_failed_line bytes
