-- How many of the children that are left the next node has.
use Rattle.std.specs.Prelude.{◌≡◌, ◌≤◌, ◌<◌, ◌+◌, ◌*◌, ◌/◌, ℕ}

-- at least half of what there is room for, as is what is then left; all that are left where they
-- fit, and else as many as fit, but for the last two nodes, which have as many, or one more and one
-- less
pub record IsShare (room rest n : ℕ) : Type 0 where
  pub within : n ≤ rest
  pub fits : n ≤ room
  pub half : (room + 1) / 2 ≤ n
  pub left : n < rest → (room + 1) / 2 + n ≤ rest
  pub all : rest ≤ room → n ≡ rest
  pub whole : 2 * room ≤ rest → n ≡ room
  pub even : rest < 2 * room → rest ≤ 2 * n
