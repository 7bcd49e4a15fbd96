-- Lengths of records that vary.
-- ANSI X3.23-1985, Indexed I-O module, file description entry, RECORD clause.
use Rattle.std.specs.Prelude.{ℕ, List}

-- the least and the greatest length, and the name of the item that has the length of a record
pub record VaryingLength : Type 0 where
  pub least : ℕ
  pub greatest : ℕ
  pub item : List ℕ
