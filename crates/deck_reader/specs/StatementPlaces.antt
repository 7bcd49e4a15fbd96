-- Where the statements of a procedure stand.
use Rattle.std.specs.Prelude.{ℕ, List}

-- a paragraph: its name, the line of the name, and how many statements stand before it
pub record Paragraph : Type 0 where
  pub name : List ℕ
  pub line : ℕ
  pub at : ℕ

-- the line of each statement, and the paragraphs in their order
pub record StatementPlaces : Type 0 where
  pub lines : List ℕ
  pub paragraphs : List Paragraph
