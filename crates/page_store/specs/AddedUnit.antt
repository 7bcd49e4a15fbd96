-- A shelf with one more unit.
use Rattle.std.specs.Prelude.{ℕ, List, [], ◌∷◌, ◌++◌}
use Rattle.page_store.specs.ShelfState.{ShelfState}

-- a unit of this name stands behind the others; every unit that there was has its name, and each
-- name has its file
abbrev pub with_added : List ℕ → ShelfState → ShelfState
with_added name shelf = record shelf { names = shelf.names ++ name ∷ [] }
