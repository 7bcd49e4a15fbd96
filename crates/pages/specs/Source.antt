-- What is true of a source of pages.
use Rattle.std.specs.Prelude.{ℕ, List}

-- this is so of each list of pages that the source has
abbrev pub OfItsPages : {S : Type 0} → (S → List (List ℕ) → Type 0) → S → (List (List ℕ) → Type 0) → Type 0
OfItsPages has source P = (list : List (List ℕ)) → has source list → P list

-- it has no list of pages that it did not have before
abbrev pub KeepsItsPages : {S : Type 0} → (S → List (List ℕ) → Type 0) → S → S → Type 0
KeepsItsPages has before after = (list : List (List ℕ)) → has after list → has before list
