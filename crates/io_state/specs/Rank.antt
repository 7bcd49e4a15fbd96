-- The order of the values of a key, and of the ranks of records.
-- ANSI X3.23-1985, Indexed I-O module, READ statement, general rules: the next record in the order
-- of the key of reference.
use Rattle.std.specs.Prelude.{ℕ, List}
use Rattle.std.specs.declared.cmp.Ordering.{Ordering}
use Rattle.std.specs.Ordering.{nat_cmp, ordering_then}
use Rattle.std.specs.Cmp.Lexicographic.{slice_cmp}

-- values compare by unsigned bytes from the left, a prefix first
abbrev pub value_cmp : List ℕ → List ℕ → Ordering
value_cmp v w = slice_cmp nat_cmp v w

-- ranks compare by value, and then by stamp
abbrev pub rank_cmp : List ℕ → ℕ → List ℕ → ℕ → Ordering
rank_cmp v s w t = ordering_then (value_cmp v w) (nat_cmp s t)
