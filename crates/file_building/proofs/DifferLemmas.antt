-- No two rows of a file have one rank by any key.
use Rattle.std.proofs.Common.{◌≡◌, ◌⊎◌, inl, inr, ℕ, ◌<◌, true, false, List, [], ◌∷◌, length, ap, ◌∙◌, arith}
use Rattle.std.specs.Prelude.{IsTrue}
use Rattle.std.specs.List.{list_all}
use Rattle.std.specs.Ordering.{is_lt, is_eq, ordering_reverse}
use Rattle.std.specs.declared.cmp.Ordering.{Ordering}
use Rattle.std.proofs.lemmas.Bool.{and_parts}
use Rattle.std.proofs.lemmas.Grind.{common_steps}
use Rattle.pages.specs.Each.{Each}
use Rattle.record_layout.specs.Schema.{Schema}
use Rattle.indexed_file.specs.File.{Row}
use Rattle.indexed_file.specs.Rank.{row_cmp}
use Rattle.indexed_file.specs.Sound.{is_row, are_rows}
use Rattle.indexed_file.proofs.RowLemmas.{is_before, row_parts, rows_parts}
use Rattle.open_file.proofs.OrderLemmas.{either}
use Rattle.open_file.proofs.PartsLemmas.{from_eq}
use Rattle.open_file.proofs.RowLemmas.{row_total}
use Rattle.file_changes.proofs.RankLemmas.{apart_in, not_tied}
use Rattle.file_building.specs.Ranks.{NoRankTwice}

turned : (o : Ordering) → is_lt o ≡ false → is_eq o ≡ false → is_lt (ordering_reverse o) ≡ true
turned o h e = grind (arith, common_steps)

-- of two rows that are not tied one is below the other
one_below : (schema : Schema) (k : ℕ) (a b : Row) → is_eq (row_cmp schema k a b) ≡ false → IsTrue (is_lt (row_cmp schema k a b)) ⊎ IsTrue (is_lt (row_cmp schema k b a))
one_below schema k a b apart =
    either (is_lt (row_cmp schema k a b)) (IsTrue (is_lt (row_cmp schema k a b)) ⊎ IsTrue (is_lt (row_cmp schema k b a)))
    (λ yes. inl yes)
    (λ above. inr (ap is_lt ((row_total schema k).antisymm b a) ∙ turned (row_cmp schema k a b) above apart))

differ_from : (schema : Schema) (next k : ℕ) (row : Row) (rows : List Row) → k < length schema.keys → is_row schema next row ≡ true → list_all (is_before schema row) rows ≡ true → are_rows schema next rows ≡ true
    → Each (λ other. IsTrue (is_lt (row_cmp schema k row other)) ⊎ IsTrue (is_lt (row_cmp schema k other row))) rows
differ_from schema next k row [] within fit before sound = tt
differ_from schema next k row (other ∷ rows) within fit before sound =
    let first = and_parts (is_before schema row other) (list_all (is_before schema row) rows) before in
    let apart = (and_parts _ _ first.0).1 in
    let parts = rows_parts schema next other rows sound in
    let mine = from_eq _ _ (row_parts schema next row fit).1 in
    let others = from_eq _ _ (row_parts schema next other parts.0).1 in
    (one_below schema k row other (not_tied schema k row other (apart_in schema k row other within mine others apart)), differ_from schema next k row rows within fit first.1 parts.2)

pub differ_in : (schema : Schema) (next k : ℕ) (rows : List Row) → k < length schema.keys → are_rows schema next rows ≡ true → NoRankTwice schema k rows
differ_in schema next k [] within sound = tt
differ_in schema next k (row ∷ rows) within sound =
    let parts = rows_parts schema next row rows sound in
    (differ_from schema next k row rows within parts.0 parts.1 parts.2, differ_in schema next k rows within parts.2)
