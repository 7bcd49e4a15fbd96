-- The greatest prime value stands in the last entry.
use Rattle.std.proofs.Common.{◌≡◌, ℕ, true, List, [], ◌∷◌, Option, Some, None, refl, ap, sym, subst, ◌∙◌}
use Rattle.std.specs.Prelude.{option_map}
use Rattle.std.specs.List.{list_all}
use Rattle.std.specs.Ordering.{is_lt}
use Rattle.std.proofs.lemmas.Bool.{and_parts}
use Rattle.record_layout.specs.Schema.{Schema, prime_of}
use Rattle.indexed_file.specs.File.{Row}
use Rattle.io_state.specs.Rank.{value_cmp}
use Rattle.indexed_file.specs.Rank.{greater_of, highest_of}
use Rattle.indexed_file.specs.Sound.{are_rows, are_apart}
use Rattle.indexed_file.proofs.RowLemmas.{rows_parts, is_before}
use Rattle.key_index.specs.declared.entry.PrimeEntry.{PrimeEntry}
use Rattle.record_heap.specs.declared.shape.Place.{Place}
use Rattle.record_heap.specs.Chain.{Slots}
use Rattle.tree_search.specs.Calls.{last_of}
use Rattle.open_file.specs.InOrder.{prime_entries}
use Rattle.open_file.specs.Stored.{AreAt}
use Rattle.open_file.proofs.OrderLemmas.{either}

abbrev pub value_in : PrimeEntry → List ℕ
value_in e = e.value.items

abbrev pub is_below : List ℕ → List ℕ → Type 0
is_below v w = is_lt (value_cmp v w) ≡ true

-- a value below the first, and below the greatest of the others, is below the greatest of all
by_rest : (v first w : List ℕ) (others : Option (List ℕ)) → is_below v first → ((x : List ℕ) → others ≡ Some x → is_below v x) → Some (greater_of first others) ≡ Some w → is_below v w
by_rest v first w None low rest is = subst (is_below v) (let h : Some first ≡ Some w = is in cc) low
by_rest v first w (Some other) low rest is =
    either (is_lt (value_cmp first other)) (is_below v w)
    (λ yes. let same : other ≡ w = (let h : Some other ≡ Some w = rw yes at is in cc) in subst (is_below v) same (rest other refl))
    (λ no. let same : first ≡ w = (let h : Some first ≡ Some w = rw no at is in cc) in subst (is_below v) same low)

-- a row before some rows is below the greatest of their values
below_all : (schema : Schema) (row : Row) (rows : List Row) (w : List ℕ) → list_all (is_before schema row) rows ≡ true → highest_of schema rows ≡ Some w → is_below (prime_of schema row.bytes) w
below_all schema row [] w all is = absurd (let h : None ≡ Some w = is in cc)
below_all schema row (next ∷ rows) w all is =
    let parts = and_parts (is_before schema row next) (list_all (is_before schema row) rows) all in
    let low = (and_parts (is_lt (value_cmp (prime_of schema row.bytes) (prime_of schema next.bytes))) (are_apart schema row next) parts.0).0 in
    by_rest (prime_of schema row.bytes) (prime_of schema next.bytes) w (highest_of schema rows) low (λ x e. below_all schema row rows x parts.1 e) is

step : (schema : Schema) (row : Row) (rows : List Row) (o : Option (List ℕ)) → highest_of schema rows ≡ o → (o ≡ None → ⊥) → list_all (is_before schema row) rows ≡ true → highest_of schema (row ∷ rows) ≡ o
step schema row rows None e some all = absurd (some refl)
step schema row rows (Some w) e some all =
    ap (λ o. Some (greater_of (prime_of schema row.bytes) o)) e ∙ (let lt = below_all schema row rows w all e in rw lt refl)

-- the last entry has the greatest value
pub last_is_highest : (schema : Schema) (slots : Slots) (next : ℕ) (places : List Place) (rows : List Row) → AreAt schema slots places rows → are_rows schema next rows ≡ true
    → option_map value_in (last_of (prime_entries schema places rows)) ≡ highest_of schema rows
last_is_highest schema slots next [] [] at sound = refl
last_is_highest schema slots next [] (row ∷ rows) at sound = absurd at
last_is_highest schema slots next (place ∷ places) [] at sound = absurd at
last_is_highest schema slots next (place ∷ []) (row ∷ []) at sound = refl
last_is_highest schema slots next (place ∷ []) (row ∷ (second ∷ rows)) at sound = absurd at.1
last_is_highest schema slots next (place ∷ (other ∷ places)) (row ∷ []) at sound = absurd at.1
last_is_highest schema slots next (place ∷ (other ∷ places)) (row ∷ (second ∷ rows)) at sound =
    let parts = rows_parts schema next row (second ∷ rows) sound in
    let rest = last_is_highest schema slots next (other ∷ places) (second ∷ rows) at.1 parts.2 in
    rest ∙ sym (step schema row (second ∷ rows) (highest_of schema (second ∷ rows)) refl
    (λ e. let none : Some (greater_of (prime_of schema second.bytes) (highest_of schema rows)) ≡ None = e in cc) parts.1)
