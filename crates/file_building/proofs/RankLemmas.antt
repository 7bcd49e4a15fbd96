-- Entries and rows in the order of their ranks.
use Rattle.std.proofs.Common.{◌≡◌, ◌≢◌, ◌⊎◌, inl, inr, ℕ, ◌+◌, ◌==◌, ◌&&◌, Bool, true, false, List, [], ◌∷◌, ◌++◌, length, take, map, refl, ap, sym, subst, ◌∙◌}
use Rattle.std.specs.Prelude.{IsTrue, bytes_eq, if◌then◌else◌}
use Rattle.std.specs.Ordering.{is_lt, ordering_reverse}
use Rattle.std.specs.declared.cmp.Ordering.{Ordering}
use Rattle.std.specs.declared.cmp.Ordering.TheVariants.{Less, Equal, Greater}
use Rattle.std.specs.Cmp.{IsTotalOrder}
use Rattle.std.specs.Int.{bytes_high_first}
use Rattle.std.proofs.lemmas.Cmp.{nat_list_cmp_total, nat_cmp_total, on_total, then_total}
use Rattle.std.proofs.lemmas.Bool.{and_parts, and_from, eq-eqb}
use Rattle.std.proofs.lemmas.Slice.Eq.{bytes_eq-Decides}
use Rattle.pages.specs.Each.{Each}
use Rattle.record_layout.specs.Schema.{Schema}
use Rattle.indexed_file.specs.File.{Row}
use Rattle.indexed_file.specs.Rank.{row_cmp}
use Rattle.tree_node.specs.Order.{less, Ascends}
use Rattle.record_heap.specs.Chain.{IsOneOf}
use Rattle.io_state.specs.Rank.{rank_cmp}
use Rattle.key_index.specs.declared.entry.AltEntry.{AltEntry}
use Rattle.key_index.specs.Stored.{alt_bytes, IsAltEntry}
use Rattle.key_index.proofs.KeyLemmas.{alt_key as key_bytes}
use Rattle.key_index.proofs.OrderLemmas.{ranks}
use Rattle.open_file.specs.InOrder.{put_row, in_order, alt_entry, alt_entries}
use Rattle.open_file.proofs.OrderLemmas.{either}
use Rattle.open_file.proofs.PartsLemmas.{from_eq}
use Rattle.file_building.specs.Ranks.{RisesBy, is_lower, RanksRise, NoRankTwice, Untied, AreUntied}
use Rattle.file_building.proofs.SortedLemmas.{put_by, sorted_by, are_sorted, are_untied, sorted_map}

-- ---- entries in the order of their ranks

abbrev pub rank_order : AltEntry → AltEntry → Ordering
rank_order a b = rank_cmp a.value.items a.stamp b.value.items b.stamp

pub rank_total : IsTotalOrder rank_order
rank_total = then_total (on_total (λ (e : AltEntry). e.value.items) nat_list_cmp_total) (on_total (λ (e : AltEntry). e.stamp) nat_cmp_total)

from_is_lt : (o : Ordering) → is_lt o ≡ true → o ≡ Less
from_is_lt Less h = refl
from_is_lt Equal h = cc
from_is_lt Greater h = cc

pub onward : (x y z : AltEntry) → is_lower x y ≡ true → is_lower y z ≡ true → is_lower x z ≡ true
onward x y z h k = ap is_lt (rank_total.trans x y z (from_is_lt (rank_order x y) h) (from_is_lt (rank_order y z) k))

pub itself : (x : AltEntry) → is_lower x x ≡ false
itself x = either (is_lower x x) (is_lower x x ≡ false) (λ low. let less = from_is_lt (rank_order x x) low in
    let turned : rank_order x x ≡ Greater = rank_total.antisymm x x ∙ ap ordering_reverse less in
    let bad : Less ≡ Greater = sym less ∙ turned in cc) (λ high. high)

pub decide : (a b : AltEntry) → (a ≡ b) ⊎ (a ≢ b)
decide a b =
    either (bytes_eq a.value.items b.value.items && ((a.stamp == b.stamp) && bytes_eq a.prime.items b.prime.items)) ((a ≡ b) ⊎ (a ≢ b))
    (λ same.
    let parts = and_parts _ _ same in
    let others = and_parts _ _ parts.1 in
    let value = (bytes_eq-Decides a.value.items b.value.items).0 parts.0 in
    let stamp = from_eq a.stamp b.stamp others.0 in
    let prime = (bytes_eq-Decides a.prime.items b.prime.items).0 others.1 in
    inl (λ i. record { value = record { items = value i }; stamp = stamp i; prime = record { items = prime i } }))
    (λ differ. inr (λ e.
    let value = (bytes_eq-Decides a.value.items b.value.items).1 (ap (λ (x : AltEntry). x.value.items) e) in
    let stamp = eq-eqb a.stamp b.stamp (ap (λ (x : AltEntry). x.stamp) e) in
    let prime = (bytes_eq-Decides a.prime.items b.prime.items).1 (ap (λ (x : AltEntry). x.prime.items) e) in
    let same = and_from _ _ value (and_from _ _ stamp prime) in
    cc (same, differ)))

-- ---- rows in order are sorted

abbrev below : Schema → ℕ → Row → Row → Bool
below schema k a b = is_lt (row_cmp schema k a b)

put_is : (schema : Schema) (k : ℕ) (row : Row) (rows : List Row) → put_by (below schema k) row rows ≡ put_row schema k row rows
put_is schema k row [] = refl
put_is schema k row (next ∷ rows) = ap (λ (l : List Row). if below schema k next row then next ∷ l else row ∷ next ∷ rows) (put_is schema k row rows)

order_is : (schema : Schema) (k : ℕ) (rows : List Row) → sorted_by (below schema k) rows ≡ in_order schema k rows
order_is schema k [] = refl
order_is schema k (row ∷ rows) = ap (put_by (below schema k) row) (order_is schema k rows) ∙ put_is schema k row (in_order schema k rows)

-- the entries of rows, sorted, are those of the rows in order
pub entries_sorted : (schema : Schema) (k : ℕ) (rows : List Row) → sorted_by is_lower (map (alt_entry schema k) rows) ≡ alt_entries schema k rows
entries_sorted schema k rows = sorted_map is_lower (below schema k) (alt_entry schema k) (λ a b. refl) rows ∙ ap (map (alt_entry schema k)) (order_is schema k rows)

untied_rows : (schema : Schema) (k : ℕ) (row : Row) (rows : List Row) → Each (Untied is_lower (alt_entry schema k row)) (map (alt_entry schema k) rows)
    → Each (λ other. IsTrue (is_lt (row_cmp schema k row other)) ⊎ IsTrue (is_lt (row_cmp schema k other row))) rows
untied_rows schema k row [] all = tt
untied_rows schema k row (next ∷ rows) all = (turned all.0, untied_rows schema k row rows all.1)
  where
    turned : Untied is_lower (alt_entry schema k row) (alt_entry schema k next) → IsTrue (is_lt (row_cmp schema k row next)) ⊎ IsTrue (is_lt (row_cmp schema k next row))
    turned (inl h) = inr h
    turned (inr h) = inl h

ranks_differ : (schema : Schema) (k : ℕ) (rows : List Row) → AreUntied is_lower (map (alt_entry schema k) rows) → NoRankTwice schema k rows
ranks_differ schema k [] all = tt
ranks_differ schema k (row ∷ rows) all = (untied_rows schema k row rows all.0, ranks_differ schema k rows all.1)

-- rising entries, each of which is that of a row, and as many as there are rows, are those of the index
pub record AreThoseOf (schema : Schema) (k : ℕ) (rows : List Row) (entries : List AltEntry) : Type 0 where
  pub are : alt_entries schema k rows ≡ entries
  pub differ : NoRankTwice schema k rows

pub are_those_of : (schema : Schema) (k : ℕ) (rows : List Row) (entries : List AltEntry) → RanksRise entries → Each (λ e. IsOneOf (map (alt_entry schema k) rows) e) entries → length entries ≡ length (map (alt_entry schema k) rows)
    → AreThoseOf schema k rows entries
are_those_of schema k rows entries rise all many =
    let sorted = (are_sorted is_lower onward itself decide entries (map (alt_entry schema k) rows) rise all).are many in
    record {
      are = sym (entries_sorted schema k rows) ∙ sorted;
      differ = ranks_differ schema k rows (are_untied is_lower (map (alt_entry schema k) rows) (subst (RisesBy is_lower) (sym sorted) rise));
    }

-- ---- entries as bytes

-- tree keys are in the order of ranks
key_order : (w p : ℕ) (a b : AltEntry) → IsAltEntry w p a → IsAltEntry w p b → less (take (w + 8) (alt_bytes a)) (take (w + 8) (alt_bytes b)) ≡ is_lower a b
unfolding less
key_order w p a b fa fb =
    ap (λ (l : List ℕ). less l (take (w + 8) (alt_bytes b))) (key_bytes w p a fa)
    ∙ ap (λ (l : List ℕ). less (a.value.items ++ bytes_high_first 8 a.stamp) l) (key_bytes w p b fb)
    ∙ ap is_lt (ranks a.value.items b.value.items a.stamp b.stamp (fa.long ∙ sym fb.long) fa.stamp fb.stamp)

each_below : (w p : ℕ) (a : AltEntry) (entries : List AltEntry) → IsAltEntry w p a → Each (IsAltEntry w p) entries → Each (λ e. is_lower a e ≡ true) entries
    → Each (λ y. less (take (w + 8) (alt_bytes a)) (take (w + 8) y) ≡ true) (map alt_bytes entries)
each_below w p a [] fa all rise = tt
each_below w p a (e ∷ entries) fa all rise = (key_order w p a e fa all.0 ∙ rise.0, each_below w p a entries fa all.1 rise.1)

pub bytes_rise : (w p : ℕ) (entries : List AltEntry) → Each (IsAltEntry w p) entries → RanksRise entries → Ascends (w + 8) (map alt_bytes entries)
bytes_rise w p [] all rise = tt
bytes_rise w p (e ∷ entries) all rise = (each_below w p e entries all.0 all.1 rise.0, bytes_rise w p entries all.1 rise.1)

-- ---- neighbours in order

pub rises_more : (xs : List AltEntry) (y z : AltEntry) → RisesBy is_lower (xs ++ y ∷ []) → is_lower y z ≡ true → RisesBy is_lower ((xs ++ y ∷ []) ++ z ∷ [])
rises_more [] y z rise low = ((low, tt), (tt, tt))
rises_more (x ∷ xs) y z rise low = (each_more (xs ++ y ∷ []) (last xs rise.0) rise.0, rises_more xs y z rise.1 low)
  where
    last : (ys : List AltEntry) → Each (λ e. is_lower x e ≡ true) (ys ++ y ∷ []) → is_lower x z ≡ true
    last [] all = onward x y z all.0 low
    last (e ∷ ys) all = last ys all.1

    each_more : (ys : List AltEntry) → is_lower x z ≡ true → Each (λ e. is_lower x e ≡ true) ys → Each (λ e. is_lower x e ≡ true) (ys ++ z ∷ [])
    each_more [] one all = (one, tt)
    each_more (e ∷ ys) one all = (all.0, each_more ys one all.1)

-- ---- rows, no two of which have one rank

untied_back : (schema : Schema) (k : ℕ) (row : Row) (rows : List Row) → Each (λ other. IsTrue (is_lt (row_cmp schema k row other)) ⊎ IsTrue (is_lt (row_cmp schema k other row))) rows
    → Each (Untied is_lower (alt_entry schema k row)) (map (alt_entry schema k) rows)
untied_back schema k row [] all = tt
untied_back schema k row (next ∷ rows) all = (other_way all.0, untied_back schema k row rows all.1)
  where
    other_way : IsTrue (is_lt (row_cmp schema k row next)) ⊎ IsTrue (is_lt (row_cmp schema k next row)) → Untied is_lower (alt_entry schema k row) (alt_entry schema k next)
    other_way (inl h) = inr h
    other_way (inr h) = inl h

pub untied_entries : (schema : Schema) (k : ℕ) (rows : List Row) → NoRankTwice schema k rows → AreUntied is_lower (map (alt_entry schema k) rows)
untied_entries schema k [] all = tt
untied_entries schema k (row ∷ rows) all = (untied_back schema k row rows all.0, untied_entries schema k rows all.1)
