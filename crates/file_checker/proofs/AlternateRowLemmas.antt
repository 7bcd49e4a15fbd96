-- The entries of an alternate key, and the rows.
use Rattle.std.proofs.Common.{◌≡◌, ◌≢◌, ◌⊎◌, inl, inr, ℕ, ◌+◌, ◌==◌, ◌&&◌, Bool, true, false, List, [], ◌∷◌, ◌++◌, length, drop, take, map, Some, refl, ap, sym, subst, ◌∙◌, arith, length-drop, length-take-le}
use Rattle.std.specs.Prelude.{IsTrue, bytes_eq, if◌then◌else◌}
use Rattle.std.specs.Ordering.{is_lt, ordering_reverse}
use Rattle.std.specs.declared.cmp.Ordering.{Ordering}
use Rattle.std.specs.declared.cmp.Ordering.TheVariants.{Less, Equal, Greater}
use Rattle.std.specs.Cmp.{IsTotalOrder}
use Rattle.std.specs.Int.{bytes_high_first}
use Rattle.std.proofs.lemmas.Cmp.{nat_list_cmp_total, nat_cmp_total, on_total, then_total}
use Rattle.std.proofs.lemmas.Bool.{and_parts, and_from, eq-eqb}
use Rattle.std.proofs.lemmas.List.{length-map}
use Rattle.std.proofs.lemmas.Slice.Eq.{bytes_eq-Decides}
use Rattle.byteorder.specs.Endian.{big_number}
use Rattle.pages.specs.Each.{Each}
use Rattle.record_layout.specs.Schema.{Schema, value_of, prime_of}
use Rattle.indexed_file.specs.File.{Row, stamp_of}
use Rattle.indexed_file.specs.Rank.{row_cmp}
use Rattle.tree_node.specs.Order.{less, Ascends}
use Rattle.pages.specs.PageList.{pages_in}
use Rattle.page_walks.specs.declared.spot.LeafSpot.{LeafSpot}
use Rattle.page_walks.specs.Spots.{entry_at_spot, entries_at}
use Rattle.record_heap.specs.Chain.{IsOneOf}
use Rattle.record_heap.specs.Standing.{slot_off}
use Rattle.io_state.specs.Rank.{rank_cmp}
use Rattle.key_index.specs.declared.entry.AltEntry.{AltEntry}
use Rattle.key_index.specs.declared.alt_index.AltIndex.{AltIndex}
use Rattle.key_index.specs.Standing.{alt_key}
use Rattle.key_index.specs.Stored.{alt_bytes, alt_entry_in, IsAltEntry}
use Rattle.key_index.proofs.KeyLemmas.{alt_key as key_bytes}
use Rattle.key_index.proofs.OrderLemmas.{ranks}
use Rattle.open_file.specs.Fields.{heap_of, file_schema}
use Rattle.open_file.specs.InOrder.{put_row, in_order, alt_entry as entry_of, alt_entries}
use Rattle.open_file.specs.ReadOff.{row_off}
use Rattle.open_file.specs.declared.open_file.OpenFile.{OpenFile}
use Rattle.open_file.proofs.OrderLemmas.{either}
use Rattle.open_file.proofs.PartsLemmas.{from_eq}
use Rattle.bplus_tree.specs.Fields.{tree_shape}
use Rattle.file_checker.specs.Rows.{place_at, row_at, rows_in}
use Rattle.file_checker.specs.Leading.{HasRow}
use Rattle.file_checker.specs.Alternate.{RanksDiffer, AlternateStands}
use Rattle.file_checker.proofs.ByteLemmas.{AreBytes, each_take, each_drop, number_small, alt_again}
use Rattle.file_checker.proofs.SortedLemmas.{Rises, put_by, sorted_by, Untied, AreUntied, are_sorted, are_untied, sorted_map}

-- ---- entries in the order of their ranks

abbrev rank_order : AltEntry → AltEntry → Ordering
rank_order a b = rank_cmp a.value.items a.stamp b.value.items b.stamp

abbrev pub lower : AltEntry → AltEntry → Bool
lower a b = is_lt (rank_order a b)

rank_total : IsTotalOrder rank_order
rank_total = then_total (on_total (λ (e : AltEntry). e.value.items) nat_list_cmp_total) (on_total (λ (e : AltEntry). e.stamp) nat_cmp_total)

from_is_lt : (o : Ordering) → is_lt o ≡ true → o ≡ Less
from_is_lt Less h = refl
from_is_lt Equal h = cc
from_is_lt Greater h = cc

onward : (x y z : AltEntry) → lower x y ≡ true → lower y z ≡ true → lower x z ≡ true
onward x y z h k = ap is_lt (rank_total.trans x y z (from_is_lt (rank_order x y) h) (from_is_lt (rank_order y z) k))

itself : (x : AltEntry) → lower x x ≡ false
itself x = either (lower x x) (lower x x ≡ false) (λ low. let less = from_is_lt (rank_order x x) low in
    let turned : rank_order x x ≡ Greater = rank_total.antisymm x x ∙ ap ordering_reverse less in
    let bad : Less ≡ Greater = sym less ∙ turned in cc) (λ high. high)

decide : (a b : AltEntry) → (a ≡ b) ⊎ (a ≢ b)
decide a b =
    either (bytes_eq a.value.items b.value.items && ((a.stamp == b.stamp) && bytes_eq a.prime.items b.prime.items)) ((a ≡ b) ⊎ (a ≢ b))
    (λ same.
    let parts = and_parts _ _ same in
    let others = and_parts _ _ parts.1 in
    let value = (bytes_eq-Decides a.value.items b.value.items).0 parts.0 in
    let stamp = from_eq a.stamp b.stamp others.0 in
    let prime = (bytes_eq-Decides a.prime.items b.prime.items).0 others.1 in
    inl (λ i. record { value = record { items = value i }; stamp = stamp i; prime = record { items = prime i } }))
    (λ differ. inr (λ e.
    let value = (bytes_eq-Decides a.value.items b.value.items).1 (ap (λ (x : AltEntry). x.value.items) e) in
    let stamp = eq-eqb a.stamp b.stamp (ap (λ (x : AltEntry). x.stamp) e) in
    let prime = (bytes_eq-Decides a.prime.items b.prime.items).1 (ap (λ (x : AltEntry). x.prime.items) e) in
    let same = and_from _ _ value (and_from _ _ stamp prime) in
    cc (same, differ)))

-- ---- rows in order are sorted

abbrev below : Schema → ℕ → Row → Row → Bool
below schema k a b = is_lt (row_cmp schema k a b)

put_is : (schema : Schema) (k : ℕ) (row : Row) (rows : List Row) → put_by (below schema k) row rows ≡ put_row schema k row rows
put_is schema k row [] = refl
put_is schema k row (next ∷ rows) = ap (λ (l : List Row). if below schema k next row then next ∷ l else row ∷ next ∷ rows) (put_is schema k row rows)

order_is : (schema : Schema) (k : ℕ) (rows : List Row) → sorted_by (below schema k) rows ≡ in_order schema k rows
order_is schema k [] = refl
order_is schema k (row ∷ rows) = ap (put_by (below schema k) row) (order_is schema k rows) ∙ put_is schema k row (in_order schema k rows)

-- the entries of rows, sorted, are those of the rows in order
entries_sorted : (schema : Schema) (k : ℕ) (rows : List Row) → sorted_by lower (map (entry_of schema k) rows) ≡ alt_entries schema k rows
entries_sorted schema k rows = sorted_map lower (below schema k) (entry_of schema k) (λ a b. refl) rows ∙ ap (map (entry_of schema k)) (order_is schema k rows)

-- ---- entries as bytes

-- the entry of so many bytes
pub record EntryKept (w p : ℕ) (e : List ℕ) : Type 0 where
  pub again : alt_bytes (alt_entry_in w e) ≡ e
  pub fits : IsAltEntry w p (alt_entry_in w e)

entry_kept : (w p : ℕ) (e : List ℕ) → length e ≡ w + 8 + p → AreBytes e → EntryKept w p e
entry_kept w p e long small = record {
  again = alt_again w p e long small;
  fits = record {
    long = length-take-le w e (omega (arith, long));
    bytes = each_take w e small;
    stamp = number_small 8 (drop w e) (each_drop w e small);
    prime_long = (let l = length-drop (w + 8) e in omega (arith, long, l));
  };
}

module _ (w p : ℕ) where
  -- tree keys are in the order of ranks
  key_order : (x y : List ℕ) → EntryKept w p x → EntryKept w p y → less (take (w + 8) x) (take (w + 8) y) ≡ lower (alt_entry_in w x) (alt_entry_in w y)
  unfolding less
  key_order x y a b =
      let first : take (w + 8) x ≡ (alt_entry_in w x).value.items ++ bytes_high_first 8 (alt_entry_in w x).stamp = ap (take (w + 8)) (sym a.again) ∙ key_bytes w p (alt_entry_in w x) a.fits in
      let second : take (w + 8) y ≡ (alt_entry_in w y).value.items ++ bytes_high_first 8 (alt_entry_in w y).stamp = ap (take (w + 8)) (sym b.again) ∙ key_bytes w p (alt_entry_in w y) b.fits in
      ap (λ (l : List ℕ). less l (take (w + 8) y)) first
      ∙ ap (λ (l : List ℕ). less ((alt_entry_in w x).value.items ++ bytes_high_first 8 (alt_entry_in w x).stamp) l) second
      ∙ ap is_lt (ranks (alt_entry_in w x).value.items (alt_entry_in w y).value.items (alt_entry_in w x).stamp (alt_entry_in w y).stamp (a.fits.long ∙ sym b.fits.long) a.fits.stamp b.fits.stamp)

  each_lower : (x : List ℕ) (ys : List (List ℕ)) → EntryKept w p x → Each (EntryKept w p) ys → Each (λ y. less (take (w + 8) x) (take (w + 8) y) ≡ true) ys
      → Each (λ e. lower (alt_entry_in w x) e ≡ true) (map (alt_entry_in w) ys)
  each_lower x [] a all rises = tt
  each_lower x (y ∷ ys) a all rises = (sym (key_order x y a all.0) ∙ rises.0, each_lower x ys a all.1 rises.1)

  entries_rise : (xs : List (List ℕ)) → Each (EntryKept w p) xs → Ascends (w + 8) xs → Rises lower (map (alt_entry_in w) xs)
  entries_rise [] all rises = tt
  entries_rise (x ∷ xs) all rises = (each_lower x xs all.0 all.1 rises.0, entries_rise xs all.1 rises.1)

  all_again : (xs : List (List ℕ)) → Each (EntryKept w p) xs → map alt_bytes (map (alt_entry_in w) xs) ≡ xs
  all_again [] all = refl
  all_again (x ∷ xs) all = let first = all.0.again in let rest = all_again xs all.1 in λ i. first i ∷ rest i

  all_fit : (xs : List (List ℕ)) → Each (EntryKept w p) xs → Each (IsAltEntry w p) (map (alt_entry_in w) xs)
  all_fit [] all = tt
  all_fit (x ∷ xs) all = (all.0.fits, all_fit xs all.1)

-- ---- the rows

one_mapped : {X Y : Type 0} (f : X → Y) (xs : List X) (x : X) → IsOneOf xs x → IsOneOf (map f xs) (f x)
one_mapped f [] x one = absurd one
one_mapped f (y ∷ ys) x one = by_one (λ rest. one_mapped f ys x rest) one
  where
    by_one : (IsOneOf ys x → IsOneOf (map f ys) (f x)) → (x ≡ y) ⊎ IsOneOf ys x → IsOneOf (map f (y ∷ ys)) (f x)
    by_one again (inl same) = inl (ap f same)
    by_one again (inr rest) = inr (again rest)

untied_rows : (schema : Schema) (k : ℕ) (row : Row) (rows : List Row) → Each (Untied lower (entry_of schema k row)) (map (entry_of schema k) rows)
    → Each (λ other. IsTrue (is_lt (row_cmp schema k row other)) ⊎ IsTrue (is_lt (row_cmp schema k other row))) rows
untied_rows schema k row [] all = tt
untied_rows schema k row (next ∷ rows) all = (turned all.0, untied_rows schema k row rows all.1)
  where
    turned : Untied lower (entry_of schema k row) (entry_of schema k next) → IsTrue (is_lt (row_cmp schema k row next)) ⊎ IsTrue (is_lt (row_cmp schema k next row))
    turned (inl h) = inr h
    turned (inr h) = inl h

ranks_differ : (schema : Schema) (k : ℕ) (rows : List Row) → AreUntied lower (map (entry_of schema k) rows) → RanksDiffer schema k rows
ranks_differ schema k [] all = tt
ranks_differ schema k (row ∷ rows) all = (untied_rows schema k row rows all.0, ranks_differ schema k rows all.1)

module _ (opened : OpenFile) (list : List (List ℕ)) (primes : List LeafSpot) (index : AltIndex) where
  entries_kept : (spots : List LeafSpot) → Each (HasRow opened list primes index) spots → Each (EntryKept index.width index.prime) (entries_at (tree_shape index.tree) list spots)
  entries_kept [] all = tt
  entries_kept (spot ∷ spots) all = (entry_kept index.width index.prime (entry_at_spot (tree_shape index.tree) list spot) (all.0.long ∙ index.entries) all.0.bytes, entries_kept spots all.1)

  each_of_row : (spots : List LeafSpot) → Each (HasRow opened list primes index) spots
      → Each (λ e. IsOneOf (map (entry_of (file_schema opened) (alt_key index)) (rows_in opened list primes)) e) (map (alt_entry_in index.width) (entries_at (tree_shape index.tree) list spots))
  each_of_row [] all = tt
  each_of_row (spot ∷ spots) all =
      let h = all.0 in
      let rows = one_mapped (row_at opened list) primes h.leader h.one in
      let entries = one_mapped (entry_of (file_schema opened) (alt_key index)) (rows_in opened list primes) (row_at opened list h.leader) rows in
      (subst (λ (e : AltEntry). IsOneOf (map (entry_of (file_schema opened) (alt_key index)) (rows_in opened list primes)) e) (sym h.is) entries, each_of_row spots all.1)

  pub alternate_stands : (spots : List LeafSpot) → Each (HasRow opened list primes index) spots → length spots ≡ length primes → Ascends (tree_shape index.tree).width (entries_at (tree_shape index.tree) list spots)
      → AlternateStands opened list primes index spots
  alternate_stands spots all many rises =
      let w = index.width in
      let schema = file_schema opened in
      let k = alt_key index in
      let rows = rows_in opened list primes in
      let bytes = entries_at (tree_shape index.tree) list spots in
      let kept = entries_kept spots all in
      let es = map (alt_entry_in w) bytes in
      let rise = entries_rise w index.prime bytes kept (subst (λ (n : ℕ). Ascends n bytes) index.keys rises) in
      let as_many : length es ≡ length (map (entry_of schema k) rows) =
      length-map bytes (alt_entry_in w) ∙ length-map spots (entry_at_spot (tree_shape index.tree) list) ∙ many ∙ sym (length-map primes (row_at opened list)) ∙ sym (length-map rows (entry_of schema k)) in
      let sorted = (are_sorted lower onward itself decide es (map (entry_of schema k) rows) rise (each_of_row spots all)).are as_many in
      let is : alt_entries schema k rows ≡ es = sym (entries_sorted schema k rows) ∙ sorted in
      record {
        entries = record {
          entries_are = ap (map alt_bytes) is ∙ all_again w index.prime bytes kept;
          each = subst (Each (IsAltEntry w index.prime)) (sym is) (all_fit w index.prime bytes kept);
        };
        differ = ranks_differ schema k rows (are_untied lower (map (entry_of schema k) rows) (subst (Rises lower) (sym sorted) rise));
      }

-- the entry of a row, by its parts
pub entry_is : (opened : OpenFile) (list : List (List ℕ)) (leader : LeafSpot) (stored e : List ℕ) (w k : ℕ) → slot_off (heap_of opened) (pages_in list) (place_at opened list leader) ≡ Some stored
    → take w e ≡ value_of (file_schema opened) k (row_off (file_schema opened) (Some stored)).bytes → big_number 8 (drop w e) ≡ stamp_of k (row_off (file_schema opened) (Some stored))
    → drop (w + 8) e ≡ prime_of (file_schema opened) (row_off (file_schema opened) (Some stored)).bytes → alt_entry_in w e ≡ entry_of (file_schema opened) k (row_at opened list leader)
entry_is opened list leader stored e w k there value stamp prime =
    let same : alt_entry_in w e ≡ entry_of (file_schema opened) k (row_off (file_schema opened) (Some stored)) =
    λ i. record { value = record { items = value i }; stamp = stamp i; prime = record { items = prime i } } in
    same ∙ ap (entry_of (file_schema opened) k) (ap (row_off (file_schema opened)) (sym there))
