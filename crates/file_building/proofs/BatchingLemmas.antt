-- Batches of entries, put into an index one after another.
use Rattle.std.proofs.Common.{◌≡◌, ℕ, suc, ◌+◌, ◌≤◌, ◌<◌, Bool, true, false, not, List, [], ◌∷◌, ◌++◌, length, drop, map, Option, None, Some, refl, ap, sym, subst, ◌∙◌, arith, length-append, length-drop}
use Rattle.std.specs.Option.{IfSome}
use Rattle.std.specs.Ordering.{is_lt}
use Rattle.std.specs.List.Sorted.{IsPermutation}
use Rattle.std.proofs.lemmas.Bool.{and_parts}
use Rattle.std.proofs.lemmas.List.{length-map, length-take-le}
use Rattle.std.proofs.lemmas.List.Sorted.{length_permutation}
use Rattle.io_state.specs.Rank.{rank_cmp}
use Rattle.record_layout.specs.Schema.{Schema, IsSchema, key_at, value_of}
use Rattle.indexed_file.specs.File.{Row}
use Rattle.pages.specs.Each.{Each}
use Rattle.pages.specs.PageMap.{PageMap}
use Rattle.pages.specs.Owners.{ChangesPages}
use Rattle.pages.specs.Parted.{own_at}
use Rattle.pages.proofs.EachLemmas.{each_weaker, each_join}
use Rattle.record_heap.specs.Chain.{IsOneOf}
use Rattle.record_heap.proofs.StandLemmas.{heap_kept}
use Rattle.key_index.specs.declared.entry.AltEntry.{AltEntry}
use Rattle.key_index.specs.declared.alt_index.AltIndex.{AltIndex}
use Rattle.key_index.proofs.LawLemmas.{prime_kept}
use Rattle.tree_building.specs.declared.alt_builder.AltBuilder.{AltBuilder}
use Rattle.tree_building.specs.IndexBuilding.{AltBuildsOn}
use Rattle.open_file.specs.InOrder.{alt_entry, prime_entries}
use Rattle.open_file.specs.Parts.{heap_pages, prime_pages}
use Rattle.open_file.proofs.PartsLemmas.{used}
use Rattle.file_building.specs.declared.batch.Batch.{Batch}
use Rattle.file_building.specs.declared.rows_builder.RowParts.{RowParts}
use Rattle.file_building.specs.Ranks.{RanksRise, is_lower}
use Rattle.file_building.specs.Held.{held_entries}
use Rattle.file_building.specs.Within.{is_below_top, is_between, entries_within}
use Rattle.file_building.specs.Batches.{HasTakenEntries, IsTopOf}
use Rattle.file_building.specs.Batching.{IsPushedOn, EndsPushingAll}
use Rattle.file_building.specs.Rereading.{RowsStandIn}
use Rattle.file_building.specs.Rows.{RowsStandBuilt}
use Rattle.file_building.specs.Written.{rows_of, rows_with_stamps, HaveLengths}
use Rattle.file_building.proofs.BuiltLemmas.{each_moved}
use Rattle.file_building.proofs.EntryLemmas.{key_whole}
use Rattle.file_building.proofs.PartLemmas.{untouched, same_pages}
use Rattle.file_building.proofs.RankLemmas.{onward, are_those_of}
use Rattle.file_building.proofs.SourceGivenLemmas.{given_length}
use Rattle.file_building.proofs.WithinLemmas.{below_top, each_passes, each_is_of, count_above, count_parts, count_all}

-- ---- the rows stand while an index is built beside them

pub stands_in : (schema : Schema) (parts : RowParts) (alternates : List AltIndex) (before after : PageMap) (rows : List Row) (now : List ℕ)
    → RowsStandBuilt schema parts.heap parts.prime alternates before rows → ChangesPages before after [] now → RowsStandIn schema parts after rows
stands_in schema parts alternates before after rows now s changes =
    let p = s.parts in
    let live = used parts.heap parts.prime alternates before s.slots (prime_entries schema s.places rows) _ p in
    let still : (j : ℕ) → Each (λ n. after n ≡ before n) (own_at p.owns j) =
    λ j. same_pages before after now (own_at p.owns j) (untouched before after (own_at p.owns j) now (live j) changes) in
    record {
      slots = s.slots;
      places = s.places;
      heap_own = heap_pages p.owns;
      prime_own = prime_pages p.owns;
      rows_at = s.placed.rows_at;
      heap = heap_kept parts.heap before after s.slots (heap_pages p.owns) (still 0) p.heap_stands;
      prime = prime_kept parts.prime before after (prime_entries schema s.places rows) (prime_pages p.owns) p.prime_stands (still 1);
    }

-- ---- how many entries there are

rows_many : (schema : Schema) (stamp : ℕ) (records : List (List ℕ)) → length (rows_with_stamps schema stamp records) ≡ length records
rows_many schema stamp [] = refl
rows_many schema stamp (bytes ∷ records) = ap suc (rows_many schema (stamp + 1) records)

pub entries_many : (schema : Schema) (k : ℕ) (records : List (List ℕ)) → length (map (alt_entry schema k) (rows_of schema records)) ≡ length records
entries_many schema k records = length-map (rows_of schema records) (alt_entry schema k) ∙ rows_many schema 1 records

-- an entry without a value is below all that have one
blank_lower : (b e : AltEntry) → b.value.items ≡ [] → 1 ≤ length e.value.items → is_lower b e ≡ true
blank_lower b e none some = ap (λ (l : List ℕ). is_lt (rank_cmp l b.stamp e.value.items e.stamp)) none ∙ by_value e.value.items some
  where
    by_value : (v : List ℕ) → 1 ≤ length v → is_lt (rank_cmp [] b.stamp v e.stamp) ≡ true
    by_value [] some = absurd (omega (arith, some))
    by_value (x ∷ xs) some = refl

values_some : (schema : Schema) (k stamp : ℕ) (records : List (List ℕ)) → IsSchema schema → k < length schema.keys → HaveLengths schema records
    → Each (λ (e : AltEntry). 1 ≤ length e.value.items) (map (alt_entry schema k) (rows_with_stamps schema stamp records))
values_some schema k stamp [] is within long = tt
values_some schema k stamp (bytes ∷ records) is within long =
    let key = key_whole schema k is within in
    let part = key_at schema k in
    let all = given_length schema schema bytes refl long.0 in
    let first : length (value_of schema k bytes) ≡ part.length = length-take-le part.length (drop part.offset bytes) (omega (arith, key.within, all.0, length-drop part.offset bytes)) in
    (omega (arith, first, key.some), values_some schema k (stamp + 1) records is within long.1)

count_full : (b : AltEntry) (es : List AltEntry) → b.value.items ≡ [] → Each (λ (e : AltEntry). 1 ≤ length e.value.items) es → count_above b es ≡ length es
count_full b [] none some = refl
count_full b (e ∷ es) none some =
    let low = blank_lower b e none some.0 in
    rw low (ap suc (count_full b es none some.1))

-- ---- the entries that are in the index by now

pub record HasPushed (schema : Schema) (k : ℕ) (rows : List Row) (start now : PageMap) (builder : AltBuilder) (above : AltEntry) (i : ℕ) : Type 0 where
  pub done : List AltEntry
  pub on : AltBuildsOn start now builder [] done
  pub rise : RanksRise done
  pub below : (e : AltEntry) → is_lower above e ≡ true → Each (λ d. is_lower d e ≡ true) done
  pub ones : Each (IsOneOf (map (alt_entry schema k) rows)) done
  pub many : length done + count_above above (map (alt_entry schema k) rows) ≡ length (map (alt_entry schema k) rows)
  pub least : i ≤ length done

pub none_pushed : (schema : Schema) (k : ℕ) (records : List (List ℕ)) (start now : PageMap) (builder : AltBuilder) (above : AltEntry) → IsSchema schema → k < length schema.keys → HaveLengths schema records
    → above.value.items ≡ [] → AltBuildsOn start now builder [] [] → HasPushed schema k (rows_of schema records) start now builder above 0
none_pushed schema k records start now builder above is within long none on = record {
  done = [];
  on = on;
  rise = tt;
  below = λ e low. tt;
  ones = tt;
  many = (let full = count_full above (map (alt_entry schema k) (rows_of schema records)) none (values_some schema k 1 records is within long) in omega (arith, full));
  least = omega arith;
}

rises_join : (xs ys : List AltEntry) → RanksRise xs → RanksRise ys → Each (λ y. Each (λ x. is_lower x y ≡ true) xs) ys → RanksRise (xs ++ ys)
rises_join [] ys rise rise' all = rise'
rises_join (x ∷ xs) ys rise rise' all = (
  each_join (λ y. is_lower x y ≡ true) xs ys rise.0 (each_weaker (λ y. Each (λ z. is_lower z y ≡ true) (x ∷ xs)) (λ y. is_lower x y ≡ true) (λ y h. h.0) ys all),
  rises_join xs ys rise.1 rise' (each_weaker (λ y. Each (λ z. is_lower z y ≡ true) (x ∷ xs)) (λ y. Each (λ z. is_lower z y ≡ true) xs) (λ y h. h.1) ys all),
)

by_not : (b : Bool) → not b ≡ true → b ≡ false
by_not true h = sym h
by_not false h = refl

-- what a batch adds
module _ (schema : Schema) (k : ℕ) (rows : List Row) (start before after : PageMap) (old new : AltBuilder) (above : AltEntry) (batch : Batch) (i : ℕ)
    (h : HasPushed schema k rows start before old above i) (taken : HasTakenEntries batch (map (alt_entry schema k) rows)) (is : batch.above ≡ above)
    (pushed : IsPushedOn start after new h.done (held_entries batch.held)) where
  abbrev all : List AltEntry
  all = map (alt_entry schema k) rows

  abbrev kept : List AltEntry
  kept = entries_within above batch.top all

  moved : IsPermutation kept pushed.sorted
  moved = subst (λ (l : List AltEntry). IsPermutation l pushed.sorted) (taken.held ∙ ap (λ (e : AltEntry). entries_within e batch.top all) is) pushed.order.moved

  passing : Each (λ e. is_between above batch.top e ≡ true) pushed.sorted
  passing = each_moved (λ e. is_between above batch.top e ≡ true) kept pushed.sorted moved (each_passes (is_between above batch.top) all)

  risen : RanksRise (h.done ++ pushed.sorted)
  risen = rises_join h.done pushed.sorted h.rise pushed.order.rise
      (each_weaker (λ e. is_between above batch.top e ≡ true) (λ e. Each (λ d. is_lower d e ≡ true) h.done) (λ e passes. h.below e (and_parts (is_lower above e) (is_below_top batch.top e) passes).0) pushed.sorted passing)

  ones_now : Each (IsOneOf all) (h.done ++ pushed.sorted)
  ones_now = each_join (IsOneOf all) h.done pushed.sorted h.ones (each_moved (IsOneOf all) kept pushed.sorted moved (each_is_of (is_between above batch.top) all))

  long : length (h.done ++ pushed.sorted) ≡ length h.done + length kept
  long = length-append h.done pushed.sorted ∙ ap (λ (n : ℕ). length h.done + n) (length_permutation kept pushed.sorted moved)

  pub pushed_more : (top : AltEntry) → batch.top ≡ Some top → HasPushed schema k rows start after new top (i + 1)
  pushed_more top at =
      let topped : IsTopOf above (held_entries batch.held) top =
      subst (λ (e : AltEntry). IsTopOf e (held_entries batch.held) top) is (subst (λ (t : Option AltEntry). IfSome t (IsTopOf batch.above (held_entries batch.held))) at taken.topped) in
      let some : 1 ≤ length kept = subst (λ (l : List AltEntry). 1 ≤ length l) (taken.held ∙ ap (λ (e : AltEntry). entries_within e batch.top all) is) topped.some in
      let cut : entries_within above batch.top all ≡ entries_within above (Some top) all = ap (λ (t : Option AltEntry). entries_within above t all) at in
      let parts = count_parts above top all topped.higher in
      let count = ap length cut in
      record {
        done = h.done ++ pushed.sorted;
        on = pushed.on;
        rise = risen;
        below = λ e high. each_join (λ d. is_lower d e ≡ true) h.done pushed.sorted (h.below e (onward above top e topped.higher high))
            (each_weaker (λ x. is_between above batch.top x ≡ true) (λ x. is_lower x e ≡ true)
            (λ x passes. (let up : is_below_top (Some top) x ≡ true = ap (λ (t : Option AltEntry). is_below_top t x) (sym at) ∙ (and_parts (is_lower above x) (is_below_top batch.top x) passes).1 in
            below_top x top e (by_not (is_lower top x) up) high)) pushed.sorted passing);
        ones = ones_now;
        many = (let had = h.many in omega (arith, long, parts, count, had));
        least = (let was = h.least in omega (arith, long, some, was));
      }

  pub pushed_last : (sound : Type 0) → sound → batch.top ≡ None → EndsPushingAll schema k rows start after new sound true
  pushed_last sound is_sound at =
      let count = ap length (ap (λ (t : Option AltEntry). entries_within above t all) at) in
      let rest = count_all above all in
      let had = h.many in
      let those = are_those_of schema k rows (h.done ++ pushed.sorted) risen ones_now (omega (arith, long, count, rest, had)) in
      (subst (AltBuildsOn start after new []) (sym those.are) pushed.on, those.differ, is_sound)

-- as many as there are rows are all
pub pushed_all : (schema : Schema) (k : ℕ) (rows : List Row) (start now : PageMap) (builder : AltBuilder) (above : AltEntry) (i : ℕ) (sound : Type 0) → sound → HasPushed schema k rows start now builder above i
    → length (map (alt_entry schema k) rows) ≤ i → EndsPushingAll schema k rows start now builder sound true
pushed_all schema k rows start now builder above i sound is_sound h enough =
    let had = h.many in
    let was = h.least in
    let those = are_those_of schema k rows h.done h.rise h.ones (omega (arith, had, was, enough)) in
    (subst (AltBuildsOn start now builder []) (sym those.are) h.on, those.differ, is_sound)
