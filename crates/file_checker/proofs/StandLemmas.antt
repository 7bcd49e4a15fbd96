-- A file whose parts were walked and compared stands.
use Rattle.std.proofs.Common.{◌≡◌, ◌≢◌, ℕ, zero, suc, ◌+◌, ◌<◌, Bool, true, false, List, [], ◌∷◌, ◌++◌, length, slice_index_or, Option, refl, sym, ap, subst, ◌∙◌, arith}
use Rattle.std.proofs.lemmas.List.{length-map}
use Rattle.pages.specs.PageMap.{PageMap}
use Rattle.bplus_tree.specs.declared.tree.Tree.{Tree}
use Rattle.bplus_tree.specs.Standing.{TreeStands}
use Rattle.bplus_tree.specs.Fields.{tree_shape}
use Rattle.pages.specs.Marks.{Marks}
use Rattle.pages.specs.PageList.{pages_in}
use Rattle.pages.specs.Parted.{own_at, all_of}
use Rattle.pages.proofs.MarksLemmas.{marks_on, outside_reached}
use Rattle.page_walks.specs.declared.spot.LeafSpot.{LeafSpot}
use Rattle.page_walks.specs.Spots.{entries_at}
use Rattle.page_walks.specs.TreeWalk.{TreeWalked}
use Rattle.page_walks.specs.FreeWalk.{FreeWalked}
use Rattle.page_walks.specs.WholeFile.{pages_used_in, FileParted}
use Rattle.page_walks.proofs.FileLemmas.{trees_stay, walks_part_the_file}
use Rattle.record_heap.specs.Standing.{HeapStands, slot_shape}
use Rattle.record_heap.specs.Walk.{slots_of}
use Rattle.record_heap.proofs.StandLemmas.{heap_kept}
use Rattle.key_index.specs.declared.alt_index.AltIndex.{AltIndex}
use Rattle.key_index.specs.Standing.{PrimeStands, AltStands, alt_key}
use Rattle.open_file.specs.declared.first_page.Header.{Header}
use Rattle.open_file.specs.Bounds.{IsHeader}
use Rattle.open_file.specs.Fields.{alternates_of, heap_of, next_stamp_of, prime_index_of, file_schema}
use Rattle.open_file.specs.declared.open_file.OpenFile.{OpenFile}
use Rattle.open_file.specs.declared.path.Path.{Path}
use Rattle.open_file.specs.Headers.{IsOpenedBy}
use Rattle.open_file.specs.InOrder.{alt_entries, prime_entries}
use Rattle.open_file.specs.Parts.{Parts, prime_pages, alternate_pages}
use Rattle.open_file.specs.Paths.{IsOnPath}
use Rattle.open_file.specs.Stands.{Stands}
use Rattle.file_checker.specs.Alternate.{RanksDiffer}
use Rattle.file_checker.specs.RowLaws.{RowsMakeAFile}
use Rattle.file_checker.specs.Rows.{RowsStand, places_in, rows_in, row_at}
use Rattle.file_checker.specs.Parts.{AlternatesFound, PagesStand}
use Rattle.file_checker.specs.Lost.{LeavesOut}
use Rattle.file_checker.proofs.AlternateLemmas.{spots_many}

-- what is found of a file before all its pages are known to be reached
pub record Found (header : Header) (list : List (List ℕ)) (opened : OpenFile) (own : List ℕ) (primes : List LeafSpot) (none zeroth start heaped primed final : ℕ → Bool) : Type 0 where
  pub clear : (n : ℕ) → none n ≡ false
  pub first : Marks none zeroth (0 ∷ [])
  pub free : FreeWalked list header.first_free header.free zeroth start
  pub heap : HeapStands (heap_of opened) (pages_in list) (slots_of (slot_shape (heap_of opened)) (pages_in list) own) own
  pub heap_marks : Marks start heaped own
  pub prime : TreeWalked (prime_index_of opened).tree list heaped primed primes
  pub rows : RowsStand opened list own primes
  pub alternates : AlternatesFound opened list primes (length (alternates_of opened)) primed final

-- a place of a list has an item
item_there : {X : Type 0} (xs : List X) (j : ℕ) → j < length xs → (x : X) × (x ≡ slice_index_or xs j x)
item_there [] j within = absurd (omega arith)
item_there (x ∷ xs) zero within = (x, refl)
item_there (x ∷ xs) (suc j) within = item_there xs j (omega arith)

module _ (header : Header) (list : List (List ℕ)) (opened : OpenFile) (own : List ℕ) (primes : List LeafSpot) (none zeroth start heaped primed final : ℕ → Bool)
    (allowed : IsHeader header) (by_header : IsOpenedBy header opened) (found : Found header list opened own primes none zeroth start heaped primed final) where
  -- the alternate keys have the numbers of their indexes
  key_is : (j : ℕ) (index : AltIndex) → j < length (alternates_of opened) → index ≡ slice_index_or (alternates_of opened) j index → alt_key index ≡ j + 1
  key_is j index within is = by_header.shaped.numbers j index within is

  ranks_differ : (j : ℕ) → j < length (alternates_of opened) → RanksDiffer (file_schema opened) (j + 1) (rows_in opened list primes)
  ranks_differ j within =
      let at = item_there (alternates_of opened) j within in
      subst (λ (k : ℕ). RanksDiffer (file_schema opened) k (rows_in opened list primes)) (key_is j at.0 within at.1) (found.alternates.each j at.0 within at.1).rows.differ

  all_marks : Marks start final (all_of (own ∷ found.prime.own ∷ found.alternates.owns))
  all_marks = marks_on start heaped final own (found.prime.own ++ all_of found.alternates.owns) found.heap_marks
      (marks_on heaped primed final found.prime.own (all_of found.alternates.owns) found.prime.marks found.alternates.marks)

  -- a page without a mark is in no part
  pub leaves_out : (n : ℕ) → n < length list → final n ≡ false → LeavesOut header list n
  leaves_out n within off =
      let parts = own ∷ found.prime.own ∷ found.alternates.owns in
      let out = outside_reached final n (all_of parts) off all_marks.set in
      let unfree : start n ≡ false = sym (all_marks.others n out) ∙ off in
      let apart = outside_reached start n found.free.own unfree found.free.marks.set in
      let unheaded : zeroth n ≡ false = sym (found.free.marks.others n apart) ∙ unfree in
      let some : n ≢ 0 = λ same. (let yes : zeroth n ≡ true = ap zeroth same ∙ found.first.set.0 in cc (yes, unheaded)) in
      record {
        within = within;
        some = omega (arith, some);
        free = found.free.own;
        free_are = found.free.is;
        not_free = apart;
        opened = opened;
        by_header = by_header;
        owns = parts;
        owners = let many = found.alternates.as_many in omega arith;
        heap = found.heap;
        prime = (entries_at (tree_shape (prime_index_of opened).tree) list primes, found.prime.stands);
        alternates = λ j index less is.
            let at = found.alternates.each j index less is in
            let place : suc (suc j) ≡ j + 2 = omega arith in
            (entries_at (tree_shape index.tree) list at.spots, subst (λ (i : ℕ). TreeStands index.tree (pages_in list) (entries_at (tree_shape index.tree) list at.spots) (own_at parts i)) place at.tree);
        outside = out;
      }

  module _ (all : (n : ℕ) → n < length list → final n ≡ true) where
    abbrev live : PageMap
    live = pages_used_in list header.first_free header.free

    abbrev owns : List (List ℕ)
    owns = own ∷ found.prime.own ∷ found.alternates.owns

    file_parted : FileParted list live owns
    file_parted = walks_part_the_file list header.first_free header.free none zeroth start final owns found.clear found.first found.free all_marks all

    -- a tree stands in the pages in use
    tree_there : (tree : Tree) (i : ℕ) (entries : List (List ℕ)) → TreeStands tree (pages_in list) entries (own_at owns i) → TreeStands tree live entries (own_at owns i)
    tree_there tree i entries stands = trees_stay tree (pages_in list) live entries (own_at owns i) (file_parted.as_read i) stands

    prime_there : PrimeStands (prime_index_of opened) live (prime_entries (file_schema opened) (places_in opened list primes) (rows_in opened list primes)) (prime_pages owns)
    prime_there = record {
      tree = subst (λ (entries : List (List ℕ)). TreeStands (prime_index_of opened).tree live entries (prime_pages owns)) (sym found.rows.entries_are)
          (tree_there (prime_index_of opened).tree 1 (entries_at (tree_shape (prime_index_of opened).tree) list primes) found.prime.stands);
      each = found.rows.each;
    }

    alternate_there : (j : ℕ) (index : AltIndex) → j < length (alternates_of opened) → index ≡ slice_index_or (alternates_of opened) j index
        → AltStands index live (alt_entries (file_schema opened) (j + 1) (rows_in opened list primes)) (alternate_pages owns j)
    alternate_there j index within is =
        let at = found.alternates.each j index within is in
        let place : suc (suc j) ≡ j + 2 = omega arith in
        subst (λ (k : ℕ). AltStands index live (alt_entries (file_schema opened) k (rows_in opened list primes)) (alternate_pages owns j)) (key_is j index within is)
        (record {
          tree = subst (λ (entries : List (List ℕ)). TreeStands index.tree live entries (alternate_pages owns j)) (sym at.rows.entries.entries_are)
              (subst (λ (i : ℕ). TreeStands index.tree live (entries_at (tree_shape index.tree) list at.spots) (own_at owns i)) place
              (tree_there index.tree (suc (suc j)) (entries_at (tree_shape index.tree) list at.spots) at.tree));
          each = at.rows.entries.each;
        })

    parts : Parts (heap_of opened) (prime_index_of opened) (alternates_of opened) live (slots_of (slot_shape (heap_of opened)) (pages_in list) own)
        (prime_entries (file_schema opened) (places_in opened list primes) (rows_in opened list primes)) (λ j. alt_entries (file_schema opened) (j + 1) (rows_in opened list primes))
    parts = record {
      owns = owns;
      owners = let many = found.alternates.as_many in omega arith;
      heap_stands = heap_kept (heap_of opened) (pages_in list) live (slots_of (slot_shape (heap_of opened)) (pages_in list) own) own (file_parted.as_read 0) found.heap;
      prime_stands = prime_there;
      alternates_stand = alternate_there;
      parted = record { apart = file_parted.parted.apart; covers = file_parted.parted.covers };
    }

    module _ (make : RowsMakeAFile) where
      stands : Stands opened live (record { rows = rows_in opened list primes; next_stamp = (next_stamp_of opened) })
      unfolding parts
      stands = record {
        sound = make opened list own primes by_header.shaped (rw by_header.header_is.next_stamp allowed.within.stamped) found.rows ranks_differ;
        stamp = refl;
        few = rw by_header.header_is.next_stamp allowed.within.limit;
        places = places_in opened list primes;
        slots = slots_of (slot_shape (heap_of opened)) (pages_in list) own;
        placed = found.rows.placed;
        parts = parts;
        on_path = subst (λ (p : Option Path). IsOnPath p (prime_index_of opened) (alternates_of opened) live (prime_entries (file_schema opened) (places_in opened list primes) (rows_in opened list primes))
            (λ j. alt_entries (file_schema opened) (j + 1) (rows_in opened list primes)) owns) (sym by_header.no_path) tt;
      }

      pub pages_stand : PagesStand header list
      pages_stand = record {
        opened = opened;
        by_header = by_header;
        file = record { rows = rows_in opened list primes; next_stamp = (next_stamp_of opened) };
        stands = stands;
        sound = rw found.free.is refl;
        records_are = length-map primes (row_at opened list) ∙ spots_many (prime_index_of opened).tree list heaped primed primes found.prime ∙ by_header.header_is.records;
      }
