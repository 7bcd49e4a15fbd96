-- What a file that stands has is what the walks find.
use Rattle.std.proofs.Common.{◌≡◌, ◌≢◌, ℕ, zero, suc, ◌+◌, ◌^◌, ◌<◌, ◌≤◌, ltb, ◌||◌, nat_eq, nat_lt, Bool, true, false, List, [], ◌∷◌, ◌++◌, length, map, slice_index_or, Option, Some, None, IsSome, refl, ap, sym, subst, ◌∙◌, arith}
use Rattle.std.specs.Prelude.{IsTrue, find}
use Rattle.std.proofs.lemmas.Bool.{and_parts, eq-eqb, lt-ltb, ltb-true}
use Rattle.pages.specs.Each.{Each}
use Rattle.pages.specs.Owners.{IsOutside}
use Rattle.pages.specs.PageMap.{PageMap}
use Rattle.page_alloc.specs.Chain.{chain, is_among}
use Rattle.page_alloc.proofs.ChainLemmas.{in_use, is_chain}
use Rattle.pages.specs.Marks.{IsUnmarked, Marks, marked_in}
use Rattle.pages.specs.PageList.{pages_in}
use Rattle.pages.specs.Parted.{all_of, own_at}
use Rattle.pages.proofs.EachLemmas.{each_weaker}
use Rattle.pages.proofs.MarksLemmas.{marks_on, outside_reached}
use Rattle.pages.proofs.PartLemmas.{each_part}
use Rattle.pages.proofs.RefusedLemmas.{still_unmarked}
use Rattle.page_walks.specs.declared.leaf.Leaf.{Leaf}
use Rattle.page_walks.specs.FreeWalk.{FreeAhead, FreeWalked, page_in}
use Rattle.page_walks.specs.Spots.{IsLeafThere, entries_at, spots_in}
use Rattle.page_walks.specs.TreeAhead.{TreeUnmarked}
use Rattle.page_walks.specs.TreeWalk.{TreeWalked}
use Rattle.page_walks.specs.WholeFile.{pages_used_in}
use Rattle.page_walks.proofs.FileLemmas.{among_outside, trees_stay}
use Rattle.page_walks.proofs.FreeLemmas.{not_among}
use Rattle.page_walks.proofs.TreeAheadLemmas.{same_pages}
use Rattle.indexed_file.specs.File.{File, Row}
use Rattle.indexed_file.specs.Sound.{are_rows, is_row}
use Rattle.record_heap.specs.declared.shape.Place.{Place}
use Rattle.record_heap.specs.Chain.{IsPlaceOf, Slots}
use Rattle.record_heap.specs.Slot.{room}
use Rattle.record_heap.specs.Standing.{HeapStands, first_heap_page, slot_shape}
use Rattle.record_heap.specs.Walk.{HeapAhead, slots_of}
use Rattle.page_walks.proofs.HeapAheadLemmas.{chains_same}
use Rattle.record_heap.proofs.StandLemmas.{chain_live, heap_kept}
use Rattle.bplus_tree.specs.declared.tree.Tree.{Tree}
use Rattle.bplus_tree.specs.Fields.{tree_levels, tree_shape}
use Rattle.bplus_tree.specs.ReadOff.{entries_in}
use Rattle.bplus_tree.specs.Standing.{TreeStands}
use Rattle.bplus_tree.proofs.ReadOffLemmas.{reads_its_entries}
use Rattle.key_index.specs.declared.alt_index.AltIndex.{AltIndex}
use Rattle.key_index.specs.Standing.{AltStands}
use Rattle.key_index.specs.Stored.{IsPrimeEntry, prime_bytes}
use Rattle.key_index.proofs.LawLemmas.{alt_kept, alt_live, prime_live}
use Rattle.open_file.specs.Bounds.{IsHeader}
use Rattle.open_file.specs.declared.first_page.Header.{Header}
use Rattle.open_file.specs.declared.open_file.OpenFile.{OpenFile}
use Rattle.open_file.specs.Fields.{alternates_of, file_schema, heap_of, next_stamp_of, prime_index_of}
use Rattle.open_file.specs.Headers.{IsOpenedBy}
use Rattle.open_file.specs.InOrder.{alt_entries, prime_entries}
use Rattle.open_file.specs.Parts.{alternate_pages, heap_pages, prime_pages}
use Rattle.open_file.specs.Stands.{Stands, is_same}
use Rattle.open_file.specs.Stored.{AreAt}
use Rattle.open_file.proofs.HeaderLemmas.{read_back}
use Rattle.open_file.proofs.OrderLemmas.{either}
use Rattle.open_file.proofs.PartsLemmas.{found_at, some_none}
use Rattle.open_file.proofs.RowLemmas.{each_row}
use Rattle.file_checker.specs.RowsAhead.{PrimesLead, RowsAhead}
use Rattle.file_checker.specs.Rows.{PrimesRise, places_in, rows_in}
use Rattle.file_checker.specs.Ahead.{AlternatesAhead}
use Rattle.file_checker.specs.Parts.{AlternatesFound, PagesStand}
use Rattle.file_checker.proofs.RowsAheadLemmas.{all_at, primes_rise, rows_read, slots_are, slots_there}

-- ---- what stands in pages is a function of their bytes

-- a tree has one list of pages and one of entries
pub one_tree : (tree : Tree) (pages : PageMap) (entries entries' : List (List ℕ)) (own own' : List ℕ) → TreeStands tree pages entries own → TreeStands tree pages entries' own' → (own ≡ own') × (entries ≡ entries')
one_tree tree pages entries entries' own own' one two =
    let shape = tree_shape tree in
    let h = tree_levels tree in
    let root = one.whole.stands.root ∙ sym two.whole.stands.root in (
      sym one.pages_are ∙ same_pages shape pages h one.value two.value root one.whole.stands.holds two.whole.stands.holds ∙ two.pages_are,
      sym one.has ∙ sym (reads_its_entries shape pages h one.value one.whole.stands.holds) ∙ ap (entries_in shape pages h) root
          ∙ reads_its_entries shape pages h two.value two.whole.stands.holds ∙ two.has,
    )

some_there : {X : Type 0} (o : Option X) → IsSome o → (x : X) × (o ≡ Some x)
some_there None some = absurd (cc)
some_there (Some x) some = (x, refl)

page_inside : (list : List (List ℕ)) (n : ℕ) → IsSome (pages_in list n) → n < length list
page_inside list n some = either (nat_lt n (length list)) (n < length list) (λ yes. ltb-true n (length list) yes) (λ no. let bad : false ≡ true = rw no at some in absurd (cc))

each_among : (P : ℕ → Type 0) (ns : List ℕ) → ((q : ℕ) → is_among q ns ≡ true → P q) → Each P ns
each_among P [] all = tt
each_among P (n ∷ ns) all = (all n (rw (eq-eqb n n refl) refl), each_among P ns (λ q among. all q (rw among (or_true (nat_eq q n)))))
  where
    or_true : (b : Bool) → (b || true) ≡ true
    or_true true = refl
    or_true false = refl

-- ---- pages in use

module _ (header : Header) (list : List (List ℕ)) where
  abbrev live : PageMap
  live = pages_used_in list header.first_free header.free

  record PageInUse (n : ℕ) : Type 0 where
    pub some : 0 < n
    pub inside : n < length list
    pub as_read : pages_in list n ≡ live n
    pub free : List ℕ
    pub chain_is : chain (page_in list) (length list) header.first_free header.free ≡ Some free
    pub out : is_among n free ≡ false

  page_in_use : (n : ℕ) → IsSome (live n) → PageInUse n
  page_in_use n there =
      let f = in_use (page_in list) (length list) n (chain (page_in list) (length list) header.first_free header.free) there in
      let page = and_parts (ltb 0 n) (ltb n (length list)) f.2 in
      let inside = ltb-true n (length list) page.1 in
      let read : pages_in list n ≡ Some (page_in list n) = rw (lt-ltb n (length list) inside) refl in
      let used : live n ≡ Some (page_in list n) = rw (f.1, f.2, f.3) refl in
      record { some = ltb-true 0 n page.0; inside = inside; as_read = read ∙ sym used; free = f.0; chain_is = f.1; out = f.3 }

  all_as_read : (own : List ℕ) → Each (λ n. IsSome (live n)) own → Each (λ n. pages_in list n ≡ live n) own
  all_as_read own there = each_weaker (λ n. IsSome (live n)) (λ n. pages_in list n ≡ live n) (λ n some. (page_in_use n some).as_read) own there

  -- ---- the free pages

  module _ (none : ℕ → Bool) (clear : (n : ℕ) → none n ≡ false) (zeroed : List Bool) (zero_long : length zeroed ≡ length list) (zero_marked : Marks none (marked_in zeroed) (0 ∷ [])) where
    pub free_ahead : IsSome (chain (page_in list) (length list) header.first_free header.free) → FreeAhead list header.first_free header.free zeroed
    free_ahead some =
        let free = some_there (chain (page_in list) (length list) header.first_free header.free) some in
        let all = is_chain (page_in list) (length list) header.first_free header.free free.0 free.1 in
        record {
          own = free.0;
          is = free.1;
          unmarked = each_among (IsUnmarked zeroed) free.0 (λ q among.
              let page = and_parts (ltb 0 q) (ltb q (length list)) (all.low q among) in
              let above = ltb-true 0 q page.0 in
              let inside = ltb-true q (length list) page.1 in
              (omega (arith, inside, zero_long), zero_marked.others q ((λ same. omega (arith, same, above)), tt) ∙ clear q));
        }

    module _ (started : List Bool) (start_long : length started ≡ length list) (free : FreeWalked list header.first_free header.free (marked_in zeroed) (marked_in started)) where
      zero_on : marked_in started 0 ≡ true
      zero_on = free.marks.others 0 (each_weaker (λ n. marked_in zeroed n ≡ false) (λ n. 0 ≢ n)
          (λ n no same. let yes : marked_in zeroed n ≡ true = ap (marked_in zeroed) (sym same) ∙ zero_marked.set.0 in cc (yes, no)) free.own free.marks.fresh) ∙ zero_marked.set.0

      -- pages in use were not reached before the parts of the file
      live_unmarked : (n : ℕ) → IsSome (live n) → IsUnmarked started n
      live_unmarked n there =
          let u = page_in_use n there in
          let both : Some u.free ≡ Some free.own = sym u.chain_is ∙ free.is in
          let same : u.free ≡ free.own = cc in
          let out = among_outside n free.own (ap (is_among n) (sym same) ∙ u.out) in
          let some = u.some in let inside = u.inside in
          (omega (arith, inside, start_long), free.marks.others n out ∙ zero_marked.others n ((λ zero. omega (arith, zero, some)), tt) ∙ clear n)

      all_unmarked : (own : List ℕ) → Each (λ n. IsSome (live n)) own → Each (IsUnmarked started) own
      all_unmarked own there = each_weaker (λ n. IsSome (live n)) (IsUnmarked started) live_unmarked own there

      module _ (allowed : IsHeader header) (counted : length list ≡ header.pages) (opened : OpenFile) (by_header : IsOpenedBy header opened) (p : PagesStand header list) where
        abbrev file : File
        file = p.file

        abbrev stands : Stands opened live p.file
        stands = read_back p.opened opened header live p.file p.stands p.by_header.shaped p.by_header.header_is by_header

        inside_low : (n : ℕ) → n < length list → n < 2 ^ 32
        inside_low n inside = let few = allowed.room.pages in omega (arith, inside, counted, few)

        abbrev owns : List (List ℕ)
        owns = stands.parts.owns

        heap_live : Each (λ n. IsSome (live n)) (heap_pages owns)
        heap_live = chain_live live (first_heap_page (heap_of opened)) (heap_pages owns) stands.parts.heap_stands.chain

        heap_there : HeapStands (heap_of opened) (pages_in list) stands.slots (heap_pages owns)
        heap_there = heap_kept (heap_of opened) live (pages_in list) stands.slots (heap_pages owns) (all_as_read (heap_pages owns) heap_live) stands.parts.heap_stands

        heap_some : Each (λ n. 1 ≤ n) (heap_pages owns)
        heap_some = each_weaker (λ n. IsSome (live n)) (λ n. 1 ≤ n) (λ n there. (page_in_use n there).some) (heap_pages owns) heap_live

        heap_low : Each (λ n. n < 2 ^ 32) (heap_pages owns)
        heap_low = each_weaker (λ n. IsSome (live n)) (λ n. n < 2 ^ 32) (λ n there. inside_low n (page_in_use n there).inside) (heap_pages owns) heap_live

        -- the heap
        pub heap_ahead : HeapAhead (heap_of opened) list started
        heap_ahead = record {
          slots = stands.slots;
          own = heap_pages owns;
          stands = heap_there;
          some = heap_some;
          low = heap_low;
          unmarked = all_unmarked (heap_pages owns) heap_live;
        }

        module _ (heaped : List Bool) (heap_long : length heaped ≡ length started) (own : List ℕ) (slots : Slots) (heap : HeapStands (heap_of opened) (pages_in list) slots own)
            (heap_marks : Marks (marked_in started) (marked_in heaped) own) where
          heap_is : own ≡ heap_pages owns
          heap_is = chains_same (pages_in list) (first_heap_page (heap_of opened)) own (heap_pages owns) heap.chain heap_there.chain
              (each_weaker (λ n. marked_in started n ≡ false) (λ n. 1 ≤ n)
              (λ n off. let other : n ≢ 0 = λ same. (let on : marked_in started n ≡ true = ap (marked_in started) same ∙ zero_on in cc (on, off)) in omega (arith, other)) own heap_marks.fresh) heap_some
              (each_weaker (λ n. IsSome (pages_in list n)) (λ n. n < 2 ^ 32) (λ n there. inside_low n (page_inside list n there)) own (chain_live (pages_in list) (first_heap_page (heap_of opened)) own heap.chain)) heap_low

          -- pages of a part that is not the heap
          past_heap : (i : ℕ) → i ≢ 0 → Each (λ n. IsSome (live n)) (own_at owns i) → Each (IsUnmarked heaped) (own_at owns i)
          past_heap i other there =
              still_unmarked started heaped (heap_pages owns) (own_at owns i) (subst (Marks (marked_in started) (marked_in heaped)) heap_is heap_marks) heap_long
              (stands.parts.parted.apart 0 i (λ same. other (sym same))) (all_unmarked (own_at owns i) there)

          prime_in_use : Each (λ n. IsSome (live n)) (prime_pages owns)
          prime_in_use = (prime_live (prime_index_of opened) live (prime_entries (file_schema opened) stands.places file.rows) (prime_pages owns) stands.parts.prime_stands).live

          prime_there : TreeStands (prime_index_of opened).tree (pages_in list) (map prime_bytes (prime_entries (file_schema opened) stands.places file.rows)) (prime_pages owns)
          prime_there = trees_stay (prime_index_of opened).tree live (pages_in list) (map prime_bytes (prime_entries (file_schema opened) stands.places file.rows)) (prime_pages owns)
              (all_as_read (prime_pages owns) prime_in_use) stands.parts.prime_stands.tree

          -- the tree of the prime key
          pub prime_ahead : TreeUnmarked (prime_index_of opened).tree list heaped
          prime_ahead = record {
            entries = map prime_bytes (prime_entries (file_schema opened) stands.places file.rows);
            own = prime_pages owns;
            stands = prime_there;
            unmarked = past_heap 1 (λ same. omega (arith, same)) prime_in_use;
          }

          module _ (primed : List Bool) (primed_long : length primed ≡ length heaped) (leaves : List Leaf)
              (walked : TreeWalked (prime_index_of opened).tree list (marked_in heaped) (marked_in primed) (spots_in leaves)) where
            prime_same : (walked.own ≡ prime_pages owns)
                × (entries_at (tree_shape (prime_index_of opened).tree) list (spots_in leaves) ≡ map prime_bytes (prime_entries (file_schema opened) stands.places file.rows))
            prime_same = one_tree (prime_index_of opened).tree (pages_in list) (entries_at (tree_shape (prime_index_of opened).tree) list (spots_in leaves))
                (map prime_bytes (prime_entries (file_schema opened) stands.places file.rows)) walked.own (prime_pages owns) walked.stands prime_there

            prime_walked : Marks (marked_in heaped) (marked_in primed) (prime_pages owns)
            prime_walked = subst (Marks (marked_in heaped) (marked_in primed)) prime_same.0 walked.marks

            are_rows_now : are_rows (file_schema opened) file.next_stamp file.rows ≡ true
            are_rows_now = (and_parts _ _ stands.sound).1

            found : (places_in opened list (spots_in leaves) ≡ stands.places) × (rows_in opened list (spots_in leaves) ≡ file.rows)
            found = rows_read opened list stands.slots file.next_stamp (subst (λ (n : ℕ). n ≤ 2 ^ 63) stands.stamp stands.few) (λ q bytes is. (heap_there.keeps.used_are q bytes is).1)
                (spots_in leaves) stands.places file.rows stands.placed.rows_at (each_row (file_schema opened) file.next_stamp file.rows are_rows_now) (sym prime_same.1) stands.parts.prime_stands.each

            alternate_live : (j : ℕ) (index : AltIndex) → j < length (alternates_of opened) → index ≡ slice_index_or (alternates_of opened) j index → Each (λ n. IsSome (live n)) (alternate_pages owns j)
            alternate_live j index within is =
                (alt_live index live (alt_entries (file_schema opened) (j + 1) file.rows) (alternate_pages owns j) (stands.parts.alternates_stand j index within is)).live

            alternate_there : (j : ℕ) (index : AltIndex) → j < length (alternates_of opened) → index ≡ slice_index_or (alternates_of opened) j index
                → AltStands index (pages_in list) (alt_entries (file_schema opened) (j + 1) file.rows) (alternate_pages owns j)
            alternate_there j index within is =
                alt_kept index live (pages_in list) (alt_entries (file_schema opened) (j + 1) file.rows) (alternate_pages owns j) (stands.parts.alternates_stand j index within is)
                (all_as_read (alternate_pages owns j) (alternate_live j index within is))

            -- the alternate indexes
            pub alternates_ahead : PrimesLead opened list leaves → AlternatesAhead opened list leaves 0 primed
            alternates_ahead lead = record {
              primes_lead = lead;
              own = λ j. alternate_pages owns j;
              stand = λ j index within is.
                  subst (λ (k : ℕ). AltStands index (pages_in list) (alt_entries (file_schema opened) k (rows_in opened list (spots_in leaves))) (alternate_pages owns j)) (sym (by_header.shaped.numbers j index within is))
                  (subst (λ (rows : List Row). AltStands index (pages_in list) (alt_entries (file_schema opened) (j + 1) rows) (alternate_pages owns j)) (sym found.1) (alternate_there j index within is));
              apart = λ i j other. stands.parts.parted.apart (i + 2) (j + 2) (λ same. other (omega (arith, same)));
              unmarked = λ j from within.
                  let at = found_at (alternates_of opened) j within in
                  still_unmarked heaped primed (prime_pages owns) (alternate_pages owns j) prime_walked primed_long (stands.parts.parted.apart 1 (j + 2) (λ same. omega (arith, same)))
                  (past_heap (j + 2) (λ same. omega (arith, same)) (alternate_live j at.0 within at.1));
            }

            module _ (slots_is : slots ≡ slots_of (slot_shape (heap_of opened)) (pages_in list) own) where
              no_more : (q : Place) → IsSome (slots_of (slot_shape (heap_of opened)) (pages_in list) own q) → IsSome (find (is_same q) (places_in opened list (spots_in leaves)))
              no_more q some =
                  let at = some_there (slots_of (slot_shape (heap_of opened)) (pages_in list) own q) some in
                  let k = heap.keeps.used_are q at.0 (ap (λ (s : Slots). s q) slots_is ∙ at.1) in
                  let of = subst (λ (ns : List ℕ). IsPlaceOf (room (slot_shape (heap_of opened))) ns q) heap_is k.0 in
                  let there = slots_there (heap_of opened) (pages_in list) stands.slots (heap_pages owns) heap_there q of (rw k.1 refl) in
                  subst (λ (places : List Place). IsSome (find (is_same q) places)) (sym found.0) (stands.placed.no_more q there)

              rows_at : AreAt (file_schema opened) (slots_of (slot_shape (heap_of opened)) (pages_in list) own) (places_in opened list (spots_in leaves)) (rows_in opened list (spots_in leaves))
              rows_at =
                  let same = all_at (file_schema opened) stands.slots (slots_of (slot_shape (heap_of opened)) (pages_in list) (heap_pages owns))
                  (slots_are (heap_of opened) (pages_in list) stands.slots (heap_pages owns) heap_there) stands.places file.rows stands.placed.rows_at in
                  subst (λ (ns : List ℕ). AreAt (file_schema opened) (slots_of (slot_shape (heap_of opened)) (pages_in list) ns) (places_in opened list (spots_in leaves)) (rows_in opened list (spots_in leaves))) (sym heap_is)
                  (subst (λ (places : List Place). AreAt (file_schema opened) (slots_of (slot_shape (heap_of opened)) (pages_in list) (heap_pages owns)) places (rows_in opened list (spots_in leaves))) (sym found.0)
                  (subst (λ (rows : List Row). AreAt (file_schema opened) (slots_of (slot_shape (heap_of opened)) (pages_in list) (heap_pages owns)) stands.places rows) (sym found.1) same))

              -- the rows
              pub rows_ahead : Each (IsLeafThere (tree_shape (prime_index_of opened).tree) list) leaves → RowsAhead opened list own leaves
              rows_ahead there = record {
                there = there;
                stand = record {
                  rows_are = subst (λ (rows : List Row). Each (λ row. IsTrue (is_row (file_schema opened) (next_stamp_of opened) row)) rows) (sym found.1)
                      (each_row (file_schema opened) (next_stamp_of opened) file.rows (subst (λ (n : ℕ). are_rows (file_schema opened) n file.rows ≡ true) (sym stands.stamp) are_rows_now));
                  placed = record { rows_at = rows_at; no_more = no_more };
                  entries_are = (λ i. map prime_bytes (prime_entries (file_schema opened) (found.0 i) (found.1 i))) ∙ sym prime_same.1;
                  each = subst (λ (places : List Place). Each (IsPrimeEntry (prime_index_of opened).width) (prime_entries (file_schema opened) places (rows_in opened list (spots_in leaves)))) (sym found.0)
                      (subst (λ (rows : List Row). Each (IsPrimeEntry (prime_index_of opened).width) (prime_entries (file_schema opened) stands.places rows)) (sym found.1) stands.parts.prime_stands.each);
                  rise = subst (PrimesRise (file_schema opened)) (sym found.1) (primes_rise (file_schema opened) file.next_stamp file.rows are_rows_now);
                };
              }

            module _ (final : List Bool) (alternates : AlternatesFound opened list (spots_in leaves) (length (alternates_of opened)) (marked_in primed) (marked_in final)) where
              all_marks : Marks (marked_in started) (marked_in final) (all_of (own ∷ walked.own ∷ alternates.owns))
              all_marks = marks_on (marked_in started) (marked_in heaped) (marked_in final) own (walked.own ++ all_of alternates.owns) heap_marks
                  (marks_on (marked_in heaped) (marked_in primed) (marked_in final) walked.own (all_of alternates.owns) walked.marks alternates.marks)

              module _ (n : ℕ) (inside : n < length list) (off : marked_in final n ≡ false) where
                outside : IsOutside (all_of (own ∷ walked.own ∷ alternates.owns)) n
                outside = outside_reached (marked_in final) n (all_of (own ∷ walked.own ∷ alternates.owns)) off all_marks.set

                n_live : IsSome (live n)
                n_live =
                    let unfree : marked_in started n ≡ false = sym (all_marks.others n outside) ∙ off in
                    let apart = outside_reached (marked_in started) n free.own unfree free.marks.set in
                    let unheaded : marked_in zeroed n ≡ false = sym (free.marks.others n apart) ∙ unfree in
                    let some : n ≢ 0 = λ same. (let yes : marked_in zeroed n ≡ true = ap (marked_in zeroed) same ∙ zero_marked.set.0 in cc (yes, unheaded)) in
                    rw (free.is, lt-ltb 0 n (omega (arith, some)), lt-ltb n (length list) inside, not_among n free.own apart) refl

                in_no_part : (i : ℕ) → i < length owns → IsOutside (own_at owns i) n
                in_no_part zero within = subst (λ (ns : List ℕ). IsOutside ns n) heap_is (each_part (λ m. n ≢ m) (own ∷ walked.own ∷ alternates.owns) 0 outside)
                in_no_part (suc zero) within = subst (λ (ns : List ℕ). IsOutside ns n) prime_same.0 (each_part (λ m. n ≢ m) (own ∷ walked.own ∷ alternates.owns) 1 outside)
                in_no_part (suc (suc j)) within =
                    let less : j < length (alternates_of opened) = (let owners = stands.parts.owners in omega (arith, within, owners)) in
                    let at = found_at (alternates_of opened) j less in
                    let one = (one_tree at.0.tree (pages_in list) _ _ (own_at alternates.owns j) (alternate_pages owns j) (alternates.each j at.0 less at.1).tree (alternate_there j at.0 less at.1).tree).0 in
                    let place : j + 2 ≡ suc (suc j) = omega arith in
                    subst (λ (ns : List ℕ). IsOutside ns n) (one ∙ ap (own_at owns) place) (each_part (λ m. n ≢ m) (own ∷ walked.own ∷ alternates.owns) (suc (suc j)) outside)

                each_own : (rest : List (List ℕ)) → ((i : ℕ) → i < length rest → IsOutside (own_at rest i) n) → Each (λ ns. IsOutside ns n) rest
                each_own [] all = tt
                each_own (ns ∷ rest) all = (all 0 (omega arith), each_own rest (λ i within. all (suc i) (omega (arith, within))))

                -- no page is lost
                pub none_lost : ⊥
                none_lost = some_none (live n) n_live (stands.parts.parted.covers n (each_own owns in_no_part))
