-- A new open file: the slots of its heap, and one part after another.
use Rattle.std.proofs.Common.{◌≡◌, ◌≢◌, ℕ, zero, suc, ◌+◌, ◌-◌, ◌*◌, ◌==◌, ◌<◌, List, [], ◌∷◌, ◌++◌, length, drop, map, None, refl, ap}
use Rattle.std.proofs.Common.{sym, ◌∙◌, arith, length-append, lit≤}
use Rattle.std.specs.Prelude.{count_by, if◌then◌else◌, slice_index_or, IsSome}
use Rattle.std.proofs.lemmas.Grind.{common_steps}
use Rattle.std.proofs.Math.Seq.{get_or-append_seam}
use Rattle.record_layout.specs.declared.schema.KeyPart.{KeyPart}
use Rattle.record_layout.specs.Schema.{Schema, IsSchema, AreKeys, is_duplicates, has_duplicates}
use Rattle.pages.specs.Each.{Each}
use Rattle.pages.specs.PageMap.{PageMap}
use Rattle.pages.specs.Owners.{IsOutside, ChangesPages}
use Rattle.key_index.specs.declared.prime_index.PrimeIndex.{PrimeIndex}
use Rattle.key_index.specs.declared.alt_index.AltIndex.{AltIndex}
use Rattle.key_index.specs.Standing.{AltStands, AltChanged, PrimeChanged, prime_height, alt_height}
use Rattle.key_index.proofs.LawLemmas.{prime_kept, alt_kept}
use Rattle.record_heap.specs.declared.heap.Heap.{Heap}
use Rattle.record_heap.specs.Chain.{no_slots}
use Rattle.record_heap.specs.Standing.{HeapStands}
use Rattle.record_heap.proofs.StandLemmas.{heap_kept}
use Rattle.open_file.specs.Stored.{stamps_length}
use Rattle.open_file.specs.Parts.{Parts, heap_pages, prime_pages, alternate_pages}
use Rattle.pages.specs.Parted.{own_at, Parted}
use Rattle.pages.proofs.EachLemmas.{outside_symm}
use Rattle.open_file.specs.Stands.{Stands, heights_in}
use Rattle.open_file.specs.Creating.{IsIndexOf, AreIndexesOf}
use Rattle.open_file.specs.declared.open_file.OpenFile.{OpenFile}
use Rattle.indexed_file.specs.File.{empty_file}
use Rattle.open_file.proofs.OrderLemmas.{either}
use Rattle.open_file.proofs.PartsLemmas.{from_eq, from_ne, no_some, some_none, AreUsed, used}

-- ---- the slots of the heap

-- eight bytes for each key with duplicates
pub stamps_counted : (parts : List KeyPart) → 8 * count_by (λ (part : KeyPart). has_duplicates part) parts ≡ stamps_length parts
stamps_counted [] = refl
stamps_counted (part ∷ parts) = grind (arith, common_steps, stamps_counted parts)

-- the prime key is none of them
pub stamps_of_keys : (keys : List KeyPart) → AreKeys keys → 8 * count_by (λ (part : KeyPart). has_duplicates part) keys ≡ stamps_length (drop 1 keys)
stamps_of_keys [] are = absurd are
stamps_of_keys (prime ∷ alternates) are = stamps_counted (prime ∷ alternates) ∙ ap (λ b. if b then 8 + stamps_length alternates else stamps_length alternates) (ap is_duplicates are.0)

-- there is a prime key
pub some_keys : (schema : Schema) → IsSchema schema → 0 < length schema.keys
some_keys schema is = some schema.keys is.keys
  where
    some : (keys : List KeyPart) → AreKeys keys → 0 < length keys
    some [] are = absurd are
    some (prime ∷ alternates) are = omega arith

-- ---- lists

-- the last of a list, and those before it
last_here : {X : Type 0} (xs : List X) (x d : X) → slice_index_or (xs ++ x ∷ []) (length xs) d ≡ x
last_here xs x d = get_or-append_seam xs x [] d

before_last : {X : Type 0} (xs : List X) (x d : X) (i : ℕ) → i ≢ length xs → slice_index_or (xs ++ x ∷ []) i d ≡ slice_index_or xs i d
before_last [] x d zero other = absurd (other refl)
before_last [] x d (suc i) other = refl
before_last (y ∷ xs) x d zero other = refl
before_last (y ∷ xs) x d (suc i) other = before_last xs x d i (λ e. other (ap suc e))

each_front : {X : Type 0} (P : X → Type 0) (xs : List X) (x : X) → Each P (xs ++ x ∷ []) → Each P xs × P x
each_front P [] x h = (tt, h.0)
each_front P (y ∷ xs) x h = let rest = each_front P xs x h.1 in ((h.0, rest.0), rest.1)

-- ---- one part more

-- pages in use are as they were, and outside the new ones
untouched : (before after : PageMap) (own now : List ℕ) → Each (λ n. IsSome (before n)) own → ChangesPages before after [] now → Each (λ n. after n ≡ before n) own × Each (λ n. IsOutside now n) own
untouched before after [] now live changes = (tt, tt)
untouched before after (n ∷ own) now live changes =
    let rest = untouched before after own now live.1 changes in
    let here = changes.others n live.0 tt in
    ((here.0, rest.0), (here.1, rest.1))

parted_more : (before after : PageMap) (owns : List (List ℕ)) (now : List ℕ) → AreUsed before owns → ChangesPages before after [] now
    → Parted before owns → Parted after (owns ++ now ∷ [])
parted_more before after owns now live changes parted =
    let all : List (List ℕ) = owns ++ now ∷ [] in
    let out = λ (i : ℕ). (untouched before after (own_at owns i) now (live i) changes).1 in
    record {
      apart = λ i j differ.
          either (i == length owns) (Each (λ n. IsOutside (own_at all i) n) (own_at all j))
          (λ yes. let e = from_eq i (length owns) yes in
          let other : j ≢ length owns = λ f. differ (e ∙ sym f) in
          rw (e, last_here owns now [], before_last owns now [] j other) (out j))
          (λ no. let early = from_ne i (length owns) no in
          either (j == length owns) (Each (λ n. IsOutside (own_at all i) n) (own_at all j))
          (λ yes. let e = from_eq j (length owns) yes in
          rw (e, last_here owns now [], before_last owns now [] i early) (outside_symm (own_at owns i) now (out i)))
          (λ none. let later = from_ne j (length owns) none in
          rw (before_last owns now [] i early, before_last owns now [] j later) (parted.apart i j differ)));
      covers = λ n out.
          let outs = each_front (λ own. IsOutside own n) owns now out in
          no_some (after n) (λ some. let back = changes.no_stray n some outs.1 in some_none (before n) back.0 (parted.covers n outs.0));
    }

module _ (heap : Heap) (prime : PrimeIndex) (alternates : List AltIndex) (before : PageMap)
    (p : Parts heap prime alternates before no_slots [] (λ j. [])) where
  -- an index more
  pub alternate_more : (after : PageMap) (index : AltIndex) → AltChanged before after index [] [] → Parts heap prime (alternates ++ index ∷ []) after no_slots [] (λ j. [])
  alternate_more after index changed =
      let now = changed.own_now in
      let all : List (List ℕ) = p.owns ++ now ∷ [] in
      let many : length p.owns ≡ length alternates + 2 = p.owners in
      let live : AreUsed before p.owns = used heap prime alternates before no_slots [] (λ j. []) p in
      let still : (j : ℕ) → Each (λ n. after n ≡ before n) (own_at p.owns j) =
      λ j. (untouched before after (own_at p.owns j) now (live j) changed.changes).0 in
      record {
        owns = all;
        owners = length-append p.owns (now ∷ []) ∙ omega (arith, many, length-append alternates (index ∷ []));
        heap_stands = rw (before_last p.owns now [] 0 (omega (arith, many))) (heap_kept heap before after no_slots (heap_pages p.owns) (still 0) p.heap_stands);
        prime_stands = rw (before_last p.owns now [] 1 (omega (arith, many))) (prime_kept prime before after [] (prime_pages p.owns) p.prime_stands (still 1));
        alternates_stand = λ j other within is.
            either (j == length alternates) (AltStands other after [] (alternate_pages all j))
            (λ yes. let e = from_eq j (length alternates) yes in
            let it : other ≡ index = is ∙ ap (λ m. slice_index_or (alternates ++ index ∷ []) m other) e ∙ last_here alternates index other in
            let place : j + 2 ≡ length p.owns = omega (arith, e, many) in
            rw (it, place, last_here p.owns now []) changed.stands)
            (λ no. let early = from_ne j (length alternates) no in
            let before_it : j < length alternates = omega (arith, within, early, length-append alternates (index ∷ [])) in
            let elsewhere : j + 2 ≢ length p.owns = omega (arith, early, many) in
            rw (before_last p.owns now [] (j + 2) elsewhere)
            (alt_kept other before after [] (alternate_pages p.owns j) (p.alternates_stand j other before_it (is ∙ before_last alternates index other j early)) (still (j + 2))));
        parted = parted_more before after p.owns now live changed.changes p.parted;
      }

-- a heap without pages, and a prime index
pub first_parts : (heap : Heap) (prime : PrimeIndex) (before after : PageMap) → ((pages : PageMap) → HeapStands heap pages no_slots []) → ((n : ℕ) → before n ≡ None)
    → PrimeChanged before after prime [] [] → Parts heap prime [] after no_slots [] (λ j. [])
first_parts heap prime before after empty free changed = record {
  owns = [] ∷ changed.own_now ∷ [];
  owners = refl;
  heap_stands = empty after;
  prime_stands = changed.stands;
  alternates_stand = λ j index within is. absurd (omega (arith, within));
  parted = record {
    apart = λ i j differ. two_apart i j differ;
    covers = λ n out. no_some (after n) (λ some. some_none (before n) (changed.changes.no_stray n some out.1.0).0 (free n));
  };
}
  where
    no_pages : (own : List ℕ) → Each (λ n. IsOutside [] n) own
    no_pages [] = tt
    no_pages (n ∷ own) = (tt, no_pages own)

    two_apart : (i j : ℕ) → i ≢ j → Each (λ n. IsOutside (own_at ([] ∷ changed.own_now ∷ []) i) n) (own_at ([] ∷ changed.own_now ∷ []) j)
    two_apart zero j differ = no_pages (own_at ([] ∷ changed.own_now ∷ []) j)
    two_apart (suc zero) zero differ = tt
    two_apart (suc zero) (suc zero) differ = absurd (differ refl)
    two_apart (suc zero) (suc (suc j)) differ = tt
    two_apart (suc (suc i)) j differ = no_pages (own_at ([] ∷ changed.own_now ∷ []) j)

-- the new index is one for its key
pub indexes_more : (schema : Schema) (alternates : List AltIndex) (index : AltIndex) (k : ℕ) → length alternates + 1 ≡ k → IsIndexOf schema (k - 1) index → AreIndexesOf schema alternates
    → AreIndexesOf schema (alternates ++ index ∷ [])
indexes_more schema alternates index k many new each j other within is =
    either (j == length alternates) (IsIndexOf schema j other)
    (λ yes. let e = from_eq j (length alternates) yes in
    let it : other ≡ index = is ∙ ap (λ m. slice_index_or (alternates ++ index ∷ []) m other) e ∙ last_here alternates index other in
    let here : j ≡ k - 1 = omega (arith, e, many) in
    rw (it, here) new)
    (λ no. let early = from_ne j (length alternates) no in
    each j other (omega (arith, within, early, length-append alternates (index ∷ []))) (is ∙ before_last alternates index other j early))

-- ---- the whole

low_trees : (alternates : List AltIndex) → ((j : ℕ) (index : AltIndex) → j < length alternates → index ≡ slice_index_or alternates j index → alt_height index ≡ 1) → (parts : List KeyPart) → length parts ≡ length alternates
    → map alt_height alternates ≡ map (λ (part : KeyPart). 1) parts
low_trees [] low [] many = refl
low_trees [] low (part ∷ parts) many = absurd (omega (arith, many))
low_trees (index ∷ alternates) low [] many = absurd (omega (arith, many))
low_trees (index ∷ alternates) low (part ∷ parts) many =
    let first = low 0 index (omega arith) refl in
    let rest = low_trees alternates (λ j other within is. low (suc j) other (omega (arith, within)) is) parts (omega (arith, many)) in
    λ i. first i ∷ rest i

-- each tree has one level
pub low_heights : (schema : Schema) (prime : PrimeIndex) (alternates : List AltIndex) → prime_height prime ≡ 1 → AreIndexesOf schema alternates → length schema.keys ≡ length alternates + 1
    → heights_in prime alternates ≡ map (λ (part : KeyPart). 1) schema.keys
low_heights schema prime alternates low each many = over schema.keys many
  where
    over : (keys : List KeyPart) → length keys ≡ length alternates + 1 → heights_in prime alternates ≡ map (λ (part : KeyPart). 1) keys
    over [] many = absurd (omega (arith, many))
    over (part ∷ parts) many =
        let rest = low_trees alternates (λ j index within is. (each j index within is).low) parts (omega (arith, many)) in
        λ i. low i ∷ rest i

-- a file without records and without a path
pub new_stands : (opened : OpenFile) (pages : PageMap) → opened.next_stamp ≡ 1 → opened.path ≡ None → Parts opened.heap opened.prime opened.alternates.items pages no_slots [] (λ j. []) → Stands opened pages empty_file
new_stands opened pages first none parts = record {
  sound = refl;
  stamp = first;
  few = rw first (lit≤ tt);
  places = [];
  slots = no_slots;
  placed = record { rows_at = tt; no_more = λ place some. absurd (some_none (no_slots place) some refl) };
  parts = parts;
  on_path = rw none tt;
}
