-- The slots of a closed heap are those of a heap that stands.
use Rattle.std.proofs.Common.{◌≡◌, ℕ, zero, suc, ◌+◌, ◌*◌, ◌/◌, ◌≤◌, ◌<◌, ◌≢◌, ◌==◌, ◌⊎◌, ◌↔◌, inl, inr, List, [], ◌∷◌, ◌++◌, length, map, flat_map, drop, take, Option, Some, None, Bool, true, false, IsSome, refl, sym, ap, subst, ◌∙◌, arith}
use Rattle.std.specs.Prelude.{count_by, slice_index, slice_index_or, find, is_some, if◌then◌else◌}
use Rattle.std.specs.List.{Contains, zip}
use Rattle.std.specs.Option.{option_map_or}
use Rattle.std.proofs.lemmas.Bool.{and_parts}
use Rattle.std.proofs.lemmas.Grind.{common_steps}
use Rattle.byteorder.specs.Endian.{big_bytes, big_number}
use Rattle.record_layout.specs.declared.schema.KeyPart.{KeyPart}
use Rattle.record_layout.specs.Schema.{Schema, has_duplicates}
use Rattle.indexed_file.specs.File.{Row}
use Rattle.pages.specs.Each.{Each}
use Rattle.pages.specs.PageMap.{PageMap}
use Rattle.record_heap.specs.declared.shape.Place.{Place}
use Rattle.record_heap.specs.declared.shape.SlotShape.{SlotShape}
use Rattle.record_heap.specs.Slot.{room, used_in, behind_in}
use Rattle.record_heap.specs.Slots.{slot_at}
use Rattle.record_heap.specs.Calls.{slot_of, used_at, behind_at}
use Rattle.record_heap.specs.Chain.{Slots, IsOneOf, AreOnce, IsPlaceOf, IsFreeChain, KeepsSlots}
use Rattle.record_heap.specs.Standing.{IsPageChain}
use Rattle.record_heap.proofs.ChainLemmas.{place_made}
use Rattle.record_heap.proofs.EditLemmas.{slot_is}
use Rattle.record_heap.proofs.StandLemmas.{each_of}
use Rattle.open_file.specs.Stored.{AreAt, stamp_bytes, stored}
use Rattle.open_file.specs.Stands.{IsPlaced, is_same}
use Rattle.open_file.specs.ClosedHeap.{slot_size, slot_bytes, used_bytes, AreHeapPages, AreFreeSlots}
use Rattle.open_file.proofs.OrderLemmas.{either, from_some}
use Rattle.open_file.proofs.PartsLemmas.{from_eq, no_some, some_none}

-- ---- members of a list

pub contains : {X : Type 0} (xs : List X) (x : X) → IsOneOf xs x → Contains xs x
contains [] x of = absurd of
contains (y ∷ ys) x (inl e) = (zero, omega arith, sym e)
contains (y ∷ ys) x (inr of) = let is = contains ys x of in (suc is.0, omega (arith, is.1), is.2)

one_at : {X : Type 0} (xs : List X) (x : X) (k : ℕ) → k < length xs → slice_index_or xs k x ≡ x → IsOneOf xs x
one_at [] x k within is = absurd (omega (arith, within))
one_at (y ∷ ys) x zero within is = inl (sym is)
one_at (y ∷ ys) x (suc k) within is = inr (one_at ys x k (omega (arith, within)) is)

pub one_of : {X : Type 0} (xs : List X) (x : X) → Contains xs x → IsOneOf xs x
one_of xs x is = one_at xs x is.0 is.1 is.2

in_front : {X : Type 0} (xs ys : List X) (x : X) → IsOneOf xs x → IsOneOf (xs ++ ys) x
in_front [] ys x of = absurd of
in_front (y ∷ xs) ys x (inl e) = inl e
in_front (y ∷ xs) ys x (inr of) = inr (in_front xs ys x of)

behind : {X : Type 0} (xs ys : List X) (x : X) → IsOneOf ys x → IsOneOf (xs ++ ys) x
behind [] ys x of = of
behind (y ∷ xs) ys x of = inr (behind xs ys x of)

one_part : {X : Type 0} (xs ys : List X) (x : X) → IsOneOf (xs ++ ys) x → IsOneOf xs x ⊎ IsOneOf ys x
one_part [] ys x of = inr of
one_part (y ∷ xs) ys x (inl e) = inl (inl e)
one_part (y ∷ xs) ys x (inr of) = elim (one_part xs ys x of) [ inl a ↦ inl (inr a) | inr b ↦ inr b ]

pub each_one : {X : Type 0} (P : X → Type 0) (xs : List X) → ((x : X) → IsOneOf xs x → P x) → Each P xs
each_one P [] all = tt
each_one P (x ∷ xs) all = (all x (inl refl), each_one P xs (λ y of. all y (inr of)))

-- ---- places

same_self : (p : Place) → is_same p p ≡ true
same_self p = grind (arith, common_steps)

found_one : (p : Place) (places : List Place) → IsSome (find (is_same p) places) → IsOneOf places p
found_one p [] some = absurd (cc)
found_one p (q ∷ qs) some = either (is_same p q) (IsOneOf (q ∷ qs) p)
    (λ yes. let b = and_parts (p.page == q.page) (p.slot == q.slot) yes in inl (place_made p q (from_eq p.page q.page b.0) (from_eq p.slot q.slot b.1)))
    (λ no. inr (found_one p qs (rw no at some)))

one_found : (p : Place) (places : List Place) → IsOneOf places p → IsSome (find (is_same p) places)
one_found p [] of = absurd of
one_found p (q ∷ qs) (inl e) = let same : is_same p q ≡ true = subst (λ (q : Place). is_same p q ≡ true) e (same_self p) in rw same refl
one_found p (q ∷ qs) (inr of) = either (is_same p q) (IsSome (find (is_same p) (q ∷ qs)))
    (λ yes. rw yes refl)
    (λ no. rw no (one_found p qs of))

-- ---- the pages

pub chain_held : (pages : PageMap) (first : ℕ) (own : List ℕ) → IsPageChain pages first own → AreHeapPages pages first own
chain_held pages first [] chain = chain
chain_held pages first (n ∷ ns) chain =
    let at = chain.1.1 in
    (chain.0, chain.1.0, at.bytes, at.there, at.heap.size, at.heap.start, chain_held pages chain.1.0 ns chain.1.2)

pub chain_holds : (pages : PageMap) (first : ℕ) (own : List ℕ) → AreHeapPages pages first own → IsPageChain pages first own
chain_holds pages first [] chain = chain
chain_holds pages first (n ∷ ns) chain =
    (chain.0, (chain.1, record { bytes = chain.2; there = chain.3; heap = record { size = chain.4; start = chain.5 } }, chain_holds pages chain.1 ns chain.6))

-- ---- the slots

abbrev link : List ℕ → Place
link slot = record { page = big_number 4 (drop 1 slot); slot = big_number 2 (drop 5 slot) }

free_link : (slot : List ℕ) (next : Place) → behind_in slot ≡ Some next → (slice_index slot 0 ≡ 0) × (link slot ≡ next)
free_link slot next is = either (slice_index slot 0 == 0) ((slice_index slot 0 ≡ 0) × (link slot ≡ next))
    (λ yes. let given : Some (link slot) ≡ Some next = rw yes at is in (from_eq (slice_index slot 0) 0 yes, from_some (link slot) next given))
    (λ no. let given : None ≡ Some next = rw no at is in absurd (cc))

link_free : (slot : List ℕ) → slice_index slot 0 ≡ 0 → behind_in slot ≡ Some (link slot)
link_free slot is = let zero : (slice_index slot 0 == 0) ≡ true = grind (arith, common_steps, is) in rw zero refl

-- the stamps of a row
abbrev stamp_row : List KeyPart → List ℕ → List ℕ
stamp_row parts stamps = flat_map (λ s. if has_duplicates s.0 then big_bytes 8 s.1 else []) (zip parts stamps)

stamps_same : (parts : List KeyPart) (stamps : List ℕ) → stamp_bytes parts stamps ≡ stamp_row parts stamps
stamps_same [] stamps = refl
stamps_same (part ∷ parts) [] = refl
stamps_same (part ∷ parts) (stamp ∷ stamps) =
    let rest = stamps_same parts stamps in
    either (has_duplicates part) (stamp_bytes (part ∷ parts) (stamp ∷ stamps) ≡ stamp_row (part ∷ parts) (stamp ∷ stamps))
    (λ yes. rw yes (ap (λ xs. big_bytes 8 stamp ++ xs) rest))
    (λ no. rw no rest)

-- the slots that a file of this schema has
abbrev pub closed_shape : (schema : Schema) → schema.least ≤ schema.greatest → 8 * count_by has_duplicates (drop 1 schema.keys) + schema.greatest ≤ 4077 → SlotShape
closed_shape schema order fits = record {
  stamps = 8 * count_by has_duplicates (drop 1 schema.keys);
  least = schema.least;
  greatest = schema.greatest;
  order = order;
  fits = fits;
}

module _ (schema : Schema) (order : schema.least ≤ schema.greatest) (fits : 8 * count_by has_duplicates (drop 1 schema.keys) + schema.greatest ≤ 4077) (pages : PageMap) where
  abbrev shape : SlotShape
  shape = closed_shape schema order fits

  abbrev used : Slots
  used p = used_bytes schema (slot_bytes schema pages p)

  abbrev stored_rows : List Row → List (Option (List ℕ))
  stored_rows rows = map (λ row. Some (stamp_row (drop 1 schema.keys) row.stamps ++ row.bytes)) rows

  stored_same : (row : Row) → stored schema row ≡ stamp_row (drop 1 schema.keys) row.stamps ++ row.bytes
  stored_same row = ap (λ xs. xs ++ row.bytes) (stamps_same (drop 1 schema.keys) row.stamps)

  abbrev IsSlot : List ℕ → Place → Type 0
  IsSlot own p = Contains own p.page × (1 ≤ p.page) × (p.slot < 4080 / slot_size schema)

  slot_held : (own : List ℕ) (p : Place) → IsPlaceOf (room shape) own p → IsSlot own p
  slot_held own p of = (contains own p.page of.page, of.some, of.slot)

  slot_holds : (own : List ℕ) (p : Place) → IsSlot own p → IsPlaceOf (room shape) own p
  slot_holds own p is = record { page = one_of own p.page is.0; some = is.1; slot = is.2 }

  slot_same : (p : Place) → p.slot < room shape → slot_of shape pages p ≡ slot_bytes schema pages p
  slot_same p inside = go (pages p.page)
    where
      go : (there : Option (List ℕ)) → option_map_or (λ page. slot_at shape page p.slot) there []
          ≡ option_map_or (λ page. take (slot_size schema) (drop (16 + p.slot * slot_size schema) page)) there []
      go None = refl
      go (Some page) = sym (slot_is shape page p.slot (slot_size schema) (slot_size schema) refl refl inside)

  used_same : (p : Place) → p.slot < room shape → used_at shape pages p ≡ used p
  used_same p inside = ap (used_in shape) (slot_same p inside)

  -- ---- from the open file

  pub free_held : (first : Place) (free : List Place) → Each (λ p. p.slot < room shape) free → IsFreeChain (behind_at shape pages) first free → AreFreeSlots schema pages first free
  free_held first [] inside chain = chain
  free_held first (p ∷ ps) inside chain =
      let is = free_link (slot_bytes schema pages p) chain.1.0 (sym (ap behind_in (slot_same p inside.0)) ∙ chain.1.1) in
      (chain.0, is.0, subst (λ (n : Place). AreFreeSlots schema pages n ps) (sym is.1) (free_held chain.1.0 ps inside.1 chain.1.2))

  module _ (own : List ℕ) (slots : Slots) (first : Place) (keeps : KeepsSlots (room shape) own (used_at shape pages) (behind_at shape pages) slots first) where
    pub rows_held : (places : List Place) (rows : List Row) → AreAt schema slots places rows → map used places ≡ stored_rows rows
    rows_held [] [] at = refl
    rows_held [] (row ∷ rows) at = absurd at
    rows_held (p ∷ ps) [] at = absurd at
    rows_held (p ∷ ps) (row ∷ rows) at =
        let here : used p ≡ Some (stamp_row (drop 1 schema.keys) row.stamps ++ row.bytes) =
        let is = keeps.used_are p (stored schema row) at.0 in
        sym (used_same p is.0.slot) ∙ is.1 ∙ ap Some (stored_same row) in
        let rest = rows_held ps rows at.1 in
        λ i. here i ∷ rest i

    in_use : (places : List Place) (rows : List Row) (p : Place) → AreAt schema slots places rows → IsOneOf places p → IsPlaceOf (room shape) own p
    in_use [] rows p at of = absurd of
    in_use (q ∷ qs) [] p at of = absurd at
    in_use (q ∷ qs) (row ∷ rows) p at (inl e) = subst (IsPlaceOf (room shape) own) (sym e) (keeps.used_are q (stored schema row) at.0).0
    in_use (q ∷ qs) (row ∷ rows) p at (inr of) = in_use qs rows p at.1 of

    pub every_held : (places : List Place) (rows : List Row) → IsPlaced schema slots places rows → (p : Place) → IsSlot own p ↔ Contains (places ++ keeps.free) p
    every_held places rows placed p = (
      λ is. contains (places ++ keeps.free) p (either (is_some (slots p)) (IsOneOf (places ++ keeps.free) p)
          (λ some. in_front places keeps.free p (found_one p places (placed.no_more p some)))
          (λ none. behind places keeps.free p (keeps.every p (slot_holds own p is) (no_some (slots p) (λ some. absurd (cc)))))),
      λ has. slot_held own p (elim (one_part places keeps.free p (one_of (places ++ keeps.free) p has)) [
        | inl of ↦ in_use places rows p placed.rows_at of
        | inr of ↦ (each_of (λ q. IsPlaceOf (room shape) own q × (slots q ≡ None)) keeps.free p keeps.free_are of).0
      ]),
    )

  -- ---- from the closed file

  pub free_hold : (first : Place) (free : List Place) → Each (λ p. p.slot < room shape) free → AreFreeSlots schema pages first free → IsFreeChain (behind_at shape pages) first free
  free_hold first [] inside chain = chain
  free_hold first (p ∷ ps) inside chain =
      let slot = slot_bytes schema pages p in
      (chain.0, (link slot, ap behind_in (slot_same p inside.0) ∙ link_free slot chain.1, free_hold (link slot) ps inside.1 chain.2))

  not_used : (slot : List ℕ) → slice_index slot 0 ≡ 0 → used_bytes schema slot ≡ None
  not_used slot is = let free : (slice_index slot 0 == 1) ≡ false = grind (arith, common_steps, is) in rw free refl

  free_unused : (first : Place) (free : List Place) (p : Place) → AreFreeSlots schema pages first free → IsOneOf free p → used p ≡ None
  free_unused first [] p chain of = absurd of
  free_unused first (q ∷ qs) p chain (inl e) =
      subst (λ (q : Place). used q ≡ None) (sym e) (not_used (slot_bytes schema pages q) chain.1)
  free_unused first (q ∷ qs) p chain (inr of) = free_unused (link (slot_bytes schema pages q)) qs p chain.2 of

  -- no place stands twice among them: from each the same number follows
  free_many : (first : Place) (ps qs : List Place) → AreFreeSlots schema pages first ps → AreFreeSlots schema pages first qs → Each (λ p. 1 ≤ p.page) ps → Each (λ p. 1 ≤ p.page) qs → length ps ≡ length qs
  free_many first [] [] chain other some more = refl
  free_many first [] (q ∷ qs) chain other some more = let e : first.page ≡ q.page = ap (λ (p : Place). p.page) other.0 in absurd (omega (arith, chain, e, more.0))
  free_many first (p ∷ ps) [] chain other some more = let e : first.page ≡ p.page = ap (λ (p : Place). p.page) chain.0 in absurd (omega (arith, other, e, some.0))
  free_many first (p ∷ ps) (q ∷ qs) chain other some more =
      let e : q ≡ p = sym other.0 ∙ chain.0 in
      let rest = subst (λ (q : Place). AreFreeSlots schema pages (link (slot_bytes schema pages q)) qs) e other.2 in
      ap suc (free_many (link (slot_bytes schema pages p)) ps qs chain.2 rest some.1 more.1)

  free_differ : (p : Place) (n : ℕ) → ((qs : List Place) → AreFreeSlots schema pages p qs → Each (λ q. 1 ≤ q.page) qs → length qs ≡ n)
      → (first : Place) (ps : List Place) → AreFreeSlots schema pages first ps → Each (λ q. 1 ≤ q.page) ps → length ps < n → Each (λ q. p ≢ q) ps
  free_differ p n all first [] chain some fewer = tt
  free_differ p n all first (q ∷ qs) chain some fewer = (
    λ same. let many : length (q ∷ qs) ≡ n = all (q ∷ qs) (same, chain.1, chain.2) some in omega (arith, many, fewer),
    free_differ p n all (link (slot_bytes schema pages q)) qs chain.2 some.1 (omega (arith, fewer)),
  )

  free_once : (first : Place) (free : List Place) → AreFreeSlots schema pages first free → Each (λ p. 1 ≤ p.page) free → AreOnce free
  free_once first [] chain some = tt
  free_once first (p ∷ ps) chain some =
      let next = link (slot_bytes schema pages p) in
      let here : AreFreeSlots schema pages p (p ∷ ps) = (refl, chain.1, chain.2) in
      (free_differ p (suc (length ps)) (λ qs other more. free_many p qs (p ∷ ps) other here more some) next ps chain.2 some.1 (omega arith), free_once next ps chain.2 some.1)

  used_some : (places : List Place) (rows : List Row) (p : Place) → map used places ≡ stored_rows rows → IsOneOf places p → IsSome (used p)
  used_some [] rows p at of = absurd of
  used_some (q ∷ qs) [] p at of = absurd (cc)
  used_some (q ∷ qs) (row ∷ rows) p at (inl e) =
      let here : used q ≡ Some (stamp_row (drop 1 schema.keys) row.stamps ++ row.bytes) = cc in
      subst (λ (q : Place). IsSome (used q)) (sym e) (rw here refl)
  used_some (q ∷ qs) (row ∷ rows) p at (inr of) = let rest : map used qs ≡ stored_rows rows = cc in used_some qs rows p rest of

  module _ (own : List ℕ) (places : List Place) (rows : List Row) (rows_at : map used places ≡ stored_rows rows) (first : Place) (free : List Place) (chain : AreFreeSlots schema pages first free)
      (every : (p : Place) → IsSlot own p ↔ Contains (places ++ free) p) where
    abbrev is_placed : Place → Bool
    is_placed p = is_some (find (is_same p) places)

    -- the slots of the rows
    abbrev pub slots_of : Slots
    slots_of p = if is_placed p then used p else None

    at_place : (p : Place) → is_placed p ≡ true → slots_of p ≡ used p
    at_place p is = rw is refl

    no_place : (p : Place) → is_placed p ≡ false → slots_of p ≡ None
    no_place p none = rw none refl

    at_from : (ps : List Place) (rs : List Row) → ((p : Place) → IsOneOf ps p → IsOneOf places p) → map used ps ≡ stored_rows rs → AreAt schema slots_of ps rs
    at_from [] [] within at = tt
    at_from [] (row ∷ rs) within at = absurd (cc)
    at_from (p ∷ ps) [] within at = absurd (cc)
    at_from (p ∷ ps) (row ∷ rs) within at =
        let here : used p ≡ Some (stamp_row (drop 1 schema.keys) row.stamps ++ row.bytes) = cc in
        let rest : map used ps ≡ stored_rows rs = cc in
        (at_place p (one_found p places (within p (inl refl))) ∙ here ∙ ap Some (sym (stored_same row)), at_from ps rs (λ q of. within q (inr of)) rest)

    pub placed : IsPlaced schema slots_of places rows
    placed = record {
      rows_at = at_from places rows (λ p of. of) rows_at;
      no_more = λ p some. either (is_placed p) (IsSome (find (is_same p) places)) (λ yes. yes) (λ no. absurd (some_none (slots_of p) some (no_place p no)));
    }

    place_of : (p : Place) → IsOneOf (places ++ free) p → IsPlaceOf (room shape) own p
    place_of p of = slot_holds own p ((every p).1 (contains (places ++ free) p of))

    pub keeps : KeepsSlots (room shape) own (used_at shape pages) (behind_at shape pages) slots_of first
    keeps = record {
      free = free;
      chain = free_hold first free (each_one (λ p. p.slot < room shape) free (λ p of. (place_of p (behind places free p of)).slot)) chain;
      once = free_once first free chain (each_one (λ p. 1 ≤ p.page) free (λ p of. (place_of p (behind places free p of)).some));
      used_are = λ p bytes is. either (is_placed p) (IsPlaceOf (room shape) own p × (used_at shape pages p ≡ Some bytes))
          (λ yes. let place = place_of p (in_front places free p (found_one p places yes)) in (place, used_same p place.slot ∙ sym (at_place p yes) ∙ is))
          (λ no. let none = no_place p no in absurd (cc));
      free_are = each_one (λ p. IsPlaceOf (room shape) own p × (slots_of p ≡ None)) free (λ p of. (
        place_of p (behind places free p of),
        either (is_placed p) (slots_of p ≡ None) (λ yes. at_place p yes ∙ free_unused first free p chain of) (no_place p),
      ));
      every = λ p of none. elim (one_part places free p (one_of (places ++ free) p ((every p).0 (slot_held own p of)))) [
        | inl at ↦ absurd (some_none (used p) (used_some places rows p rows_at at) (sym (at_place p (one_found p places at)) ∙ none))
        | inr is ↦ is
      ];
    }
