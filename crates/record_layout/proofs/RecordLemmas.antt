-- The own places of entries, with the lengths of the groups, are a layout.
use Rattle.std.proofs.Common.{◌≡◌, ℕ, zero, suc, ◌+◌, ◌<◌, ◌≤◌, Bool, true, false, ◌||◌, cond, ltb, List, [], ◌∷◌, ◌++◌, length, map, get_or, Option, Some, None, refl, sym, ap, subst, ◌∙◌, arith, append_assoc}
use Rattle.std.specs.Prelude.{is_none, is_some, IsNone, IsFalse, bytes_eq}
use Rattle.std.specs.List.{AllPairs, AllByRecursion as ByRecursion}
use Rattle.std.proofs.lemmas.Bool.{false≢true}
use Rattle.std.proofs.lemmas.Bool.Decides.{nat_tests, Decides-eqb}
use Rattle.std.proofs.lemmas.Cmp.{nat_list_eq_equiv}
use Rattle.std.proofs.lemmas.Slice.Eq.{bytes_eq-Decides}
use Rattle.std.proofs.lemmas.List.{append-nil}
use Rattle.std.proofs.lemmas.List.Elements.{All-from_recursion}
use Rattle.record_layout.specs.Layout.{Entry, Placed, Structure, width, placed, places, is_nothing, IsWellFormed, is_one, is_named, is_name_of, IsLayout, IsRecord, length_of}
use Rattle.record_layout.specs.Layout.Structure.{Nothing, Elementary, Group}
use Rattle.record_layout.specs.LayoutFault.{is_level_fit}
use Rattle.record_layout.specs.Placing.{PlacedEntry, place_of, ArePlaced, HavePlaces, members_length, with_length, with_group_lengths}
use Rattle.record_layout.proofs.PictureLemmas.{some_picture}
use Rattle.record_layout.proofs.StructureLemmas.{behind, AreDeeper, own_places, placed_group, placed_picture, entries_written, IsUpTo, IsBelow, are_items, in_place, two_up}

-- ---- the lengths of groups

abbrev members : ℕ → List PlacedEntry → ℕ
members level [] = 0
members level (item ∷ items) = cond (ltb level item.entry.level) (item.field.length + members level items) 0

members-is : (level : ℕ) (items : List PlacedEntry) → members_length level (map (λ item. item.entry) items) (map place_of items) ≡ members level items
members-is level [] = refl
members-is level (item ∷ items) = ap (λ n. cond (ltb level item.entry.level) (item.field.length + n) 0) (members-is level items)

abbrev lengthened : List PlacedEntry → List Placed
lengthened [] = []
lengthened (item ∷ items) = cond (is_none item.entry.picture) (with_length (place_of item) (members item.entry.level items)) (place_of item) ∷ lengthened items

lengthened-is : (items : List PlacedEntry) → with_group_lengths (map (λ item. item.entry) items) (map place_of items) ≡ lengthened items
lengthened-is [] = refl
lengthened-is (item ∷ items) = λ i. cond (is_none item.entry.picture) (with_length (place_of item) (members-is item.entry.level items i)) (place_of item) ∷ lengthened-is items i

-- no members where the next item is not deeper
members_none : (level : ℕ) (items : List PlacedEntry) → IsUpTo level items → members level items ≡ 0
members_none level [] up = refl
members_none level (item ∷ items) up = grind (arith, nat_tests)

-- a deeper item is a member
member_more : (a b n rest : ℕ) → a < b → cond (ltb a b) (n + rest) 0 ≡ n + rest
member_more a b n rest h = grind (arith, nat_tests)

members_of : (offset inner level : ℕ) (s : Structure) (rest : List PlacedEntry) → level < inner → IsWellFormed inner s → members level (own_places offset inner s ++ rest) ≡ width s + members level rest
members_of offset inner level Nothing rest below sound = omega arith
members_of offset inner level (Elementary name text picture after) rest below sound =
    let more = members_of (offset + picture.length) inner level after rest below sound.1 in
    member_more level inner picture.length (members level (own_places (offset + picture.length) inner after ++ rest)) below ∙ omega (arith, more)
members_of offset inner level (Group name within inside after) rest below sound =
    let first = own_places offset within inside in
    let others = own_places (offset + width inside) inner after in
    let there = ap (members level) (append_assoc first others rest) in
    let more = members_of offset within level inside (others ++ rest) (omega (arith, below, sound.0)) sound.3 in
    let last = members_of (offset + width inside) inner level after rest below sound.4 in
    member_more level inner 0 (members level ((first ++ others) ++ rest)) below ∙ omega (arith, there, more, last)

up_to_here : (offset level : ℕ) (s : Structure) (rest : List PlacedEntry) → IsUpTo level rest → IsUpTo level (own_places offset level s ++ rest)
up_to_here offset level Nothing rest up = up
up_to_here offset level (Elementary name text picture after) rest up = omega arith
up_to_here offset level (Group name within inside after) rest up = omega arith

up_to_deeper : (level inner : ℕ) (items : List PlacedEntry) → level < inner → IsUpTo level items → IsUpTo inner items
up_to_deeper level inner [] below up = tt
up_to_deeper level inner (item ∷ items) below up = omega (arith, below, up)

lengthened_places : (offset level : ℕ) (s : Structure) (rest : List PlacedEntry) → IsWellFormed level s → IsUpTo level rest → lengthened (own_places offset level s ++ rest) ≡ places offset s ++ lengthened rest
lengthened_places offset level Nothing rest sound up = refl
lengthened_places offset level (Elementary name text picture after) rest sound up =
    ap (λ (xs : List Placed). placed name offset picture.length picture.numeric ∷ xs) (lengthened_places (offset + picture.length) level after rest sound.1 up)
lengthened_places offset level (Group name within inside after) rest sound up =
    let first = own_places offset within inside in
    let others = own_places (offset + width inside) level after in
    let here = up_to_here (offset + width inside) level after rest up in
    let count : members level ((first ++ others) ++ rest) ≡ width inside =
    omega (arith, ap (members level) (append_assoc first others rest), members_of offset within level inside (others ++ rest) sound.0 sound.3, members_none level (others ++ rest) here) in
    let tail : lengthened ((first ++ others) ++ rest) ≡ (places offset inside ++ places (offset + width inside) after) ++ lengthened rest =
    ap lengthened (append_assoc first others rest)
    ∙ (lengthened_places offset within inside (others ++ rest) sound.3 (up_to_deeper level within (others ++ rest) sound.0 here)
    ∙ (ap (λ (xs : List Placed). places offset inside ++ xs) (lengthened_places (offset + width inside) level after rest sound.4 up)
    ∙ sym (append_assoc (places offset inside) (places (offset + width inside) after) (lengthened rest)))) in
    λ i. placed name offset (count i) false ∷ tail i

-- ---- one record

fit_two : (last : Entry) (before : List Entry) (items : List PlacedEntry) (level : ℕ) → is_level_fit (behind (last ∷ before) items) level ≡ true → 2 ≤ level
fit_two last before [] level h = (two_up last before level h).0
fit_two last before (item ∷ items) level h = fit_two item.entry (last ∷ before) items level h

all_two : (last : Entry) (before : List Entry) (total : ℕ) (items : List PlacedEntry) → ArePlaced (last ∷ before) total items → AreDeeper 1 items
all_two last before total [] h = tt
all_two last before total (item ∷ items) h =
    ((two_up last before item.entry.level (in_place (last ∷ before) item.entry h.0).fit).0, all_two item.entry (last ∷ before) (total + item.field.length) items h.2)

-- no item of level 01 stands behind the first one
nothing_after : (offset : ℕ) (s : Structure) (rest : List PlacedEntry) → AreDeeper 1 (own_places offset 1 s ++ rest) → is_nothing s ≡ true
nothing_after offset Nothing rest h = refl
nothing_after offset (Elementary name text picture after) rest h = absurd (omega (arith, h.0))
nothing_after offset (Group name within inside after) rest h = absurd (omega (arith, h.0))

deeper_last : (level : ℕ) (xs ys : List PlacedEntry) → AreDeeper level (xs ++ ys) → AreDeeper level ys
deeper_last level [] ys h = h
deeper_last level (x ∷ xs) ys h = deeper_last level xs ys h.1

abbrev tail_of : List PlacedEntry → List PlacedEntry
tail_of [] = []
tail_of (item ∷ items) = items

one_item : (s : Structure) (rest : List PlacedEntry) → IsFalse (is_nothing s) → AreDeeper 1 (tail_of (own_places 0 1 s ++ rest)) → is_one s ≡ true
one_item Nothing rest some h = absurd (false≢true (sym some))
one_item (Elementary name text picture after) rest some h = nothing_after (0 + picture.length) after rest h
one_item (Group name within inside after) rest some h =
    let others = own_places (0 + width inside) 1 after in
    nothing_after (0 + width inside) after rest (deeper_last 1 (own_places 0 within inside) (others ++ rest) (subst (AreDeeper 1) (append_assoc (own_places 0 within inside) others rest) h))

-- nothing of level 01 is left
none_left : (s : Structure) (total : ℕ) (rest : List PlacedEntry) → IsFalse (is_nothing s) → IsBelow 1 rest → ArePlaced (behind [] (own_places 0 1 s)) total rest → rest ≡ []
none_left s total [] some below h = refl
none_left Nothing total (item ∷ rest) some below h = absurd (false≢true (sym some))
none_left (Elementary name text picture after) total (item ∷ rest) some below h =
    let first = placed_picture 0 1 name text picture in
    absurd (omega (arith, below, fit_two first.entry [] (own_places (0 + picture.length) 1 after) item.entry.level (in_place _ item.entry h.0).fit))
none_left (Group name within inside after) total (item ∷ rest) some below h =
    let first = placed_group 0 1 name in
    absurd (omega (arith, below, fit_two first.entry [] (own_places 0 within inside ++ own_places (0 + width inside) 1 after) item.entry.level (in_place _ item.entry h.0).fit))

-- ---- each item within the record

some_width : (level : ℕ) (s : Structure) → IsWellFormed level s → IsFalse (is_nothing s) → 1 ≤ width s
some_width level Nothing sound some = absurd (false≢true (sym some))
some_width level (Elementary name text picture after) sound some = omega (arith, some_picture text picture sound.0)
some_width level (Group name within inside after) sound some = omega (arith, some_width within inside sound.3 sound.2)

abbrev IsInside : ℕ → Placed → Type 0
IsInside end item = (1 ≤ item.field.length) × (item.field.offset + item.field.length ≤ end)

inside-append : (end : ℕ) (xs ys : List Placed) → ByRecursion (IsInside end) xs → ByRecursion (IsInside end) ys → ByRecursion (IsInside end) (xs ++ ys)
inside-append end [] ys h k = k
inside-append end (x ∷ xs) ys h k = (h.0, inside-append end xs ys h.1 k)

each_inside : (offset level end : ℕ) (s : Structure) → IsWellFormed level s → offset + width s ≤ end → ByRecursion (IsInside end) (places offset s)
each_inside offset level end Nothing sound room = tt
each_inside offset level end (Elementary name text picture after) sound room =
    ((some_picture text picture sound.0, omega (arith, room)), each_inside (offset + picture.length) level end after sound.1 (omega (arith, room)))
each_inside offset level end (Group name within inside after) sound room =
    ((some_width within inside sound.3 sound.2, omega (arith, room)), inside-append end (places offset inside) (places (offset + width inside) after) (each_inside offset within end inside sound.3 (omega (arith, room))) (each_inside (offset + width inside) level end after sound.4 (omega (arith, room))))

no_width : (s : Structure) → is_nothing s ≡ true → width s ≡ 0
no_width Nothing e = refl
no_width (Elementary name text picture after) e = absurd (false≢true e)
no_width (Group name within inside after) e = absurd (false≢true e)

length_of-places : (s : Structure) → is_one s ≡ true → length_of (places 0 s) ≡ width s
length_of-places Nothing e = refl
length_of-places (Elementary name text picture after) e = omega (arith, no_width after e)
length_of-places (Group name within inside after) e = omega (arith, no_width after e)

one_is_some : (s : Structure) → is_one s ≡ true → IsFalse (is_nothing s)
one_is_some Nothing e = absurd (false≢true e)
one_is_some (Elementary name text picture after) e = refl
one_is_some (Group name within inside after) e = refl

-- the record has 1 to 4,000 characters, and each item has one or more of them
pub is_record : (entries : List Entry) (layout : List Placed) → IsLayout entries layout → IsRecord layout
is_record entries layout h =
    let s = h.structure in
    let long : length_of (places 0 s) ≡ width s = length_of-places s h.one in
    let some = some_width 1 s h.sound (one_is_some s h.one) in
    let of_structure : IsRecord (places 0 s) = record {
      some = omega (arith, long, some);
      short = omega (arith, long, h.short);
      within = All-from_recursion (IsInside (length_of (places 0 s))) (places 0 s) (each_inside 0 1 (length_of (places 0 s)) s h.sound (omega (arith, long)));
    } in
    subst IsRecord (sym h.layout_is) of_structure

-- ---- names

nor : (a b : Bool) → (a || b) ≡ false → (a ≡ false) × (b ≡ false)
nor true b e = absurd (false≢true (sym e))
nor false b e = (refl, e)

neither : (a b : Bool) → a ≡ false → b ≡ false → (a || b) ≡ false
neither true b e f = e
neither false b e f = f

-- a name that no entry before has is not the name of this one of them
abbrev IsNamedBefore : Entry → List Entry → Type 0
IsNamedBefore entry before = (name : Option (List ℕ)) → is_name_of before name ≡ false → is_name_of (entry ∷ []) name ≡ false

stands_first : (entry : Entry) (before : List Entry) → IsNamedBefore entry (entry ∷ before)
stands_first entry before None e = refl
stands_first entry before (Some name) e = neither (is_named name entry.name) false (nor (is_named name entry.name) _ e).0 refl

stands_more : (entry next : Entry) (before : List Entry) → IsNamedBefore entry before → IsNamedBefore entry (next ∷ before)
stands_more entry next before stands None e = refl
stands_more entry next before stands (Some name) e = stands (Some name) (nor (is_named name next.name) (is_name_of before (Some name)) e).1

-- a name that this entry does not have is another one the other way round too
other_name : (entry : Entry) (name : List ℕ) (has : Option (List ℕ)) → entry.name ≡ Some name → is_name_of (entry ∷ []) has ≡ false → is_named name has ≡ false
other_name entry name None is e = refl
other_name entry name (Some other) is e =
    let here : bytes_eq name other ≡ false = subst (λ o. is_named other o ≡ false) is (nor (is_named other entry.name) false e).0 in
    nat_list_eq_equiv.symm other name ∙ here

none_named : (entry : Entry) (name : List ℕ) (before : List Entry) (total : ℕ) (items : List PlacedEntry) → entry.name ≡ Some name → IsNamedBefore entry before → ArePlaced before total items → is_name_of (map (λ item. item.entry) items) (Some name) ≡ false
none_named entry name before total [] is stands h = refl
none_named entry name before total (item ∷ items) is stands h =
    neither (is_named name item.entry.name) _
    (other_name entry name item.entry.name is (stands item.entry.name (in_place before item.entry h.0).unnamed))
    (none_named entry name (item.entry ∷ before) (total + item.field.length) items is (stands_more entry item.entry before stands) h.2)

unnamed_after : (entry : Entry) (before : List Entry) (total : ℕ) (items : List PlacedEntry) (name : Option (List ℕ)) → entry.name ≡ name → IsNamedBefore entry before → ArePlaced before total items → is_name_of (map (λ item. item.entry) items) name ≡ false
unnamed_after entry before total items None is stands h = refl
unnamed_after entry before total items (Some name) is stands h = none_named entry name before total items is stands h

-- no entry has the name of one behind it
abbrev pub AreNamedApart : List Entry → Type 0
AreNamedApart [] = Unit {0}
AreNamedApart (entry ∷ after) = IsFalse (is_name_of after entry.name) × AreNamedApart after

named_apart : (before : List Entry) (total : ℕ) (items : List PlacedEntry) → ArePlaced before total items → AreNamedApart (map (λ item. item.entry) items)
named_apart before total [] h = tt
named_apart before total (item ∷ items) h =
    (unnamed_after item.entry (item.entry ∷ before) (total + item.field.length) items item.entry.name refl (stands_first item.entry before) h.2, named_apart (item.entry ∷ before) (total + item.field.length) items h.2)

unnamed : (after : List Entry) (name : Option (List ℕ)) → is_name_of after name ≡ false → (j : ℕ) (d : Entry) → j < length after → name ≡ (get_or after j d).name → is_some name ≡ false
unnamed after None h j d within same = refl
unnamed [] (Some name) h j d within same = absurd (omega (arith, within))
unnamed (first ∷ after) (Some name) h zero d within same =
    let named : is_named name first.name ≡ true = subst (λ o. is_named name o ≡ true) same ((bytes_eq-Decides name name).1 refl) in
    absurd (false≢true (sym (nor (is_named name first.name) _ h).0 ∙ named))
unnamed (first ∷ after) (Some name) h (suc j) d within same = unnamed after (Some name) (nor (is_named name first.name) _ h).1 j d (omega (arith, within)) same

-- two entries of one name have none
own_names : (entries : List Entry) → AreNamedApart entries → (i j : ℕ) (d : Entry) → i < j → j < length entries → (get_or entries i d).name ≡ (get_or entries j d).name → is_some (get_or entries i d).name ≡ false
own_names [] h i j d before within = absurd (omega (arith, within))
own_names (entry ∷ after) h zero zero d before within = absurd (omega (arith, before))
own_names (entry ∷ after) h zero (suc j) d before within = unnamed after entry.name h.0 j d (omega (arith, within))
own_names (entry ∷ after) h (suc i) zero d before within = absurd (omega (arith, before))
own_names (entry ∷ after) h (suc i) (suc j) d before within = own_names after h.1 i j d (omega (arith, before)) (omega (arith, within))

not_named : (after : List Entry) (name : Option (List ℕ)) → ((j : ℕ) (d : Entry) → j < length after → name ≡ (get_or after j d).name → is_some name ≡ false) → is_name_of after name ≡ false
not_named after None h = refl
not_named [] (Some name) h = refl
not_named (first ∷ after) (Some name) h =
    neither (is_named name first.name) _ (other first.name (h 0 first (omega arith))) (not_named after (Some name) (λ j d within. h (suc j) d (omega (arith, within))))
  where
    by_test : (own : List ℕ) (b : Bool) → bytes_eq own name ≡ b → (Some name ≡ Some own → true ≡ false) → b ≡ false
    by_test own true e k = k (ap Some (sym ((bytes_eq-Decides own name).0 e)))
    by_test own false e k = refl

    other : (has : Option (List ℕ)) → (Some name ≡ has → true ≡ false) → is_named name has ≡ false
    other None k = refl
    other (Some own) k = by_test own (bytes_eq own name) refl k

pub apart_by_names : (entries : List Entry) → AllPairs (λ a b. a.name ≡ b.name → IsNone a.name) entries → AreNamedApart entries
apart_by_names [] h = tt
apart_by_names (entry ∷ after) h =
    (not_named after entry.name (λ j d within. h 0 (suc j) d (omega arith) (omega (arith, within))), apart_by_names after (λ i j d before within. h (suc i) (suc j) d (omega (arith, before)) (omega (arith, within))))

-- ---- the layout

laid_items : (items : List PlacedEntry) → ArePlaced [] 0 items → IsLayout (map (λ item. item.entry) items) (lengthened items)
laid_items [] h = absurd (false≢true (sym h))
laid_items (item ∷ items) h =
    let level_is : item.entry.level ≡ 1 = (Decides-eqb item.entry.level 1).0 (in_place [] item.entry h.0).fit in
    let r = are_items (length (item ∷ items)) 1 0 [] (item ∷ items) (omega arith) (omega arith) (omega (arith, level_is)) h in
    let some = r.begun level_is in
    let own = own_places 0 1 r.structure in
    let none : r.rest ≡ [] = none_left r.structure (0 + width r.structure) r.rest some r.below r.fits in
    let own_is : item ∷ items ≡ own ++ [] = r.is ∙ ap (λ (xs : List PlacedEntry). own ++ xs) none in
    let behind_first = all_two item.entry [] (0 + item.field.length) items h.2 in
    record {
      structure = r.structure;
      one = one_item r.structure [] some (subst (λ xs. AreDeeper 1 (tail_of xs)) own_is behind_first);
      entries_are = ap (map (λ (placed : PlacedEntry). placed.entry)) (own_is ∙ append-nil own) ∙ entries_written 0 1 r.structure;
      sound = r.sound;
      names = own_names (map (λ placed. placed.entry) (item ∷ items)) (named_apart [] 0 (item ∷ items) h);
      short = omega (arith, r.short);
      layout_is = ap lengthened own_is ∙ (lengthened_places 0 1 r.structure [] r.sound tt ∙ append-nil (places 0 r.structure));
    }

-- entries that have places are laid out by them, once the groups have their lengths
pub laid : (entries : List Entry) (own : List Placed) → HavePlaces entries own → IsLayout entries (with_group_lengths entries own)
laid entries own h =
    let P : List Entry → List Placed → Type 0 = λ es ps. IsLayout es (with_group_lengths es ps) in
    let here : P (map (λ item. item.entry) h.0) (map place_of h.0) = subst (IsLayout (map (λ (item : PlacedEntry). item.entry) h.0)) (sym (lengthened-is h.0)) (laid_items h.0 h.3) in
    subst (λ ps. P entries ps) h.2 (subst (λ es. P es (map place_of h.0)) h.1 here)
