-- Places that are given entry by entry, and lengths that are given group by group.
use Rattle.std.proofs.Common.{◌≡◌, ℕ, ◌+◌, ◌<◌, ◌≤◌, Bool, true, false, not, ◌&&◌, cond, List, [], ◌∷◌, ◌++◌, length, take, drop, map, reverse, get_or, set, option_map, Option, Some, None, refl, sym, ap, subst, ◌∙◌, inl, inr, arith, append_assoc}
use Rattle.arrayvec.specs.ArrayString.{ArrayString as Text}
use Rattle.std.specs.Prelude.{is_none, is_some, IsTrue, IsFalse, MatchBool}
use Rattle.std.specs.List.{sum_by}
use Rattle.std.proofs.lemmas.Bool.{false≢true}
use Rattle.std.proofs.lemmas.List.{append-nil, length-map, map_push, take_all, take_at, take_more, drop_at, drop_all, drop_more, set_at, get_or-take, get_or_default, length-take-le, length_push}
use Rattle.std.proofs.lemmas.List.Sums.{sum_by-cons}
use Rattle.std.proofs.lemmas.List.Folds.{fold-map}
use Rattle.record_layout.specs.declared.item.Field.{Field}
use Rattle.record_layout.specs.declared.item.Item.{Item}
use Rattle.record_layout.specs.declared.item.Placed.{Placed as Declared}
use Rattle.record_layout.specs.Layout.{Entry, Placed, entry_of_item, item_of, is_name_of, places, IsLayout}
use Rattle.record_layout.specs.declared.fault.LayoutFault.{LayoutFault}
use Rattle.record_layout.specs.declared.fault.LayoutFault.TheVariants.{BadLevel, DuplicateName, Empty}
use Rattle.record_layout.specs.LayoutFault.{is_behind_empty, is_level_fit, is_in_place, is_unfinished, Lengthens, HasPictureFault, IsFaultOf, IsFirstFault}
use Rattle.record_layout.specs.Placing.{PlacedEntry, place_of, IsOwnPlace, ArePlaced, HavePlaces, members_length, with_length, with_group_lengths}
use Rattle.record_layout.specs.NamesInOrder.{HasNamesOf}
use Rattle.std.specs.BTreeSet.{BTreeSet}
use denote.Ref.{Bor}
use Rattle.record_layout.proofs.LevelLemmas.{reverse_more}
use Rattle.record_layout.proofs.StructureLemmas.{behind}
use Rattle.record_layout.proofs.RecordLemmas.{laid}

-- ---- entry by entry

-- places so far, behind which the entries that are left decide
pub record SoFar (entries before after : List Entry) (total : ℕ) (own : List Placed) : Type 0 where
  pub onward : (items : List PlacedEntry) → map (λ item. item.entry) items ≡ after → ArePlaced before total items → HavePlaces entries (own ++ map place_of items)
  pub refused : (fault : LayoutFault) → IsFirstFault before total after fault → IsFirstFault [] 0 entries fault
  pub limit : total ≤ 4000

pub start : (entries : List Entry) → SoFar entries [] entries 0 []
start entries = record { onward = λ items is h. (items, is, refl, h); refused = λ fault h. h; limit = omega arith }

next_total : (total : ℕ) (picture : Option (List ℕ)) (field : Field) → total ≤ 4000 → IsOwnPlace total picture field → Lengthens total picture (total + field.length)
next_total total None field limit own = omega (arith, ap (λ (f : Field). f.length) own)
next_total total (Some text) field limit own =
    let length : field.length ≡ own.0.length = ap (λ (f : Field). f.length) own.3 in (own.0, own.1, omega (arith, length), omega (arith, length, own.2))

pub step : (entries before after : List Entry) (entry : Entry) (total : ℕ) (own : List Placed) (field : Field) → SoFar entries before (entry ∷ after) total own → IsTrue (is_in_place before entry) → IsOwnPlace total entry.picture field → total + field.length ≤ 4000 → SoFar entries (entry ∷ before) after (total + field.length) (own ++ record { name = entry.name; field = field } ∷ [])
step entries before after entry total own field so there place limit =
    let item : PlacedEntry = record { entry = entry; field = field } in
    record {
      onward = λ items is h.
          subst (HavePlaces entries) (sym (append_assoc own (place_of item ∷ []) (map place_of items)))
          (so.onward (item ∷ items) (ap (λ (xs : List Entry). entry ∷ xs) is) (there, place, h));
      refused = λ fault h. so.refused fault (inr (there, (total + field.length, next_total total entry.picture field so.limit place, h)));
      limit = limit;
    }

pub finish : (entries before : List Entry) (total : ℕ) (own : List Placed) → SoFar entries before [] total own → IsFalse (is_unfinished before) → HavePlaces entries own
finish entries before total own so done = subst (HavePlaces entries) (append-nil own) (so.onward [] refl done)

pub unfinished : (entries before : List Entry) (total : ℕ) (own : List Placed) → SoFar entries before [] total own → IsTrue (is_unfinished before) → IsFirstFault [] 0 entries Empty
unfinished entries before total own so h = so.refused Empty (h, refl)

-- the fault of the picture is that of an entry that is in place otherwise
pub fault_of_picture : (before : List Entry) (total : ℕ) (entry : Entry) (fault : LayoutFault) → IsTrue (is_in_place before entry) → HasPictureFault total entry.picture fault → IsFaultOf before total entry fault
fault_of_picture before total entry fault there h =
    last_test (is_behind_empty before entry.level) (is_level_fit before entry.level) (is_name_of before entry.name) (fault ≡ Empty) (fault ≡ BadLevel) (fault ≡ DuplicateName) (HasPictureFault total entry.picture fault) there h
  where
    last_test : (behind fit named : Bool) (A B C D : Type 0) → IsTrue (not behind && fit && not named) → D → MatchBool behind A (MatchBool (not fit) B (MatchBool named C D))
    last_test false true false A B C D there h = h
    last_test false true true A B C D there h = absurd (false≢true there)
    last_test false false named A B C D there h = absurd (false≢true there)
    last_test true fit named A B C D there h = absurd (false≢true there)

-- ---- how many characters there are

own_sum : (before : List Entry) (total : ℕ) (items : List PlacedEntry) → total ≤ 4000 → ArePlaced before total items → total + sum_by (λ place. place.field.length) (map place_of items) ≤ 4000
own_sum before total [] limit h = omega (arith, limit)
own_sum before total (item ∷ items) limit h =
    let next : total + item.field.length ≤ 4000 = own_limit total item.entry.picture item.field limit h.1 in
    omega (arith, sum_by-cons (λ (place : Placed). place.field.length) (place_of item) (map place_of items), own_sum (item.entry ∷ before) (total + item.field.length) items next h.2)
  where
    own_limit : (total : ℕ) (picture : Option (List ℕ)) (field : Field) → total ≤ 4000 → IsOwnPlace total picture field → total + field.length ≤ 4000
    own_limit total None field limit own = omega (arith, limit, ap (λ (f : Field). f.length) own)
    own_limit total (Some text) field limit own = omega (arith, own.2, ap (λ (f : Field). f.length) own.3)

pub short_places : (entries : List Entry) (own : List Placed) → HavePlaces entries own → sum_by (λ place. place.field.length) own ≤ 4000
short_places entries own h = subst (λ ps. sum_by (λ (place : Placed). place.field.length) ps ≤ 4000) h.2 (omega (arith, own_sum [] 0 h.0 (omega arith) h.3))

pub as_many : (entries : List Entry) (own : List Placed) → HavePlaces entries own → length entries ≡ length own
as_many entries own h =
    sym (ap length h.1) ∙ (length-map h.0 (λ (item : PlacedEntry). item.entry) ∙ (sym (length-map h.0 place_of) ∙ ap length h.2))

-- ---- over slices

-- the places so far, at the item of index i
abbrev pub PlacedUpTo : List Item → ℕ → ℕ → List Declared → Type 0
PlacedUpTo items i total places = SoFar (map entry_of_item items) (reverse (map entry_of_item (take i items))) (map entry_of_item (drop i items)) total (map item_of places)

pub next : (items : List Item) (i : ℕ) (item : Item) (total : ℕ) (places : List Declared) (field : Field) → PlacedUpTo items i total places → i < length items → item ≡ get_or items i item → IsTrue (is_in_place (reverse (map entry_of_item (take i items))) (entry_of_item item)) → IsOwnPlace total (entry_of_item item).picture field → total + field.length ≤ 4000 → PlacedUpTo items (i + 1) (total + field.length) (places ++ record { name = item.name; field = field } ∷ [])
next items i item total places field so h is there place limit =
    let all = map entry_of_item items in
    let before = reverse (map entry_of_item (take i items)) in
    let after = map entry_of_item (drop (i + 1) items) in
    let here : map entry_of_item (drop i items) ≡ entry_of_item item ∷ after = ap (map entry_of_item) (drop_more items i item h) ∙ ap (λ (read : Item). entry_of_item read ∷ after) (sym is) in
    let longer : reverse (map entry_of_item (take (i + 1) items)) ≡ entry_of_item item ∷ before = reverse_more items i item h ∙ ap (λ (read : Item). entry_of_item read ∷ before) (sym is) in
    let placed : Declared = record { name = item.name; field = field } in
    let more = step all before after (entry_of_item item) total (map item_of places) field (subst (λ rest. SoFar all before rest total (map item_of places)) here so) there place limit in
    subst (λ own. SoFar all (reverse (map entry_of_item (take (i + 1) items))) after (total + field.length) own) (sym (map_push item_of places placed))
    (subst (λ first. SoFar all first after (total + field.length) (map item_of places ++ item_of placed ∷ [])) (sym longer) more)

-- the item is the first with a fault
pub refused_at : (items : List Item) (i : ℕ) (item : Item) (total : ℕ) (places : List Declared) (fault : LayoutFault) → PlacedUpTo items i total places → i < length items → item ≡ get_or items i item → IsFaultOf (reverse (map entry_of_item (take i items))) total (entry_of_item item) fault → IsFirstFault [] 0 (map entry_of_item items) fault
refused_at items i item total places fault so h is found =
    let after = map entry_of_item (drop (i + 1) items) in
    let here : map entry_of_item (drop i items) ≡ entry_of_item item ∷ after = ap (map entry_of_item) (drop_more items i item h) ∙ ap (λ (read : Item). entry_of_item read ∷ after) (sym is) in
    so.refused fault (subst (λ rest. IsFirstFault (reverse (map entry_of_item (take i items))) total rest fault) (sym here) (inl found))

-- the names up to an item, with its own
pub names_next : (names : BTreeSet (Bor (List ℕ))) (items : List Item) (i : ℕ) (item : Item) → i < length items → item ≡ get_or items i item → HasNamesOf names (entry_of_item item ∷ reverse (map entry_of_item (take i items))) → HasNamesOf names (reverse (map entry_of_item (take (i + 1) items)))
names_next names items i item h is known =
    subst (HasNamesOf names) (sym (reverse_more items i item h ∙ ap (λ (read : Item). entry_of_item read ∷ reverse (map entry_of_item (take i items))) (sym is))) known

pub at_end : (items : List Item) (i total : ℕ) (places : List Declared) → PlacedUpTo items i total places → length items ≤ i → SoFar (map entry_of_item items) (reverse (map entry_of_item items)) [] total (map item_of places)
at_end items i total places so h =
    subst (λ rest. SoFar (map entry_of_item items) (reverse (map entry_of_item items)) rest total (map item_of places)) (ap (map entry_of_item) (drop_all i items h))
    (subst (λ read. SoFar (map entry_of_item items) (reverse (map entry_of_item read)) (map entry_of_item (drop i items)) total (map item_of places)) (take_all i items h) so)

pub sum_more : (places : List Declared) (i : ℕ) (place : Declared) → i < length places → sum_by (λ place. place.field.length) (drop i places) ≡ (get_or places i place).field.length + sum_by (λ place. place.field.length) (drop (i + 1) places)
sum_more places i place h =
    let f : Declared → ℕ = λ place. place.field.length in
    ap (sum_by f) (drop_more places i place h) ∙ sum_by-cons f (get_or places i place) (drop (i + 1) places)

-- the items that a vector holds after they were changed in place
refilled : (n : ℕ) (new old : List Declared) → length new ≡ n → take n (new ++ drop (length new) old) ≡ new
refilled n new old h = take_at new (drop (length new) old) n h

pub laid_refilled : (entries : List Entry) (old before new : List Declared) (n : ℕ) → HavePlaces entries (map item_of old) → before ≡ old → map item_of new ≡ with_group_lengths entries (map item_of before) → length new ≡ n → IsLayout entries (map item_of (take n (new ++ drop (length new) old)))
laid_refilled entries old before new n h same is long =
    let own = map item_of old in
    let set : map item_of new ≡ with_group_lengths entries own = is ∙ ap (λ (xs : List Declared). with_group_lengths entries (map item_of xs)) same in
    subst (IsLayout entries) (sym (ap (map item_of) (refilled n new old long) ∙ set)) (laid entries own h)

-- ---- the groups, one by one

-- before index i, the places have the lengths of their groups
pub record HaveLengths (items : List Item) (old places : List Declared) (i : ℕ) : Type 0 where
  pub so : with_group_lengths (map entry_of_item items) (map item_of old) ≡ map item_of (take i places) ++ with_group_lengths (map entry_of_item (drop i items)) (map item_of (drop i places))
  pub short : sum_by (λ place. place.field.length) (drop i places) ≤ 4000
  pub same : length items ≡ length places

-- the place at an index with the length of its group, if it is one
abbrev pub with_own_length : List Item → List Declared → ℕ → Item → Placed → Placed
with_own_length items places i item place =
    cond (is_none (entry_of_item item).picture) (with_length place (members_length item.level (map entry_of_item (drop (i + 1) items)) (map item_of (drop (i + 1) places)))) place

pub next_length : (items : List Item) (old places new : List Declared) (i : ℕ) (item : Item) (place changed : Declared) → HaveLengths items old places i → i < length items → item ≡ get_or items i item → place ≡ get_or places i place → take (i + 1) new ≡ take i places ++ changed ∷ [] → drop (i + 1) new ≡ drop (i + 1) places → length new ≡ length places → item_of changed ≡ with_own_length items places i item (item_of place) → HaveLengths items old new (i + 1)
next_length items old places new i item place changed so h item_is place_is front back long changed_is =
    let there : i < length places = omega (arith, so.same, h) in
    let items_are : drop i items ≡ item ∷ drop (i + 1) items = drop_more items i item h ∙ ap (λ (x : Item). x ∷ drop (i + 1) items) (sym item_is) in
    let places_are : drop i places ≡ place ∷ drop (i + 1) places = drop_more places i place there ∙ ap (λ (x : Declared). x ∷ drop (i + 1) places) (sym place_is) in
    let rest = with_group_lengths (map entry_of_item (drop (i + 1) items)) (map item_of (drop (i + 1) places)) in
    let head : with_group_lengths (map entry_of_item (drop i items)) (map item_of (drop i places)) ≡ item_of changed ∷ rest =
    (λ j. with_group_lengths (map entry_of_item (items_are j)) (map item_of (places_are j))) ∙ ap (λ (x : Placed). x ∷ rest) (sym changed_is) in
    let front_is : map item_of (take (i + 1) new) ≡ map item_of (take i places) ++ item_of changed ∷ [] = ap (map item_of) front ∙ map_push item_of (take i places) changed in
    record {
      so = so.so ∙ (ap (λ (xs : List Placed). map item_of (take i places) ++ xs) head
          ∙ (sym (append_assoc (map item_of (take i places)) (item_of changed ∷ []) rest)
          ∙ (λ j. sym front_is j ++ with_group_lengths (map entry_of_item (drop (i + 1) items)) (map item_of (sym back j)))));
      short = omega (arith, ap (sum_by (λ (x : Declared). x.field.length)) back, sum_more places i place there, so.short);
      same = so.same ∙ sym long;
    }

-- a place that was changed where the list was split behind it
pub record IsChanged (places new : List Declared) (i : ℕ) (place changed : Declared) : Type 0 where
  pub place_is : place ≡ get_or places i place
  pub front : take (i + 1) new ≡ take i places ++ changed ∷ []
  pub back : drop (i + 1) new ≡ drop (i + 1) places

pub split_changed : (places here behind new : List Declared) (i : ℕ) (place changed : Declared) → i < length places → here ≡ take (i + 1) places → behind ≡ drop (i + 1) places → place ≡ get_or here i place → new ≡ set here i changed ++ behind → IsChanged places new i place changed
split_changed places here behind new i place changed h here_is behind_is place_is new_is =
    let read : place ≡ get_or places i place = place_is ∙ (ap (λ (xs : List Declared). get_or xs i place) here_is ∙ get_or-take (i + 1) places i place (omega arith)) in
    let count : length (take i places) ≡ i = length-take-le i places (omega (arith, h)) in
    let pushed : here ≡ take i places ++ place ∷ [] = here_is ∙ (take_more places i place h ∙ ap (λ (x : Declared). take i places ++ x ∷ []) (sym read)) in
    let set_is : set here i changed ≡ take i places ++ changed ∷ [] = ap (λ (xs : List Declared). set xs i changed) pushed ∙ set_at (take i places) place [] changed i count in
    let long : length (take i places ++ changed ∷ []) ≡ i + 1 = length_push (take i places) changed ∙ ap (λ n. n + 1) count in
    let parts : new ≡ (take i places ++ changed ∷ []) ++ drop (i + 1) places = new_is ∙ (λ j. set_is j ++ behind_is j) in
    record {
      place_is = read;
      front = ap (take (i + 1)) parts ∙ take_at (take i places ++ changed ∷ []) (drop (i + 1) places) (i + 1) long;
      back = ap (drop (i + 1)) parts ∙ drop_at (take i places ++ changed ∷ []) (drop (i + 1) places) (i + 1) long;
    }

-- a place that stays
pub stays : (places new : List Declared) (i : ℕ) (d : Declared) → i < length places → new ≡ places → IsChanged places new i (get_or places i d) (get_or places i d)
stays places new i d h same =
    record {
      place_is = get_or_default places i d (get_or places i d) h;
      front = ap (take (i + 1)) same ∙ take_more places i d h;
      back = ap (drop (i + 1)) same;
    }

pub is_group : (picture : Option Text) → is_some picture ≡ false → is_none (option_map (λ picture. picture.bytes) picture) ≡ true
is_group None e = refl
is_group (Some text) e = absurd (false≢true (sym e))

pub is_elementary : (picture : Option Text) → is_some picture ≡ true → is_none (option_map (λ picture. picture.bytes) picture) ≡ false
is_elementary None e = absurd (false≢true e)
is_elementary (Some text) e = refl

pub short_items : (entries : List Entry) (own : List Declared) → HavePlaces entries (map item_of own) → sum_by (λ place. place.field.length) own ≤ 4000
short_items entries own h =
    subst (λ n. n ≤ 4000) (fold-map (λ n (place : Placed). n + place.field.length) item_of 0 own) (short_places entries (map item_of own) h)

pub group_changed : (items : List Item) (own here : List Declared) (i : ℕ) (item : Item) (place : Declared) (long : ℕ) → is_none (entry_of_item item).picture ≡ true → place ≡ get_or here i place → long ≡ members_length item.level (map entry_of_item (drop (i + 1) items)) (map item_of (drop (i + 1) own)) → item_of (record { name = (get_or here i place).name; field = record { offset = (get_or here i place).field.offset; length = long; numeric = (get_or here i place).field.numeric } }) ≡ with_own_length items own i item (item_of place)
group_changed items own here i item place long group place_is long_is =
    let members_are = members_length item.level (map entry_of_item (drop (i + 1) items)) (map item_of (drop (i + 1) own)) in
    ap (λ (read : Declared). item_of (record { name = read.name; field = record { offset = read.field.offset; length = long; numeric = read.field.numeric } })) (sym place_is)
    ∙ (ap (with_length (item_of place)) long_is ∙ ap (λ b. cond b (with_length (item_of place) members_are) (item_of place)) (sym group))

pub unchanged : (items : List Item) (own : List Declared) (i : ℕ) (item : Item) (place : Declared) → is_none (entry_of_item item).picture ≡ false → item_of place ≡ with_own_length items own i item (item_of place)
unchanged items own i item place elementary =
    let members_are = members_length item.level (map entry_of_item (drop (i + 1) items)) (map item_of (drop (i + 1) own)) in
    ap (λ b. cond b (with_length (item_of place) members_are) (item_of place)) (sym elementary)
