-- Entries whose levels fit are the written items of a structure, and their places are the structure's.
use Rattle.std.proofs.Common.{◌≡◌, ℕ, zero, suc, ◌+◌, ◌<◌, ◌≤◌, Bool, true, false, not, ◌&&◌, ◌||◌, ◌⊎◌, cond, eqb, leb, List, [], ◌∷◌, ◌++◌, length, map, Option, Some, None, refl, sym, ap, subst, ◌∙◌, inl, inr, arith, append_assoc}
use Rattle.std.specs.Prelude.{is_none, IsTrue, IsFalse}
use Rattle.std.specs.List.{find}
use Rattle.std.specs.Option.{option_map_or}
use Rattle.std.proofs.lemmas.Bool.{false≢true}
use Rattle.std.proofs.lemmas.Bool.Decides.{nat_tests}
use Rattle.std.proofs.lemmas.List.{map-append, length-append}
use Rattle.std.proofs.Math.Nat.{add-zero}
use Rattle.record_layout.specs.declared.item.Field.{Field}
use Rattle.record_layout.specs.declared.picture.Picture.{Picture}
use Rattle.record_layout.specs.Layout.{Entry, Structure, written_items, width, is_nothing, IsWellFormed, is_name_of}
use Rattle.record_layout.specs.Layout.Structure.{Nothing, Elementary, Group}
use Rattle.record_layout.specs.LayoutFault.{is_behind_empty, is_open_level, is_level_fit, is_in_place}
use Rattle.record_layout.specs.Placing.{PlacedEntry, ArePlaced}

-- ---- tests

both : (a b : Bool) → (a && b) ≡ true → (a ≡ true) × (b ≡ true)
both true b e = (refl, e)
both false b e = absurd (false≢true e)

negated : (a : Bool) → not a ≡ true → a ≡ false
negated true e = absurd (false≢true e)
negated false e = refl

-- the tests that an entry in place passes
pub record IsInPlace (before : List Entry) (entry : Entry) : Type 0 where
  pub not_behind_empty : is_behind_empty before entry.level ≡ false
  pub fit : is_level_fit before entry.level ≡ true
  pub unnamed : is_name_of before entry.name ≡ false

pub in_place : (before : List Entry) (entry : Entry) → IsTrue (is_in_place before entry) → IsInPlace before entry
in_place before entry h =
    let p = both _ _ h in
    let q = both (not (is_behind_empty before entry.level)) (is_level_fit before entry.level) p.0 in
    record { not_behind_empty = negated _ q.0; fit = q.1; unnamed = negated _ p.1 }

-- an open level is not deeper than the nearest item
open_up_to : (entry : Entry) (before : List Entry) (level : ℕ) → is_open_level (entry ∷ before) level ≡ true → level ≤ entry.level
open_up_to entry before level h = by_test (leb entry.level level) refl h
  where
    by_test : (b : Bool) → leb entry.level level ≡ b → option_map_or (λ (other : Entry). eqb other.level level) (cond b (Some entry) (find (λ other. leb other.level level) before)) false ≡ true → level ≤ entry.level
    by_test true e h = grind (arith, nat_tests)
    by_test false e h = grind (arith, nat_tests)

-- a deeper item before it does not matter
open_past : (entry : Entry) (before : List Entry) (level : ℕ) → level < entry.level → is_open_level (entry ∷ before) level ≡ true → is_open_level before level ≡ true
open_past entry before level deeper h = by_test (leb entry.level level) refl h
  where
    by_test : (b : Bool) → leb entry.level level ≡ b → option_map_or (λ (other : Entry). eqb other.level level) (cond b (Some entry) (find (λ other. leb other.level level) before)) false ≡ true → is_open_level before level ≡ true
    by_test true e h = absurd (grind (arith, nat_tests))
    by_test false e h = h

-- behind an item, a level is 02 to 49
pub two_up : (last : Entry) (before : List Entry) (level : ℕ) → is_level_fit (last ∷ before) level ≡ true → (2 ≤ level) × (level ≤ 49)
two_up last before level h =
    let p = both (leb 2 level && leb level 49) _ h in
    let q = both (leb 2 level) (leb level 49) p.0 in
    (grind (arith, nat_tests), grind (arith, nat_tests))

-- behind a picture, a level is open
behind_picture : (last : Entry) (before : List Entry) (level : ℕ) → is_none last.picture ≡ false → is_level_fit (last ∷ before) level ≡ true → is_open_level (last ∷ before) level ≡ true
behind_picture last before level some h =
    let p = both (leb 2 level && leb level 49) _ h in subst (λ b. (b || is_open_level (last ∷ before) level) ≡ true) some p.1

-- behind a group, a level is deeper
behind_group : (last : Entry) (before : List Entry) (level : ℕ) → is_none last.picture ≡ true → is_behind_empty (last ∷ before) level ≡ false → last.level < level
behind_group last before level none h =
    let e : leb level last.level ≡ false = subst (λ b. (b && leb level last.level) ≡ false) none h in grind (arith, nat_tests)

-- ---- entries behind others

-- what stands before, the nearest first, once these items stand there too
abbrev pub behind : List Entry → List PlacedEntry → List Entry
behind before [] = before
behind before (item ∷ items) = behind (item.entry ∷ before) items

behind-append : (before : List Entry) (xs ys : List PlacedEntry) → behind before (xs ++ ys) ≡ behind (behind before xs) ys
behind-append before [] ys = refl
behind-append before (x ∷ xs) ys = behind-append (x.entry ∷ before) xs ys

abbrev pub AreDeeper : ℕ → List PlacedEntry → Type 0
AreDeeper level [] = Unit {0}
AreDeeper level (item ∷ items) = (level < item.entry.level) × AreDeeper level items

are_deeper-append : (level : ℕ) (xs ys : List PlacedEntry) → AreDeeper level xs → AreDeeper level ys → AreDeeper level (xs ++ ys)
are_deeper-append level [] ys h k = k
are_deeper-append level (x ∷ xs) ys h k = (h.0, are_deeper-append level xs ys h.1 k)

-- a level that fits behind deeper items is open before them
open_before : (before : List Entry) (item : PlacedEntry) (items : List PlacedEntry) (level : ℕ) → AreDeeper level (item ∷ items) → is_behind_empty (behind before (item ∷ items)) level ≡ false → is_level_fit (behind before (item ∷ items)) level ≡ true → is_open_level before level ≡ true
open_before before item [] level deeper empty fit = by_kind (is_none item.entry.picture) refl
  where
    by_kind : (b : Bool) → is_none item.entry.picture ≡ b → is_open_level before level ≡ true
    by_kind true e = absurd (omega (arith, behind_group item.entry before level e empty, deeper.0))
    by_kind false e = open_past item.entry before level deeper.0 (behind_picture item.entry before level e fit)
open_before before item (next ∷ items) level deeper empty fit =
    open_past item.entry before level deeper.0 (open_before (item.entry ∷ before) next items level deeper.1 empty fit)

-- ---- the items of a structure

abbrev pub placed_group : ℕ → ℕ → Option (List ℕ) → PlacedEntry
placed_group offset level name = record { entry = record { level = level; name = name; picture = None }; field = record { offset = offset; length = 0; numeric = false } }

abbrev pub placed_picture : ℕ → ℕ → Option (List ℕ) → List ℕ → Picture → PlacedEntry
placed_picture offset level name text picture = record { entry = record { level = level; name = name; picture = Some text }; field = record { offset = offset; length = picture.length; numeric = picture.numeric } }

-- the items as they are written, each with its own place
abbrev pub own_places : ℕ → ℕ → Structure → List PlacedEntry
own_places offset level Nothing = []
own_places offset level (Elementary name text picture after) = placed_picture offset level name text picture ∷ own_places (offset + picture.length) level after
own_places offset level (Group name inner members after) = placed_group offset level name ∷ own_places offset inner members ++ own_places (offset + width members) level after

pub entries_written : (offset level : ℕ) (s : Structure) → map (λ item. item.entry) (own_places offset level s) ≡ written_items level s
entries_written offset level Nothing = refl
entries_written offset level (Elementary name text picture after) = ap (λ (xs : List Entry). record { level = level; name = name; picture = Some text } ∷ xs) (entries_written (offset + picture.length) level after)
entries_written offset level (Group name inner members after) =
    ap (λ (xs : List Entry). record { level = level; name = name; picture = None } ∷ xs)
    (map-append (λ (item : PlacedEntry). item.entry) (own_places offset inner members) (own_places (offset + width members) level after)
    ∙ (ap (λ (xs : List Entry). xs ++ map (λ (item : PlacedEntry). item.entry) (own_places (offset + width members) level after)) (entries_written offset inner members)
    ∙ ap (λ (xs : List Entry). written_items inner members ++ xs) (entries_written (offset + width members) level after)))

-- the items of a level are deeper than each lower level
deeper_items : (offset inner level : ℕ) (s : Structure) → level < inner → IsWellFormed inner s → AreDeeper level (own_places offset inner s)
deeper_items offset inner level Nothing below sound = tt
deeper_items offset inner level (Elementary name text picture after) below sound = (below, deeper_items (offset + picture.length) inner level after below sound.1)
deeper_items offset inner level (Group name within members after) below sound =
    (below, are_deeper-append level _ _ (deeper_items offset within level members (omega (arith, below, sound.0)) sound.3) (deeper_items (offset + width members) inner level after below sound.4))

-- ---- reading the items of a level

-- the next item is of this level or a lower one
abbrev pub IsUpTo : ℕ → List PlacedEntry → Type 0
IsUpTo level [] = Unit {0}
IsUpTo level (item ∷ items) = item.entry.level ≤ level

abbrev pub IsBelow : ℕ → List PlacedEntry → Type 0
IsBelow level [] = Unit {0}
IsBelow level (item ∷ items) = item.entry.level < level

-- where the next item is of this level, there is a structure
abbrev pub BeginsAt : ℕ → List PlacedEntry → Structure → Type 0
BeginsAt level [] s = Unit {0}
BeginsAt level (item ∷ items) s = item.entry.level ≡ level → IsFalse (is_nothing s)

-- the items of a level, behind others of `total` characters, and then a rest that fits behind them
pub record AreItems (level total : ℕ) (before : List Entry) (items : List PlacedEntry) : Type 0 where
  pub structure : Structure
  pub rest : List PlacedEntry
  pub is : items ≡ own_places total level structure ++ rest
  pub sound : IsWellFormed level structure
  pub below : IsBelow level rest
  pub fits : ArePlaced (behind before (own_places total level structure)) (total + width structure) rest
  pub short : total + width structure ≤ 4000
  pub begun : BeginsAt level items structure

-- this is so of at most m items
abbrev pub CanRead : ℕ → Type 0
CanRead m = (level total : ℕ) (before : List Entry) (items : List PlacedEntry) → length items ≤ m → total ≤ 4000 → IsUpTo level items → ArePlaced before total items → AreItems level total before items

up_to_behind_picture : (entry : Entry) (before : List Entry) (total : ℕ) (after : List PlacedEntry) → is_none entry.picture ≡ false → ArePlaced (entry ∷ before) total after → IsUpTo entry.level after
up_to_behind_picture entry before total [] some h = tt
up_to_behind_picture entry before total (next ∷ after) some h =
    open_up_to entry before next.entry.level (behind_picture entry before next.entry.level some (in_place (entry ∷ before) next.entry h.0).fit)

-- behind the members of a group, a level that fits is open before them
open_behind : (offset inner level : ℕ) (before : List Entry) (s : Structure) → IsFalse (is_nothing s) → level < inner → IsWellFormed inner s → is_behind_empty (behind before (own_places offset inner s)) level ≡ false → is_level_fit (behind before (own_places offset inner s)) level ≡ true → is_open_level before level ≡ true
open_behind offset inner level before Nothing some below sound empty fit = absurd (false≢true (sym some))
open_behind offset inner level before (Elementary name text picture after) some below sound empty fit =
    open_before before (placed_picture offset inner name text picture) _ level (deeper_items offset inner level (Elementary name text picture after) below sound) empty fit
open_behind offset inner level before (Group name within members after) some below sound empty fit =
    open_before before (placed_group offset inner name) _ level (deeper_items offset inner level (Group name within members after) below sound) empty fit

up_to_behind_group : (offset inner total : ℕ) (entry : Entry) (before : List Entry) (s : Structure) (rest : List PlacedEntry) → IsFalse (is_nothing s) → IsWellFormed inner s → IsBelow inner rest → ArePlaced (behind (entry ∷ before) (own_places offset inner s)) total rest → IsUpTo entry.level rest
up_to_behind_group offset inner total entry before s [] some sound below h = tt
up_to_behind_group offset inner total entry before s (next ∷ rest) some sound below h =
    let p = in_place (behind (entry ∷ before) (own_places offset inner s)) next.entry h.0 in
    open_up_to entry before next.entry.level (open_behind offset inner next.entry.level (entry ∷ before) s some below sound p.not_behind_empty p.fit)

at_picture : (m : ℕ) (read : CanRead m) (level total : ℕ) (before : List Entry) (name : Option (List ℕ)) (text : List ℕ) (field : Field) (after : List PlacedEntry) → length after ≤ m → ArePlaced before total (record { entry = record { level = level; name = name; picture = Some text }; field = field } ∷ after) → AreItems level total before (record { entry = record { level = level; name = name; picture = Some text }; field = field } ∷ after)
at_picture m read level total before name text field after few h =
    let entry : Entry = record { level = level; name = name; picture = Some text } in
    let own = h.1 in
    let placed_after : ArePlaced (entry ∷ before) (total + own.0.length) after = subst (λ (f : Field). ArePlaced (entry ∷ before) (total + f.length) after) own.3 h.2 in
    let r = read level (total + own.0.length) (entry ∷ before) after few own.2 (up_to_behind_picture entry before (total + own.0.length) after refl placed_after) placed_after in
    let sum_is : total + own.0.length + width r.structure ≡ total + (own.0.length + width r.structure) = omega arith in
    record {
      structure = Elementary name text own.0 r.structure;
      rest = r.rest;
      is = λ i. record { entry = entry; field = own.3 i } ∷ r.is i;
      sound = (own.1, r.sound);
      below = r.below;
      fits = subst (λ t. ArePlaced (behind (entry ∷ before) (own_places (total + own.0.length) level r.structure)) t r.rest) sum_is r.fits;
      short = omega (arith, r.short);
      begun = λ _. refl;
    }

joined : (items members rest others last : List PlacedEntry) → items ≡ members ++ rest → rest ≡ others ++ last → items ≡ (members ++ others) ++ last
joined items members rest others last is rest_is =
    is ∙ (ap (λ (xs : List PlacedEntry). members ++ xs) rest_is ∙ sym (append_assoc members others last))

placed_behind : (before : List Entry) (xs ys rest : List PlacedEntry) (total sum : ℕ) → total ≡ sum → ArePlaced (behind (behind before xs) ys) total rest → ArePlaced (behind before (xs ++ ys)) sum rest
placed_behind before xs ys rest total sum is h =
    subst (λ t. ArePlaced (behind before (xs ++ ys)) t rest) is (subst (λ b. ArePlaced b total rest) (sym (behind-append before xs ys)) h)

at_group : (m : ℕ) (read : CanRead m) (level total : ℕ) (before : List Entry) (name : Option (List ℕ)) (field : Field) (after : List PlacedEntry) → length after ≤ m → total ≤ 4000 → ArePlaced before total (record { entry = record { level = level; name = name; picture = None }; field = field } ∷ after) → AreItems level total before (record { entry = record { level = level; name = name; picture = None }; field = field } ∷ after)
at_group m read level total before name field [] few limit h = absurd (false≢true (sym h.2))
at_group m read level total before name field (next ∷ after) few limit h =
    let entry : Entry = record { level = level; name = name; picture = None } in
    let inner = next.entry.level in
    let same : total + field.length ≡ total = omega (arith, ap (λ (f : Field). f.length) h.1) in
    let placed_after : ArePlaced (entry ∷ before) total (next ∷ after) = subst (λ t. ArePlaced (entry ∷ before) t (next ∷ after)) same h.2 in
    let p = in_place (entry ∷ before) next.entry placed_after.0 in
    let deeper : level < inner = behind_group entry before inner refl p.not_behind_empty in
    let bounds = two_up entry before inner p.fit in
    let r = read inner total (entry ∷ before) (next ∷ after) few limit (omega arith) placed_after in
    let some : IsFalse (is_nothing r.structure) = r.begun refl in
    let members = own_places total inner r.structure in
    let up = up_to_behind_group total inner (total + width r.structure) entry before r.structure r.rest some r.sound r.below r.fits in
    let fewer : length r.rest ≤ m = omega (arith, few, ap length r.is, length-append members r.rest) in
    let q = read level (total + width r.structure) (behind (entry ∷ before) members) r.rest fewer r.short up r.fits in
    let others = own_places (total + width r.structure) level q.structure in
    let sum_is : total + width r.structure + width q.structure ≡ total + (width r.structure + width q.structure) = omega arith in
    let items_are : next ∷ after ≡ (members ++ others) ++ q.rest = joined (next ∷ after) members r.rest others q.rest r.is q.is in
    record {
      structure = Group name inner r.structure q.structure;
      rest = q.rest;
      is = λ i. record { entry = entry; field = h.1 i } ∷ items_are i;
      sound = (deeper, bounds.1, some, r.sound, q.sound);
      below = q.below;
      fits = placed_behind (entry ∷ before) members others q.rest (total + width r.structure + width q.structure) (total + (width r.structure + width q.structure)) sum_is q.fits;
      short = omega (arith, q.short);
      begun = λ _. refl;
    }

at_level : (m : ℕ) (read : CanRead m) (level total : ℕ) (before : List Entry) (name picture : Option (List ℕ)) (field : Field) (after : List PlacedEntry) → length after ≤ m → total ≤ 4000 → ArePlaced before total (record { entry = record { level = level; name = name; picture = picture }; field = field } ∷ after) → AreItems level total before (record { entry = record { level = level; name = name; picture = picture }; field = field } ∷ after)
at_level m read level total before name None field after few limit h = at_group m read level total before name field after few limit h
at_level m read level total before name (Some text) field after few limit h = at_picture m read level total before name text field after few h

nothing_read : (level total : ℕ) (before : List Entry) (items : List PlacedEntry) → total ≤ 4000 → IsBelow level items → BeginsAt level items Nothing → ArePlaced before total items → AreItems level total before items
nothing_read level total before items limit below begun h =
    record { structure = Nothing; rest = items; is = refl; sound = tt; below = below; fits = subst (λ t. ArePlaced before t items) (sym (add-zero total)) h; short = omega (arith, limit); begun = begun }

below_or_at : (a b : ℕ) → a ≤ b → (a < b) ⊎ (a ≡ b)
below_or_at a b h = grind arith

pub are_items : (m : ℕ) → CanRead m
are_items m level total before [] few limit up h = nothing_read level total before [] limit tt tt h
are_items zero level total before (item ∷ items) few limit up h = absurd (omega (arith, few))
are_items (suc m) level total before (item ∷ items) few limit up h = by_level (below_or_at item.entry.level level up)
    (subst (λ l. AreItems l total before (item ∷ items)))
    (at_level m (are_items m) item.entry.level total before item.entry.name item.entry.picture item.field items (omega (arith, few)) limit h)
  where
    by_level : (item.entry.level < level) ⊎ (item.entry.level ≡ level) → (item.entry.level ≡ level → AreItems item.entry.level total before (item ∷ items) → AreItems level total before (item ∷ items)) → AreItems item.entry.level total before (item ∷ items) → AreItems level total before (item ∷ items)
    by_level (inl below) move here = nothing_read level total before (item ∷ items) limit below (λ e. absurd (omega (arith, below, e))) h
    by_level (inr same) move here = move same here
