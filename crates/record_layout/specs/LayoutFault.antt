-- Which fault a list of data description entries has: they are looked at in order, each by the
-- tests below in their order. `before` is always the entries before, the nearest first.
-- ANSI X3.23-1985, Nucleus module, data description entry, level-number. The order of the tests is ours.
use Rattle.std.specs.Prelude.{◌≡◌, ◌≢◌, ℕ, ◌+◌, ◌<◌, ◌≤◌, ◌==◌, Bool, true, false, not, ◌||◌, ◌&&◌, ◌⊎◌, List}
use Rattle.std.specs.Prelude.{[], ◌∷◌, nat_le, Option, Some, None, is_none, IsTrue, MatchBool}
use Rattle.std.specs.List.{find}
use Rattle.std.specs.Option.{option_map_or}
use Rattle.record_layout.specs.declared.fault.LayoutFault.{LayoutFault}
use Rattle.record_layout.specs.declared.fault.LayoutFault.TheVariants.{BadPicture, BadLevel, TooLong}
use Rattle.record_layout.specs.declared.fault.LayoutFault.TheVariants.{DuplicateName, Empty, Memory}
use Rattle.record_layout.specs.declared.picture.Picture.{Picture}
use Rattle.record_layout.specs.Picture.{IsPicture, IsTooLong, IsBad}
use Rattle.record_layout.specs.Layout.{Entry, Placed, is_name_of, IsLayout}

-- the entry before is a group, and this level is not deeper
abbrev pub is_behind_empty : List Entry → ℕ → Bool
is_behind_empty [] level = false
is_behind_empty (last ∷ before) level = is_none last.picture && nat_le level last.level

-- the level is that of an open item: of the nearest one that is not deeper
abbrev pub is_open_level : List Entry → ℕ → Bool
is_open_level before level = option_map_or (λ entry. entry.level == level)
    (find (λ entry. nat_le entry.level level) before) false

-- the first level is 01; any other is 02 to 49, and behind a picture it is that of an open item
abbrev pub is_level_fit : List Entry → ℕ → Bool
is_level_fit [] level = level == 1
is_level_fit (last ∷ before) level = nat_le 2 level && nat_le level 49
    && (is_none last.picture || is_open_level (last ∷ before) level)

-- with the picture of an entry, if it has one, items of `total` characters have `next`
abbrev pub Lengthens : ℕ → Option (List ℕ) → ℕ → Type 0
Lengthens total None next = next ≡ total
Lengthens total (Some text) next = (picture : Picture) × IsPicture text picture
    × (next ≡ total + picture.length) × (next ≤ 4000)

-- the picture is none, or too long by itself or behind items of `total` characters
abbrev pub HasPictureFault : ℕ → Option (List ℕ) → LayoutFault → Type 0
HasPictureFault total None fault = ⊥
HasPictureFault total (Some text) BadPicture = IsBad text
HasPictureFault total (Some text) TooLong = IsTooLong text
    ⊎ ((picture : Picture) × IsPicture text picture × (4000 < total + picture.length))
HasPictureFault total (Some text) BadLevel = ⊥
HasPictureFault total (Some text) DuplicateName = ⊥
HasPictureFault total (Some text) Empty = ⊥
HasPictureFault total (Some text) Memory = ⊥

-- the entry has this fault, behind items of `total` characters
abbrev pub IsFaultOf : List Entry → ℕ → Entry → LayoutFault → Type 0
IsFaultOf before total entry fault =
    MatchBool (is_behind_empty before entry.level) (fault ≡ Empty)
    (MatchBool (not (is_level_fit before entry.level)) (fault ≡ BadLevel)
    (MatchBool (is_name_of before entry.name) (fault ≡ DuplicateName)
    (HasPictureFault total entry.picture fault)))

-- the entry has this fault, and not for its picture: whatever the items before have together
abbrev pub IsFaultOfPlace : List Entry → Entry → LayoutFault → Type 0
IsFaultOfPlace before entry fault = (total : ℕ) → IsFaultOf before total entry fault

-- the entry passes each test before that of its picture
abbrev pub is_in_place : List Entry → Entry → Bool
is_in_place before entry = not (is_behind_empty before entry.level) && is_level_fit before entry.level
    && not (is_name_of before entry.name)

-- there is no entry, or the last one is a group
abbrev pub is_unfinished : List Entry → Bool
is_unfinished [] = true
is_unfinished (last ∷ before) = is_none last.picture

-- the first fault of the entries, behind others of `total` characters
abbrev pub IsFirstFault : List Entry → ℕ → List Entry → LayoutFault → Type 0
IsFirstFault before total [] fault = IsTrue (is_unfinished before) × (fault ≡ Empty)
IsFirstFault before total (entry ∷ after) fault =
    IsFaultOf before total entry fault
    ⊎ (IsTrue (is_in_place before entry) × ((next : ℕ) × Lengthens total entry.picture next
    × IsFirstFault (entry ∷ before) next after fault))

-- the first fault of all entries, where it is not for want of memory
abbrev pub HaveFirstFault : List Entry → LayoutFault → Type 0
HaveFirstFault entries fault = fault ≢ Memory → IsFirstFault [] 0 entries fault

-- entries that have a layout have no fault
abbrev pub HaveOneOutcome : Type 0
HaveOneOutcome = (entries : List Entry) (layout : List Placed) (fault : LayoutFault)
    → IsLayout entries layout → IsFirstFault [] 0 entries fault → ⊥
