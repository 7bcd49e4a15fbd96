-- What is read off a library's units, for the laws of a library.
use Rattle.std.proofs.Common.{◌≡◌, ℕ, zero, suc, ◌<◌, List, [], ◌∷◌, length, refl, ap, ◌∙◌, arith}
use Rattle.std.proofs.Common.{bytes_eq, get_or}
use Rattle.std.specs.Prelude.{slice_index_or, if◌then◌else◌}
use Rattle.std.specs.List.{list_any}
use Rattle.std.proofs.lemmas.Slice.Eq.{bytes_eq-Decides}
use Rattle.indexed_file.proofs.TestLemmas.{either}
use Rattle.indexed_file.specs.World.{FileUnit, Named, Absent, Shut, name_in, named_in, unit_at}
use Rattle.indexed_file.specs.World.{holding_at, named_at, name_at}
use Rattle.page_store.specs.ShelfState.{ShelfState, unit_name, unit_file}
use Rattle.shelf_library.specs.Named.{named_of}
use Rattle.shelf_library.specs.State.{held_at}
use Rattle.shelf_library.specs.Units.{unit_of, units_of, holding_of, elsewhere_of, world_of}
use Rattle.shelf_library.specs.declared.held.Held.{Held}

-- ---- what names stand for

-- among the units a name stands for what its file reads as
named_among : (shelf : ShelfState) (names : List (List ℕ)) (held : List Held) (elsewhere : List ℕ → Named)
    (name : List ℕ) → length held ≡ length names
    → name_in (units_of shelf names held) elsewhere name
    ≡ (if list_any (λ other. bytes_eq other name) names then named_of
    (shelf.file name).seen else elsewhere name)
named_among shelf [] held elsewhere name many = refl
named_among shelf (first ∷ names) [] elsewhere name many = absurd (omega (arith, many))
named_among shelf (first ∷ names) (one ∷ held) elsewhere name many =
    either (bytes_eq first name)
    (name_in (units_of shelf (first ∷ names) (one ∷ held)) elsewhere name
    ≡ (if list_any (λ other. bytes_eq other name) (first ∷ names) then named_of
    (shelf.file name).seen else elsewhere name))
    (λ hit. rw hit (ap (λ n. named_of (shelf.file n).seen) ((bytes_eq-Decides first name).0 hit)))
    (λ miss. rw miss (named_among shelf names held elsewhere name (omega (arith, many))))

-- each name stands for what its file reads as
pub named_anywhere : (shelf : ShelfState) (held : List Held) (name : List ℕ)
    → length held ≡ length shelf.names → named_in (world_of shelf held) name ≡ named_of
    (shelf.file name).seen
named_anywhere shelf held name many =
    let is = named_among shelf shelf.names held (elsewhere_of shelf) name many in
    either (list_any (λ other. bytes_eq other name) shelf.names)
    (named_in (world_of shelf held) name ≡ named_of (shelf.file name).seen)
    (λ hit. is ∙ rw hit refl)
    (λ miss. is ∙ rw miss refl)

-- ---- one unit

unit_in : (shelf : ShelfState) (names : List (List ℕ)) (held : List Held) (u : ℕ) (d : FileUnit)
    → u < length held → length held ≡ length names
    → slice_index_or (units_of shelf names held) u d ≡ unit_of shelf (get_or names u []) (held_at held u)
unit_in shelf [] held u d within many = absurd (omega (arith, within, many))
unit_in shelf (name ∷ names) [] u d within many = absurd (omega (arith, within))
unit_in shelf (name ∷ names) (one ∷ held) zero d within many = refl
unit_in shelf (name ∷ names) (one ∷ held) (suc u) d within many =
    unit_in shelf names held u d (omega (arith, within)) (omega (arith, many))

pub unit_now : (shelf : ShelfState) (held : List Held) (u : ℕ) → u < length held
    → length held ≡ length shelf.names → unit_at (world_of shelf held) u ≡ unit_of shelf
    (unit_name shelf u) (held_at held u)
unit_now shelf held u within many = unit_in shelf shelf.names held u
    (record { name = []; named = Absent; holding = Shut }) within many

-- its name, what it holds, and what its name stands for
pub name_now : (shelf : ShelfState) (held : List Held) (u : ℕ) → u < length held
    → length held ≡ length shelf.names → name_at (world_of shelf held) u ≡ unit_name shelf u
name_now shelf held u within many = ap (λ (unit : FileUnit). unit.name) (unit_now shelf held u within many)

pub holding_now : (shelf : ShelfState) (held : List Held) (u : ℕ) → u < length held
    → length held ≡ length shelf.names → holding_at (world_of shelf held) u ≡ holding_of shelf
    (held_at held u)
holding_now shelf held u within many = ap (λ (unit : FileUnit). unit.holding)
    (unit_now shelf held u within many)

pub named_now : (shelf : ShelfState) (held : List Held) (u : ℕ) → u < length held
    → length held ≡ length shelf.names → named_at (world_of shelf held) u ≡ named_of
    (unit_file shelf u).seen
named_now shelf held u within many = ap (λ (unit : FileUnit). unit.named) (unit_now shelf held u within many)

pub units_long : (shelf : ShelfState) (names : List (List ℕ)) (held : List Held)
    → length held ≡ length names → length (units_of shelf names held) ≡ length held
units_long shelf [] [] many = refl
units_long shelf [] (one ∷ held) many = absurd (omega (arith, many))
units_long shelf (name ∷ names) [] many = refl
units_long shelf (name ∷ names) (one ∷ held) many = ap suc (units_long shelf names held (omega (arith, many)))
