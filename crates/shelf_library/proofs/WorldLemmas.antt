-- The world of a library over a shelf: what is read off its units, and what one call on a unit leaves of it.
use Rattle.std.proofs.Common.{◌≡◌, ◌≢◌, ℕ, zero, suc, ◌<◌, true, false, List, [], ◌∷◌, length, refl, ap, sym, ◌∙◌, arith, bytes_eq, get_or}
use Rattle.std.specs.Prelude.{slice_set, if◌then◌else◌}
use Rattle.std.specs.List.{list_any}
use Rattle.std.proofs.lemmas.List.Folds.{list_any_at}
use Rattle.shelf_library.proofs.Terms.{bytes_eq-Decides, either, Absent, FileUnit, OnlyAt, holding_at, name_at, named_at, DeviceFile}
use Rattle.shelf_library.proofs.Terms.{ShelfState, unit_name, named_of, ShelfFile, held_at, holding_of, units_of, world_of, Held, Opened}
pub use Rattle.shelf_library.specs.WorldLaws.{named_anywhere, unit_now, name_now, holding_now, named_now}
use Rattle.shelf_library.specs.WorldLaws.{units_long}
use Rattle.shelf_library.specs.Units.{unit_of, elsewhere_of}

-- a unit that holds an open file holds no other one
pub same_open : (a b : ShelfFile) → Opened a ≡ Opened b → a ≡ b
same_open a b e = cc

-- ---- what is held after a unit was let hold something

pub set_here : (held : List Held) (u : ℕ) (one : Held) → u < length held → held_at (slice_set held u one) u ≡ one
set_here [] u one within = absurd (omega (arith, within))
set_here (first ∷ held) zero one within = refl
set_here (first ∷ held) (suc u) one within = set_here held u one (omega (arith, within))

pub set_aside : (held : List Held) (u v : ℕ) (one : Held) → v ≢ u → held_at (slice_set held u one) v ≡ held_at held v
set_aside [] u v one other = refl
set_aside (first ∷ held) zero zero one other = absurd (other refl)
set_aside (first ∷ held) zero (suc v) one other = refl
set_aside (first ∷ held) (suc u) zero one other = refl
set_aside (first ∷ held) (suc u) (suc v) one other = set_aside held u v one (λ same. other (ap suc same))

pub set_long : (held : List Held) (u : ℕ) (one : Held) → length (slice_set held u one) ≡ length held
set_long [] u one = refl
set_long (first ∷ held) zero one = refl
set_long (first ∷ held) (suc u) one = ap suc (set_long held u one)

pub set_twice : (held : List Held) (u : ℕ) (one other : Held) → slice_set (slice_set held u one) u other ≡ slice_set held u other
set_twice [] u one other = refl
set_twice (first ∷ held) zero one other = refl
set_twice (first ∷ held) (suc u) one other = ap (λ (rest : List Held). first ∷ rest) (set_twice held u one other)

-- ---- what one call leaves of the world

-- unit v is shown as it was
abbrev pub ShowsSame : ShelfState → ShelfState → List (List ℕ) → List Held → ℕ → Type 0
ShowsSame old new names held v = unit_of new (get_or names v []) (held_at held v) ≡ unit_of old (get_or names v []) (held_at held v)

units_same : (old new : ShelfState) (names : List (List ℕ)) (held : List Held) → length held ≡ length names → ((v : ℕ) → v < length names → ShowsSame old new names held v)
    → units_of new names held ≡ units_of old names held
units_same old new [] held many same = refl
units_same old new (name ∷ names) [] many same = refl
units_same old new (name ∷ names) (one ∷ held) many same =
    let first : unit_of new name one ≡ unit_of old name one = same 0 (omega arith) in
    let rest = units_same old new names held (omega (arith, many)) (λ v within. same (suc v) (omega (arith, within))) in
    λ i. first i ∷ rest i

units_set : (old new : ShelfState) (names : List (List ℕ)) (held : List Held) (u : ℕ) (one : Held) → length held ≡ length names → ((v : ℕ) → v < length names → v ≢ u → ShowsSame old new names held v)
    → units_of new names (slice_set held u one) ≡ slice_set (units_of old names held) u (unit_of new (get_or names u []) one)
units_set old new [] held u one many same = refl
units_set old new (name ∷ names) [] u one many same = refl
units_set old new (name ∷ names) (first ∷ held) zero one many same =
    ap (λ (rest : List FileUnit). unit_of new name one ∷ rest) (units_same old new names held (omega (arith, many)) (λ v within. same (suc v) (omega (arith, within)) (λ e. omega (arith, e))))
units_set old new (name ∷ names) (first ∷ held) (suc u) one many same =
    let head : unit_of new name first ≡ unit_of old name first = same 0 (omega arith) (λ e. omega (arith, e)) in
    let rest = units_set old new names held u one (omega (arith, many)) (λ v within other. same (suc v) (omega (arith, within)) (λ e. other (omega (arith, e)))) in
    λ i. head i ∷ rest i

-- what a name stands for that no unit has
elsewhere_same : (old new : ShelfState) (u : ℕ) → u < length old.names → new.names ≡ old.names → ((name : List ℕ) → ¬ (name ≡ unit_name old u) → new.file name ≡ old.file name)
    → (name : List ℕ) → elsewhere_of new name ≡ elsewhere_of old name
elsewhere_same old new u within names others name =
    ap (λ (ns : List (List ℕ)). if list_any (λ other. bytes_eq other name) ns then Absent else named_of (new.file name).seen) names
    ∙ either (list_any (λ other. bytes_eq other name) old.names)
    ((if list_any (λ other. bytes_eq other name) old.names then Absent else named_of (new.file name).seen) ≡ elsewhere_of old name)
    (λ hit. rw hit refl)
    (λ miss. rw miss (ap (λ (bytes : DeviceFile). named_of bytes.seen) (others name (λ is.
    let same : bytes_eq (get_or old.names u []) name ≡ true = (bytes_eq-Decides (get_or old.names u []) name).1 (sym is) in
    let hit = list_any_at (λ other. bytes_eq other name) old.names u [] within same in
    let clash : true ≡ false = sym hit ∙ miss in cc))))

-- the unit and its name are all that has changed
pub only_at : (old new : ShelfState) (held : List Held) (u : ℕ) (one : Held) → u < length held → length held ≡ length old.names → new.names ≡ old.names
    → ((name : List ℕ) → ¬ (name ≡ unit_name old u) → new.file name ≡ old.file name)
    → ((v : ℕ) → v < length old.names → v ≢ u → ShowsSame old new old.names held v)
    → OnlyAt u (world_of old held) (world_of new (slice_set held u one))
only_at old new held u one within many names others same =
    let now = slice_set held u one in
    let long : length now ≡ length new.names = set_long held u one ∙ many ∙ sym (ap (λ (ns : List (List ℕ)). length ns) names) in
    let lies : u < length now = let l = set_long held u one in omega (arith, within, l) in
    let unit : unit_of new (get_or old.names u []) one ≡ record { name = name_at (world_of old held) u; named = named_at (world_of new now) u; holding = holding_at (world_of new now) u } =
    let named : named_at (world_of new now) u ≡ named_of (new.file (get_or old.names u [])).seen = named_now new now u lies long ∙ ap (λ (ns : List (List ℕ)). named_of (new.file (get_or ns u [])).seen) names in
    let holding : holding_at (world_of new now) u ≡ holding_of new one = holding_now new now u lies long ∙ ap (holding_of new) (set_here held u one within) in
    let name = name_now old held u within many in
    λ i. record { name = (sym name) i; named = (sym named) i; holding = (sym holding) i } in
    let units : units_of new new.names now ≡ slice_set (units_of old old.names held) u (record { name = name_at (world_of old held) u; named = named_at (world_of new now) u; holding = holding_at (world_of new now) u }) =
    ap (λ (ns : List (List ℕ)). units_of new ns now) names ∙ units_set old new old.names held u one many same ∙ ap (λ (x : FileUnit). slice_set (units_of old old.names held) u x) unit in
    let elsewhere = elsewhere_same old new u (let m = many in omega (arith, within, m)) names others in
    λ i. record { units = units i; elsewhere = λ name. elsewhere name i }

-- a unit of the world is one of the units
pub is_held : (shelf : ShelfState) (held : List Held) (u : ℕ) → length held ≡ length shelf.names → u < length (world_of shelf held).units → u < length held
is_held shelf held u many within = let long = units_long shelf shelf.names held many in omega (arith, within, long)
