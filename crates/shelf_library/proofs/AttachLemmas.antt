-- Units to which names were attached.
use Rattle.std.proofs.Common.{◌≡◌, ℕ, zero, suc, List, [], ◌∷◌, length, map, Some, IsTrue, refl, sym, ap, subst, ◌∙◌, arith}
use Rattle.std.specs.Prelude.{replicate, bytes_eq}
use Rattle.std.specs.List.{IsDistinct}
use Rattle.indexed_file.specs.World.{named_in, attached}
use Rattle.shelf_library.proofs.Terms.{Keeps, Stays, FileUnit, Named, Shut, DeviceFile, ShelfState, look_of, named_of, Attaches, shown_by}
use Rattle.shelf_library.proofs.Terms.{AreUnits, LibraryState, held_at, IsShownTruly, IsTrulyClosed, units_of, world_of, Held, Looked}
use Rattle.shelf_library.proofs.Terms.{Nothing, Opened}
use Rattle.shelf_library.proofs.WorldLemmas.{named_anywhere}
use Rattle.shelf_library.proofs.AsideLemmas.{images_aside}

replicate_long : (n : ℕ) → length (replicate n Nothing) ≡ n
replicate_long zero = refl
replicate_long (suc n) = ap suc (replicate_long n)

nothing_at : (n u : ℕ) → held_at (replicate n Nothing) u ≡ Nothing
nothing_at zero u = refl
nothing_at (suc n) zero = refl
nothing_at (suc n) (suc u) = nothing_at n u

-- a unit of this name that is shut
abbrev shut_unit : List ℕ → Named → FileUnit
shut_unit name named = record { name = name; named = named; holding = Shut }

shut_units : (shelf : ShelfState) (names : List (List ℕ)) → units_of shelf names (replicate (length names) Nothing) ≡ map (λ name. shut_unit name (named_of (shelf.file name).seen)) names
shut_units shelf [] = refl
shut_units shelf (name ∷ names) = ap (λ (units : List FileUnit). shut_unit name (named_of (shelf.file name).seen) ∷ units) (shut_units shelf names)

same_map : (f g : List ℕ → Named) → ((name : List ℕ) → f name ≡ g name) → (names : List (List ℕ)) → map (λ name. shut_unit name (f name)) names ≡ map (λ name. shut_unit name (g name)) names
same_map f g same [] = refl
same_map f g same (name ∷ names) =
    let one = same name in
    let rest = same_map f g same names in
    λ i. shut_unit name (one i) ∷ rest i

module _ (names : List (List ℕ)) (count : ℕ) (old new : LibraryState) (call : Attaches names count old new) where
  same_names : new.shelf.names ≡ names
  same_names = ap (λ (shelf : ShelfState). shelf.names) call.shelf

  pub same_files : (name : List ℕ) → new.shelf.file name ≡ old.shelf.file name
  same_files name = ap (λ (shelf : ShelfState). shelf.file name) call.shelf

  many : length new.held ≡ length new.shelf.names
  many = ap (λ (held : List Held). length held) call.held ∙ replicate_long count ∙ call.counted ∙ sym (ap (λ (l : List (List ℕ)). length l) same_names)

  pub holds_nothing : (u : ℕ) → held_at new.held u ≡ Nothing
  holds_nothing u = ap (λ (held : List Held). held_at held u) call.held ∙ nothing_at count u

  pub units_attached : AreUnits new.shelf new.held
  units_attached = record {
    many = many;
    distinct = subst (λ (l : List (List ℕ)). IsDistinct bytes_eq l) (sym same_names) call.distinct;
    looked = λ u header is. let e : Nothing ≡ Looked header = sym (holds_nothing u) ∙ is in absurd (cc);
    ready = λ u file is. let e : Nothing ≡ Opened file = sym (holds_nothing u) ∙ is in absurd (cc);
  }

  pub named_as_before : (name : List ℕ) → named_in (world_of new.shelf new.held) name ≡ named_in (world_of old.shelf old.held) name
  named_as_before name =
      named_anywhere new.shelf new.held name many
      ∙ ap (λ (file : DeviceFile). named_of file.seen) (same_files name)
      ∙ sym (named_anywhere old.shelf old.held name call.units.many)

  pub world_attached : (world_of new.shelf new.held).units ≡ attached (world_of old.shelf old.held) names
  world_attached =
      let held : new.held ≡ replicate (length names) Nothing = call.held ∙ ap (λ n. replicate n Nothing) call.counted in
      (λ i. units_of new.shelf (same_names i) (held i))
      ∙ shut_units new.shelf names
      ∙ same_map (λ name. named_of (new.shelf.file name).seen) (λ name. named_in (world_of old.shelf old.held) name)
      (λ name. ap (λ (file : DeviceFile). named_of file.seen) (same_files name) ∙ sym (named_anywhere old.shelf old.held name call.units.many)) names

  pub still_shown : (name : List ℕ) → IsShownTruly old.shelf old.held name → IsShownTruly new.shelf new.held name
  still_shown name truly = record {
    closed = λ header is. subst (λ (file : DeviceFile). IsTrulyClosed file header) (sym (same_files name)) (truly.closed header (ap (λ (file : DeviceFile). look_of file.seen) (sym (same_files name)) ∙ is));
    opened = λ u file within named is. let e : Nothing ≡ Opened file = sym (holds_nothing u) ∙ is in absurd (cc);
  }

pub attach_keeps : {S : Type 0} (state : S → LibraryState) (names : List (List ℕ)) (count : ℕ) (old new : S) → Attaches names count (state old) (state new) → Keeps (shown_by state) old new
attach_keeps state names count old new call = record {
  honest = λ honest. subst (λ (shelf : ShelfState). IsTrue shelf.is_honest) call.shelf honest;
  truth = λ honest name. still_shown names count (state old) (state new) call name;
  count = let same = call.faults in omega (arith, same);
  limit = ap Some call.limit;
  frames = ap Some call.frames;
}

pub attach_images : {S : Type 0} (state : S → LibraryState) (names : List (List ℕ)) (count : ℕ) (old new : S) → Attaches names count (state old) (state new)
    → (name : List ℕ) → Stays (shown_by state).moments old new name
attach_images state names count old new call name = images_aside state old new name (same_files names count (state old) (state new) call name)

-- a library without units
pub no_units : (shelf : ShelfState) (held : List Held) → shelf.names ≡ [] → held ≡ [] → AreUnits shelf held
unfolding IsDistinct
no_units shelf held names none =
    let nothing : (u : ℕ) → held_at held u ≡ Nothing = λ u. ap (λ (l : List Held). held_at l u) none in
    record {
      many = ap (λ (l : List Held). length l) none ∙ sym (ap (λ (l : List (List ℕ)). length l) names);
      distinct = subst (λ (l : List (List ℕ)). IsDistinct bytes_eq l) (sym names) tt;
      looked = λ u header is. let e : Nothing ≡ Looked header = sym (nothing u) ∙ is in absurd (cc);
      ready = λ u file is. let e : Nothing ≡ Opened file = sym (nothing u) ∙ is in absurd (cc);
    }
