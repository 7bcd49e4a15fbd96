-- Units that were just attached.
use Rattle.std.proofs.Common.{◌≡◌, ℕ, List, [], ◌∷◌, zero, suc, length, map, slice_index_or, refl, ap, ◌∙◌}
use Rattle.std.specs.Prelude.{IsFalse, Result, Ok, Err, OnOk, bytes_eq, false}
use Rattle.std.specs.List.{IsDistinct}
use Rattle.indexed_file.specs.World.{World, FileUnit, Absent, Shut, is_open, attached}
use Rattle.unit_calls.specs.Units.{AreShut}

abbrev no_unit : FileUnit
no_unit = record { name = []; named = Absent; holding = Shut }

-- they are not open
shut_at : (world : World) (names : List (List ℕ)) (u : ℕ) → IsFalse (is_open (slice_index_or (attached world names) u no_unit).holding)
shut_at world [] u = refl
shut_at world (name ∷ names) zero = refl
shut_at world (name ∷ names) (suc u) = shut_at world names u

many_attached : (world : World) (names : List (List ℕ)) → length (attached world names) ≡ length names
many_attached world [] = refl
many_attached world (name ∷ names) = ap suc (many_attached world names)

pub attached_shut : (world new : World) (names : List (List ℕ)) (count : ℕ) → new.units ≡ attached world names → length names ≡ count → AreShut new count
attached_shut world new names count is many u below = record {
  attached = rw (is, many_attached world names, many) below;
  closed = ap (λ (units : List FileUnit). is_open (slice_index_or units u no_unit).holding) is ∙ shut_at world names u;
}

many_names : {F : Type 0} (f : F → List ℕ) (names : List F) → length (map f names) ≡ length names
many_names f [] = refl
many_names f (name ∷ names) = ap suc (many_names f names)

pub attached_on_ok : {F X E : Type 0} (f : F → List ℕ) (names : List F) (result : Result X E) (world new : World) (count : ℕ) → length names ≡ count
    → OnOk result (new.units ≡ attached world (map f names)) → OnOk result (AreShut new count)
attached_on_ok f names (Ok x) world new count many is = attached_shut world new (map f names) count is (many_names f names ∙ many)
attached_on_ok f names (Err e) world new count many is = tt

-- two names that differ
pub two_names_differ : (a b : List ℕ) → bytes_eq a b ≡ false → IsDistinct bytes_eq (a ∷ b ∷ [])
unfolding IsDistinct
two_names_differ a b differ = ((differ, tt), (tt, tt))
