-- What a change of a unit makes of the world.
use Rattle.std.proofs.Common.{◌≡◌, ℕ, zero, suc, ◌<◌, List, [], ◌∷◌, length, refl, sym, ap, ◌∙◌, arith, slice_index_or}
use Rattle.std.specs.Prelude.{slice_set}
use Rattle.std.proofs.lemmas.List.{set-get_or}
use Rattle.indexed_file.specs.World.{FileUnit, World, Named, Absent, Shut, unit_at, file_at}
use Rattle.indexed_file.specs.FileChange.{FileChange}
use Rattle.indexed_file.specs.UnitAnswers.{world_changed}
use Rattle.list_library.specs.Units.{unit_changed}
use Rattle.indexed_file.proofs.TestLemmas.{either}

same_default : {X : Type 0} (xs : List X) (i : ℕ) (a b : X) → i < length xs → slice_index_or xs i a ≡ slice_index_or xs i b
same_default [] i a b within = absurd (omega arith)
same_default (x ∷ xs) zero a b within = refl
same_default (x ∷ xs) (suc i) a b within = same_default xs i a b (omega arith)

-- the unit that the code reads is that of the world
pub unit_read : (units : List FileUnit) (elsewhere : List ℕ → Named) (u : ℕ) (unit : FileUnit) → u < length units → unit ≡ slice_index_or units u unit → unit_at (record { units = units; elsewhere = elsewhere }) u ≡ unit
unit_read units elsewhere u unit within is = same_default units u (record { name = []; named = Absent; holding = Shut }) unit within ∙ sym is

-- a unit that is set to itself
pub same_world : (world : World) (u : ℕ) → record world { units = slice_set world.units u (unit_at world u) } ≡ world
same_world world u = ap (λ units. record world { units = units }) (set-get_or world.units u (record { name = []; named = Absent; holding = Shut }))

-- the world in which the unit has the changed file
pub changed_world : {X : Type 0} (change : FileChange X) (world : World) (u : ℕ)
    → record world { units = slice_set world.units u (unit_changed change (unit_at world u)) } ≡ world_changed change world u
changed_world change world u =
    either (change.is_made (change.answer (file_at world u)))
    (record world { units = slice_set world.units u (unit_changed change (unit_at world u)) } ≡ world_changed change world u)
    (λ made. rw made refl)
    (λ none. rw none (same_world world u))
