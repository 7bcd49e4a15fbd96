-- What a change of a unit keeps.
use Rattle.std.proofs.Common.{◌≡◌, ℕ, ◌<◌, [], List, length, Result, Ok, Err, refl, sym, ap, ◌∙◌, slice_index_or}
use Rattle.std.specs.Prelude.{slice_set, IsTrue}
use Rattle.std.proofs.lemmas.List.{get_or-set_same}
use Rattle.io_state.specs.declared.fault.Fault.{Fault}
use Rattle.io_state.specs.declared.fault.Fault.TheVariants.{Device, Memory, Full, Damage, Broken as BrokenUnit}
use Rattle.indexed_file.specs.FileChange.{FileChange}
use Rattle.indexed_file.specs.World.{FileUnit, World, Named, Absent, Shut, OnlyAt, unit_at, is_open, schema_in}
use Rattle.list_library.specs.Units.{file_or_empty, unit_changed, ChangesHeld}
use Rattle.indexed_file.proofs.TestLemmas.{either}
use Rattle.list_library.proofs.UnitWorldLemmas.{unit_read}

-- it keeps its name and schema, and stays open
pub record IsKept (old new : FileUnit) : Type 0 where
  pub name : new.name ≡ old.name
  pub opened : IsTrue (is_open new.holding)
  pub schema : schema_in new.holding ≡ schema_in old.holding

kept_itself : (unit : FileUnit) → IsTrue (is_open unit.holding) → IsKept unit unit
kept_itself unit opened = record { name = refl; opened = opened; schema = refl }

changed_keeps : {X : Type 0} (change : FileChange X) (unit : FileUnit) → IsTrue (is_open unit.holding) → IsKept unit (unit_changed change unit)
changed_keeps change unit opened =
    either (change.is_made (change.answer (file_or_empty unit.holding))) (IsKept unit (unit_changed change unit))
    (λ made. rw made (record { name = refl; opened = refl; schema = refl }))
    (λ none. rw none (kept_itself unit opened))

-- whether the change was made or failed
pub change_keeps : {X : Type 0} (change : FileChange X) (result : Result X Fault) (old new : FileUnit) → IsTrue (is_open old.holding) → ChangesHeld change old new result → IsKept old new
change_keeps change (Ok answer) old new opened held = rw held.unit (changed_keeps change old opened)
change_keeps change (Err Device) old new opened held = absurd held.fault
change_keeps change (Err Memory) old new opened held = rw held.fault.1 (record { name = refl; opened = refl; schema = refl })
change_keeps change (Err Full) old new opened held = rw held.fault.1 (kept_itself old opened)
change_keeps change (Err Damage) old new opened held = absurd held.fault
change_keeps change (Err BrokenUnit) old new opened held = rw held.fault.1 (kept_itself old opened)

-- the unit of the world after it was set
pub unit_set : (units : List FileUnit) (elsewhere : List ℕ → Named) (u : ℕ) (new : FileUnit) → u < length units
    → unit_at (record { units = slice_set units u new; elsewhere = elsewhere }) u ≡ new
unit_set units elsewhere u new within = get_or-set_same units u new (record { name = []; named = Absent; holding = Shut }) within

-- nothing is changed but it and what its name stands for
pub only_set : (units : List FileUnit) (elsewhere : List ℕ → Named) (u : ℕ) (old new : FileUnit) → u < length units → old ≡ slice_index_or units u old
    → IsKept old new → OnlyAt u (record { units = units; elsewhere = elsewhere }) (record { units = slice_set units u new; elsewhere = elsewhere })
only_set units elsewhere u old new within read kept =
    let start : World = record { units = units; elsewhere = elsewhere } in
    let was : unit_at start u ≡ old = unit_read units elsewhere u old within read in
    let is = unit_set units elsewhere u new within in
    let name : new.name ≡ (unit_at start u).name = kept.name ∙ ap (λ (unit : FileUnit). unit.name) (sym was) in
    λ i. record { units = slice_set units u (record { name = name i; named = ((sym is) i).named; holding = ((sym is) i).holding }); elsewhere = elsewhere }
