-- A change of the file of one unit is a change of that unit of the library.
use Rattle.std.proofs.Common.{◌≡◌, ℕ, ◌<◌, true, length, Result, Ok, Err, refl, sym, ap, ◌∙◌, subst, slice_index_or, arith, rules}
use Rattle.std.proofs.lemmas.Grind.{common_steps}
use Rattle.std.proofs.lemmas.Result.{on_ok_weaker}
use Rattle.std.specs.Prelude.{slice_set, OnOk, IfErr, IsTrue, IsFalse, ◌≢◌}
use Rattle.io_state.specs.declared.fault.Fault.{Fault}
use Rattle.io_state.specs.declared.fault.Fault.TheVariants.{Device, Memory, Full, Damage, Broken as BrokenUnit}
use Rattle.record_layout.specs.Schema.{Schema}
use Rattle.indexed_file.specs.File.{File}
use Rattle.indexed_file.specs.FileChange.{FileChange, LacksRoomFor}
use Rattle.indexed_file.specs.Room.{Endless}
use Rattle.indexed_file.specs.World.{FileUnit, World, Holding, Shut, Looked, Opened, Broken, unit_at, schema_at, file_at, schema_in, is_open, is_broken, OnlyAt}
use Rattle.indexed_file.specs.Calls.{OnlyReads, LeavesBroken, MayAnswer}
use Rattle.indexed_file.specs.UnitCalls.{ChangesUnit}
use Rattle.list_library.specs.declared.library.ListLibrary.{ListLibrary}
use Rattle.list_library.specs.ListWorld.{list_world_of, shown_in_memory}
use Rattle.list_library.specs.Units.{named_among, unit_changed, ChangesHeld}
use Rattle.indexed_file.proofs.TestLemmas.{either}
use Rattle.list_library.proofs.KeptLemmas.{IsKept, change_keeps, unit_set, only_set}
use Rattle.list_library.proofs.ListWorldLemmas.{keeps_all, goes_in_memory, others_stay_in_memory}
use Rattle.list_library.proofs.UnitWorldLemmas.{unit_read, same_world, changed_world}

-- a broken unit is broken with its schema
broken_holds : (holding : Holding) → IsTrue (is_broken holding) → holding ≡ Broken (schema_in holding)
broken_holds Shut broken = absurd (cc)
broken_holds (Looked schema) broken = absurd (cc)
broken_holds (Opened schema file) broken = absurd (cc)
broken_holds (Broken schema) broken = refl

module _
    {X : Type 0} (change : Schema → FileChange X) (old new : ListLibrary) (u : ℕ) (before after : FileUnit) (result : Result X Fault)
    (within : u < length old.units.items) (read : before ≡ slice_index_or old.units.items u before)
    (set : list_world_of new ≡ record { units = slice_set old.units.items u after; elsewhere = named_among old.others.items })
    (opened : IsTrue (is_open before.holding))
    (full : (file : File) → LacksRoomFor Endless (change (schema_in before.holding)) file → IsTrue (change (schema_in before.holding)).takes_pages)
    (held : ChangesHeld (change (schema_in before.holding)) before after result) where
  abbrev start : World
  start = list_world_of old

  was : unit_at start u ≡ before
  was = unit_read old.units.items (named_among old.others.items) u before within read

  is : unit_at (list_world_of new) u ≡ after
  is = ap (λ (world : World). unit_at world u) set ∙ unit_set old.units.items (named_among old.others.items) u after within

  abbrev with_unit_set : FileUnit → World
  with_unit_set unit = record start { units = slice_set start.units u unit }

  -- where the unit stays, the world does
  stays : after ≡ before → list_world_of new ≡ start
  stays same = set ∙ (ap with_unit_set (same ∙ sym was) ∙ same_world start u)

  reads : after ≡ before → OnlyReads u true start (list_world_of new)
  reads same =
      subst (λ (world : World). OnlyReads u true start world) (sym (stays same))
      (record { only = sym (same_world start u); state = record { opened = refl; broken = refl }; schema = refl; same = λ honest. refl })

  kept : IsKept before after
  kept = change_keeps (change (schema_in before.holding)) result before after opened held

  faults : (r : Result X Fault) → ChangesHeld (change (schema_in before.holding)) before after r
      → IfErr r (λ fault. fault ≢ Full → LeavesBroken u true start (list_world_of new) × MayAnswer shown_in_memory u old new fault)
  faults (Ok x) held = tt
  faults (Err Device) held = absurd held.fault
  faults (Err Memory) held = λ other. (record { holding = ap (λ (unit : FileUnit). unit.holding) (is ∙ held.fault.1) ∙ ap (λ (unit : FileUnit). Broken (schema_in unit.holding)) (sym was); named = λ honest. first_of (search rules, grind (arith, common_steps)) }, (subst (λ (unit : FileUnit). IsFalse (is_broken unit.holding)) (sym was) held.fault.0, refl))
  faults (Err Full) held = λ other. absurd (other refl)
  faults (Err Damage) held = absurd held.fault
  faults (Err BrokenUnit) held = λ other. (record { holding = ap (λ (unit : FileUnit). unit.holding) (is ∙ held.fault.1) ∙ (broken_holds before.holding held.fault.0 ∙ ap (λ (unit : FileUnit). Broken (schema_in unit.holding)) (sym was)); named = λ honest. first_of (search rules, grind (arith, common_steps)) }, subst (λ (unit : FileUnit). IsTrue (is_broken unit.holding)) (sym was) held.fault.0)

  -- a unit that answers is not broken, and a change does not break it
  works : (r : Result X Fault) → ChangesHeld (change (schema_in before.holding)) before after r → OnOk r (IsFalse (is_broken after.holding))
  works (Err fault) held = tt
  works (Ok x) held =
      either (is_broken before.holding) (IsFalse (is_broken after.holding))
      (λ broken. let e = held.broken broken in absurd (cc))
      (λ works. rw held.unit
      (either ((change (schema_in before.holding)).is_made ((change (schema_in before.holding)).answer (file_at start u))) (IsFalse (is_broken (unit_changed (change (schema_in before.holding)) before).holding))
      (λ made. let here = rw was at made in rw here refl)
      (λ none. let here = rw was at none in rw here works)))

  pub changes : ChangesUnit shown_in_memory u (change (schema_at start u)) old new result
  changes = record {
    answer = λ honest shown. rw was held.answer;
    done = λ honest shown. on_ok_weaker result (λ unit. set ∙ (ap with_unit_set (unit ∙ ap (λ (one : FileUnit). unit_changed (change (schema_in one.holding)) one) (sym was)) ∙ changed_world (change (schema_at start u)) start u)) held.unit;
    room = λ honest shown. rw was held.room;
    full = λ e.
        let fails = rw e at held.fault in
        (rw was (full _ fails.0), (reads fails.1, λ honest shown. rw was fails.0));
    asked = first_of (search rules, grind (arith, common_steps));
    counted = omega arith;
    broken = λ broken. held.broken (subst (λ (unit : FileUnit). IsTrue (is_broken unit.holding)) was broken);
    fault = faults result held;
    unbroken = on_ok_weaker result (λ works. rw is works) (works result held);
    only = subst (λ (world : World). OnlyAt u start world) (sym set) (only_set old.units.items (named_among old.others.items) u before after within read kept);
    opened = rw is kept.opened;
    schema = rw (is, was) kept.schema;
    unmade = λ none. record { room = refl; counts = refl };
    images = λ honest shown. goes_in_memory _ _ _ _;
    others = others_stay_in_memory u old new;
    keeps = keeps_all old new;
  }
