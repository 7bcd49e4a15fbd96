use Rattle.std.proofs.Common.{Result, sym, subst}
use Rattle.io_state.specs.declared.fault.Fault.{Fault}
use Rattle.page_store.specs.DeviceFile.{DeviceFile, content}
use Rattle.page_store.specs.ShelfState.{unit_file}
use Rattle.page_store.proofs.GateLemmas.{same_file}
use Rattle.page_store.specs.Pages.{HoldsPages}
use Rattle.file_checker.specs.Sound.{IsRight}
use Rattle.file_checker.specs.UnitChecking.{ChecksUnit, IsUnitFault}
use Rattle.file_checker.specs.declared.verdict.Verdict.{Verdict}
use Rattle.file_checker.proofs.UnitLemmas.{has_unit}
use Rattle.file_reports.specs.StatisticsListing.{IsSoundWith}
use Rattle.file_reports.proofs.ListedLemmas.{holds_pages, lists_on, unsound_listed, memory_wanting, call_failed}
use Rattle.file_reports.proofs.statistics_listing.list_statistics.Goals as goal

pub write_unit-requires-clause-holds : goal.write_unit-requires-clause-holds
write_unit-requires-clause-holds g c =
    let old = g.S.Shelf.state c.args.shelf in
    let new = g.S.Shelf.state c.check_unit-shelf.result.0 in
    let file = unit_file old c.args.unit in
    let found = subst (λ (r : Result Verdict Fault). ChecksUnit g.S.Shelf.state g.S.Shelf.fault_count c.args.unit c.args.shelf c.check_unit-shelf.result.0 r) c.in-Ok-Sound.is c.check_unit-shelf.ensures in
    record {
      unit = has_unit old new c.args.unit found.only c.requires;
      file = λ honest. subst (λ (file : DeviceFile). HoldsPages c.in-Ok-Sound.pages file) (sym (same_file old new c.args.unit found.only))
          (holds_pages file c.in-Ok-Sound.pages (_, subst (IsRight (content file)) (rw c.in-Ok-Sound.is at c.in-Ok-Sound.field-0-is) (found.right honest)));
    }

pub write_unit-requires-clause-sound : goal.write_unit-requires-clause-sound
write_unit-requires-clause-sound g c = λ honest.
    let old = g.S.Shelf.state c.args.shelf in
    let new = g.S.Shelf.state c.check_unit-shelf.result.0 in
    let found = subst (λ (r : Result Verdict Fault). ChecksUnit g.S.Shelf.state g.S.Shelf.fault_count c.args.unit c.args.shelf c.check_unit-shelf.result.0 r) c.in-Ok-Sound.is c.check_unit-shelf.ensures in
    subst (λ (file : DeviceFile). IsSoundWith (content file) c.in-Ok-Sound.pages) (sym (same_file old new c.args.unit found.only))
    (_, subst (IsRight (content (unit_file old c.args.unit))) (rw c.in-Ok-Sound.is at c.in-Ok-Sound.field-0-is) (found.right honest))

pub returns-in-Ok-Sound : goal.returns-in-Ok-Sound
returns-in-Ok-Sound g c =
    lists_on g.S.Shelf.state g.S.Shelf.fault_count c.args.unit c.args.shelf c.check_unit-shelf.result.0 c.write_unit.result.0 c.check_unit-shelf.ensures.only c.check_unit-shelf.ensures.no_fewer
    _ _ _ c.write_unit.ensures

pub returns-in-Ok-Unsound : goal.returns-in-Ok-Unsound
returns-in-Ok-Unsound g c =
    let file = unit_file (g.S.Shelf.state c.args.shelf) c.args.unit in
    let found = subst (λ (r : Result Verdict Fault). ChecksUnit g.S.Shelf.state g.S.Shelf.fault_count c.args.unit c.args.shelf c.check_unit-shelf.result.0 r) c.in-Ok-Unsound.is c.check_unit-shelf.ensures in
    unsound_listed g.S.Shelf.state g.S.Shelf.fault_count c.args.unit c.args.shelf c.check_unit-shelf.result.0 (g.W.Write.contents c.args.out.now) c.in-Ok-Unsound.reason c.in-Ok-Unsound.place
    (λ honest. subst (IsRight (content file)) (rw c.in-Ok-Unsound.is at c.in-Ok-Unsound.field-0-is) (found.right honest)) found.only

pub returns-in-Err-Device : goal.returns-in-Err-Device
returns-in-Err-Device g c =
    let found = subst (λ (r : Result Verdict Fault). ChecksUnit g.S.Shelf.state g.S.Shelf.fault_count c.args.unit c.args.shelf c.check_unit-shelf.result.0 r) c.in-Err-Device.is c.check_unit-shelf.ensures in
    call_failed g.S.Shelf.state g.S.Shelf.fault_count c.args.unit c.args.shelf c.check_unit-shelf.result.0 (g.W.Write.contents c.args.out.now) found.only
    (subst (IsUnitFault (g.S.Shelf.fault_count c.args.shelf) (g.S.Shelf.fault_count c.check_unit-shelf.result.0)) (rw c.in-Err-Device.is at c.in-Err-Device.field-0-is) found.fault)

pub returns-in-Err : goal.returns-in-Err
returns-in-Err g c = memory_wanting g.S.Shelf.state g.S.Shelf.fault_count c.args.unit c.args.shelf c.check_unit-shelf.result.0 (g.W.Write.contents c.args.out.now) c.check_unit-shelf.ensures.only
