use Rattle.std.proofs.Common.{subst}
use Rattle.page_store.specs.ShelfState.{unit_file}
use Rattle.file_checker.specs.FirstLook.{IsLookAt}
use Rattle.file_checker.proofs.UnitLemmas.{checks_on}
use Rattle.file_checker.proofs.unit_check.check_unit.Goals as goal

pub returns-in-Ok-Refused : goal.returns-in-Ok-Refused
returns-in-Ok-Refused g c = record {
  right = λ honest. subst (IsLookAt (unit_file (g.S.Shelf.state c.args.shelf) c.args.unit)) c.in-Ok-Refused.field-0-is (c.in-Ok-Refused.ensures.look.answer honest);
  only = c.look_at.ensures.look.only;
  no_fewer = c.look_at.ensures.look.cause.no_fewer;
  fault = tt;
}

pub returns-in-Ok-Accepted : goal.returns-in-Ok-Accepted
returns-in-Ok-Accepted g c =
    checks_on g.S.Shelf.state g.S.Shelf.fault_count c.args.unit c.args.shelf c.look_at.new.shelf c.check_unit_pages.result.0 c.look_at.ensures.look.only c.look_at.ensures.look.cause.no_fewer
    c.check_unit_pages.result.1 c.check_unit_pages.ensures
