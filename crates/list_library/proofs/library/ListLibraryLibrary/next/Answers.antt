use Rattle.std.proofs.Common.{rules, arith}
use Rattle.std.proofs.lemmas.Grind.{common_steps}
use Rattle.list_library.specs.Units.{named_among}
use Rattle.list_library.proofs.UnitWorldLemmas.{unit_read}
use Rattle.list_library.proofs.library.ListLibraryLibrary.next.Goals as goal

pub returns : goal.returns
returns c =
    let read = unit_read c.args.self.now.units.items (named_among c.args.self.now.others.items) c.args.u c.index-unit.result.now c.requires.attached c.index-unit.ensures in
    record {
      found = λ honest truly. rw read c.find.ensures.found;
      area = λ honest truly. rw read c.find.ensures.area;
      none = first_of (search rules, grind (arith, common_steps));
      err = c.find.ensures.err;
      reads = first_of (search rules, grind (arith, common_steps));
    }
