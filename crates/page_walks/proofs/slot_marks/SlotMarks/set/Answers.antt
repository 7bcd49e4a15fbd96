use Rattle.std.proofs.Common.{refl}
use Rattle.page_walks.proofs.MarkAheadLemmas.{mark_there}
use Rattle.page_walks.proofs.SlotMarkLemmas.{mark_set}
use Rattle.page_walks.proofs.slot_marks.SlotMarks.set.Goals as goal

pub returns-in-Some-clause-set : goal.returns-in-Some-clause-set
returns-in-Some-clause-set c done =
    mark_set c.args.self.now _ c.args.place c.args.to c.in-Some.i c.in-Some.ensures.at refl refl refl (c.put.ensures.here done) c.put.ensures.others

pub returns-in-Some-clause-there : goal.returns-in-Some-clause-there
returns-in-Some-clause-there c failed has =
    mark_there c.args.self.now c.args.place c.in-Some.i c.in-Some.ensures.at (c.put.ensures.there failed) has
