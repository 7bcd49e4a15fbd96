use Rattle.std.proofs.Common.{subst}
use Rattle.command_words.specs.Asks.{Ask}
use Rattle.command_line.proofs.CameLemmas.{came_alone, copy_came, copy_did, copy_unwritten}
use Rattle.command_line.proofs.performing.answer_request.Goals as goal

-- the copy that is asked for
pub returns-in-Some-clause-did : goal.returns-in-Some-clause-did
returns-in-Some-clause-did g c words is =
    let asked = subst (Ask words) c.in-Some.ensures.some is in
    rw c.without_run.ensures (copy_did words g.D.Disk.unseen _ (g.S.System.state c.args.system) c.in-Some.asked asked c.copy-system.result.2 c.copy-system.ensures)

pub returns-in-Some-clause-came : goal.returns-in-Some-clause-came
returns-in-Some-clause-came g c words is =
    let asked = subst (Ask words) c.in-Some.ensures.some is in
    copy_came _ _ g.D.Disk.unseen words c.copy-system.new.aside.calls (g.S.System.state c.copy-system.result.0) (g.S.System.state c.copy-system.result.1).calls g.I.Read.remaining g.W.Write.contents
    c.args.input.now c.args.out.now (g.S.System.state c.args.system) c.requires.held c.in-Some.asked asked c.without_run.result (rw c.without_run.ensures c.copy-system.ensures)

pub returns-in-Some-clause-untouched : goal.returns-in-Some-clause-untouched
returns-in-Some-clause-untouched g c = rw c.without_run.ensures (copy_unwritten c.args.out.now c.copy-system.result.2)

-- or what is asked for beside that
pub returns-clause-did : goal.returns-clause-did
returns-clause-did g c = c.answer_alone-system.ensures.did

pub returns-clause-came : goal.returns-clause-came
returns-clause-came g c words is =
    came_alone _ _ g.D.Disk.unseen words c.answer_alone-system.new.aside.calls (g.S.System.state c.answer_alone-system.result.0) (g.S.System.state c.args.reader).calls g.I.Read.remaining g.W.Write.contents
    c.args.input.now c.answer_alone-system.new.input c.args.out.now c.answer_alone-system.new.out c.answer_alone-system.result.1 c.requires.unread (c.answer_alone-system.ensures.came words is)
