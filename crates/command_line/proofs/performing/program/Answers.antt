use Rattle.std.proofs.Common.{◌≡◌, Bool, subst, sym}
use Rattle.streams.specs.Writes.{taken_by}
use Rattle.command_support.specs.Status.{IsExitStatus}
use Rattle.command_line.specs.Answered.{status_heeding}
use Rattle.command_line.proofs.StatusLemmas.{heeding_is, untouched_by}
use Rattle.command_line.proofs.performing.program.Goals as goal

-- what was done for the words, by which calls, and the exit status of that
pub returns-clause-did : goal.returns-clause-did
returns-clause-did g c =
    let done = c.perform-system.result.2 in
    let bytes = taken_by c.perform-system.new.out.calls.writes in
    record {
      done = done;
      status_is = subst (λ (strict : Bool). c.tell_outcome-status.result ≡ status_heeding strict done.unclosed bytes done.outcome) c.is_strict.ensures c.tell_outcome-status.ensures;
      did = c.perform-system.ensures.did;
      came = c.perform-system.ensures.came;
    }

pub returns-clause-status : goal.returns-clause-status
returns-clause-status g c =
    let done = c.perform-system.result.2 in
    let bytes = taken_by c.perform-system.new.out.calls.writes in
    subst IsExitStatus (sym c.tell_outcome-status.ensures) (heeding_is c.is_strict.result done.unclosed bytes done.outcome)

pub returns-clause-untouched : goal.returns-clause-untouched
returns-clause-untouched g c = λ either.
    let done = c.perform-system.result.2 in
    let bytes = taken_by c.perform-system.new.out.calls.writes in
    untouched_by (c.perform-system.new.out ≡ c.args.out.now) c.is_strict.result done.unclosed bytes done.outcome c.perform-system.ensures.untouched c.tell_outcome-status.result c.tell_outcome-status.ensures either
