use Rattle.open_file.proofs.ExitLemmas.{fails}
use Rattle.file_changes.proofs.replacing.put_over.Goals as goal

pub returns-in_err-set_slot-clause-over : goal.returns-in_err-set_slot-clause-over
returns-in_err-set_slot-clause-over g c honest sound slots primes entries p can =
    fails c.from_residual.result _ c.from_residual.ensures.1 ((rw c.forget_path.ensures at c.in_err-set_slot.ensures.set) honest sound slots primes entries p can.in_heap).no_damage _

pub returns-in_err-change_alternates-clause-over : goal.returns-in_err-change_alternates-clause-over
returns-in_err-change_alternates-clause-over g c honest sound slots primes entries p can =
    let before = g.met.P.Pages.writes_honestly c.set_slot.new.pages c.change_alternates.new.pages c.change_alternates.ensures.writes.step honest in
    let set = ((rw c.forget_path.ensures at c.in_ok-set_slot.ensures.set) before sound slots primes entries p can.in_heap).answer in
    let failed = (rw (c.as_slice.ensures.value, c.forget_path.ensures) at c.in_err-change_alternates.ensures.put) honest set.1 _ primes entries set.0 (can.there, can.freed) in
    fails c.from_residual-in_err-change_alternates.result _ c.from_residual-in_err-change_alternates.ensures.1 failed.no_damage _

pub returns-then-takes_stamp-clause-over : goal.returns-then-takes_stamp-clause-over
returns-then-takes_stamp-clause-over g c honest sound slots primes entries p can =
    let before = g.met.P.Pages.writes_honestly c.set_slot.new.pages c.change_alternates.new.pages c.change_alternates.ensures.writes.step honest in
    let set = ((rw c.forget_path.ensures at c.in_ok-set_slot.ensures.set) before sound slots primes entries p can.in_heap).answer in
    let changed = ((rw (c.as_slice.ensures.value, c.forget_path.ensures) at c.in_ok-change_alternates.ensures.put) honest set.1 _ primes entries set.0 (can.there, can.freed)).answer in
    rw c.take_stamp.ensures (record { answer = changed; no_damage = tt })

pub returns-else-takes_stamp-clause-over : goal.returns-else-takes_stamp-clause-over
returns-else-takes_stamp-clause-over g c honest sound slots primes entries p can =
    let before = g.met.P.Pages.writes_honestly c.set_slot.new.pages c.change_alternates.new.pages c.change_alternates.ensures.writes.step honest in
    let set = ((rw c.forget_path.ensures at c.in_ok-set_slot.ensures.set) before sound slots primes entries p can.in_heap).answer in
    let changed = ((rw (c.as_slice.ensures.value, c.forget_path.ensures) at c.in_ok-change_alternates.ensures.put) honest set.1 _ primes entries set.0 (can.there, can.freed)).answer in
    record { answer = changed; no_damage = tt }
