use Rattle.deck_listing.proofs.FaultLemmas.{none_further}
use Rattle.deck_listing.specs.Told.{AreFurther}
use Rattle.deck_listing.proofs.faults.diagnose.Goals as goal
use Rattle.deck_listing.proofs.faults.diagnose.Goals.{in-Ok, in-Err}

pub returns : goal.returns
returns c =
    let further : AreFurther c.args.bytes.now c.match-further_of.further.items = elim c.match-further_of.branch [
      | in-Ok w ↦ rw (w.further-is) w.in-Ok.ensures
      | in-Err w ↦ rw (w.further-is) (none_further c.args.bytes.now w.new-further.ensures.items)
    ] in
    record { first = c.in_ok-first.ensures.tells; says = c.in_ok-first.ensures.says; further = further }
