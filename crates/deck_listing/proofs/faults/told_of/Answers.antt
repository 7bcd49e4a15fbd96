use Rattle.std.proofs.Common.{arith, ◌<◌, length}
use Rattle.deck_listing.proofs.FaultLemmas.{one_more}
use Rattle.deck_listing.proofs.faults.told_of.Goals as goal
use Rattle.deck_listing.proofs.faults.told_of.Goals.{then-len-lt-MOST_FURTHER+in_ok-push, else-len-lt-MOST_FURTHER}

pub loop-message-preserved : goal.loop-message-preserved
loop-message-preserved c =
    elim c.if-len-lt-MOST_FURTHER.branch [
      | then-len-lt-MOST_FURTHER+in_ok-push w ↦
          let few : length c.loop-message.told.items < 19 = omega (arith, c.len.ensures, w.if-len-lt-MOST_FURTHER.true) in
          rw (w.told-is) (one_more c.args.bytes.now c.loop-message.told.items w.diagnosis_of.result w.in_ok-push.ensures.items c.loop-message.invariant.0 w.diagnosis_of.ensures.tells few)
      | else-len-lt-MOST_FURTHER w ↦ rw (w.told-is) c.loop-message.invariant
    ]
