use Rattle.std.proofs.Common.{◌≤◌, take}
use Rattle.deck_runner.specs.Stretches.{AreStretches}
use Rattle.deck_runner.specs.State.{state, GoesOn, Leads}
use Rattle.deck_runner.specs.HeldLines.{so_far, Come}
use Rattle.deck_runner.proofs.StepLemmas.{IsPassed}
use Rattle.deck_runner.proofs.running_deck.RunningDeck.run_to_stop.Given as goal

-- no statement so far is STOP RUN, and each was a step
abbrev pub invariant-loop-statement : goal.invariant-loop-statement
invariant-loop-statement g l =
    let first = state l.fn.library l.fn.self in
    let now = state l.library l.self in
    record {
      goes : GoesOn g.L.Library.shown first now;
      passed : IsPassed l.statements l.statement-index;
      few : l.end.lines ≤ l.statement-index;
      told : Come (so_far (g.W.Write.contents l.fn.out) l.fn.held) (so_far (g.W.Write.contents l.out) l.held) l.end
          (Leads g.L.Library.shown first now (AreStretches g.L.Library.shown (take l.statement-index l.statements)));
    }
