use Rattle.std.proofs.Common.{◌≤◌}
use Rattle.deck_runner.specs.State.{state, GoesOn, Leads}
use Rattle.deck_runner.specs.HeldLines.{so_far, Come}
use Rattle.deck_runner.proofs.CloseLemmas.{AreClosed}
use Rattle.deck_runner.proofs.running_deck.RunningDeck.close_all.Given as goal

-- the files so far are closed, and the others are as they were
abbrev pub invariant-loop-u : goal.invariant-loop-u
invariant-loop-u g l =
    let first = state l.fn.library l.fn.self in
    let now = state l.library l.self in
    record {
      goes : GoesOn g.L.Library.shown first now;
      few : l.end.lines ≤ l.u;
      told : Come (so_far (g.W.Write.contents l.fn.out) l.fn.held) (so_far (g.W.Write.contents l.out) l.held) l.end
          (Leads g.L.Library.shown first now (AreClosed g.L.Library.shown l.u));
    }
