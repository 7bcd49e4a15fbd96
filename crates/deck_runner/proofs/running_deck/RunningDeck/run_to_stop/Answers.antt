use Rattle.std.proofs.Common.{◌+◌, [], ◌∷◌, take, refl, sym, arith}
use Rattle.std.proofs.lemmas.List.Elements.{All-nil}
use Rattle.deck_runner.specs.Steps.{until_stop}
use Rattle.deck_runner.specs.Stretches.{IsStretch, AreStretches, AreStretchesInPart}
use Rattle.deck_runner.specs.State.{state, point_in, IsLineOf}
use Rattle.deck_runner.proofs.StateLemmas.{goes_then, done_then, refused_then}
use Rattle.deck_runner.proofs.StepLemmas.{no_steps, passed_more, step_to_next, breaks_behind}
use Rattle.deck_runner.specs.HeldLines.{so_far}
use Rattle.deck_runner.proofs.ToldLemmas.{none_come}
use Rattle.deck_runner.proofs.MoveLemmas.{goes_on_alike}
use Rattle.deck_runner.proofs.running_deck.RunningDeck.run_to_stop.Goals as goal

pub returns-in-Err : goal.returns-in-Err
returns-in-Err g c =
    let first = state c.args.library.now c.args.self.now in
    let now = state c.loop-statement.library c.loop-statement.self in
    let next = state c.run_statement.new.library c.run_statement.new.self in
    let i = c.loop-statement.statement-index in
    let before = c.loop-statement.invariant in
    let Done = AreStretches g.L.Library.shown (take i c.args.statements.now) in
    let One = AreStretchesInPart g.L.Library.shown (c.statement-item.result ∷ []) in
    let Part = AreStretchesInPart g.L.Library.shown (until_stop c.args.statements.now) in
    record {
      goes = goes_then g.L.Library.shown first now next before.goes c.run_statement.ensures.goes;
      few = tt;
      done = tt;
      refused = refused_then g.L.Library.shown first now next (so_far (g.W.Write.contents c.args.out.now) c.args.held.now) (so_far (g.W.Write.contents c.loop-statement.out) c.loop-statement.held) (g.W.Write.contents c.run_statement.new.out) c.loop-statement.end
          Done One Part before.goes c.run_statement.ensures.goes before.told c.in-Err.ensures.refused
          (λ xs ys p q.
          breaks_behind (IsStretch g.L.Library.shown) c.args.statements.now i c.statement-item.result c.loop-statement-test.true c.statement-item.is (sym c.if-stop.ensures) before.passed
          (point_in g.L.Library.shown first) (point_in g.L.Library.shown now) (point_in g.L.Library.shown next) xs ys p q);
    }

pub loop-statement-preserved : goal.loop-statement-preserved
loop-statement-preserved g c =
    let first = state c.args.library.now c.args.self.now in
    let now = state c.loop-statement.library c.loop-statement.self in
    let next = state c.run_statement.new.library c.run_statement.new.self in
    let i = c.loop-statement.statement-index in
    let before = c.loop-statement.invariant in
    let goes = c.run_statement.ensures.goes in
    let Done = AreStretches g.L.Library.shown (take i c.args.statements.now) in
    let One = IsStretch g.L.Library.shown c.statement-item.result in
    let Next = AreStretches g.L.Library.shown (take (i + 1) c.args.statements.now) in
    record {
      goes = goes_then g.L.Library.shown first now next before.goes goes;
      passed = passed_more c.args.statements.now i c.statement-item.result c.loop-statement-test.true c.statement-item.is (sym c.if-stop.ensures) before.passed;
      few = let few = before.few in let one = c.in-Ok.ensures.few in rw c.followed_by-end.ensures (omega arith);
      told = done_then g.L.Library.shown first now next (so_far (g.W.Write.contents c.args.out.now) c.args.held.now) (so_far (g.W.Write.contents c.loop-statement.out) c.loop-statement.held) (so_far (g.W.Write.contents c.run_statement.new.out) c.run_statement.new.held)
          c.loop-statement.end c.in-Ok.more c.followed_by-end.result Done One Next before.goes goes before.told c.in-Ok.ensures.done c.followed_by-end.ensures
          (λ xs ys p q.
          step_to_next (IsStretch g.L.Library.shown) c.args.statements.now i c.statement-item.result c.loop-statement-test.true c.statement-item.is
          (point_in g.L.Library.shown first) (point_in g.L.Library.shown now) (point_in g.L.Library.shown next) xs ys p q);
    }

pub loop-statement-init : goal.loop-statement-init
loop-statement-init g c = record {
  goes = goes_on_alike g.L.Library.shown c.args.library.now c.args.self.now c.args.self.now refl refl c.requires.safe;
  passed = refl;
  few = rw c.none-end.ensures (omega arith);
  told = none_come (so_far (g.W.Write.contents c.args.out.now) c.args.held.now) c.none-end.result _ c.none-end.ensures
      (record { steps = λ honest trusted. no_steps (IsStretch g.L.Library.shown) (point_in g.L.Library.shown (state c.args.library.now c.args.self.now)); lines_are = All-nil (IsLineOf _ _ _ _) });
}
