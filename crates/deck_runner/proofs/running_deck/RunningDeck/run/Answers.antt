use Rattle.std.proofs.Common.{refl, inl, inr, rules}
use Rattle.deck_runner.specs.Steps.{until_stop, closes_from}
use Rattle.deck_runner.specs.Stretches.{IsStretch, AreStretches, AreStretchesInPart, ClosesFiles, ClosesInPart, IsRunOver, IsBrokenOff}
use Rattle.deck_runner.specs.State.{state, point_in}
use Rattle.deck_runner.specs.RunEnd.{end_followed}
use Rattle.deck_runner.proofs.StateLemmas.{goes_then, leads_as, done_then, refused_then, all_refused}
use Rattle.deck_runner.proofs.StepLemmas.{all_in_part}
use Rattle.deck_runner.proofs.ToldLemmas.{come_in_part_as, told_all, told_in_part, held_then}
use Rattle.deck_runner.proofs.running_deck.RunningDeck.run.Goals as goal

pub returns-in_err-stopped : goal.returns-in_err-stopped
returns-in_err-stopped g c =
    let shown = g.L.Library.shown in
    let first = state c.args.library.now c.args.self.now in
    let next = state c.run_to_stop.new.library c.run_to_stop.new.self in
    let Part = AreStretchesInPart shown (until_stop c.args.statements.now) in
    let Off = IsBrokenOff shown c.args.statements.now in
    all_refused shown g.W.Write.contents c.args.statements.now c.args.library.now _ c.args.self.now _ c.args.held.now _ c.args.out.now _ c.from_residual.result (search rules) c.run_to_stop.ensures.goes
    (told_in_part _ _ _ c.requires.none_held (come_in_part_as _ _ _ _ c.in_err-stopped.ensures.refused (leads_as shown first next Part Off (λ lines p. inl p))))

pub returns-in_err-closed : goal.returns-in_err-closed
returns-in_err-closed g c =
    let shown = g.L.Library.shown in
    let first = state c.args.library.now c.args.self.now in
    let stopped = state c.run_to_stop.new.library c.run_to_stop.new.self in
    let next = state c.close_all.new.library c.close_all.new.self in
    let Done = AreStretches shown (until_stop c.args.statements.now) in
    let Off = IsBrokenOff shown c.args.statements.now in
    let goes = c.run_to_stop.ensures.goes in
    let more = c.close_all.ensures.goes in
    all_refused shown g.W.Write.contents c.args.statements.now c.args.library.now _ c.args.self.now _ c.args.held.now _ c.args.out.now _ c.from_residual-in_err-closed.result (search rules) (goes_then shown first stopped next goes more)
    (told_in_part _ _ _ c.requires.none_held
    (refused_then shown first stopped next _ _ _ c.in_ok-stopped.stopped Done (ClosesInPart shown) Off goes more
    c.in_ok-stopped.ensures.done c.in_err-closed.ensures.refused (λ xs ys p q. inr (point_in shown stopped, xs, ys, p, q, refl))))

pub returns-in_err-hand_over : goal.returns-in_err-hand_over
returns-in_err-hand_over g c =
    let shown = g.L.Library.shown in
    let first = state c.args.library.now c.args.self.now in
    let stopped = state c.run_to_stop.new.library c.run_to_stop.new.self in
    let next = state c.close_all.new.library c.close_all.new.self in
    let Done = AreStretches shown (until_stop c.args.statements.now) in
    let Off = IsBrokenOff shown c.args.statements.now in
    let both = end_followed c.in_ok-stopped.stopped c.in_ok-closed.closed in
    let goes = c.run_to_stop.ensures.goes in
    let more = c.close_all.ensures.goes in
    all_refused shown g.W.Write.contents c.args.statements.now c.args.library.now _ c.args.self.now _ c.args.held.now _ c.args.out.now _ c.from_residual-in_err-hand_over.result (search rules) (goes_then shown first stopped next goes more)
    (told_in_part _ _ _ c.requires.none_held
    (held_then _ _ _ both _
    (done_then shown first stopped next _ _ _ c.in_ok-stopped.stopped c.in_ok-closed.closed both Done (ClosesFiles shown) Off goes more
    c.in_ok-stopped.ensures.done c.in_ok-closed.ensures.done refl
    (λ xs ys p q. inr (point_in shown stopped, xs, ys, p, all_in_part (IsStretch shown) (closes_from 0 (point_in shown stopped).run.files) (point_in shown stopped) (point_in shown next) ys q, refl)))
    c.in_err-hand_over.ensures.refused))

pub returns : goal.returns
returns g c =
    let shown = g.L.Library.shown in
    let first = state c.args.library.now c.args.self.now in
    let stopped = state c.run_to_stop.new.library c.run_to_stop.new.self in
    let next = state c.close_all.new.library c.close_all.new.self in
    let Done = AreStretches shown (until_stop c.args.statements.now) in
    let Whole = IsRunOver shown c.args.statements.now in
    let goes = c.run_to_stop.ensures.goes in
    let more = c.close_all.ensures.goes in
    record {
      goes = goes_then shown first stopped next goes more;
      done = told_all _ _ _ c.followed_by.result _ c.requires.none_held
          (done_then shown first stopped next _ _ _ c.in_ok-stopped.stopped c.in_ok-closed.closed c.followed_by.result Done (ClosesFiles shown) Whole goes more
          c.in_ok-stopped.ensures.done c.in_ok-closed.ensures.done c.followed_by.ensures (λ xs ys p q. (point_in shown stopped, xs, ys, p, q, refl)))
          c.in_ok-hand_over.ensures.written;
      refused = tt;
    }
