use Rattle.std.proofs.Common.{◌≡◌, ◌<◌, ◌+◌, length, refl, arith}
use Rattle.std.proofs.lemmas.List.Elements.{All-nil}
use Rattle.deck_runner.specs.Stretches.{IsStretch, ClosesAt, ClosesAtInPart, ClosesFiles, ClosesInPart}
use Rattle.deck_runner.specs.State.{state, point_in, IsLineOf, Leads}
use Rattle.deck_runner.proofs.StateLemmas.{goes_then, leads_as, done_then, refused_then}
use Rattle.deck_runner.proofs.CloseLemmas.{AreClosed, one_closed, all_closed, closed_in_part, as_many_files}
use Rattle.deck_runner.specs.HeldLines.{so_far}
use Rattle.deck_runner.proofs.ToldLemmas.{none_come, come_as}
use Rattle.deck_runner.proofs.StepLemmas.{no_steps}
use Rattle.deck_runner.proofs.MoveLemmas.{goes_on_alike}
use Rattle.deck_runner.proofs.running_deck.RunningDeck.close_all.Goals as goal

pub returns-in-Err : goal.returns-in-Err
returns-in-Err g c =
    let first = state c.args.library.now c.args.self.now in
    let now = state c.loop-u.library c.loop-u.self in
    let next = state c.close_file.new.library c.close_file.new.self in
    let before = c.loop-u.invariant in
    let many = as_many_files (g.L.Library.shown.world c.args.library.now) 0 c.args.self.now.files.items in
    let within : c.loop-u.u < length (point_in g.L.Library.shown first).run.files = omega arith in
    record {
      goes = goes_then g.L.Library.shown first now next before.goes c.close_file.ensures.goes;
      few = tt;
      done = tt;
      refused = refused_then g.L.Library.shown first now next (so_far (g.W.Write.contents c.args.out.now) c.args.held.now) (so_far (g.W.Write.contents c.loop-u.out) c.loop-u.held) (g.W.Write.contents c.close_file.new.out) c.loop-u.end
          (AreClosed g.L.Library.shown c.loop-u.u) (ClosesAtInPart g.L.Library.shown c.loop-u.u) (ClosesInPart g.L.Library.shown) before.goes c.close_file.ensures.goes before.told c.in-Err.ensures.refused
          (λ xs ys p q. closed_in_part g.L.Library.shown (point_in g.L.Library.shown first) (point_in g.L.Library.shown now) (point_in g.L.Library.shown next) c.loop-u.u xs ys within p q);
    }

pub loop-u-preserved : goal.loop-u-preserved
loop-u-preserved g c =
    let first = state c.args.library.now c.args.self.now in
    let now = state c.loop-u.library c.loop-u.self in
    let next = state c.close_file.new.library c.close_file.new.self in
    let before = c.loop-u.invariant in
    let goes = c.close_file.ensures.goes in
    let many = as_many_files (g.L.Library.shown.world c.args.library.now) 0 c.args.self.now.files.items in
    let within : c.loop-u.u < length (point_in g.L.Library.shown first).run.files = omega arith in
    record {
      goes = goes_then g.L.Library.shown first now next before.goes goes;
      few = let few = before.few in let one = c.in-Ok.ensures.few in rw c.followed_by-end.ensures (omega arith);
      told = done_then g.L.Library.shown first now next (so_far (g.W.Write.contents c.args.out.now) c.args.held.now) (so_far (g.W.Write.contents c.loop-u.out) c.loop-u.held) (so_far (g.W.Write.contents c.close_file.new.out) c.close_file.new.held)
          c.loop-u.end c.in-Ok.more c.followed_by-end.result (AreClosed g.L.Library.shown c.loop-u.u) (ClosesAt g.L.Library.shown c.loop-u.u) (AreClosed g.L.Library.shown (c.loop-u.u + 1))
          before.goes goes before.told c.in-Ok.ensures.done c.followed_by-end.ensures
          (λ xs ys p q. one_closed g.L.Library.shown (point_in g.L.Library.shown first) (point_in g.L.Library.shown now) (point_in g.L.Library.shown next) c.loop-u.u xs ys within p q);
    }

pub returns : goal.returns
returns g c =
    let first = state c.args.library.now c.args.self.now in
    let now = state c.loop-u.library c.loop-u.self in
    let many = as_many_files (g.L.Library.shown.world c.args.library.now) 0 c.args.self.now.files.items in
    let at_end : c.loop-u.u ≡ length (point_in g.L.Library.shown first).run.files = omega arith in
    record {
      goes = c.loop-u.invariant.goes;
      few = let few = c.loop-u.invariant.few in omega arith;
      done = come_as (so_far (g.W.Write.contents c.args.out.now) c.args.held.now) (so_far (g.W.Write.contents c.loop-u.out) c.loop-u.held) c.loop-u.end
          (Leads g.L.Library.shown first now (AreClosed g.L.Library.shown c.loop-u.u))
          (Leads g.L.Library.shown first now (ClosesFiles g.L.Library.shown))
          c.loop-u.invariant.told
          (leads_as g.L.Library.shown first now (AreClosed g.L.Library.shown c.loop-u.u) (ClosesFiles g.L.Library.shown)
          (λ lines p. all_closed g.L.Library.shown (point_in g.L.Library.shown first) (point_in g.L.Library.shown now) c.loop-u.u lines at_end p));
      refused = tt;
    }

pub loop-u-init : goal.loop-u-init
loop-u-init g c = record {
  goes = goes_on_alike g.L.Library.shown c.args.library.now c.args.self.now c.args.self.now refl refl c.requires.safe;
  few = rw c.none-end.ensures (omega arith);
  told = none_come (so_far (g.W.Write.contents c.args.out.now) c.args.held.now) c.none-end.result _ c.none-end.ensures
      (record { steps = λ honest trusted. record { steps = no_steps (IsStretch g.L.Library.shown) (point_in g.L.Library.shown (state c.args.library.now c.args.self.now)); rest = refl }; lines_are = All-nil (IsLineOf _ _ _ _) });
}
