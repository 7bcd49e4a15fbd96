use Rattle.std.proofs.Common.{false, [], ◌∷◌, length, refl, sym}
use Rattle.std.proofs.lemmas.Option.{slice_get_read}
use Rattle.std.proofs.lemmas.Result.{IfOk-weaker, on_err_weaker}
use Rattle.io_state.specs.declared.statement.FileStatement.TheVariants.{Close}
use Rattle.deck_reader.specs.declared.statement.Statement.TheVariants.{Perform}
use Rattle.deck_runner.specs.Stretches.{IsStretch, AreStretchesInPart, ClosesAt, ClosesAtInPart}
use Rattle.deck_runner.specs.Running.{run_file}
use Rattle.deck_runner.specs.State.{state, point_in}
use Rattle.deck_runner.specs.Parts.{CloseOf}
use Rattle.deck_runner.proofs.VerbLemmas.{run_here, of_any}
use Rattle.deck_runner.proofs.StateLemmas.{leads_as, no_line}
use Rattle.deck_runner.proofs.ToldLemmas.{come_as, come_in_part_as}
use Rattle.deck_runner.proofs.CloseLemmas.{not_open, is_closed, is_closed_in_part}
use Rattle.deck_runner.proofs.MoveLemmas.{goes_on_alike}
use Rattle.deck_runner.proofs.running_deck.RunningDeck.close_file.Goals as goal

pub returns-then-not-open : goal.returns-then-not-open
returns-then-not-open g c =
    let world = g.L.Library.shown.world c.args.library.now in
    let files = c.args.self.now.files.items in
    let file = c.index-file.result.now in
    let get = slice_get_read files (length files) c.args.u file refl c.requires.part_is c.index-file.ensures in
    no_line g.L.Library.shown g.W.Write.contents (CloseOf c.args.u) c.args.library.now c.args.self.now c.args.self.now c.args.held.now c.args.out.now c.none.result c.none.ensures
    (goes_on_alike g.L.Library.shown c.args.library.now c.args.self.now c.args.self.now refl refl c.requires.safe)
    (not_open g.L.Library.shown c.args.u (point_in g.L.Library.shown (state c.args.library.now c.args.self.now)) (run_file world c.args.u file) (run_here world files c.args.u file get) (sym c.if-not-open.ensures))

pub run_verb-requires : goal.run_verb-requires
run_verb-requires g c =
    let files = c.args.self.now.files.items in
    let get = slice_get_read files (length files) c.args.u c.index-file.result.now refl c.requires.part_is c.index-file.ensures in
    record { safe = c.requires.safe; part_is = of_any files c.args.u _ _ get (λ schema. tt) }

pub returns : goal.returns
returns g c =
    let world = g.L.Library.shown.world c.args.library.now in
    let files = c.args.self.now.files.items in
    let file = c.index-file.result.now in
    let get = slice_get_read files (length files) c.args.u file refl c.requires.part_is c.index-file.ensures in
    let first = state c.args.library.now c.args.self.now in
    let next = state c.run_verb.new.library c.run_verb.new.self in
    let closed = sym c.if-not-open.ensures in
    let here = run_here world files c.args.u file get in
    record {
      goes = c.run_verb.ensures.goes;
      few = c.run_verb.ensures.few;
      done = IfOk-weaker c.run_verb.result _ _
          (λ end told. come_as _ _ end _ _ told
          (leads_as g.L.Library.shown first next (IsStretch g.L.Library.shown (Perform c.args.u (Close false))) (ClosesAt g.L.Library.shown c.args.u)
          (λ lines p. is_closed g.L.Library.shown c.args.u (point_in g.L.Library.shown first) (point_in g.L.Library.shown next) lines (run_file world c.args.u file) here closed p)))
          c.run_verb.ensures.done;
      refused = on_err_weaker c.run_verb.result
          (λ part. come_in_part_as _ _ _ _ part
          (leads_as g.L.Library.shown first next (AreStretchesInPart g.L.Library.shown (Perform c.args.u (Close false) ∷ [])) (ClosesAtInPart g.L.Library.shown c.args.u)
          (λ lines p. is_closed_in_part g.L.Library.shown c.args.u (point_in g.L.Library.shown first) (point_in g.L.Library.shown next) lines (run_file world c.args.u file) here closed p)))
          c.run_verb.ensures.refused;
    }
