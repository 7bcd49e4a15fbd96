use Rattle.std.proofs.Common.{[], ◌∷◌, ◌∙◌, refl, arith, rules}
use Rattle.std.proofs.lemmas.List.Elements.{All-nil}
use Rattle.deck_reader.specs.declared.statement.Statement.TheVariants.{Perform}
use Rattle.deck_runner.specs.Stretches.{IsStretch, AreStretchesInPart}
use Rattle.deck_runner.specs.State.{state, point_in, IsLineOf, Leads}
use Rattle.deck_runner.specs.Parts.{VerbOn}
use Rattle.deck_runner.specs.HeldLines.{so_far}
use Rattle.deck_runner.proofs.StateLemmas.{leads_as, part_refused}
use Rattle.deck_runner.proofs.StepLemmas.{one_step, all_in_part, none_in_part}
use Rattle.deck_runner.proofs.HeldLemmas.{line_goes, line_behind_refused}
use Rattle.deck_runner.proofs.ToldLemmas.{held_in_part, end_of_one}
use Rattle.deck_runner.proofs.MoveLemmas.{goes_on_alike}
use Rattle.deck_runner.proofs.running_deck.RunningDeck.run_verb.Goals as goal

pub returns-in_err-make_way : goal.returns-in_err-make_way
returns-in_err-make_way g c =
    let first = state c.args.library.now c.args.self.now in
    let Part = AreStretchesInPart g.L.Library.shown (Perform c.args.u c.args.statement.now ∷ []) in
    part_refused g.L.Library.shown g.W.Write.contents (VerbOn c.args.u c.args.statement.now) c.args.library.now c.args.library.now c.args.self.now c.args.self.now c.args.held.now _ c.args.out.now _ c.from_residual.result (search rules)
    (goes_on_alike g.L.Library.shown c.args.library.now c.args.self.now c.args.self.now refl refl c.requires.safe)
    (held_in_part (so_far (g.W.Write.contents c.args.out.now) c.args.held.now) (g.W.Write.contents c.make_way.new.out) (Leads g.L.Library.shown first first Part) c.in_err-make_way.ensures.refused
    (record {
      steps = λ honest trusted. none_in_part (IsStretch g.L.Library.shown) (Perform c.args.u c.args.statement.now ∷ []) (point_in g.L.Library.shown first);
      lines_are = All-nil (IsLineOf _ _ _ _);
    }))

pub returns-in_err-add : goal.returns-in_err-add
returns-in_err-add g c =
    let made = c.perform_on-clean.ensures in
    let first = state c.args.library.now c.args.self.now in
    let next = state c.perform_on-clean.new.library c.perform_on-clean.new.self in
    let One = IsStretch g.L.Library.shown (Perform c.args.u c.args.statement.now) in
    let Part = AreStretchesInPart g.L.Library.shown (Perform c.args.u c.args.statement.now ∷ []) in
    part_refused g.L.Library.shown g.W.Write.contents (VerbOn c.args.u c.args.statement.now) c.args.library.now c.perform_on-clean.new.library c.args.self.now c.perform_on-clean.new.self c.args.held.now _ c.args.out.now _ c.from_residual-in_err-add.result (search rules)
    made.goes (
      made.line ∷ [],
      leads_as g.L.Library.shown first next One Part
          (λ lines p.
          all_in_part (IsStretch g.L.Library.shown) (Perform c.args.u c.args.statement.now ∷ []) (point_in g.L.Library.shown first) (point_in g.L.Library.shown next) lines
          (one_step (IsStretch g.L.Library.shown) (Perform c.args.u c.args.statement.now) (point_in g.L.Library.shown first) (point_in g.L.Library.shown next) lines p))
          (made.line ∷ []) made.leads,
      line_behind_refused (g.W.Write.contents c.args.out.now) (g.W.Write.contents c.make_way.new.out) (g.W.Write.contents c.add.new.out) c.args.held.now c.make_way.new.held c.args.statement.now made.line made.statement_is
          c.in_ok-make_way.ensures.ready c.in_err-add.ensures.refused,
    )

pub returns : goal.returns
returns g c =
    let made = c.perform_on-clean.ensures in
    record {
      goes = made.goes;
      few = rw c.one.ensures (omega arith);
      done = (
        made.line ∷ [],
        end_of_one c.one.result made.line c.perform_on-clean.result made.clean_is c.one.ensures,
        made.leads,
        line_goes (g.W.Write.contents c.args.out.now) (g.W.Write.contents c.make_way.new.out) (g.W.Write.contents c.add.new.out) c.args.held.now c.make_way.new.held c.args.statement.now made.line made.statement_is
            c.add.new.self c.as_slice.result.now (c.as_slice.ensures.value ∙ made.text) c.in_ok-make_way.ensures.ready c.in_ok-add.ensures.added,
      );
      refused = tt;
    }
