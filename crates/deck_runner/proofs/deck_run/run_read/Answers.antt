use Rattle.std.proofs.Common.{refl}
use Rattle.deck_runner.specs.Stretches.{IsRunOver, IsBrokenOff}
use Rattle.deck_runner.specs.State.{state, Leads}
use Rattle.deck_runner.specs.Beginning.{DeckLeads}
use Rattle.deck_runner.proofs.ToldLemmas.{told_as, part_as}
use Rattle.deck_runner.proofs.StateLemmas.{keeps_then}
use Rattle.deck_runner.proofs.EndLemmas.{leads, elsewhere_same}
use Rattle.deck_runner.proofs.deck_run.run_read.Goals as goal

pub returns-in-Ok-run : goal.returns-in-Ok-run
returns-in-Ok-run g c =
    let deck = c.args.deck.now in
    let begun = c.in-Ok-begin.ensures.begun in
    let goes = c.run.ensures.goes in
    let Whole = IsRunOver g.L.Library.shown deck.statements in
    record {
      elsewhere = elsewhere_same g.L.Library.shown c.args.library.now c.begin.new.library c.run.new.library deck c.in-Ok-begin.begun c.run.new.self begun goes c.begin.ensures.untouched;
      run = told_as (g.W.Write.contents c.args.out.now) (g.W.Write.contents c.run.new.out) c.in-Ok-run.end
          (Leads g.L.Library.shown (state c.begin.new.library c.in-Ok-begin.begun) (state c.run.new.library c.run.new.self) Whole) (DeckLeads g.L.Library.shown c.args.library.now c.run.new.library deck Whole)
          (rw c.as_slice.ensures at c.in-Ok-run.ensures.done)
          (leads g.L.Library.shown c.args.library.now c.begin.new.library c.run.new.library deck c.in-Ok-begin.begun c.run.new.self c.requires begun c.begin.ensures.untouched c.begin.ensures.keeps.count goes Whole);
      output = tt;
      nothing = tt;
      keeps = keeps_then g.L.Library.shown c.args.library.now c.begin.new.library c.run.new.library c.begin.ensures.keeps goes.keeps;
    }

pub returns : goal.returns
returns g c =
    let deck = c.args.deck.now in
    let begun = c.in-Ok-begin.ensures.begun in
    let goes = c.run.ensures.goes in
    let Off = IsBrokenOff g.L.Library.shown deck.statements in
    record {
      elsewhere = elsewhere_same g.L.Library.shown c.args.library.now c.begin.new.library c.run.new.library deck c.in-Ok-begin.begun c.run.new.self begun goes c.begin.ensures.untouched;
      run = tt;
      output = λ _. part_as (g.W.Write.contents c.args.out.now) (g.W.Write.contents c.run.new.out)
          (Leads g.L.Library.shown (state c.begin.new.library c.in-Ok-begin.begun) (state c.run.new.library c.run.new.self) Off) (DeckLeads g.L.Library.shown c.args.library.now c.run.new.library deck Off)
          (rw c.as_slice.ensures at c.in-Err.ensures.refused)
          (leads g.L.Library.shown c.args.library.now c.begin.new.library c.run.new.library deck c.in-Ok-begin.begun c.run.new.self c.requires begun c.begin.ensures.untouched c.begin.ensures.keeps.count goes Off);
      nothing = λ other. absurd (other refl);
      keeps = keeps_then g.L.Library.shown c.args.library.now c.begin.new.library c.run.new.library c.begin.ensures.keeps goes.keeps;
    }
