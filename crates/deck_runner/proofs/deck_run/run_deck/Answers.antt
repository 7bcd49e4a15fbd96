use Rattle.std.proofs.lemmas.Result.{IfOk-weaker, IfErr-weaker}
use Rattle.deck_runner.proofs.ToldLemmas.{told_as, part_as}
use Rattle.deck_runner.proofs.FalseFileRuns.{run_stands, broken_stands}
use Rattle.deck_runner.proofs.DeckRunLemmas.{exact, refused, not_refused}
use Rattle.deck_runner.proofs.deck_run.run_deck.Goals as goal

pub returns-in-Ok-clause-exact : goal.returns-in-Ok-clause-exact
returns-in-Ok-clause-exact g c = IfOk-weaker c.run_read.result _ _
    (λ end run clean. (
      c.in-Ok.deck,
      c.in-Ok.ensures.deck,
      c.run_read.ensures.elsewhere,
      exact g.L.Library.shown c.args.library.now c.run_read.new.library (g.W.Write.contents c.args.out.now) (g.W.Write.contents c.run_read.new.out) end c.in-Ok.deck run clean,
    ))
    c.run_read.ensures.run

pub returns-in-Ok-clause-run : goal.returns-in-Ok-clause-run
returns-in-Ok-clause-run g c = IfOk-weaker c.run_read.result _ _
    (λ end run. (
      c.in-Ok.deck,
      c.in-Ok.ensures.deck,
      c.run_read.ensures.elsewhere,
      told_as _ _ end _ _ run (run_stands g.L.Library.shown g.met.L.Library.ends c.args.library.now c.run_read.new.library c.in-Ok.deck),
    ))
    c.run_read.ensures.run

pub returns-in-Ok-clause-output : goal.returns-in-Ok-clause-output
returns-in-Ok-clause-output g c = IfErr-weaker c.run_read.result _ _
    (λ fault run is. (
      c.in-Ok.deck,
      c.in-Ok.ensures.deck,
      c.run_read.ensures.elsewhere,
      part_as _ _ _ _ (run is) (broken_stands g.L.Library.shown g.met.L.Library.ends c.args.library.now c.run_read.new.library c.in-Ok.deck),
    ))
    c.run_read.ensures.output

pub returns-in-Err-clause-refused : goal.returns-in-Err-clause-refused
returns-in-Err-clause-refused g c =
    refused c.args.bytes.now c.in-Err.fault c.of.result c.in-Err.ensures.told c.of.ensures.memory c.of.ensures.deck c.in-Err.ensures.none

pub returns-in-Ok-clause-nothing : goal.returns-in-Ok-clause-nothing
returns-in-Ok-clause-nothing g c = IfErr-weaker c.run_read.result _ _ (λ fault none other. ((none other).1, (none other).2)) c.run_read.ensures.nothing

pub returns-in-Ok-clause-refused : goal.returns-in-Ok-clause-refused
returns-in-Ok-clause-refused g c = IfErr-weaker c.run_read.result _ _ (λ fault none. not_refused c.args.bytes.now fault (λ other. (none other).0)) c.run_read.ensures.nothing
