use Rattle.std.proofs.Common.{sym, subst, ◌∙◌}
use Rattle.deck_runner.proofs.DeckRunLemmas.{refused}
use Rattle.command_support.proofs.ToldLemmas.{no_deck}
use Rattle.command_support.specs.DeckFile.{IsDeckFault}
use Rattle.command_support.proofs.DeckLemmas.{of_a_deck}
use Rattle.command_support.proofs.deck.deck_of.Goals as goal

pub returns-in-Err : goal.returns-in-Err
returns-in-Err c = record {
  deck = tt;
  refused = λ told is. no_deck c.args.bytes.now c.of.result
      (refused c.args.bytes.now c.in-Err.fault c.of.result c.in-Err.ensures.told c.of.ensures.memory c.of.ensures.deck c.in-Err.ensures.none) told (sym c.of_run.ensures ∙ is);
  fault = subst IsDeckFault (sym c.of_run.ensures) (of_a_deck c.of.result);
}
