use Rattle.std.proofs.Common.{◌∙◌, drop, List, ap}
use Rattle.std.proofs.lemmas.List.{drop-drop}
use Rattle.deck_parser.specs.Word.{Word}
use Rattle.deck_parser.proofs.RemainingLemmas.{next_left}
use Rattle.deck_parser.proofs.remaining.Words.skip.Goals as goal

pub loop-preserved : goal.loop-preserved
loop-preserved c =
    next_left c.next.result c.loop.words c.next.new.self c.next.ensures ∙ (ap (λ (ws : List Word). drop 1 ws) c.loop.invariant ∙ drop-drop 1 c.loop.counter c.args.self.now)
