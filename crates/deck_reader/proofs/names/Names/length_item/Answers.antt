use Rattle.std.proofs.Common.{◌∙◌, ap}
use Rattle.std.specs.Prelude.{bytes_eq, position}
use Rattle.deck_reader.specs.Names.{Names}
use Rattle.deck_reader.proofs.names.Names.length_item.Goals as goal

pub returns : goal.returns
returns c =
    c.copied.ensures ∙ c.get.ensures.value ∙ c.self.invariant c.args.name.now
    ∙ ap (λ (names : Names). position (λ item. bytes_eq item.name c.args.name.now) names.items) c.self.view_is
