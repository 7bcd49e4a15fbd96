use Rattle.std.proofs.Common.{ℕ, List, subst}
use Rattle.std.proofs.lemmas.Result.{IfOk-weaker}
use Rattle.folder_shelf.proofs.ReadingLemmas.{by_same}
use Rattle.deck_reader.specs.Deck.{IsDeck}
use Rattle.command_support.specs.Front.{IsDeckNamed}
use Rattle.command_support.proofs.DeckLemmas.{not_there}
use Rattle.command_support.proofs.deck.deck_at.Goals as goal

pub returns-in-Err : goal.returns-in-Err
returns-in-Err g c = by_same _ _ c.in-Err.ensures (λ calls read. record { right = tt; fault = not_there c.in-Err.fault read.bytes })

pub returns : goal.returns
returns g c = by_same _ _ c.in-Ok.ensures (λ calls read. record {
  right = IfOk-weaker c.deck_of.result (λ deck. IsDeck c.as_slice.result.now deck)
      (λ deck. (bytes : List ℕ) × IsDeckNamed calls (g.I.Read.remaining c.args.input.now) c.args.path.now bytes × IsDeck bytes deck)
      (λ deck is. (c.in-Ok.bytes.items, read.bytes, subst (λ (bytes : List ℕ). IsDeck bytes deck) c.as_slice.ensures.value is))
      c.deck_of.ensures.deck;
  fault = c.deck_of.ensures.fault;
})
