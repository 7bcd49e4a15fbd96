use Rattle.std.proofs.Common.{◌≡◌, drop}
use Rattle.deck_parser.proofs.remaining.Words.skip.Given as goal

abbrev pub invariant-loop : goal.invariant-loop
invariant-loop l = l.words ≡ drop l.counter l.self
