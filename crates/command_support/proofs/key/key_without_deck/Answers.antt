use Rattle.std.proofs.Common.{rules, ◌≡◌, ◌<◌, length, inl, inr}
use Rattle.command_support.proofs.KeyLemmas.{numbered, some_texts}
use Rattle.command_support.proofs.key.key_without_deck.Goals as goal

pub returns-then-is_empty-clause-some : goal.returns-then-is_empty-clause-some
returns-then-is_empty-clause-some c =
    let none : length c.args.conditions.now ≡ 0 = search rules in
    numbered c.args.word.now c.args.conditions.now c.key_number.result none c.key_number.ensures.some

pub returns-then-is_empty-clause-none : goal.returns-then-is_empty-clause-none
returns-then-is_empty-clause-none c = λ none. inr (c.key_number.ensures.none none)

pub returns-clause-none : goal.returns-clause-none
returns-clause-none c =
    let some : 0 < length c.args.conditions.now = search rules in
    λ none. inl (some_texts c.args.conditions.now some)
