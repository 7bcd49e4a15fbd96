use Rattle.std.proofs.Common.{rules, ◌≡◌, ◌<◌, length, inl, inr, refl}
use Rattle.command_support.proofs.KeyLemmas.{no_texts, some_texts}
use Rattle.command_support.proofs.asked_form.fault_without_deck.Goals as goal

pub returns-then-is_empty : goal.returns-then-is_empty
returns-then-is_empty c =
    let none : length c.args.words.now ≡ 0 = search rules in
    inl (no_texts c.args.words.now none, refl)

pub returns : goal.returns
returns c =
    let some : 0 < length c.args.words.now = search rules in
    inr (some_texts c.args.words.now some, refl)
