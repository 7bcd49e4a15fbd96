use Rattle.std.proofs.Common.{rules, ◌≡◌, None, option_map, ap}
use Rattle.folder_shelf.proofs.ReadingLemmas.{by_none, by_same}
use Rattle.command_support.specs.AskedForm.{list_words}
use Rattle.command_support.proofs.AskedFormLemmas.{asked_alone, asked_where, no_deck, half_deck, form_at_fault}
use Rattle.command_support.proofs.asked_form.form_and_conditions.Goals as goal

pub returns-in-Some : goal.returns-in-Some
returns-in-Some g c =
    by_same _ _ c.form_alone.ensures (λ calls came.
    asked_alone (list_words c.args.asked c.args.key.now c.args.words.now) calls (g.I.Read.remaining c.args.input.now) c.in-Some.number c.form_alone.result
    c.in-Some.ensures.some.0 c.in-Some.ensures.some.1 came)

pub returns-in-None : goal.returns-in-None
returns-in-None g c =
    let none : c.key_without_deck.result ≡ None = search rules in
    by_same _ _ c.form_where.ensures (λ calls came.
    asked_where (list_words c.args.asked c.args.key.now c.args.words.now) calls (g.I.Read.remaining c.args.input.now) c.in-Some-Some.deck.now c.in-Some-Some.name.now c.form_where.result
    (c.key_without_deck.ensures.none none) (ap (option_map (λ text. text.now)) c.in-Some-Some.is-0) (ap (option_map (λ text. text.now)) c.in-Some-Some.is-1) c.in-None.ensures.1 came)
