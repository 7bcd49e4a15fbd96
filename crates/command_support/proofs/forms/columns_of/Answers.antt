use Rattle.std.proofs.Common.{rules, arith, ap, option_map}
use Rattle.std.proofs.lemmas.Grind.{common_steps}
use Rattle.folder_shelf.proofs.ReadingLemmas.{by_none, by_same}
use Rattle.command_words.specs.Asks.{form_text}
use Rattle.command_support.proofs.FormLemmas.{cut_refused, without_deck, with_deck}
use Rattle.command_support.proofs.forms.columns_of.Goals as goal

pub returns-in-None-None-None : goal.returns-in-None-None-None
returns-in-None-None-None g c =
    by_none _ (without_deck (g.I.Read.remaining c.args.input.now) c.args.asked c.whole.result (ap (option_map (λ text. text.now)) c.in-None-None-None.is-1) (search rules))

pub returns-in-Some-None-None : goal.returns-in-Some-None-None
returns-in-Some-None-None g c =
    by_none _ (without_deck (g.I.Read.remaining c.args.input.now) c.args.asked c.columns_between.result (ap (option_map (λ text. text.now)) c.in-Some-None-None.is-1)
    (record {
      form = first_of (search rules, grind (arith, common_steps));
      refused = cut_refused (form_text c.args.asked) c.in-Some-None-None.text.now c.columns_between.result (ap (option_map (λ text. text.now)) c.in-Some-None-None.is-0)
          c.columns_between.ensures.none c.columns_between.ensures.fault;
    }))

pub returns-in-None-Some-Some : goal.returns-in-None-Some-Some
returns-in-None-Some-Some g c =
    by_same _ _ c.columns_in.ensures (λ calls came. with_deck calls (g.I.Read.remaining c.args.input.now) c.args.asked c.columns_in.result c.in-None-Some-Some.deck.now c.in-None-Some-Some.name.now
    (ap (option_map (λ text. text.now)) c.in-None-Some-Some.is-0) (ap (option_map (λ text. text.now)) c.in-None-Some-Some.is-1) (ap (option_map (λ text. text.now)) c.in-None-Some-Some.is-2) came)
