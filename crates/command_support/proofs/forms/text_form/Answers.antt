use Rattle.std.proofs.Common.{[], option_map, refl, sym, ap, subst}
use Rattle.command_support.specs.Front.{IsDeckReadBy}
use Rattle.command_support.proofs.forms.text_form.Goals as goal

pub returns-in-None-None-None : goal.returns-in-None-None-None
returns-in-None-None-None c input =
    let cut = ap (option_map (λ text. text.now)) c.in-None-None-None.is-0 in
    let deck = ap (option_map (λ text. text.now)) c.in-None-None-None.is-1 in
    let name = ap (option_map (λ text. text.now)) c.in-None-None-None.is-2 in
    record { form = (subst (λ deck. IsDeckReadBy [] input deck) (sym deck) refl, (c.requires, (cut, deck, name), refl)); refused = tt }
