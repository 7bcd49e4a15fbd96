use Rattle.std.proofs.Common.{rules, ◌≡◌, ◌∷◌, ◌++◌, List, ℕ, refl, sym, ◌∙◌, subst}
use Rattle.record_text.specs.declared.quoted.Quoting.TheVariants.{Escaped}
use Rattle.record_text.specs.Quoted.{inside}
use Rattle.record_text.proofs.NameLemmas.{behind_name, behind_one}
use Rattle.record_text.proofs.name.passed_name.Goals as goal

pub returns-in_err-closed-clause-none : goal.returns-in_err-closed-clause-none
returns-in_err-closed-clause-none c _ behind is =
    let opened = c.in_ok-opened.opened.now in
    let named = c.in_ok-named.named.now in
    let name_is : c.as_bytes.result.now ≡ c.args.name.now.bytes = search rules in
    let second = subst (λ (l : List ℕ). opened ≡ inside Escaped l ++ named) name_is c.in_ok-named.ensures.some in
    c.in_err-closed.ensures.none refl (58 ∷ behind) (behind_name c.args.text.now opened named c.args.name.now.bytes c.in_ok-opened.ensures.some second behind is)

pub returns-clause-none : goal.returns-clause-none
returns-clause-none c none behind is =
    let opened = c.in_ok-opened.opened.now in
    let named = c.in_ok-named.named.now in
    let name_is : c.as_bytes.result.now ≡ c.args.name.now.bytes = search rules in
    let second = subst (λ (l : List ℕ). opened ≡ inside Escaped l ++ named) name_is c.in_ok-named.ensures.some in
    let third = behind_name c.args.text.now opened named c.args.name.now.bytes c.in_ok-opened.ensures.some second behind is in
    c.passed-3.ensures.none none behind (behind_one 34 c.in_ok-closed.closed.now (58 ∷ behind) (sym c.in_ok-closed.ensures.some ∙ third))
