use Rattle.std.proofs.Common.{◌∷◌, sym, refl, ◌∙◌}
use Rattle.record_text.specs.Quoted.{behind_label}
use Rattle.record_text.proofs.ValueLemmas.{comma_apart, label_apart}
use Rattle.record_text.proofs.value.passed_front.Goals as goal

pub returns-in_default-passed-clause-none : goal.returns-in_default-passed-clause-none
returns-in_default-passed-clause-none c behind is =
    let name = c.args.name.now.bytes in
    let column = c.in-Some.column.now in
    let label = behind_label c.args.quoting name (34 ∷ behind) in
    c.in_default-passed.ensures.none refl behind
    (label_apart c.args.quoting name c.in-Some-passed_label.value.now (34 ∷ behind) (sym c.in-Some-passed_label.ensures.some ∙ comma_apart c.args.is_first column label (sym c.in-Some.ensures.some ∙ is)))
