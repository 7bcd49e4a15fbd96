use Rattle.std.proofs.Common.{rules}
use Rattle.folder_shelf.proofs.ReadingLemmas.{by_none, by_same}
use Rattle.command_support.proofs.forms.form_of.Goals as goal

pub returns-then-eq : goal.returns-then-eq
returns-then-eq g c = by_none _ (c.text_form.ensures (g.I.Read.remaining c.args.input.now))

pub returns-in-Ok : goal.returns-in-Ok
returns-in-Ok g c = by_same _ _ c.in-Ok.ensures (λ calls came. record { form = (came.form.0, (search rules, came.form.1)); refused = tt })

pub returns-in-Err : goal.returns-in-Err
returns-in-Err g c = by_same _ _ c.in-Err.ensures (λ calls came. record { form = tt; refused = came.refused })

pub returns-in-Ok-columns_of : goal.returns-in-Ok-columns_of
returns-in-Ok-columns_of g c = by_same _ _ c.in-Ok-columns_of.ensures (λ calls came. record { form = (came.form.0, (search rules, came.form.1)); refused = tt })

pub returns-in-Err-columns_of : goal.returns-in-Err-columns_of
returns-in-Err-columns_of g c = by_same _ _ c.in-Err-columns_of.ensures (λ calls came. record { form = tt; refused = came.refused })
