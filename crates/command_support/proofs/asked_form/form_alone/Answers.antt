use Rattle.folder_shelf.proofs.ReadingLemmas.{by_same}
use Rattle.std.proofs.Common.{refl}
use Rattle.command_support.proofs.asked_form.form_alone.Goals as goal

pub returns-in-Ok : goal.returns-in-Ok
returns-in-Ok g c = by_same _ _ c.in-Ok.ensures (λ calls came. record { form = record { form_is = came.form; key_is = refl; none = c.new.ensures.items }; refused = tt })

pub returns-in-Err : goal.returns-in-Err
returns-in-Err g c = by_same _ _ c.in-Err.ensures (λ calls came. record { form = tt; refused = came.refused })
