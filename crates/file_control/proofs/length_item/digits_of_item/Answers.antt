use Rattle.std.proofs.Common.{ℕ, subst}
use Rattle.std.specs.Prelude.{IfNone}
use Rattle.file_control.specs.Description.{HasDigits}
use Rattle.file_control.proofs.length_item.digits_of_item.Goals as goal

pub returns-clause-none : goal.returns-clause-none
returns-clause-none c = subst (λ text. IfNone c.digits_of.result ((digits : ℕ) → HasDigits text digits → ⊥)) c.picture_bytes.ensures c.digits_of.ensures.none
