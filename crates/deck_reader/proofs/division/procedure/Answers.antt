use Rattle.std.proofs.Common.{◌≡◌, ap, sym, subst}
use Rattle.std.proofs.lemmas.Result.{err_from_is_err_and}
use Rattle.deck_parser.specs.Fault.{IsFault, told}
use Rattle.deck_parser.specs.declared.fault.DeckFault.{DeckFault}
use Rattle.deck_parser.specs.declared.fault.ParseRefusal.{ParseRefusal}
use Rattle.deck_parser.specs.declared.fault.ParseRefusal.TheVariants.{Memory, Fault}
use Rattle.deck_reader.specs.FirstFault.{IsProcedureFault}
use Rattle.deck_reader.proofs.division.procedure.Goals as goal

is_fault : (refusal : ParseRefusal) (fault : DeckFault) → fault ≡ told refusal → (fault.code ≡ 8 → ⊥) → IsFault refusal
is_fault Memory fault e other = absurd (other (ap (λ (f : DeckFault). f.code) e))
is_fault (Fault line place cause) fault e other = tt

pub returns-in_err-read_procedure-clause-statements : goal.returns-in_err-read_procedure-clause-statements
returns-in_err-read_procedure-clause-statements c =
    let p = err_from_is_err_and c.from_residual.result c.from_residual.ensures.1 in
    rw (p.1) (record { given = tt; none = λ other. c.in_err-read_procedure.ensures.statements.none (is_fault _ p.0 p.2 other); told = (c.in_err-read_procedure.field-0.0, p.2) })

pub returns-in_err-read_procedure-clause-fault : goal.returns-in_err-read_procedure-clause-fault
returns-in_err-read_procedure-clause-fault c =
    let p = err_from_is_err_and c.from_residual.result c.from_residual.ensures.1 in
    rw (p.1) (λ other. subst (IsProcedureFault c.args.names.now c.args.words.now) (sym p.2) (c.in_err-read_procedure.ensures.fault (is_fault _ p.0 p.2 other)))
