use Rattle.std.proofs.Common.{◌≡◌, [], subst, sym, ap, List, Option, Some, None}
use Rattle.std.proofs.lemmas.Result.{err_from_is_err_and}
use Rattle.deck_parser.proofs.RuleLemmas.{nothing_spelled, not_all_spelled}
use Rattle.deck_parser.specs.Fault.{IsFault, told}
use Rattle.deck_parser.specs.Rule.{Stop, stop_at, stop_behind}
use Rattle.deck_parser.specs.Reading.{Refuses, TellsStop}
use Rattle.deck_parser.specs.declared.fault.ParseRefusal.{ParseRefusal}
use Rattle.deck_parser.specs.declared.fault.ParseRefusal.TheVariants.{Memory, Fault}
use Rattle.deck_parser.specs.Word.{Word}
use Rattle.deck_reader.specs.Names.{Names}
use Rattle.deck_reader.specs.FirstFault.{procedure_stop, IsProcedureFault}
use Rattle.deck_reader.specs.Procedure.{procedure, IsProcedure}
use Rattle.deck_reader.specs.declared.placed.PlacedStatements.{PlacedStatements}
use Rattle.deck_reader.proofs.ProcedureLemmas.{lawful_procedure, procedure_is_fit}
use Rattle.deck_reader.proofs.division.read_procedure.Goals as goal

none_read : {A : Type 0} (refusal : ParseRefusal) (read : Option A) → Refuses read refusal → IsFault refusal → read ≡ None
none_read Memory read r f = absurd f
none_read (Fault line place cause) read r f = r

-- what is told of a refusal where the reading stops
fault_told : (names : Names) (words : List Word) (stop : Stop) (refusal : ParseRefusal) → ((statements : PlacedStatements) → IsProcedure names words statements → ⊥) → procedure_stop names words ≡ stop → TellsStop stop refusal → IsFault refusal → IsProcedureFault names words (told refusal)
fault_told names words stop Memory none at tells f = absurd f
fault_told names words stop (Fault line place cause) none at tells f =
    let here = subst (λ (s : Stop). TellsStop s (Fault line place cause)) (sym at) tells in record { none = none; line = here.0; code = here.1 }

-- where the reading of a procedure stops, by what is read
stops_by : (names : Names) (words : List Word) (read : Option (PlacedStatements × List Word)) → (procedure names).reads words ≡ read → procedure_stop names words ≡ stop_behind read ((procedure names).stops words) (λ (r : PlacedStatements × List Word). stop_at r.1 2)
stops_by names words read e = ap (λ (o : Option (PlacedStatements × List Word)). stop_behind o ((procedure names).stops words) (λ (r : PlacedStatements × List Word). stop_at r.1 2)) e

pub returns-clause-statements : goal.returns-clause-statements
returns-clause-statements c =
    let rule = procedure c.args.names.now in
    let all = (lawful_procedure c.args.names.now).sound c.in_ok-statements.statements c.new-parser.result c.procedure_division.new.parser c.in_ok-statements.ensures.0 in
    record {
      given = subst (λ words. rule.Spells c.in_ok-statements.statements words []) c.new-parser.ensures
          (subst (λ rest. rule.Spells c.in_ok-statements.statements c.new-parser.result rest) c.in_ok-end.ensures.end all);
      none = tt;
    }

pub returns-in_err-end-clause-statements : goal.returns-in_err-end-clause-statements
returns-in_err-end-clause-statements c =
    let rule = procedure c.args.names.now in
    let none = not_all_spelled rule (lawful_procedure _) (procedure_is_fit _) c.in_ok-statements.statements c.new-parser.result c.procedure_division.new.parser c.in_ok-statements.ensures.0 c.in_err-end.ensures.end in
    let p = err_from_is_err_and c.from_residual-in_err-end.result c.from_residual-in_err-end.ensures.1 in
    rw (p.1) (record { given = tt; none = λ _. subst (λ (words : List Word). (statements : PlacedStatements) → rule.Spells statements words [] → ⊥) c.new-parser.ensures none })

pub returns-in_err-statements-clause-statements : goal.returns-in_err-statements-clause-statements
returns-in_err-statements-clause-statements c =
    let rule = procedure c.args.names.now in
    let p = err_from_is_err_and c.from_residual.result c.from_residual.ensures.1 in
    rw (p.1, p.2) (record {
      given = tt;
      none = λ f. subst (λ (words : List Word). (statements : PlacedStatements) → rule.Spells statements words [] → ⊥) c.new-parser.ensures
          (nothing_spelled rule (lawful_procedure _) (procedure_is_fit _) c.new-parser.result (none_read _ _ c.in_err-statements.ensures.0 f));
    })

pub returns-in_err-end-clause-fault : goal.returns-in_err-end-clause-fault
returns-in_err-end-clause-fault c =
    let names = c.args.names.now in
    let words = c.new-parser.result in
    let none = not_all_spelled (procedure names) (lawful_procedure _) (procedure_is_fit _) c.in_ok-statements.statements words c.procedure_division.new.parser c.in_ok-statements.ensures.0 c.in_err-end.ensures.end in
    let p = err_from_is_err_and c.from_residual-in_err-end.result c.from_residual-in_err-end.ensures.1 in
    let stops = stops_by names words (Some (c.in_ok-statements.statements, c.procedure_division.new.parser)) c.in_ok-statements.ensures.0 in
    rw (p.1, p.2) (λ f. subst (λ (words : List Word). IsProcedureFault names words (told c.in_err-end.field-0.0)) c.new-parser.ensures (fault_told names words _ c.in_err-end.field-0.0 none stops c.in_err-end.ensures.stops f))

pub returns-in_err-statements-clause-fault : goal.returns-in_err-statements-clause-fault
returns-in_err-statements-clause-fault c =
    let names = c.args.names.now in
    let words = c.new-parser.result in
    let p = err_from_is_err_and c.from_residual.result c.from_residual.ensures.1 in
    rw (p.1, p.2) (λ f.
    let nothing = none_read _ _ c.in_err-statements.ensures.0 f in
    let none = nothing_spelled (procedure names) (lawful_procedure _) (procedure_is_fit _) words nothing in
    subst (λ (words : List Word). IsProcedureFault names words (told c.in_err-statements.field-0.0)) c.new-parser.ensures (fault_told names words _ c.in_err-statements.field-0.0 none (stops_by names words None nothing) c.in_err-statements.ensures.1 f))
