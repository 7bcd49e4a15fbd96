use Rattle.deck_parser.proofs.RuleLemmas.{only_one}
use Rattle.deck_reader.specs.Procedure.{procedure}
use Rattle.deck_reader.proofs.ProcedureLemmas.{lawful_procedure, procedure_is_fit}
use Rattle.deck_reader.proofs.division.one_procedure.Goals as goal

pub returns : goal.returns
returns c = λ names words a b. only_one (procedure names) (lawful_procedure names) (procedure_is_fit names) a b words
