use Rattle.std.proofs.Common.{◌∙◌}
use Rattle.deck_reader.proofs.ProcedureLemmas.{statements_start}
use Rattle.deck_reader.proofs.sentence.sees_statement.Goals as goal

pub returns : goal.returns
returns c = λ known. c.sees_one_of.ensures ∙ statements_start known c.args.parser.now
