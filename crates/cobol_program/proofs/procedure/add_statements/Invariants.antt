use Rattle.std.proofs.Common.{◌≤◌}
use Rattle.cobol_program.proofs.procedure.add_statements.Given as goal

abbrev pub invariant-loop-statement : goal.invariant-loop-statement
invariant-loop-statement l = l.number ≤ l.statement-index
