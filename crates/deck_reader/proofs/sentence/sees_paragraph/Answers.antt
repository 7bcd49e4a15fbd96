use Rattle.std.proofs.Common.{◌∙◌, sym, ap, [], not}
use Rattle.deck_reader.specs.Names.{Names, names_of}
use Rattle.deck_reader.proofs.ProcedureLemmas.{no_name_begins}
use Rattle.deck_reader.proofs.sentence.sees_paragraph.Goals as goal

pub returns-else-not-sees_statement : goal.returns-else-not-sees_statement
returns-else-not-sees_statement c =
    let known : Names = names_of [] [] in
    let seen = sym (c.sees_statement.ensures known) ∙ c.if-not-sees_statement.false in
    ap not c.if-not-sees_statement.false ∙ sym (no_name_begins known c.args.parser.now seen)
