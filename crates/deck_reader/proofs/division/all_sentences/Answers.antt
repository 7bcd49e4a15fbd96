use Rattle.std.proofs.Common.{◌∙◌, sym}
use Rattle.std.proofs.lemmas.Result.{err_from_is_err_and}
use Rattle.deck_reader.specs.Parts.{paragraph_or_sentence}
use Rattle.deck_reader.proofs.JoinLemmas.{further, shorter, not_further, finished}
use Rattle.deck_reader.proofs.ProcedureLemmas.{lawful_paragraph_or_sentence, sentences_are_fit}
use Rattle.deck_reader.proofs.division.all_sentences.Goals as goal

pub returns-in_err-statements : goal.returns-in_err-statements
returns-in_err-statements c =
    let p = err_from_is_err_and c.from_residual-in_err-statements.result c.from_residual-in_err-statements.ensures.1 in
    rw (p.1, p.2) (not_further (paragraph_or_sentence c.args.names.now) (lawful_paragraph_or_sentence _) (sentences_are_fit _) _ _ c.more.statements c.more.parser c.in_err-statements.field-0.0 c.more.invariant (sym (c.sees_sentence.ensures c.args.names.now) ∙ c.more-test.true) c.in_err-statements.ensures)

pub more-smaller : goal.more-smaller
more-smaller c =
    shorter (paragraph_or_sentence c.args.names.now) (lawful_paragraph_or_sentence _) (sentences_are_fit _) c.more.statements c.in_ok-statements.statements c.more.parser c.paragraph_or_sentence.new.parser c.in_ok-statements.ensures.0

pub more-preserved : goal.more-preserved
more-preserved c =
    further (paragraph_or_sentence c.args.names.now) (lawful_paragraph_or_sentence _) (sentences_are_fit _) _ _ c.more.statements c.in_ok-statements.statements c.more.parser c.paragraph_or_sentence.new.parser c.more.invariant (sym (c.sees_sentence.ensures c.args.names.now) ∙ c.more-test.true) c.in_ok-statements.ensures.0

pub returns : goal.returns
returns c =
    (finished (paragraph_or_sentence c.args.names.now) (lawful_paragraph_or_sentence _) (sentences_are_fit _) _ _ c.more.statements c.more.parser c.more.invariant (sym (c.sees_sentence.ensures c.args.names.now) ∙ c.more-test.false), tt)
