use Rattle.std.specs.Prelude.{codes}
use Rattle.clap.specs.Words.{found_of, rows_of}
use Rattle.command_words.proofs.MetLemmas.{no_text, same_rows, some_not_none, text_read}
use Rattle.command_words.proofs.asked.explain_of.Goals as goal

pub returns-in_err-explain-clause-none : goal.returns-in_err-explain-clause-none
returns-in_err-explain-clause-none c = λ none kind number explain. c.met.ensures.none c.in_err-explain.was explain.rows explain.is

pub returns-in_err-kind-clause-none : goal.returns-in_err-kind-clause-none
returns-in_err-kind-clause-none c =
    λ none kind number explain.
    let f = found_of c.in_ok-explain.explain.now in
    no_text f (codes "kind") c.get_str.result c.get_str.ensures c.in_err-kind.was explain.rows (same_rows c.in_ok-explain.ensures.some explain.is) kind explain.kind_given

pub returns-in_err-number-clause-none : goal.returns-in_err-number-clause-none
returns-in_err-number-clause-none c =
    λ none kind number explain.
    let f = found_of c.in_ok-explain.explain.now in
    no_text f (codes "number") c.get_str-2.result c.get_str-2.ensures c.in_err-number.was explain.rows (same_rows c.in_ok-explain.ensures.some explain.is) number explain.number_given

pub returns-clause-some : goal.returns-clause-some
returns-clause-some c =
    let f = found_of c.in_ok-explain.explain.now in
    record {
      rows = rows_of f;
      is = c.in_ok-explain.ensures.some;
      kind_given = text_read f (codes "kind") _ c.in_ok-kind.ensures;
      number_given = text_read f (codes "number") _ c.in_ok-number.ensures;
    }

pub returns-clause-none : goal.returns-clause-none
returns-clause-none c = λ none kind number explain. some_not_none none
