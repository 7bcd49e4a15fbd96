use Rattle.std.proofs.Common.{List, subst}
use Rattle.std.specs.Prelude.{codes}
use Rattle.clap.specs.Words.{Row, found_of, rows_of}
use Rattle.command_words.proofs.MetLemmas.{no_text, same_rows, some_not_none, text_read}
use Rattle.command_words.proofs.FlagLemmas.{GivenFlag, flag_read, no_flag}
use Rattle.command_words.proofs.asked.cobol_of.Goals as goal

pub returns-in_err-cobol-clause-none : goal.returns-in_err-cobol-clause-none
returns-in_err-cobol-clause-none c = λ none deck fixed cobol. c.met.ensures.none c.in_err-cobol.was cobol.rows cobol.is

pub returns-in_err-deck-clause-none : goal.returns-in_err-deck-clause-none
returns-in_err-deck-clause-none c =
    λ none deck fixed cobol.
    let f = found_of c.in_ok-cobol.cobol.now in
    no_text f (codes "deck") c.get_str.result c.get_str.ensures c.in_err-deck.was cobol.rows (same_rows c.in_ok-cobol.ensures.some cobol.is) deck cobol.deck_given

pub returns-in_err-fixed-clause-none : goal.returns-in_err-fixed-clause-none
returns-in_err-fixed-clause-none c =
    λ none deck fixed cobol.
    let f = found_of c.in_ok-cobol.cobol.now in
    no_flag f (codes "fixed") c.get_one.result c.get_one.ensures.value c.in_err-fixed.was fixed
    (subst (λ (rows : List Row). GivenFlag rows (codes "fixed") fixed) (same_rows c.in_ok-cobol.ensures.some cobol.is)
    (cobol.fixed_text, cobol.fixed_given, cobol.fixed_is))

pub returns-clause-some : goal.returns-clause-some
returns-clause-some c =
    let f = found_of c.in_ok-cobol.cobol.now in
    let fixed = flag_read f (codes "fixed") c.get_one.result c.get_one.ensures.none c.get_one.ensures.value c.in_ok-fixed.fixed c.in_ok-fixed.was in
    record {
      rows = rows_of f;
      is = c.in_ok-cobol.ensures.some;
      deck_given = text_read f (codes "deck") _ c.in_ok-deck.ensures;
      fixed_text = fixed.0;
      fixed_given = fixed.1;
      fixed_is = fixed.2;
    }

pub returns-clause-none : goal.returns-clause-none
returns-clause-none c = λ none deck fixed cobol. some_not_none none
