use Rattle.std.specs.Prelude.{codes}
use Rattle.clap.specs.Words.{found_of, rows_of}
use Rattle.command_words.proofs.MetLemmas.{no_text, same_rows, some_not_none, text_read}
use Rattle.command_words.proofs.asked.deck_of.Goals as goal

pub returns-in_err-listed-clause-none : goal.returns-in_err-listed-clause-none
returns-in_err-listed-clause-none c = λ none deck listed. c.met.ensures.none c.in_err-listed.was listed.rows listed.is

pub returns-in_err-deck-clause-none : goal.returns-in_err-deck-clause-none
returns-in_err-deck-clause-none c =
    λ none deck listed.
    let f = found_of c.in_ok-listed.listed.now in
    no_text f (codes "deck") c.get_str.result c.get_str.ensures c.in_err-deck.was listed.rows (same_rows c.in_ok-listed.ensures.some listed.is) deck listed.deck_given

pub returns-clause-some : goal.returns-clause-some
returns-clause-some c =
    let f = found_of c.in_ok-listed.listed.now in
    record {
      rows = rows_of f;
      is = c.in_ok-listed.ensures.some;
      deck_given = text_read f (codes "deck") _ c.in_ok-deck.ensures;
    }

pub returns-clause-none : goal.returns-clause-none
returns-clause-none c = λ none deck listed. some_not_none none
