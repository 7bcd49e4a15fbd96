use Rattle.std.proofs.Common.{List, subst}
use Rattle.std.specs.Prelude.{codes}
use Rattle.clap.specs.Words.{Row, found_of, rows_of}
use Rattle.command_words.specs.Asks.{AreLimits, IsWaitRequest}
use Rattle.command_words.proofs.MetLemmas.{no_text, same_rows, some_not_none, text_read}
use Rattle.command_words.proofs.FlagLemmas.{GivenFlag, flag_read, no_flag}
use Rattle.command_words.proofs.NumberLemmas.{wait_met}
use Rattle.command_words.proofs.asked.run_of.Goals as goal

pub returns-in_err-run-clause-none : goal.returns-in_err-run-clause-none
returns-in_err-run-clause-none c = λ none deck folder pages frames strict run. c.met.ensures.none c.in_err-run.was run.rows run.is

pub returns-in_err-deck-clause-none : goal.returns-in_err-deck-clause-none
returns-in_err-deck-clause-none c =
    λ none deck folder pages frames strict run.
    let f = found_of c.in_ok-run.run'.now in
    no_text f (codes "deck") c.get_str.result c.get_str.ensures c.in_err-deck.was run.rows (same_rows c.in_ok-run.ensures.some run.is) deck run.deck_given

pub returns-in_err-folder-clause-none : goal.returns-in_err-folder-clause-none
returns-in_err-folder-clause-none c =
    λ none deck folder pages frames strict run.
    let f = found_of c.in_ok-run.run'.now in
    no_text f (codes "folder") c.get_str-2.result c.get_str-2.ensures c.in_err-folder.was run.rows (same_rows c.in_ok-run.ensures.some run.is) folder run.folder_given

pub returns-in_err-limits-clause-none : goal.returns-in_err-limits-clause-none
returns-in_err-limits-clause-none c =
    λ none deck folder pages frames strict run.
    c.limits_of.ensures.none c.in_err-limits.was pages frames
    (subst (λ (rows : List Row). AreLimits rows pages frames) (same_rows c.in_ok-run.ensures.some run.is) run.limits)

pub returns-in_err-strict-clause-none : goal.returns-in_err-strict-clause-none
returns-in_err-strict-clause-none c =
    λ none deck folder pages frames strict run.
    let f = found_of c.in_ok-run.run'.now in
    no_flag f (codes "strict") c.get_one.result c.get_one.ensures.value c.in_err-strict.was strict
    (subst (λ (rows : List Row). GivenFlag rows (codes "strict") strict) (same_rows c.in_ok-run.ensures.some run.is)
    (run.strict_text, run.strict_given, run.strict_is))

pub returns-in_err-wait-clause-none : goal.returns-in_err-wait-clause-none
returns-in_err-wait-clause-none c =
    λ none deck folder pages frames strict run.
    c.wait_of.ensures.none c.in_err-wait.was run.seconds
    (subst (λ (rows : List Row). IsWaitRequest rows run.seconds) (same_rows c.in_ok-run.ensures.some run.is) run.wait_is)

pub returns-clause-some : goal.returns-clause-some
returns-clause-some c =
    let f = found_of c.in_ok-run.run'.now in
    let strict = flag_read f (codes "strict") c.get_one.result c.get_one.ensures.none c.get_one.ensures.value c.in_ok-strict.strict c.in_ok-strict.was in (
      record {
        rows = rows_of f;
        is = c.in_ok-run.ensures.some;
        deck_given = text_read f (codes "deck") _ c.in_ok-deck.ensures;
        folder_given = text_read f (codes "folder") _ c.in_ok-folder.ensures;
        limits = c.in_ok-limits.ensures.some;
        strict_text = strict.0;
        strict_given = strict.1;
        strict_is = strict.2;
        seconds = c.in_ok-wait.wait;
        wait_is = c.in_ok-wait.ensures.some;
      },
      wait_met c.in_ok-run.ensures.some c.in_ok-wait.ensures.some,
    )

pub returns-clause-none : goal.returns-clause-none
returns-clause-none c = λ none deck folder pages frames strict run. some_not_none none
