use Rattle.std.proofs.Common.{List, subst}
use Rattle.std.specs.Prelude.{codes}
use Rattle.clap.specs.Words.{Row, found_of, rows_of}
use Rattle.command_words.specs.Asks.{AreLimits, IsWaitRequest}
use Rattle.command_words.proofs.MetLemmas.{no_text, same_rows, some_not_none, text_read}
use Rattle.command_words.proofs.NumberLemmas.{wait_met}
use Rattle.command_words.proofs.asked.serve_of.Goals as goal

pub returns-in_err-serve-clause-none : goal.returns-in_err-serve-clause-none
returns-in_err-serve-clause-none c = λ none folder pages frames serve. c.met.ensures.none c.in_err-serve.was serve.rows serve.is

pub returns-in_err-folder-clause-none : goal.returns-in_err-folder-clause-none
returns-in_err-folder-clause-none c =
    λ none folder pages frames serve.
    let f = found_of c.in_ok-serve.serve.now in
    no_text f (codes "folder") c.get_str.result c.get_str.ensures c.in_err-folder.was serve.rows (same_rows c.in_ok-serve.ensures.some serve.is) folder serve.folder_given

pub returns-in_err-limits-clause-none : goal.returns-in_err-limits-clause-none
returns-in_err-limits-clause-none c =
    λ none folder pages frames serve.
    c.limits_of.ensures.none c.in_err-limits.was pages frames
    (subst (λ (rows : List Row). AreLimits rows pages frames) (same_rows c.in_ok-serve.ensures.some serve.is) serve.limits)

pub returns-in_err-wait-clause-none : goal.returns-in_err-wait-clause-none
returns-in_err-wait-clause-none c =
    λ none folder pages frames serve.
    c.wait_of.ensures.none c.in_err-wait.was serve.seconds
    (subst (λ (rows : List Row). IsWaitRequest rows serve.seconds) (same_rows c.in_ok-serve.ensures.some serve.is) serve.wait_is)

pub returns-clause-some : goal.returns-clause-some
returns-clause-some c =
    let f = found_of c.in_ok-serve.serve.now in (
      record {
        rows = rows_of f;
        is = c.in_ok-serve.ensures.some;
        folder_given = text_read f (codes "folder") _ c.in_ok-folder.ensures;
        limits = c.in_ok-limits.ensures.some;
        seconds = c.in_ok-wait.wait;
        wait_is = c.in_ok-wait.ensures.some;
      },
      wait_met c.in_ok-serve.ensures.some c.in_ok-wait.ensures.some,
    )

pub returns-clause-none : goal.returns-clause-none
returns-clause-none c = λ none folder pages frames serve. some_not_none none
