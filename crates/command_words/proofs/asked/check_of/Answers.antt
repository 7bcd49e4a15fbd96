use Rattle.std.proofs.Common.{rules, ◌≡◌, List, Some, map, sym, subst, Bor}
use Rattle.std.specs.Prelude.{codes}
use Rattle.clap.specs.Words.{Row, Text, all_of, found_of, rows_of}
use Rattle.command_words.specs.Asks.{IsQuietRequest, IsWaitRequest}
use Rattle.command_words.proofs.MetLemmas.{no_texts, same_rows, some_not_none, texts_read}
use Rattle.command_words.proofs.NumberLemmas.{wait_met}
use Rattle.command_words.proofs.asked.check_of.Goals as goal

pub returns-in_ok-files-in-Some-get_strs-clause-some : goal.returns-in_ok-files-in-Some-get_strs-clause-some
returns-in_ok-files-in-Some-get_strs-clause-some c =
    let f = found_of c.in-Some.check.now in
    let same : c.in_ok-files-in-Some-get_strs.files.items ≡ c.in-Some-get_strs.files.now = search rules in (
      record {
        rows = rows_of f;
        is = c.in-Some.ensures.some;
        files_given =
            subst (λ (files : List (Bor Text)). all_of (codes "file") (rows_of f) ≡ Some (map (λ file. file.now) files)) (sym same)
            (texts_read f (codes "file") c.get_strs.result c.get_strs.ensures c.in-Some-get_strs.files c.in-Some-get_strs.is);
        quiet_is = c.in-Some-quiet_of.ensures.some;
        seconds = c.in-Some-wait_of.wait;
        wait_is = c.in-Some-wait_of.ensures.some;
      },
      wait_met c.in-Some.ensures.some c.in-Some-wait_of.ensures.some,
    )

pub returns-in-None-quiet_of-clause-none : goal.returns-in-None-quiet_of-clause-none
returns-in-None-quiet_of-clause-none c =
    λ none files quiet check.
    c.quiet_of.ensures.none c.in-None-quiet_of.is quiet
    (subst (λ (rows : List Row). IsQuietRequest rows quiet) (same_rows c.in-Some.ensures.some check.is) check.quiet_is)

pub returns-in-None-wait_of-clause-none : goal.returns-in-None-wait_of-clause-none
returns-in-None-wait_of-clause-none c =
    λ none files quiet check.
    c.wait_of.ensures.none c.in-None-wait_of.is check.seconds
    (subst (λ (rows : List Row). IsWaitRequest rows check.seconds) (same_rows c.in-Some.ensures.some check.is) check.wait_is)

pub returns-in-None-get_strs-clause-none : goal.returns-in-None-get_strs-clause-none
returns-in-None-get_strs-clause-none c =
    λ none files quiet check.
    let f = found_of c.in-Some.check.now in
    no_texts f (codes "file") c.get_strs.result c.get_strs.ensures c.in-None-get_strs.is check.rows (same_rows c.in-Some.ensures.some check.is) files check.files_given

pub returns-in_ok-files-in-Some-get_strs-clause-none : goal.returns-in_ok-files-in-Some-get_strs-clause-none
returns-in_ok-files-in-Some-get_strs-clause-none c = λ none files quiet check. some_not_none none

pub returns-in-None-clause-none : goal.returns-in-None-clause-none
returns-in-None-clause-none c = λ none files quiet check. c.met.ensures.none c.in-None.is check.rows check.is
