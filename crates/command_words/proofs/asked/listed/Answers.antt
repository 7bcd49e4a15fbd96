use Rattle.std.proofs.Common.{ℕ, List, Result, subst}
use Rattle.std.specs.Prelude.{codes}
use Rattle.std.specs.Str.Parse.{ParsesUnsigned, ExplainsUnsignedError, HasUnsignedDigitsIfOk}
use Rattle.std.specs.declared.num.ParseIntError.{ParseIntError}
use Rattle.clap.specs.Words.{Row, found_of, rows_of}
use Rattle.command_words.specs.Asks.{IsForm, IsCheckedRequest, IsQuietRequest, IsWaitRequest}
use Rattle.command_words.proofs.MetLemmas.{no_text, same_rows, some_not_none, text_read}
use Rattle.command_words.proofs.NumberLemmas.{Given, is_read, none_read, wait_met}
use Rattle.command_words.proofs.asked.listed.Goals as goal

-- what a number is read of a text as
abbrev Gives : List ℕ → Result ℕ ParseIntError → Type 0
Gives text read = ParsesUnsigned 64 10 text read × ExplainsUnsignedError 10 text read × HasUnsignedDigitsIfOk text read

pub returns-in_err-file-clause-none : goal.returns-in_err-file-clause-none
returns-in_err-file-clause-none c =
    λ none met is file key from to first conditions form checked quiet list.
    let f = found_of c.args.list.now in
    no_text f (codes "file") c.get_str.result c.get_str.ensures c.in_err-file.was list.rows (same_rows is list.is) file list.file_given

pub returns-in_err-key-clause-none : goal.returns-in_err-key-clause-none
returns-in_err-key-clause-none c =
    λ none met is file key from to first conditions form checked quiet list.
    let f = found_of c.args.list.now in
    no_text f (codes "key") c.get_str-2.result c.get_str-2.ensures c.in_err-key.was list.rows (same_rows is list.is) key list.key_given

pub returns-in_err-first-clause-none : goal.returns-in_err-first-clause-none
returns-in_err-first-clause-none c =
    λ none met is file key from to first conditions form checked quiet list.
    let f = found_of c.args.list.now in
    none_read f (codes "first") 64 Gives (λ t x g. g.0) c.get_one.result c.get_one.ensures.value c.in_err-first.was first
    (subst (λ (rows : List Row). Given rows (codes "first") 64 first) (same_rows is list.is)
    (list.first_text, list.first_given, list.first_is))

pub returns-in_err-form-clause-none : goal.returns-in_err-form-clause-none
returns-in_err-form-clause-none c =
    λ none met is file key from to first conditions form checked quiet list.
    c.form_of.ensures.none c.in_err-form.was form
    (subst (λ (rows : List Row). IsForm rows form) (same_rows is list.is) list.form_is)

pub returns-in_err-checked-clause-none : goal.returns-in_err-checked-clause-none
returns-in_err-checked-clause-none c =
    λ none met is file key from to first conditions form checked quiet list.
    c.checked_of.ensures.none c.in_err-checked.was checked
    (subst (λ (rows : List Row). IsCheckedRequest rows checked) (same_rows is list.is) list.checked_is)

pub returns-in_err-quiet-clause-none : goal.returns-in_err-quiet-clause-none
returns-in_err-quiet-clause-none c =
    λ none met is file key from to first conditions form checked quiet list.
    c.quiet_of.ensures.none c.in_err-quiet.was quiet
    (subst (λ (rows : List Row). IsQuietRequest rows quiet) (same_rows is list.is) list.quiet_is)

pub returns-in_err-wait-clause-none : goal.returns-in_err-wait-clause-none
returns-in_err-wait-clause-none c =
    λ none met is file key from to first conditions form checked quiet list.
    c.wait_of.ensures.none c.in_err-wait.was list.seconds
    (subst (λ (rows : List Row). IsWaitRequest rows list.seconds) (same_rows is list.is) list.wait_is)

pub returns-clause-some : goal.returns-clause-some
returns-clause-some c met is =
    let f = found_of c.args.list.now in
    let first = is_read f (codes "first") 64 Gives (λ t x g. g.0) c.get_one.result c.get_one.ensures.none c.get_one.ensures.value c.in_ok-first.first c.in_ok-first.was in (
      record {
        rows = rows_of f;
        is = is;
        file_given = text_read f (codes "file") _ c.in_ok-file.ensures;
        key_given = text_read f (codes "key") _ c.in_ok-key.ensures;
        first_text = first.0;
        first_given = first.1;
        first_is = first.2;
        from_is = text_read f (codes "from") _ c.get_str-3.ensures;
        to_is = text_read f (codes "to") _ c.get_str-4.ensures;
        conditions_are = c.requires;
        form_is = c.in_ok-form.ensures.some;
        checked_is = c.in_ok-checked.ensures.some;
        quiet_is = c.in_ok-quiet.ensures.some;
        seconds = c.in_ok-wait.wait;
        wait_is = c.in_ok-wait.ensures.some;
      },
      wait_met is c.in_ok-wait.ensures.some,
    )

pub returns-clause-none : goal.returns-clause-none
returns-clause-none c = λ none met is file key from to first conditions form checked quiet list. some_not_none none
