use Rattle.std.proofs.Common.{ℕ, List, Result, subst}
use Rattle.std.specs.Prelude.{codes}
use Rattle.std.specs.Str.Parse.{ParsesUnsigned, ExplainsUnsignedError, HasUnsignedDigitsIfOk}
use Rattle.std.specs.declared.num.ParseIntError.{ParseIntError}
use Rattle.clap.specs.Words.{Row, found_of, rows_of}
use Rattle.command_words.specs.Asks.{AreLimits}
use Rattle.command_words.proofs.MetLemmas.{no_text, same_rows, some_not_none, text_read}
use Rattle.command_words.proofs.NumberLemmas.{Given, is_read, none_read}
use Rattle.command_words.proofs.asked.copy_of.Goals as goal

-- what a number is read of a text as
abbrev Gives : List ℕ → Result ℕ ParseIntError → Type 0
Gives text read = ParsesUnsigned 8 10 text read × ExplainsUnsignedError 10 text read × HasUnsignedDigitsIfOk text read

pub returns-in_err-copy-clause-none : goal.returns-in_err-copy-clause-none
returns-in_err-copy-clause-none c = λ none file new key pages frames copy. c.met.ensures.none c.in_err-copy.was copy.rows copy.is

pub returns-in_err-file-clause-none : goal.returns-in_err-file-clause-none
returns-in_err-file-clause-none c =
    λ none file new key pages frames copy.
    let f = found_of c.in_ok-copy.copy.now in
    no_text f (codes "file") c.get_str.result c.get_str.ensures c.in_err-file.was copy.rows (same_rows c.in_ok-copy.ensures.some copy.is) file copy.file_given

pub returns-in_err-new-clause-none : goal.returns-in_err-new-clause-none
returns-in_err-new-clause-none c =
    λ none file new key pages frames copy.
    let f = found_of c.in_ok-copy.copy.now in
    no_text f (codes "new") c.get_str-2.result c.get_str-2.ensures c.in_err-new.was copy.rows (same_rows c.in_ok-copy.ensures.some copy.is) new copy.new_given

pub returns-in_err-key-clause-none : goal.returns-in_err-key-clause-none
returns-in_err-key-clause-none c =
    λ none file new key pages frames copy.
    let f = found_of c.in_ok-copy.copy.now in
    none_read f (codes "key") 8 Gives (λ t x g. g.0) c.get_one.result c.get_one.ensures.value c.in_err-key.was key
    (subst (λ (rows : List Row). Given rows (codes "key") 8 key) (same_rows c.in_ok-copy.ensures.some copy.is)
    (copy.key_text, copy.key_given, copy.key_is))

pub returns-in_err-limits-clause-none : goal.returns-in_err-limits-clause-none
returns-in_err-limits-clause-none c =
    λ none file new key pages frames copy.
    c.limits_of.ensures.none c.in_err-limits.was pages frames
    (subst (λ (rows : List Row). AreLimits rows pages frames) (same_rows c.in_ok-copy.ensures.some copy.is) copy.limits)

pub returns-clause-some : goal.returns-clause-some
returns-clause-some c =
    let f = found_of c.in_ok-copy.copy.now in
    let key = is_read f (codes "key") 8 Gives (λ t x g. g.0) c.get_one.result c.get_one.ensures.none c.get_one.ensures.value c.in_ok-key.key c.in_ok-key.was in
    record {
      rows = rows_of f;
      is = c.in_ok-copy.ensures.some;
      file_given = text_read f (codes "file") _ c.in_ok-file.ensures;
      new_given = text_read f (codes "new") _ c.in_ok-new.ensures;
      key_text = key.0;
      key_given = key.1;
      key_is = key.2;
      limits = c.in_ok-limits.ensures.some;
    }

pub returns-clause-none : goal.returns-clause-none
returns-clause-none c = λ none file new key pages frames copy. some_not_none none
