use Rattle.std.proofs.Common.{ℕ, List, Result}
use Rattle.std.specs.Prelude.{codes}
use Rattle.std.specs.Str.Parse.{ParsesUnsigned, ExplainsUnsignedError, HasUnsignedDigitsIfOk}
use Rattle.std.specs.declared.num.ParseIntError.{ParseIntError}
use Rattle.clap.specs.Words.{found_of}
use Rattle.command_words.proofs.FlagLemmas.{flag_read, no_flag}
use Rattle.command_words.proofs.MetLemmas.{some_not_none}
use Rattle.command_words.proofs.NumberLemmas.{is_read, none_read}
use Rattle.command_words.proofs.asked.line_options_of.Goals as goal

-- what a number of so many bits is read of a text as
abbrev Gives : ℕ → List ℕ → Result ℕ ParseIntError → Type 0
Gives bits text read = ParsesUnsigned bits 10 text read × ExplainsUnsignedError 10 text read × HasUnsignedDigitsIfOk text read

pub returns-in_err-skip-clause-none : goal.returns-in_err-skip-clause-none
returns-in_err-skip-clause-none c =
    λ none lines given.
    none_read (found_of c.args.load.now) (codes "skip") 64 (Gives 64) (λ t x g. g.0) c.get_one.result c.get_one.ensures.value c.in_err-skip.was lines.skip
    (given.skip_text, given.skip_given, given.skip_is)

pub returns-in_err-keep_going-clause-none : goal.returns-in_err-keep_going-clause-none
returns-in_err-keep_going-clause-none c =
    λ none lines given.
    no_flag (found_of c.args.load.now) (codes "keep-going") c.get_one-2.result c.get_one-2.ensures.value c.in_err-keep_going.was lines.keep_going
    (given.keep_text, given.keep_given, given.keep_is)

pub returns-in_err-replace-clause-none : goal.returns-in_err-replace-clause-none
returns-in_err-replace-clause-none c =
    λ none lines given.
    no_flag (found_of c.args.load.now) (codes "replace") c.get_one-3.result c.get_one-3.ensures.value c.in_err-replace.was lines.replace
    (given.replace_text, given.replace_given, given.replace_is)

pub returns-in_err-pad-clause-none : goal.returns-in_err-pad-clause-none
returns-in_err-pad-clause-none c =
    λ none lines given.
    no_flag (found_of c.args.load.now) (codes "pad") c.get_one-4.result c.get_one-4.ensures.value c.in_err-pad.was lines.pad
    (given.pad_text, given.pad_given, given.pad_is)

pub returns-in_err-sort-clause-none : goal.returns-in_err-sort-clause-none
returns-in_err-sort-clause-none c =
    λ none lines given.
    no_flag (found_of c.args.load.now) (codes "sort") c.get_one-5.result c.get_one-5.ensures.value c.in_err-sort.was lines.sort
    (given.sort_text, given.sort_given, given.sort_is)

pub returns-in_err-memory-clause-none : goal.returns-in_err-memory-clause-none
returns-in_err-memory-clause-none c =
    λ none lines given.
    none_read (found_of c.args.load.now) (codes "memory") 32 (Gives 32) (λ t x g. g.0) c.get_one-6.result c.get_one-6.ensures.value c.in_err-memory.was lines.memory
    (given.memory_text, given.memory_given, given.memory_is)

pub returns-clause-some : goal.returns-clause-some
returns-clause-some c =
    let f = found_of c.args.load.now in
    let skip = is_read f (codes "skip") 64 (Gives 64) (λ t x g. g.0) c.get_one.result c.get_one.ensures.none c.get_one.ensures.value c.in_ok-skip.skip c.in_ok-skip.was in
    let keep = flag_read f (codes "keep-going") c.get_one-2.result c.get_one-2.ensures.none c.get_one-2.ensures.value c.in_ok-keep_going.keep_going c.in_ok-keep_going.was in
    let replace = flag_read f (codes "replace") c.get_one-3.result c.get_one-3.ensures.none c.get_one-3.ensures.value c.in_ok-replace.replace c.in_ok-replace.was in
    let pad = flag_read f (codes "pad") c.get_one-4.result c.get_one-4.ensures.none c.get_one-4.ensures.value c.in_ok-pad.pad c.in_ok-pad.was in
    let sort = flag_read f (codes "sort") c.get_one-5.result c.get_one-5.ensures.none c.get_one-5.ensures.value c.in_ok-sort.sort c.in_ok-sort.was in
    let memory = is_read f (codes "memory") 32 (Gives 32) (λ t x g. g.0) c.get_one-6.result c.get_one-6.ensures.none c.get_one-6.ensures.value c.in_ok-memory.memory c.in_ok-memory.was in
    record {
      skip_text = skip.0;
      skip_given = skip.1;
      skip_is = skip.2;
      keep_text = keep.0;
      keep_given = keep.1;
      keep_is = keep.2;
      replace_text = replace.0;
      replace_given = replace.1;
      replace_is = replace.2;
      pad_text = pad.0;
      pad_given = pad.1;
      pad_is = pad.2;
      sort_text = sort.0;
      sort_given = sort.1;
      sort_is = sort.2;
      memory_text = memory.0;
      memory_given = memory.1;
      memory_is = memory.2;
    }
