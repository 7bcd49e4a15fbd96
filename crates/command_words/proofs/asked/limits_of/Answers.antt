use Rattle.std.proofs.Common.{ℕ, List, Result}
use Rattle.std.specs.Prelude.{codes}
use Rattle.std.specs.Str.Parse.{ParsesUnsigned, ExplainsUnsignedError, HasUnsignedDigitsIfOk}
use Rattle.std.specs.declared.num.ParseIntError.{ParseIntError}
use Rattle.clap.specs.Words.{found_of, rows_of}
use Rattle.command_words.proofs.NumberLemmas.{is_read, none_read, limits_read, no_limits}
use Rattle.command_words.proofs.asked.limits_of.Goals as goal

-- what a number of so many bits is read of a text as
abbrev Gives : ℕ → List ℕ → Result ℕ ParseIntError → Type 0
Gives bits text read = ParsesUnsigned bits 10 text read × ExplainsUnsignedError 10 text read × HasUnsignedDigitsIfOk text read

pub returns-in_err-pages-clause-none : goal.returns-in_err-pages-clause-none
returns-in_err-pages-clause-none c =
    λ none pages frames limits.
    none_read (found_of c.args.files.now) (codes "pages") 32 (Gives 32) (λ t x g. g.0) c.get_one.result c.get_one.ensures.value c.in_err-pages.was pages
    (limits.pages_text, limits.pages_given, limits.pages_are)

pub returns-in_err-frames-clause-none : goal.returns-in_err-frames-clause-none
returns-in_err-frames-clause-none c =
    λ none pages frames limits.
    none_read (found_of c.args.files.now) (codes "frames") 64 (Gives 64) (λ t x g. g.0) c.get_one-2.result c.get_one-2.ensures.value c.in_err-frames.was frames
    (limits.frames_text, limits.frames_given, limits.frames_are)

pub returns-clause-some : goal.returns-clause-some
returns-clause-some c =
    let f = found_of c.args.files.now in
    let pages = is_read f (codes "pages") 32 (Gives 32) (λ t x g. g.0) c.get_one.result c.get_one.ensures.none c.get_one.ensures.value c.in_ok-pages.pages c.in_ok-pages.was in
    let frames = is_read f (codes "frames") 64 (Gives 64) (λ t x g. g.0) c.get_one-2.result c.get_one-2.ensures.none c.get_one-2.ensures.value c.in_ok-frames.frames c.in_ok-frames.was in
    limits_read (rows_of f) c.in_ok-pages.pages c.in_ok-frames.frames c.of.result pages frames c.of.ensures.some

pub returns-clause-none : goal.returns-clause-none
returns-clause-none c =
    let f = found_of c.args.files.now in
    let pages = is_read f (codes "pages") 32 (Gives 32) (λ t x g. g.0) c.get_one.result c.get_one.ensures.none c.get_one.ensures.value c.in_ok-pages.pages c.in_ok-pages.was in
    let frames = is_read f (codes "frames") 64 (Gives 64) (λ t x g. g.0) c.get_one-2.result c.get_one-2.ensures.none c.get_one-2.ensures.value c.in_ok-frames.frames c.in_ok-frames.was in
    no_limits (rows_of f) c.in_ok-pages.pages c.in_ok-frames.frames c.of.result pages frames c.of.ensures.none
