use Rattle.std.proofs.Common.{ℕ, List, Result}
use Rattle.std.specs.Prelude.{codes}
use Rattle.std.specs.Str.Parse.{ParsesUnsigned, ExplainsUnsignedError, HasUnsignedDigitsIfOk}
use Rattle.std.specs.declared.num.ParseIntError.{ParseIntError}
use Rattle.clap.specs.Words.{found_of, rows_of}
use Rattle.command_words.proofs.NumberLemmas.{is_read, none_read, wait_read}
use Rattle.command_words.proofs.asked.wait_of.Goals as goal

-- what the seconds are read of a text as
abbrev Gives : List ℕ → Result ℕ ParseIntError → Type 0
Gives text read = ParsesUnsigned 32 10 text read × ExplainsUnsignedError 10 text read × HasUnsignedDigitsIfOk text read

pub returns-clause-some : goal.returns-clause-some
returns-clause-some c =
    let f = found_of c.args.locking.now in
    wait_read (rows_of f) c.get_one.result
    (is_read f (codes "wait") 32 Gives (λ t x g. g.0) c.get_one.result c.get_one.ensures.none c.get_one.ensures.value)

pub returns-clause-none : goal.returns-clause-none
returns-clause-none c =
    λ none seconds wait.
    none_read (found_of c.args.locking.now) (codes "wait") 32 Gives (λ t x g. g.0) c.get_one.result c.get_one.ensures.value none seconds
    (wait.text, wait.given, wait.is)
