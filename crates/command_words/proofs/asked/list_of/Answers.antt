use Rattle.clap.specs.Words.{subcommand_rows_of}
use Rattle.command_words.proofs.asked.list_of.Goals as goal

pub returns-in-Ok-clause-none : goal.returns-in-Ok-clause-none
returns-in-Ok-clause-none c = λ none. c.listed.ensures.none none (subcommand_rows_of c.args.matches.now) c.in-Some.ensures.some
