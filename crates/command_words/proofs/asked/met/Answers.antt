use Rattle.command_words.proofs.MetLemmas.{met_some, met_none}
use Rattle.command_words.proofs.asked.met.Goals as goal

pub returns-clause-some : goal.returns-clause-some
returns-clause-some c = met_some c.args.matches.now c.args.name.now c.subcommand_matches.result c.subcommand_matches.ensures.found c.subcommand_matches.ensures.rows

pub returns-clause-none : goal.returns-clause-none
returns-clause-none c = met_none c.args.matches.now c.args.name.now c.subcommand_matches.result c.subcommand_matches.ensures.found
