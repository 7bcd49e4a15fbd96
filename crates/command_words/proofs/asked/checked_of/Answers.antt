use Rattle.std.specs.Prelude.{codes}
use Rattle.clap.specs.Words.{found_of}
use Rattle.command_words.proofs.FlagLemmas.{no_flag, checked_read}
use Rattle.command_words.proofs.asked.checked_of.Goals as goal

pub returns-clause-some : goal.returns-clause-some
returns-clause-some c = checked_read (found_of c.args.list.now) c.get_one.result c.get_one.ensures.none c.get_one.ensures.value

pub returns-clause-none : goal.returns-clause-none
returns-clause-none c =
    λ none checked asked. no_flag (found_of c.args.list.now) (codes "checked") c.get_one.result c.get_one.ensures.value none checked (asked.text, asked.given, asked.is)
