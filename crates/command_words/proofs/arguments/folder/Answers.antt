use Rattle.command_words.proofs.arguments.folder.Goals as goal

pub returns : goal.returns
returns c = c.option.ensures
