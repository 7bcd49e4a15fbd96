use Rattle.command_words.proofs.subcommands.with_rejects.Goals as goal

pub returns : goal.returns
returns c =
    λ app is.
    let going = c.with_argument-going.ensures _ _ (c.with_argument-skipping.ensures _ _ is c.skip.ensures) c.flag-keep_going.ensures in
    c.with_argument.ensures _ _ going c.text-rejects.ensures
