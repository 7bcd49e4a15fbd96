use Rattle.command_words.proofs.ShapeLemmas.{last_arg}
use Rattle.command_words.proofs.subcommands.list_command.Goals as goal

pub returns : goal.returns
returns c =
    let filed = last_arg _ _ c.arg.result c.arg.ensures c.named-list.ensures c.word-file.ensures in
    let bounded = c.with_bounds-bounded.ensures _ filed in
    let chosen = c.with_argument-chosen.ensures _ _ (c.with_argument.ensures _ _ bounded c.first.ensures) c.conditions.ensures in
    let formed = c.with_form-formed.ensures _ chosen in
    c.with_wait.ensures _ (c.with_quiet.ensures _ (c.with_checked.ensures _ formed))
