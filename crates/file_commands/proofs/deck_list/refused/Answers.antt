use Rattle.std.proofs.Common.{◌≡◌, subst}
use Rattle.file_commands.specs.Listed.{IsDeckRefused}
use Rattle.command_support.specs.declared.fault.RefusedDeck.{RefusedDeck}
use Rattle.file_commands.proofs.deck_list.refused.Goals as goal

pub returns-in-Ok-clause-refused : goal.returns-in-Ok-clause-refused
returns-in-Ok-clause-refused c told is =
    let refused : RefusedDeck = record { fault = c.args.fault; faults = c.in-Ok.faults } in
    let same : refused ≡ told = cc in
    subst (IsDeckRefused c.args.bytes.now) same
    (c.if-fault-eq-MEMORY_CODE.false, c.requires.none c.if-fault-eq-MEMORY_CODE.false, c.in-Ok.ensures)
