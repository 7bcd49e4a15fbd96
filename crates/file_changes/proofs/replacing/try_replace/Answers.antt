use Rattle.std.proofs.Common.{arith}
use Rattle.open_file.specs.Fields.{file_schema}
use Rattle.open_file.proofs.StampedLemmas.{few_stamps}
use Rattle.file_changes.proofs.replacing.try_replace.Goals as goal

pub replace_by-requires-else-most_stored-le-SHORT_SLOT-clause-room :
    goal.replace_by-requires-else-most_stored-le-SHORT_SLOT-clause-room
replace_by-requires-else-most_stored-le-SHORT_SLOT-clause-room g c =
    let shaped = c.requires.ready.shaped in
    omega (arith, few_stamps (file_schema c.args.opened.now).keys shaped.is_schema.few, shaped.stamps, shaped.greatest, shaped.is_schema.limit)
