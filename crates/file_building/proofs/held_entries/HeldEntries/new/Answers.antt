use Rattle.std.proofs.Common.{◌+◌, map, ap, ◌∙◌, arith}
use Rattle.pages.specs.Chunks.{chunks}
use Rattle.key_index.specs.Stored.{alt_entry_in}
use Rattle.file_building.proofs.EntryLemmas.{no_chunks}
use Rattle.file_building.proofs.HeldLemmas.{none_counted}
use Rattle.file_building.proofs.held_entries.HeldEntries.new.Goals as goal

pub returns-clause-none : goal.returns-clause-none
returns-clause-none c =
    let size = c.args.width + 8 + c.args.prime in
    let bytes = c.new.result.items in
    ap (λ n. map (alt_entry_in c.args.width) (chunks size n bytes)) (none_counted size bytes (omega arith) c.new.ensures.items)
    ∙ ap (map (alt_entry_in c.args.width)) (no_chunks size bytes)
