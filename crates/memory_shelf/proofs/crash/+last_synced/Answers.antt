use Rattle.std.proofs.Common.{◌∙◌, sym}
use Rattle.memory_shelf.proofs.CrashLemmas.{base_synced, base_other}
use Rattle.memory_shelf.proofs.crash.+last_synced.Goals as goal

pub returns-in-Synced : goal.returns-in-Synced
returns-in-Synced t c = sym (base_synced c.args.log.now c.last-item.result c.in-len1-up.len_at_least c.last-item.is c.in-Synced.bytes c.in-Synced.is)

pub returns-in-Created : goal.returns-in-Created
returns-in-Created t c = c.last_synced.ensures ∙ sym (base_other c.args.log.now c.last-item.result c.in-len1-up.len_at_least c.last-item.is c.in-Created.is)
