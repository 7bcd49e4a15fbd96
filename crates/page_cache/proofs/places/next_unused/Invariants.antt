use Rattle.std.proofs.Common.{◌<◌, length}
use Rattle.page_cache.proofs.places.next_unused.Given as goal

abbrev pub invariant-loop : goal.invariant-loop
invariant-loop l = l.place < length l.used
