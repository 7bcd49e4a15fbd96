-- What a file in memory keeps of the calls on it.
use Rattle.std.specs.Prelude.{List, map}
use Rattle.page_store.specs.DeviceFile.{FileStep, created, wrote, synced}
use Rattle.memory_shelf.specs.declared.event.Event.{Event}
use Rattle.memory_shelf.specs.declared.event.Event.TheVariants.{Created, Wrote, Synced}

abbrev pub step_of : Event → FileStep
step_of Created = created
step_of (Wrote at n) = wrote at n
step_of (Synced bytes) = synced bytes.items

abbrev pub steps : List Event → List FileStep
steps log = map step_of log
