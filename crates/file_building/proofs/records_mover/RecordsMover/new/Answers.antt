use Rattle.std.proofs.Common.{◌∙◌}
use Rattle.file_building.proofs.MoverLemmas.{nothing_moved}
use Rattle.file_building.proofs.records_mover.RecordsMover.new.Goals as goal

pub returns : goal.returns
returns c = record {
  slots_are = c.new.ensures.shape;
  room_is = c.new-2.ensures.room_is ∙ c.room.ensures.value;
  begun = λ pages slots primes. nothing_moved c.new.result c.new-2.result c.room.result pages slots primes (c.new.ensures.begun pages) c.new-2.ensures;
}
