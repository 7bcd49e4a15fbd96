use Rattle.std.proofs.Common.{◌≡◌, take, Some, ap, sym, ◌∙◌}
use Rattle.record_heap.specs.declared.shape.Place.{Place}
use Rattle.file_building.specs.Moving.{IsToMove}
use Rattle.key_index.specs.Entries.{has_prime}
use Rattle.file_building.proofs.MovingLemmas.{found_one, front_read, slot_within}
use Rattle.file_building.proofs.moving.move_from.Goals as goal

pub returns-in-Ok-clause-moves : goal.returns-in-Ok-clause-moves
returns-in-Ok-clause-moves g c =
    let mover = c.args.mover.now in
    let place = c.args.place in
    record {
      moved = λ hf ht sound slots primes start stand entry leads is h.
          let got = (c.in-Ok.ensures.got hf slots stand.heap_own leads.bytes stand.heap (ap slots is ∙ leads.here)).answer in
          let front : leads.bytes ≡ take c.in-Ok.end c.read_stored.new.to = front_read leads.bytes c.read_stored.new.to _ c.in-Ok.end got.0 got.1 in
          let to_move : IsToMove slots primes mover place (take c.in-Ok.end c.read_stored.new.to) = record {
            entry = leads.at;
            one = found_one (has_prime entry.prime.items) primes leads.at leads.found;
            place_is = is;
            within = slot_within c.args.source.now mover place leads.at.place _ slots stand.heap_own leads.bytes c.requires.is_mover stand.heap is leads.here;
            here = ap slots is ∙ leads.here ∙ ap Some front;
            unknown = ap (λ (p : Place). p.page) (sym c.of.ensures) ∙ c.if-of-ne0.false;
          } in
          c.put_record.ensures.put ht sound slots primes start h to_move;
      is_mover = record { slots_are = c.put_record.ensures.same.slots_are ∙ c.requires.is_mover.slots_are; room_is = c.put_record.ensures.same.room_is ∙ c.requires.is_mover.room_is };
    }

pub returns-in-Err-clause-moves : goal.returns-in-Err-clause-moves
returns-in-Err-clause-moves g c = record {
  moved = λ hf ht sound slots primes start stand entry leads is h.
      record { answer = tt; no_damage = (c.in-Err.ensures.got hf slots stand.heap_own leads.bytes stand.heap (ap slots is ∙ leads.here)).no_damage };
  is_mover = c.requires.is_mover;
}
