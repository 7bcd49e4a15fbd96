use Rattle.std.proofs.Common.{◌≤◌, IsSome, refl, rules}
use Rattle.record_heap.specs.Slot.{room}
use Rattle.record_heap.proofs.EditLemmas.{room_some}
use Rattle.record_heap.proofs.GrowLemmas.{heap_grown, chains_grown, taken_written}
use Rattle.record_heap.proofs.heap.Heap.grow.Goals as goal

pub returns : goal.returns
returns g c =
    let before = (g.P.Pages.shown.state c.args.pages.now).live in
    let middle = (g.P.Pages.shown.state c.take.new.self).live in
    let after = (g.P.Pages.shown.state c.store.new.pages).live in
    let heap = c.args.self.now in
    let wide : 1 ≤ room heap.shape = room_some heap.shape in
    record {
      room = λ honest sound slots own stands.
          let honest' = g.met.P.Pages.writes_honestly c.take.new.self c.store.new.pages c.store.ensures.writes.step honest in
          let taken = c.in_ok-n.ensures.taken honest' sound in
          let there : IsSome (middle c.in_ok-n.n) = rw taken.1.1.page refl in
          let writes = taken_written before middle after c.in_ok-n.n taken.1.0 c.new_page.new.page taken.1.1 (c.in_ok-store.ensures.stored honest there) in
          record {
            answer = (
              heap_grown heap before after slots own c.new_page.new.page c.in_ok-n.n stands c.requires.none taken.0 wide writes c.new_page.ensures.heap c.new_page.ensures.linked,
              taken.0,
              rw (c.store.ensures.sound honest there) (c.take.ensures.sound honest' sound),
            );
            no_damage = tt;
          };
      shape = refl;
      few = search rules;
      writes = record { cause = search rules; asked = search rules; step = g.met.P.Pages.writes_on _ _ _ c.take.ensures.writes.step c.store.ensures.writes.step };
      order = λ honest sound slots own stands.
          let taken = c.in_ok-n.ensures.taken (g.met.P.Pages.writes_honestly c.take.new.self c.store.new.pages c.store.ensures.writes.step honest) sound in
          let there : IsSome (middle c.in_ok-n.n) = rw taken.1.1.page refl in
          let writes = taken_written before middle after c.in_ok-n.n taken.1.0 c.new_page.new.page taken.1.1 (c.in_ok-store.ensures.stored honest there) in
          chains_grown heap before after slots own c.new_page.new.page c.in_ok-n.n c.requires.none wide writes c.new_page.ensures.heap c.new_page.ensures.linked stands;
    }
