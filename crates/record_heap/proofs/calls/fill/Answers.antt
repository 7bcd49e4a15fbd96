use Rattle.std.proofs.Common.{◌≡◌, ◌++◌, Some, IsSome, IsOk, refl}
use Rattle.record_heap.specs.Slot.{used_in}
use Rattle.record_heap.proofs.StandLemmas.{rewritten}
use Rattle.record_heap.proofs.calls.fill.Goals as goal

pub returns : goal.returns
returns g c =
    let ok : IsOk c.page_mut.result = rw c.in_ok-page.was refl in
    let w = c.page_mut.follows.holds c.put_used.new.page ok in
    record {
      changed = λ honest sound next at within.
          let before = (g.P.Pages.shown.state c.args.pages.now).live in
          let after = (g.P.Pages.shown.state (c.page_mut.follows.lender c.put_used.new.page)).live in
          let live : IsSome (before c.args.place.page) = rw at.there refl in
          let shown : before c.args.place.page ≡ Some c.in_ok-page.page.now = (rw c.in_ok-page.was at (w.3 honest)) live in
          let writes = w.0.live honest live in
          record {
            answer = (
              rewritten c.args.shape before after c.args.place c.in_ok-page.page.now c.put_used.new.page (λ slot. used_in c.args.shape slot ≡ Some (c.args.stamps.now ++ c.args.record.now)) shown writes.page writes.others c.put_used.ensures within,
              rw (w.0.sound honest live) sound,
            );
            no_damage = tt;
          };
      available = w.0.available;
      writes = record { cause = tt; asked = w.1; step = w.2 };
    }
