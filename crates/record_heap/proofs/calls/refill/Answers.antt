use Rattle.std.proofs.Common.{◌≡◌, ◌++◌, Some, None, IsSome, IsOk, refl, ◌∙◌, ap, sym}
use Rattle.record_heap.specs.Slot.{used_in, behind_in}
use Rattle.record_heap.proofs.ChainLemmas.{some_same}
use Rattle.record_heap.proofs.StandLemmas.{rewritten, refills, slot_there}
use Rattle.record_heap.proofs.calls.refill.Goals as goal

pub returns-in-Some : goal.returns-in-Some
returns-in-Some g c =
    let ok : IsOk c.page_mut.result = rw c.in_ok-page.was refl in
    let w = c.page_mut.follows.holds c.put_used.new.page ok in
    record {
      changed = λ behind behind_is honest sound next at within.
          let before = (g.P.Pages.shown.state c.args.pages.now).live in
          let after = (g.P.Pages.shown.state (c.page_mut.follows.lender c.put_used.new.page)).live in
          let live : IsSome (before c.args.place.page) = rw at.there refl in
          let shown : before c.args.place.page ≡ Some c.in_ok-page.page.now = (rw c.in_ok-page.was at (w.3 honest)) live in
          let writes = w.0.live honest live in
          let same : c.in-Some.next ≡ behind = some_same c.in-Some.next behind
          (sym c.in-Some.is ∙ c.behind.ensures ∙ ap behind_in (c.slot.ensures.value ∙ sym (slot_there c.args.shape before c.args.place c.args.place.page c.in_ok-page.page.now refl shown)) ∙ behind_is) in
          record {
            answer = (
              refills c.args.shape before after c.args.place (c.args.stamps.now ++ c.args.record.now) c.in-Some.next behind same
                  (rewritten c.args.shape before after c.args.place c.in_ok-page.page.now c.put_used.new.page (λ slot. used_in c.args.shape slot ≡ Some (c.args.stamps.now ++ c.args.record.now)) shown writes.page writes.others c.put_used.ensures within),
              rw (w.0.sound honest live) sound,
            );
            no_damage = tt;
          };
      available = w.0.available;
      writes = record { cause = tt; asked = w.1; step = w.2 };
    }

pub returns-in-None : goal.returns-in-None
returns-in-None g c =
    let ok : IsOk c.page_mut.result = rw c.in_ok-page.was refl in
    let w = c.page_mut.follows.holds c.in_ok-page.page.now ok in
    record {
      changed = λ behind behind_is honest sound next at within.
          let before = (g.P.Pages.shown.state c.args.pages.now).live in
          let live : IsSome (before c.args.place.page) = rw at.there refl in
          let shown : before c.args.place.page ≡ Some c.in_ok-page.page.now = (rw c.in_ok-page.was at (w.3 honest)) live in
          let none : None ≡ Some behind =
          sym c.in-None.is ∙ c.behind.ensures ∙ ap behind_in (c.slot.ensures.value ∙ sym (slot_there c.args.shape before c.args.place c.args.place.page c.in_ok-page.page.now refl shown)) ∙ behind_is in
          absurd (cc none);
      available = w.0.available;
      writes = record { cause = record { device = λ is. absurd (cc is); full = λ is. absurd (cc is); not_memory = λ is. absurd (cc is); not_broken = λ is. absurd (cc is) }; asked = w.1; step = w.2 };
    }
