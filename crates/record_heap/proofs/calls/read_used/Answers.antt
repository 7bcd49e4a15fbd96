use Rattle.std.proofs.Common.{◌≡◌, List, ℕ, length, Option, Some, None, IsSome, refl, ap, sym, ◌∙◌, rules, arith}
use Rattle.std.proofs.lemmas.Grind.{common_steps}
use Rattle.std.specs.Prelude.{option_map}
use Rattle.record_heap.specs.Slot.{used_in, over_front}
use Rattle.record_heap.proofs.ChainLemmas.{some_same}
use Rattle.record_heap.proofs.StandLemmas.{slot_there}
use Rattle.record_heap.proofs.calls.read_used.Goals as goal

pub returns-in-Some : goal.returns-in-Some
returns-in-Some g c = record {
  got = λ honest next at within bytes is.
      let before = (g.P.Pages.shown.state c.args.pages.now).live in
      let live : IsSome (before c.args.place.page) = rw at.there refl in
      let shown : before c.args.place.page ≡ Some c.in_ok-page.page.now = (rw c.in_ok-page.was at (c.page.follows.holds-at-none.3 honest)) live in
      let used : used_in c.args.shape c.slot.result.now ≡ Some bytes =
      ap (used_in c.args.shape) (c.slot.ensures.value ∙ sym (slot_there c.args.shape before c.args.place c.args.place.page c.in_ok-page.page.now refl shown)) ∙ is in
      record {
        answer = (
          some_same c.in-Some.n (length bytes) (sym c.in-Some.is ∙ c.fetch.ensures.value ∙ ap (λ (o : Option (List ℕ)). option_map length o) used),
          c.fetch.ensures.to ∙ ap (λ (o : Option (List ℕ)). over_front o c.args.to.now) used,
        );
        no_damage = tt;
      };
  front = record { least = grind (arith, common_steps); greatest = grind (arith, common_steps); long = search rules; kept = search rules };
  reads = search rules;
}

pub returns-in-None : goal.returns-in-None
returns-in-None g c = record {
  got = λ honest next at within bytes is.
      let before = (g.P.Pages.shown.state c.args.pages.now).live in
      let live : IsSome (before c.args.place.page) = rw at.there refl in
      let shown : before c.args.place.page ≡ Some c.in_ok-page.page.now = (rw c.in_ok-page.was at (c.page.follows.holds-at-none.3 honest)) live in
      let used : used_in c.args.shape c.slot.result.now ≡ Some bytes =
      ap (used_in c.args.shape) (c.slot.ensures.value ∙ sym (slot_there c.args.shape before c.args.place c.args.place.page c.in_ok-page.page.now refl shown)) ∙ is in
      let none : None ≡ Some (length bytes) = sym c.in-None.is ∙ c.fetch.ensures.value ∙ ap (λ (o : Option (List ℕ)). option_map length o) used in
      absurd (cc none);
  front = search rules;
  reads = search rules;
}
