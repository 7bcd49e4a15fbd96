use Rattle.std.proofs.Common.{◌≡◌, refl, sym, ◌∙◌, ap, Some, IsSome, option_map, nat_eq}
use Rattle.std.specs.Option.{option_copied_mut}
use Rattle.std.specs.Map.{lookup}
use Rattle.page_cache.specs.HeldFrames.{Frame}
use Rattle.page_cache.proofs.FrameLemmas.{value_here, value_apart, there_from}
use Rattle.page_cache.proofs.cache.Cache.held_mut.Goals as goal

pub returns-in-Some : goal.returns-in-Some
returns-in-Some c =
    let n = c.args.n in
    let es = c.args.self.now.frames.entries in
    let value : option_map (λ (frame : Frame). frame.page) (lookup (nat_eq n) es) ≡ Some c.in-Some.page.now = sym c.page_mut.ensures.value ∙ ap option_copied_mut c.in-Some.is in
    let there : IsSome (lookup (nat_eq n) es) = there_from n es c.in-Some.page.now value in (
      (
        refl,
        (λ w _. record {
          this = ap (option_map (λ (frame : Frame). frame.page)) (value_here n es _ there);
          changed = ap (option_map (λ (frame : Frame). frame.changed)) (value_here n es _ there);
          others = λ k differs. value_apart n k es _ there differs;
          cap = refl;
          store = refl;
          asked = refl;
        }),
        tt,
      ),
      record { lends = tt; answer = record { ok = λ _. refl; value = value } },
    )
