use Rattle.std.proofs.Common.{◌≤◌, sym, subst, ◌∙◌, nat_eq}
use Rattle.std.specs.NonZero.{non_zero_usize_get}
use Rattle.std.specs.List.{IsDistinct}
use Rattle.page_cache.specs.HeldFrames.{IsSeated}
use Rattle.page_cache.specs.Places.{marked}
use Rattle.page_cache.proofs.PlacesLemmas.{frames_long, paired_keys}
use Rattle.page_cache.proofs.frames.Frames.len.Goals as goal

pub returns-clause-len : goal.returns-clause-len
returns-clause-len c = rw (← c.self.view_is) (c.len.ensures ∙ c.self.inside.numbers.ok.0 ∙ sym (frames_long _ _ _ _ _ c.self.invariant.0).2)

pub returns-clause-seated : goal.returns-clause-seated
returns-clause-seated c =
    let ns = c.self.inside.numbers.items in
    let fs = marked c.self.inside.changed.items c.self.inside.pages.items in
    let rows = c.self.invariant.0 in
    let long = frames_long _ _ _ _ _ rows in
    subst IsSeated c.self.view_is (record {
      apart = subst (IsDistinct nat_eq) (sym (paired_keys ns fs long.1)) rows.apart;
      few = subst (λ n. n ≤ non_zero_usize_get c.self.inside.cap) (sym long.2) rows.few;
      some = rows.some;
    })
