use Rattle.std.proofs.Common.{◌<◌, ◌-◌, ℕ, List, sym, subst}
use Rattle.io_state.specs.declared.position.Position.{Position}
use Rattle.record_listing.specs.Rising.{ranks_behind, rank_limit, rank_number}
use Rattle.record_listing.proofs.next.is_behind.Goals as goal

pub returns-in-After-clause-fewer : goal.returns-in-After-clause-fewer
returns-in-After-clause-fewer c =
    let s = c.args.found.now.stamp in
    let t = c.in-After.stamp in
    λ up.
    subst (λ (position : Position). rank_limit - rank_number c.args.found.now.key.items s < ranks_behind position) (sym c.in-After.is)
    (subst (λ (v : List ℕ). rank_limit - rank_number v s < rank_limit - rank_number c.in-After.key.items t) c.as_slice.ensures.value
    (subst (λ (w : List ℕ). rank_limit - rank_number c.as_slice.result.now s < rank_limit - rank_number w t) c.as_slice-in-After.ensures.value (c.is_after.ensures.fewer up)))
