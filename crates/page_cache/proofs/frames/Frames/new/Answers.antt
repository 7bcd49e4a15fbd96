use Rattle.std.proofs.Common.{ℕ, List, arith, length, ap, sym, subst, nat_eq}
use Rattle.std.specs.List.{IsDistinct}
use Rattle.page_cache.specs.Table.{IsTable}
use Rattle.page_cache.proofs.PlacesLemmas.{distinct_none}
use Rattle.page_cache.proofs.frames.Frames.new.Goals as goal

pub invariant_of-result : goal.invariant_of-result
invariant_of-result c =
    let no_numbers = c.in_ok-with_capacity.ensures.items in
    let numbers = ap length no_numbers in
    let pages = ap length c.in_ok-with_capacity-2.ensures.items in
    let most = c.get-most.ensures.value in
    let some = c.get-most.ensures.nonzero in
    let changes = c.in_ok-vec.ensures.len in
    let changes_long = c.in_ok-vec.field-0.ok.0 in
    let uses = c.in_ok-vec-2.ensures.len in
    let uses_long = c.in_ok-vec-2.field-0.ok.0 in
    let numbers_room = c.in_ok-with_capacity.ensures.exact in
    let pages_room = c.in_ok-with_capacity-2.ensures.exact in (
      record {
        long = omega arith;
        few = omega arith;
        apart = subst (IsDistinct nat_eq) (sym no_numbers) distinct_none;
        changes = omega arith;
        uses = omega arith;
        some = omega arith;
      },
      omega arith,
      omega arith,
      subst (λ (ns : List ℕ). IsTable ns c.in_ok-new.field-0) (sym no_numbers) c.in_ok-new.ensures,
    )
