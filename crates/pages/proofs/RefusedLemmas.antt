-- Why walks give up, and pages that no walk has reached.
use Rattle.std.proofs.Common.{◌≡◌, ◌<◌, ℕ, Bool, List, length, Result, Ok, Err, IfErr, IsErrAnd, sym, subst, ◌∙◌}
use Rattle.std.proofs.lemmas.Result.{err_from_is_err_and}
use Rattle.pages.specs.Each.{Each}
use Rattle.pages.specs.Owners.{IsOutside}
use Rattle.pages.specs.declared.fault_place.FaultPlace.{FaultPlace}
use Rattle.pages.specs.declared.damage.Damage.{Damage}
use Rattle.pages.specs.declared.walk_fault.WalkFault.{WalkFault}
use Rattle.pages.specs.declared.walk_fault.WalkFault.TheVariants.{Memory, At}
use Rattle.pages.specs.Marks.{IsUnmarked, Marks, marked_in}
use Rattle.pages.specs.Refused.{RefusesRightly}
use Rattle.pages.proofs.EachLemmas.{each_both}

-- a fault of a page where this is not so
pub refused : (S : Type 0) (fault : WalkFault) (what : Damage) (place : FaultPlace) → fault ≡ At what place → (S → ⊥) → RefusesRightly S fault
refused S fault what place is never = subst (RefusesRightly S) (sym is) never

pub for_memory : (S : Type 0) (fault : WalkFault) → fault ≡ Memory → RefusesRightly S fault
for_memory S fault is = subst (RefusesRightly S) (sym is) tt

-- what asks for more is refused, too
pub refuses_more : (S T : Type 0) (fault : WalkFault) → (T → S) → RefusesRightly S fault → RefusesRightly T fault
refuses_more S T Memory f never = tt
refuses_more S T (At what place) f never = λ t. never (f t)

pub err_refuses_more : {X : Type 0} (S T : Type 0) (r : Result X WalkFault) → (T → S) → IfErr r (RefusesRightly S) → IfErr r (RefusesRightly T)
err_refuses_more S T (Ok x) f h = tt
err_refuses_more S T (Err fault) f h = refuses_more S T fault f h

-- a fault that is handed on
pub handed_on : {X : Type 0} (S T : Type 0) (r : Result X WalkFault) (fault : WalkFault) → IsErrAnd r (λ e. e ≡ fault) → (T → S) → RefusesRightly S fault → IfErr r (RefusesRightly T)
handed_on S T r fault was f never = let p = err_from_is_err_and r was in rw (p.1, p.2) (refuses_more S T fault f never)

-- pages that no walk has reached, behind one that has reached others
pub still_unmarked : (before after : List Bool) (own ns : List ℕ) → Marks (marked_in before) (marked_in after) own → length after ≡ length before → Each (IsOutside own) ns
    → Each (IsUnmarked before) ns → Each (IsUnmarked after) ns
still_unmarked before after own ns marks long out free =
    each_both (IsOutside own) (IsUnmarked before) (IsUnmarked after) (λ n o u. (subst (λ (k : ℕ). n < k) (sym long) u.0, marks.others n o ∙ u.1)) ns out free
