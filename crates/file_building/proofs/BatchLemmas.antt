-- A batch of entries, cut at one of them.
use Rattle.std.proofs.Common.{◌≡◌, ◌≤◌, true, List, ap, sym, subst, ◌∙◌, Option, Some, length}
use Rattle.std.specs.Option.{IfSome}
use Rattle.std.proofs.lemmas.Bool.{and_parts}
use Rattle.record_heap.specs.Chain.{IsOneOf}
use Rattle.key_index.specs.declared.entry.AltEntry.{AltEntry}
use Rattle.file_building.specs.declared.batch.Batch.{Batch}
use Rattle.file_building.specs.declared.batch.LowerPart.{LowerPart}
use Rattle.file_building.specs.Ranks.{is_lower, AreUntied}
use Rattle.file_building.specs.Held.{held_entries, entries_up_to}
use Rattle.file_building.specs.Within.{is_below_top, is_between, entries_within}
use Rattle.file_building.specs.Batches.{HasTakenEntries, IsLowerPart, IsTopOf}
use Rattle.file_building.proofs.WithinLemmas.{each_passes, each_one, cut_within, some_up_to, untied_left}

-- of the entries seen it holds those up to the new top
pub cut_taken : (old new : Batch) (part : LowerPart) (seen : List AltEntry) → HasTakenEntries old seen → IsLowerPart old.held part
    → new.above ≡ old.above → new.top ≡ Some part.top → new.held ≡ part.held → HasTakenEntries new seen
cut_taken old new part seen had cut above top held =
    let one : IsOneOf (entries_within old.above old.top seen) part.top = subst (λ (l : List AltEntry). IsOneOf l part.top) had.held cut.one in
    let passes : is_between old.above old.top part.top ≡ true = each_one (λ e. is_between old.above old.top e ≡ true) (entries_within old.above old.top seen) part.top (each_passes (is_between old.above old.top) seen) one in
    let both = and_parts (is_lower old.above part.top) (is_below_top old.top part.top) passes in
    let are : held_entries part.held ≡ entries_within old.above (Some part.top) seen =
    cut.held_are ∙ ap (entries_up_to part.top) had.held ∙ cut_within old.above part.top old.top seen both.1 in
    let some : 1 ≤ length (held_entries part.held) = subst (λ (l : List AltEntry). 1 ≤ length l) (sym cut.held_are) (some_up_to part.top (held_entries old.held) cut.one) in
    let is_top : IsTopOf new.above (held_entries new.held) part.top = record {
      higher = ap (λ (e : AltEntry). is_lower e part.top) above ∙ both.0;
      some = subst (λ h. 1 ≤ length (held_entries h)) (sym held) some;
    } in
    record {
      held = ap held_entries held ∙ are ∙ ap (λ (e : AltEntry). entries_within e (Some part.top) seen) (sym above) ∙ ap (λ (t : Option AltEntry). entries_within new.above t seen) (sym top);
      topped = subst (λ (t : Option AltEntry). IfSome t (IsTopOf new.above (held_entries new.held))) (sym top) is_top;
    }

-- where two that are held have one rank, two that were seen have it
pub tied_seen : (batch : Batch) (seen : List AltEntry) → HasTakenEntries batch seen → (AreUntied is_lower (held_entries batch.held) → ⊥) → AreUntied is_lower seen → ⊥
tied_seen batch seen had tied untied =
    tied (subst (AreUntied is_lower) (sym had.held) (untied_left (is_between batch.above batch.top) is_lower seen untied))
