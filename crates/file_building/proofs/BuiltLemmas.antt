-- Entries that are put into an index, one after another.
use Rattle.std.proofs.Common.{◌≡◌, inl, inr, ℕ, Bool, true, false, not, List, [], ◌∷◌, refl, ap, ◌∙◌}
use Rattle.std.specs.List.{All}
use Rattle.std.specs.List.Sorted.{IsPermutation}
use Rattle.std.proofs.lemmas.List.Sorted.{All-permutation}
use Rattle.std.proofs.lemmas.List.Elements.{All-nil, All-cons, All-head, All-tail}
use Rattle.pages.specs.Each.{Each}
use Rattle.pages.proofs.EachLemmas.{each_weaker}
use Rattle.pages.specs.PageMap.{PageMap}
use Rattle.bplus_tree.proofs.RemoveLemmas.{changes_trans}
use Rattle.record_heap.specs.Chain.{IsOneOf}
use Rattle.key_index.specs.declared.entry.AltEntry.{AltEntry}
use Rattle.key_index.specs.declared.alt_index.AltIndex.{AltIndex}
use Rattle.key_index.specs.Standing.{AltChanged}
use Rattle.tree_building.specs.declared.alt_builder.AltBuilder.{AltBuilder}
use Rattle.tree_building.specs.IndexBuilding.{IsBuildingAlt, AltBuildsOn, HasBuiltAlt}

-- none yet
pub begun : (pages : PageMap) (builder : AltBuilder) → IsBuildingAlt builder pages [] [] → AltBuildsOn pages pages builder [] []
begun pages builder building = record { own_now = []; building = building; changes = record { others = λ n some out. (refl, out); no_stray = λ n some out. (some, out); apart = tt } }

-- one entry more, since the start
pub built_since : (start before after : PageMap) (old new : AltBuilder) (done more : List AltEntry) (on : AltBuildsOn start before old [] done) → AltBuildsOn before after new on.own_now more → AltBuildsOn start after new [] more
built_since start before after old new done more on next = record {
  own_now = next.own_now;
  building = next.building;
  changes = changes_trans start before after [] on.own_now next.own_now on.changes next.changes;
}

-- the index stands, since the start
pub ended_since : (start before after : PageMap) (old : AltBuilder) (index : AltIndex) (entries : List AltEntry) (left left_now : ℕ) (on : AltBuildsOn start before old [] entries) → HasBuiltAlt left left_now before after index on.own_now entries → AltChanged start after index [] entries
ended_since start before after old index entries left left_now on built = record {
  own_now = built.own_now;
  stands = built.standing.stands;
  changes = changes_trans start before after [] on.own_now built.own_now on.changes built.changes;
}

-- ---- elements in another order

all_from_each : {X : Type 0} (P : X → Type 0) (xs : List X) → Each P xs → All P xs
all_from_each P [] each = All-nil P
all_from_each P (x ∷ xs) each = All-cons P x xs each.0 (all_from_each P xs each.1)

each_from_all : {X : Type 0} (P : X → Type 0) (xs : List X) → All P xs → Each P xs
each_from_all P [] all = tt
each_from_all P (x ∷ xs) all = (All-head P x xs all, each_from_all P xs (All-tail P x xs all))

pub each_moved : {X : Type 0} (P : X → Type 0) (xs ys : List X) → IsPermutation xs ys → Each P xs → Each P ys
each_moved P xs ys moved each = each_from_all P ys (All-permutation P xs ys moved (all_from_each P xs each))

pub each_is_one : {X : Type 0} (xs : List X) → Each (IsOneOf xs) xs
each_is_one [] = tt
each_is_one (x ∷ xs) = (inl refl, each_weaker (IsOneOf xs) (IsOneOf (x ∷ xs)) (λ y one. inr one) xs (each_is_one xs))

pub was_ok : (ok err : Bool) → ok ≡ not err → err ≡ false → ok ≡ true
was_ok ok err is fine = is ∙ ap not fine
