-- A tree from its root.
use Rattle.std.proofs.Common.{◌≡◌, ◌≢◌, ℕ, ◌+◌, ◌-◌, ◌<◌, Bool, List, [], ◌∷◌, length, Some, None, Ok, IsSome, refl, ap, subst, ◌∙◌, arith}
use Rattle.arrayvec.specs.ArrayVec.{ArrayVec}
use Rattle.pages.specs.PageMap.{PageMap, Takes}
use Rattle.bplus_tree.specs.declared.tree.Tree.{Tree}
use Rattle.bplus_tree.specs.declared.collapse.RootLevel.{RootLevel}
use Rattle.bplus_tree.specs.declared.remove.Shrunk.TheVariants.{Absent, Taken}
use Rattle.tree_search.specs.Tree.{entries_of, pages_of}
use Rattle.pages.specs.Owners.{ChangesPages}
use Rattle.bplus_tree.specs.Edits.{without_key}
use Rattle.tree_search.specs.Calls.{entry_of}
use Rattle.bplus_tree.specs.Collapse.{Collapses}
use Rattle.bplus_tree.specs.Remove.{HasRemovedBelow, HasTaken}
use Rattle.tree_node.specs.declared.shape.NodeShape.{NodeShape}
use Rattle.bplus_tree.specs.Start.{HasStarted}
use Rattle.bplus_tree.specs.Standing.{TreeStands, HasRemoved, IsNewTree}
use Rattle.bplus_tree.proofs.RemoveLemmas.{changes_trans, taken_once}
use Rattle.bplus_tree.proofs.RootLemmas.{at_root}

module _ {old : Tree} {before : PageMap} {entries : List (List ℕ)} {own : List ℕ} (key : List ℕ)
    (stands : TreeStands old before entries own) where
  pub removed_absent : {after : PageMap} → HasRemovedBelow (at_root old stands.value) before after key Absent
      → HasRemoved before after old old key entries own None
  removed_absent h = (rw stands.has at h.0, h.1, refl)

  fewer : (entry : List ℕ) → entry_of old.shape.width key (entries_of old.levels stands.value) ≡ Some entry
      → length (without_key old.shape.width key entries) + 1 ≡ length entries
  fewer entry was = rw stands.has at (taken_once old.shape.width key old.levels stands.value stands.whole.stands.ordered entry was)

  pub removed_some : {mid late : PageMap} {is_sound : Type 0} {base : RootLevel} {n changes : ℕ} {low : base.levels < 20} (entry : ArrayVec ℕ)
      (short : Bool) → n ≡ old.count - 1 → HasRemovedBelow (at_root old stands.value) before mid key (Taken entry short)
      → Collapses old.shape old.levels old.root (Ok base) mid late is_sound
      → HasRemoved before late old
      (record { shape = old.shape; root = base.root; levels = base.levels; count = n; changes = changes; low = low }) key entries own
      (Some entry) × is_sound
  removed_some {mid} {late} {base} entry short is_n h collapses =
      let b = h.1.becomes in
      let s = (collapses b.tree b.stands b.changes.apart b.filled).answer in
      let one_less = fewer entry.items h.0 in
      let count = stands.count in (
        (
          rw stands.has at h.0,
          record {
            own_now = pages_of base.levels s.0.tree;
            stands = record {
              value = s.0.tree;
              whole = s.0.whole;
              has = s.0.has ∙ b.has ∙ ap (without_key old.shape.width key) stands.has;
              pages_are = refl;
              count = omega arith;
            };
            changes = subst (λ (l : List ℕ). ChangesPages before late l (pages_of base.levels s.0.tree)) stands.pages_are
                (changes_trans before mid late (pages_of old.levels stands.value) (pages_of old.levels b.tree)
                (pages_of base.levels s.0.tree) b.changes s.0.changes);
          },
        ),
        s.1,
      )

  pub removed_one : {after : PageMap} {n changes : ℕ} {low : old.levels < 20} (entry : ArrayVec ℕ) → n ≡ old.count - 1
      → HasTaken (at_root old stands.value) before after key entry.items
      → HasRemoved before after old
      (record { shape = old.shape; root = old.root; levels = old.levels; count = n; changes = changes; low = low }) key entries own
      (Some entry)
  removed_one {after} entry is_n h =
      let b = h.becomes in
      let one_less = fewer entry.items h.was in
      let count = stands.count in (
        rw stands.has at h.was,
        record {
          own_now = pages_of old.levels b.tree;
          stands = record {
            value = b.tree;
            whole = record { stands = b.stands; apart = b.changes.apart; filled = b.filled; rooted = h.rooted stands.whole.rooted };
            has = b.has ∙ ap (without_key old.shape.width key) stands.has;
            pages_are = refl;
            count = omega arith;
          };
          changes = subst (λ (l : List ℕ). ChangesPages before after l (pages_of old.levels b.tree)) stands.pages_are b.changes;
        },
      )

-- ---- a new tree

not_free : (pages : PageMap) (m n : ℕ) → pages n ≡ None → IsSome (pages m) → m ≢ n
not_free pages m n free some same = let there : IsSome (pages m) = some in let none : pages m ≡ None = ap pages same ∙ free in cc

pub new_tree : (shape : NodeShape) (before mid after : PageMap) (n : ℕ) (bytes : List ℕ) (low : 0 < 20) → Takes before mid n bytes → HasStarted shape mid after n
    → IsNewTree shape before after (record { shape = shape; root = n; levels = 0; count = 0; changes = 0; low = low })
new_tree shape before mid after n bytes low takes started = record {
  changed = record {
    own_now = n ∷ [];
    stands = record {
      value = (n, []);
      whole = record { stands = record { holds = started.leaf; root = refl; ordered = (tt, tt) }; apart = (tt, tt); filled = tt; rooted = tt };
      has = refl;
      pages_are = refl;
      count = refl;
    };
    changes = record {
      others = λ m some out. let apart = not_free before m n takes.free some in (started.others m apart ∙ takes.others m apart, (apart, tt));
      no_stray = λ m some out. (subst IsSome (started.others m out.0 ∙ takes.others m out.0) some, tt);
      apart = (tt, tt);
    };
  };
  shape_is = refl;
  low = refl;
}

pub in_use : (pages : PageMap) (n : ℕ) (bytes : List ℕ) → pages n ≡ Some bytes → IsSome (pages n)
in_use pages n bytes there = rw there refl
