-- An insert, from the root.
use Rattle.std.proofs.Common.{◌≡◌, ℕ, ◌+◌, ◌<◌, List, Option, Some, None, Ok, refl, ap, subst, ◌∙◌, arith}
use Rattle.arrayvec.specs.ArrayVec.{ArrayVec}
use Rattle.pages.specs.PageMap.{PageMap}
use Rattle.pages.specs.Owners.{ChangesPages}
use Rattle.bplus_tree.specs.declared.tree.Tree.{Tree}
use Rattle.bplus_tree.specs.declared.collapse.RootLevel.{RootLevel}
use Rattle.tree_node.specs.declared.separator.Separator.{Separator}
use Rattle.bplus_tree.specs.declared.insert.Grown.TheVariants.{Present, Added}
use Rattle.tree_search.specs.Tree.{TreeOf, entries_of, pages_of}
use Rattle.bplus_tree.specs.Edits.{with_entry}
use Rattle.bplus_tree.specs.Subtree.{at_page, Subtree, from_root}
use Rattle.bplus_tree.specs.Insert.{HasInsertedBelow}
use Rattle.bplus_tree.specs.GrowRoot.{GrowsRoot}
use Rattle.bplus_tree.specs.Standing.{TreeStands, HasInserted}
use Rattle.bplus_tree.proofs.WithEntryLemmas.{one_more}

-- the tree, from its root
abbrev pub at_root : (tree : Tree) → TreeOf tree.levels → Subtree (at_page tree.shape tree.levels tree.root)
at_root tree value = from_root (at_page tree.shape tree.levels tree.root) value

module _ {old : Tree} {before : PageMap} {entries : List (List ℕ)} {own : List ℕ} (e : List ℕ)
    (stands : TreeStands old before entries own) where
  pub inserted_none : {after : PageMap} {found : ArrayVec ℕ} → HasInsertedBelow (at_root old stands.value) before after e (Present found)
      → HasInserted before after old old e entries own (Some found)
  inserted_none h = (rw stands.has at h.0, h.1, refl)

  pub inserted_one : {late : PageMap} {is_sound : Type 0} {base : RootLevel} {count changes : ℕ} {low : base.levels < 20} (mid : PageMap)
      (up : Option Separator) → count ≡ old.count + 1 → HasInsertedBelow (at_root old stands.value) before mid e (Added up)
      → GrowsRoot (at_page old.shape old.levels old.root) up (Ok base) mid late is_sound
      → HasInserted before late old
      (record { shape = old.shape; root = base.root; levels = base.levels; count = count; changes = changes; low = low }) e entries own
      None × is_sound
  inserted_one {late} {base} mid up count_is h grows =
      let r = (grows before stands.value (with_entry old.shape.width e (entries_of old.levels stands.value)) stands.whole.rooted h.1).answer in
      let more = one_more old.shape.width e entries in
      let counted = stands.count in (
        (
          rw stands.has at h.0,
          record {
            own_now = pages_of base.levels r.0.tree;
            stands = record { value = r.0.tree; whole = r.0.whole; has = r.0.has ∙ ap (with_entry old.shape.width e) stands.has; pages_are = refl; count = omega arith };
            changes = subst (λ (l : List ℕ). ChangesPages before late l (pages_of base.levels r.0.tree)) stands.pages_are r.0.changes;
          },
        ),
        r.1,
      )
