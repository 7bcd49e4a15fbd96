-- A new root above two trees.
use Rattle.std.proofs.Common.{◌≡◌, ◌≢◌, ℕ, zero, suc, ◌+◌, ◌≤◌, add-one, List, [], ◌∷◌, ◌++◌, Some, None, Ok, IsSome, refl, ap, sym, subst}
use Rattle.std.proofs.Common.{◌∙◌, arith, flat_map}
use Rattle.std.proofs.lemmas.List.{append-nil}
use Rattle.pages.specs.Each.{Each}
use Rattle.tree_node.specs.declared.shape.NodeShape.{NodeShape}
use Rattle.tree_node.proofs.OrderLemmas.{Each-weaker}
use Rattle.pages.specs.PageMap.{PageMap}
use Rattle.pages.specs.Owners.{IsOutside, ChangesPages}
use Rattle.tree_node.specs.declared.separator.Separator.{Separator}
use Rattle.tree_search.specs.Tree.{TreeOf, page_of, entries_of, pages_of}
use Rattle.tree_search.specs.Calls.{size_of, IsRooted, IsWhole}
use Rattle.tree_search.specs.Stored.{Holds, IsInnerAt}
use Rattle.bplus_tree.specs.Subtree.{at_page, from_root}
use Rattle.bplus_tree.specs.Remove.{Becomes}
use Rattle.bplus_tree.specs.Grow.{HasRoot, AddsRoot}
use Rattle.bplus_tree.specs.Insert.{BecomesTwo}
use Rattle.bplus_tree.specs.GrowRoot.{HasGrownRoot, GrowsRoot}
use Rattle.bplus_tree.proofs.PageLemmas.{pages_live, holds_still}
use Rattle.tree_search.proofs.RowLemmas.{Each-append}

rooted_still : (h : ℕ) (t new : TreeOf h) → IsRooted h t → size_of h t ≤ size_of h new → IsRooted h new
rooted_still zero t new rooted large = tt
rooted_still (suc h) t new rooted large = omega arith

-- the root was not split
grown_same : {shape : NodeShape} {before mid : PageMap} {h root : ℕ} {entries : List (List ℕ)} (t : TreeOf h) → IsRooted h t
    → Becomes (from_root (at_page shape h root) t) before mid (size_of h t) entries
    → HasGrownRoot shape before mid (pages_of h t) entries (record { root = root; levels = h })
grown_same {h} t rooted b =
    record {
      tree = b.tree;
      whole = record { stands = b.stands; apart = b.changes.apart; filled = b.filled; rooted = rooted_still h t b.tree rooted b.large };
      has = b.has;
      changes = b.changes;
    }

module _ {shape : NodeShape} {before mid after : PageMap} {h root : ℕ} {entries : List (List ℕ)} {separator : Separator} {new : ℕ}
    (t : TreeOf h) (two : BecomesTwo (from_root (at_page shape h root) t) before mid entries separator)
    (put : HasRoot shape mid after root separator new) where
  fresh : (n : ℕ) → IsSome (mid n) → n ≢ new
  fresh n here e = let no : IsSome (mid new) = subst (λ m. IsSome (mid m)) e here in let free = put.free in cc (no, free)

  still : (x : TreeOf h) → Holds shape mid h x → Holds shape after h x
  still x holds = holds_still shape mid after h x holds
      (Each-weaker (λ n. IsSome (mid n)) (λ n. after n ≡ mid n) (λ n here. put.others n (fresh n here)) (pages_of h x)
      (pages_live shape mid h x holds))

  abbrev below : List ℕ
  below = flat_map (pages_of h) (two.left ∷ two.right ∷ [])

  below_is : below ≡ pages_of h two.left ++ pages_of h two.right
  below_is = ap (λ (l : List ℕ). pages_of h two.left ++ l) (append-nil (pages_of h two.right))

  changed : ChangesPages before mid (pages_of h t) below
  changed = subst (ChangesPages before mid (pages_of h t)) (sym below_is) two.changes

  live : Each (λ n. IsSome (mid n)) below
  live = subst (Each (λ n. IsSome (mid n))) (sym below_is)
      (Each-append (λ n. IsSome (mid n)) (pages_of h two.left) (pages_of h two.right)
      (pages_live shape mid h two.left two.left_stands.holds)
      (pages_live shape mid h two.right two.right_stands.holds))

  above_all : IsOutside below new
  above_all = Each-weaker (λ n. IsSome (mid n)) (λ n. new ≢ n) (λ n here e. fresh n here (sym e)) below live

  abbrev tree : TreeOf (suc h)
  tree = (new, separator.key.items ∷ [], two.left ∷ two.right ∷ [])

  node : IsInnerAt shape after new (separator.key.items ∷ []) (page_of h two.left ∷ page_of h two.right ∷ [])
  node = subst (λ (n : ℕ). IsInnerAt shape after new (separator.key.items ∷ []) (n ∷ page_of h two.right ∷ [])) (sym two.left_stands.root)
      (subst (λ (n : ℕ). IsInnerAt shape after new (separator.key.items ∷ []) (root ∷ n ∷ [])) (sym two.right_stands.root) put.inner)

  whole : IsWhole shape after (suc h) new None None tree
  whole = record {
    stands = record {
      holds = (node, (still two.left two.left_stands.holds, (still two.right two.right_stands.holds, tt)));
      root = refl;
      ordered = ((tt, tt), (two.under, two.over, two.left_stands.ordered, two.right_stands.ordered));
    };
    apart = (above_all, changed.apart);
    filled = (two.left_full, (two.right_full, tt));
    rooted = omega arith;
  }

  frame : ChangesPages before after (pages_of h t) (new ∷ below)
  frame = record {
    others = λ n here out.
        let c = changed.others n here out in
        let ne = fresh n (rw c.0 here) in
        (put.others n ne ∙ c.0, (ne, c.1));
    no_stray = λ n here out. changed.no_stray n (rw (← put.others n out.0) here) out.1;
    apart = (above_all, changed.apart);
  }

  -- two trees come under a new root
  grown_above : HasGrownRoot shape before after (pages_of h t) entries (record { root = new; levels = suc h })
  grown_above =
      let has = ap (λ (l : List (List ℕ)). entries_of h two.left ++ l) (append-nil (entries_of h two.right)) ∙ two.has in
      record { tree = tree; whole = whole; has = has; changes = frame }

module _ {shape : NodeShape} {h root : ℕ} where
  pub grows_none : {mid : PageMap} {is_sound : Type 0} → is_sound
      → GrowsRoot (at_page shape h root) None (Ok (record { root = root; levels = h })) mid mid is_sound
  grows_none sound before t entries rooted grown = record { answer = (grown_same t rooted grown, sound); no_damage = tt }

  pub grows_above : {mid after : PageMap} {is_sound : Type 0} {separator : Separator} {new : ℕ}
      → AddsRoot shape root separator (Ok new) mid after is_sound
      → GrowsRoot (at_page shape h root) (Some separator) (Ok (record { root = new; levels = h + 1 })) mid after is_sound
  grows_above adds before t entries rooted grown =
      let a = adds.answer in
      record { answer = (rw (add-one h) (grown_above t grown a.0), a.1); no_damage = tt }
