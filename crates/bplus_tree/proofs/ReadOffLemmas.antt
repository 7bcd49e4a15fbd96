-- What is read off the pages of a tree are its entries.
use Rattle.std.proofs.Common.{◌≡◌, ℕ, zero, suc, List, [], ◌∷◌, ◌++◌, map, Option, refl, ap, ◌∙◌, flat_map}
use Rattle.std.specs.Option.{option_map_or}
use Rattle.tree_node.specs.declared.shape.NodeShape.{NodeShape}
use Rattle.pages.specs.Each.{Each}
use Rattle.tree_node.specs.Leaf.{leaf_entries}
use Rattle.tree_node.specs.Inner.{children}
use Rattle.pages.specs.PageMap.{PageMap}
use Rattle.tree_search.specs.Tree.{TreeOf, page_of, entries_of}
use Rattle.tree_search.specs.Stored.{Holds}
use Rattle.bplus_tree.specs.ReadOff.{entries_in, ReadsItsEntries}

each_read : (shape : NodeShape) (pages : PageMap) (h : ℕ) → ((t : TreeOf h) → Holds shape pages h t → entries_in shape pages h (page_of h t) ≡ entries_of h t)
    → (ts : List (TreeOf h)) → Each (Holds shape pages h) ts → flat_map (entries_in shape pages h) (map (page_of h) ts) ≡ flat_map (entries_of h) ts
each_read shape pages h one [] all = refl
each_read shape pages h one (t ∷ ts) all =
    ap (λ (l : List (List ℕ)). l ++ flat_map (entries_in shape pages h) (map (page_of h) ts)) (one t all.0) ∙ ap (λ (l : List (List ℕ)). entries_of h t ++ l) (each_read shape pages h one ts all.1)

pub reads_its_entries : ReadsItsEntries
reads_its_entries shape pages zero t holds =
    ap (λ (o : Option (List ℕ)). option_map_or (λ bytes. leaf_entries shape bytes) o []) holds.there ∙ holds.holds
reads_its_entries shape pages (suc h) t holds =
    ap (λ (o : Option (List ℕ)). option_map_or (λ bytes. flat_map (entries_in shape pages h) (children shape bytes)) o []) holds.0.there
    ∙ ap (flat_map (entries_in shape pages h)) holds.0.leads
    ∙ each_read shape pages h (reads_its_entries shape pages h) t.2 holds.1
