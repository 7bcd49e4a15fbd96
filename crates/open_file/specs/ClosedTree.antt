-- What the pages of a tree of a closed file hold.
use Rattle.std.specs.Prelude.{◌≡◌, ℕ, zero, suc, ◌+◌, ◌-◌, ◌*◌, ◌/◌, ◌≤◌, min, true, false, List, [], ◌∷◌}
use Rattle.std.specs.Prelude.{length, take, drop, map, flat_map, replicate, slice_index, slice_index_or}
use Rattle.std.specs.Prelude.{slice_range, Option, Some, None, IfSome}
use Rattle.std.specs.List.{All, AllPairs}
use Rattle.std.specs.Simd.{first_chunks}
use Rattle.byteorder.specs.Endian.{big_number}
use Rattle.open_file.specs.declared.first_page.Header.{Header}
use Rattle.pages.specs.PageMap.{PageMap}
use Rattle.tree_node.specs.Order.{less}

-- page n is a node of this kind: it tells its key and how many rows it has, as many as it may have at
-- least (by how many have room) and at most; these stand from `base` on, and rise by their first bytes
pub record HoldsNode (kind key width base size : ℕ) (least : ℕ → ℕ) (pages : PageMap) (n : ℕ) : Type 0 where
  pub page : List ℕ
  pub there : pages n ≡ Some page
  pub long : length page ≡ 4096
  pub tag : slice_index page 0 ≡ kind
  pub number : slice_index page 1 ≡ key
  pub zeros : slice_range page 4 16 ≡ replicate 12 0
  pub rows : List (List ℕ)
  pub rows_are : rows ≡ first_chunks size (slice_index page 2 * 256 + slice_index page 3) (drop base page)
  pub few : length rows ≤ (4096 - base) / size
  pub enough : least ((4096 - base) / size) ≤ length rows
  pub rising : AllPairs (λ x y. less (take width x) (take width y) ≡ true) rows

-- The separators lie between the bounds, and each member, one more than they, between those beside it.
abbrev pub AreSeparated : {X : Type 0} → (Option (List ℕ) → Option (List ℕ) → X → Type 0)
    → Option (List ℕ) → List (List ℕ) → List X → Option (List ℕ) → Type 0
AreSeparated Between low [] (x ∷ []) high = Between low high x
AreSeparated Between low (s ∷ ss) (x ∷ xs) high = IfSome low (λ l. less l s ≡ true)
    × IfSome high (λ h. less s h ≡ true) × Between low (Some s) x × AreSeparated Between (Some s) ss xs high
AreSeparated Between low _ _ high = ⊥

-- The node on page n, the leaves so many levels below it, has these entries and these pages under it: a
-- leaf, 'L', has entries from `low` on, below `high`, and an inner node, 'I', its first child, and then
-- separators, each with the child to its right. Below it all nodes are at least half full.
abbrev pub HoldsNodes : (key width entry : ℕ) → PageMap → (ℕ → ℕ) → (low high : Option (List ℕ))
    → (levels n : ℕ) → (entries : List (List ℕ)) → (own : List ℕ) → Type 0
HoldsNodes key width entry pages least low high zero n entries own =
    (node : HoldsNode 76 key width 16 entry least pages n) × (node.rows ≡ entries) × (n ∷ [] ≡ own)
    × All (λ e. IfSome low (λ l. less (take width e) l ≡ false)
    × IfSome high (λ h. less (take width e) h ≡ true)) entries
HoldsNodes key width entry pages least low high (suc levels) n entries own =
    (node : HoldsNode 73 key width 20 (width + 4) least pages n) × (below : List (ℕ × List (List ℕ) × List ℕ))
    × (big_number 4 (drop 16 node.page) ∷ map (λ row. big_number 4 (drop width row)) node.rows
    ≡ map (λ b. b.0) below) × (flat_map (λ b. b.1) below ≡ entries) × (n ∷ flat_map (λ b. b.2) below ≡ own)
    × AreSeparated (λ low high b.
    HoldsNodes key width entry pages (λ room. room / 2) low high levels b.0 b.1 b.2)
    low (map (take width) node.rows) below high

-- these pages are those of the tree of key k, with these entries, which begin with keys of this width
pub record HoldsTree (header : Header) (k width entry : ℕ) (pages : PageMap) (entries : List (List ℕ))
    (own : List ℕ) : Type 0 where
  pub levels : ℕ
  pub root : ℕ
  pub told : slice_index_or header.trees.items k (record { height = 0; root = 0 })
      ≡ record { height = suc levels; root = root }
  -- an inner root has a separator
  pub nodes : HoldsNodes k width entry pages (λ room. min levels 1) None None levels root entries own
