-- The entries in the leaves of the tree of the prime key. All of this is ours.
use Rattle.std.specs.Prelude.{◌≡◌, ℕ, ◌+◌, ◌-◌, ◌==◌, ◌&&◌, Bool, List, [], length, flat_map, nat_eq, nat_le}
use Rattle.std.specs.Prelude.{replicate, slice_index, slice_range, take, if◌then◌else◌}
use Rattle.std.specs.Cmp.Lexicographic.{pointwise}
use Rattle.record_layout.specs.declared.schema.KeyPart.{KeyPart}
use Rattle.tree_node.specs.declared.shape.NodeShape.{NodeShape}
use Rattle.tree_node.specs.Leaf.{leaf_entries, leaf_room}
use Rattle.tree_node.specs.Table.{count_of}
use Rattle.std.specs.BTreeSet.{BTreeSet}
use Rattle.std.specs.Global.{Vec}
use Rattle.salvaged_records.specs.Values.{is_in_set}

-- the nodes are those of the tree of the prime key: an entry is its value, and a page and a slot
pub record IsPrimeShape (prime : KeyPart) (shape : NodeShape) : Type 0 where
  pub key : shape.key ≡ 0
  pub width : shape.width ≡ prime.length
  pub entry : shape.entry ≡ prime.length + 6

-- the page is a leaf: it begins with 'L' and the number of the key, has zeros where nothing stands, and
-- room for the entries that it counts
abbrev pub is_leaf_page : NodeShape → List ℕ → Bool
is_leaf_page shape page = (length page == 4096) && (slice_index page 0 == 76)
    && (slice_index page 1 == shape.key) && pointwise nat_eq (slice_range page 4 16) (replicate 12 0)
    && nat_le (count_of page) (leaf_room shape)

-- the entries of a page, if it is a leaf
abbrev pub entries_of_page : NodeShape → List ℕ → List (List ℕ)
entries_of_page shape page = if is_leaf_page shape page then leaf_entries shape page else []

-- those of all pages
abbrev pub leaf_entries_in : NodeShape → List (List ℕ) → List (List ℕ)
leaf_entries_in shape pages = flat_map (λ page. entries_of_page shape page) pages

-- what stands before the place in an entry of the prime key: its value
abbrev pub value_of_entry : List ℕ → List ℕ
value_of_entry entry = take (length entry - 6) entry

-- the value of an entry is one of these
abbrev pub is_entry_of : BTreeSet (Vec ℕ) → List ℕ → Bool
is_entry_of values entry = is_in_set values (value_of_entry entry)
