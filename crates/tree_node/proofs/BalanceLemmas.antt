-- Lengths of two lists that share what they have.
use Rattle.std.proofs.Common.{◌≡◌, ◌≢◌, ℕ, zero, suc, Bool, Option, Some, ◌+◌, ◌*◌, ◌/◌, ◌<◌, ◌≤◌, List, ◌++◌, ◌∷◌, false, length, take, slice_index_or, [], refl, ap, sym, ◌∙◌, arith}
use Rattle.std.proofs.lemmas.List.{length-append}
use Rattle.tree_node.specs.declared.shape.NodeShape.{NodeShape}
use Rattle.tree_node.specs.Leaf.{leaf_entries, leaf_room, LeavesInOrder}
use Rattle.tree_node.proofs.LeafLemmas.{leaf_room_some}
use Rattle.tree_node.specs.Inner.{separators, inner_room, InnersInOrder}
use Rattle.tree_node.specs.Balance.{ChangesSeparator, LeavesShared, InnersShared, AreShared, Balances}

pub lengths : {X : Type 0} (a b c d : List X) → a ++ b ≡ c ++ d → length a + length b ≡ length c + length d
lengths a b c d e = sym (length-append a b) ∙ ap length e ∙ length-append c d

-- n is half of what the second number is greater by, rounded up
abbrev pub IsHalf : ℕ → ℕ → ℕ → Type 0
IsHalf n less more = (1 ≤ n) × (more ≤ less + 2 * n) × (less + 2 * n ≤ more + 1)

-- the left one had less, and took half of what the right one had more
pub left_filled : (shape : NodeShape) (n : ℕ) (left right left_now right_now : List ℕ) → LeavesInOrder shape left right left_now right_now
    → length (leaf_entries shape left_now) ≡ length (leaf_entries shape left) + n → IsHalf n (length (leaf_entries shape left)) (length (leaf_entries shape right))
    → 2 * (leaf_room shape / 2) ≤ length (leaf_entries shape left) + length (leaf_entries shape right)
    → LeavesShared shape left right left_now right_now (take shape.width (slice_index_or (leaf_entries shape right_now) 0 []))
left_filled shape n left right left_now right_now in_order more half enough =
    let same = lengths (leaf_entries shape left_now) (leaf_entries shape right_now) (leaf_entries shape left) (leaf_entries shape right) in_order.has in
    let room = leaf_room_some shape in
    let (some, least, most) = half in
    record {
      lower = in_order.lower;
      upper = in_order.upper;
      has = in_order.has;
      between = refl;
      some = (omega arith, omega arith);
      even = (omega arith, omega arith);
      fill = λ a b. (omega arith, omega arith);
    }

-- the right one had less
pub right_filled : (shape : NodeShape) (n : ℕ) (left right left_now right_now : List ℕ) → LeavesInOrder shape left right left_now right_now
    → length (leaf_entries shape right_now) ≡ length (leaf_entries shape right) + n → IsHalf n (length (leaf_entries shape right)) (length (leaf_entries shape left))
    → 2 * (leaf_room shape / 2) ≤ length (leaf_entries shape left) + length (leaf_entries shape right)
    → LeavesShared shape left right left_now right_now (take shape.width (slice_index_or (leaf_entries shape right_now) 0 []))
right_filled shape n left right left_now right_now in_order more half enough =
    let same = lengths (leaf_entries shape left_now) (leaf_entries shape right_now) (leaf_entries shape left) (leaf_entries shape right) in_order.has in
    let room = leaf_room_some shape in
    let (some, least, most) = half in
    record {
      lower = in_order.lower;
      upper = in_order.upper;
      has = in_order.has;
      between = refl;
      some = (omega arith, omega arith);
      even = (omega arith, omega arith);
      fill = λ a b. (omega arith, omega arith);
    }

-- an answer that two nodes share what they have
pub only_shared : (shape : NodeShape) (k at : ℕ) (node left right node_now left_now right_now key : List ℕ) → ChangesSeparator shape at key node node_now
    → AreShared shape k (slice_index_or (separators shape node) at []) left right left_now right_now key → Balances shape k at node left right node_now left_now right_now (Some false)
only_shared shape k at node left right node_now left_now right_now key parent pair =
    record { joined = λ e. cc e; shared = λ e. record { key = key; parent = parent; pair = pair }; neither = λ e. cc e }

-- the same of inner nodes: the left one had less
pub left_inner : (shape : NodeShape) (between left right left_now right_now key : List ℕ) → InnersInOrder shape between key left right left_now right_now
    → length (separators shape left_now) ≡ length (separators shape left) + 1
    → 2 * (inner_room shape / 2) ≤ length (separators shape left) + length (separators shape right) → length (separators shape left) < length (separators shape right)
    → InnersShared shape between left right left_now right_now key
left_inner shape between left right left_now right_now key in_order more enough fewer =
    let same = lengths (separators shape left_now) (key ∷ separators shape right_now) (separators shape left) (between ∷ separators shape right) in_order.has in
    record { lower = in_order.lower; upper = in_order.upper; has = in_order.has; below = in_order.below; fill = λ a b. (omega arith, omega arith) }

pub right_inner : (shape : NodeShape) (between left right left_now right_now key : List ℕ) → InnersInOrder shape between key left right left_now right_now
    → length (separators shape right_now) ≡ length (separators shape right) + 1
    → 2 * (inner_room shape / 2) ≤ length (separators shape left) + length (separators shape right) → length (separators shape right) < length (separators shape left)
    → InnersShared shape between left right left_now right_now key
right_inner shape between left right left_now right_now key in_order more enough fewer =
    let same = lengths (separators shape left_now) (key ∷ separators shape right_now) (separators shape left) (between ∷ separators shape right) in_order.has in
    record { lower = in_order.lower; upper = in_order.upper; has = in_order.has; below = in_order.below; fill = λ a b. (omega arith, omega arith) }

-- inner nodes are alike at every level
pub above_leaves : (shape : NodeShape) (k at : ℕ) (node left right node_now left_now right_now : List ℕ) (result : Option Bool) → k ≢ 0
    → Balances shape 1 at node left right node_now left_now right_now result → Balances shape k at node left right node_now left_now right_now result
above_leaves shape zero at node left right node_now left_now right_now result some balances = absurd (some refl)
above_leaves shape (suc k) at node left right node_now left_now right_now result some balances =
    record {
      joined = λ e. let j = balances.joined e in record { parent = j.parent; pair = j.pair };
      shared = λ e. let s = balances.shared e in record { key = s.key; parent = s.parent; pair = s.pair };
      neither = balances.neither;
    }
