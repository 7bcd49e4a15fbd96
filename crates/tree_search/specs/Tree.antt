-- A B+ tree as a value: its pages by their numbers, the entries of its leaves and the separators
-- between children.
use Rattle.std.specs.Prelude.{◌≡◌, ℕ, zero, suc, List, [], ◌∷◌, take, flat_map, Option, Some, None, true}
use Rattle.std.specs.Prelude.{false, ⊤}
use Rattle.pages.specs.Each.{Each}
use Rattle.tree_node.specs.Order.{less, Ascends}

-- A tree with `h` levels above its leaves: its page, and in a leaf the entries, else the separators
-- and the children.
abbrev pub TreeOf : ℕ → Type 0
TreeOf zero = ℕ × List (List ℕ)
TreeOf (suc h) = ℕ × List (List ℕ) × List (TreeOf h)

abbrev pub page_of : (h : ℕ) → TreeOf h → ℕ
page_of zero t = t.0
page_of (suc h) t = t.0

-- the entries, from the first leaf to the last
abbrev pub entries_of : (h : ℕ) → TreeOf h → List (List ℕ)
entries_of zero t = t.1
entries_of (suc h) t = flat_map (entries_of h) t.2

-- its pages, the root's first
abbrev pub pages_of : (h : ℕ) → TreeOf h → List ℕ
pages_of zero t = t.0 ∷ []
pages_of (suc h) t = t.0 ∷ flat_map (pages_of h) t.2

-- the pages below the root
abbrev pub pages_below : (h : ℕ) → TreeOf h → List ℕ
pages_below zero t = []
pages_below (suc h) t = flat_map (pages_of h) t.2

-- a bound of keys, where there is one
abbrev pub Bound : Type 0
Bound = Option (List ℕ)

abbrev pub NotBelow : Bound → List ℕ → Type 0
NotBelow None key = ⊤
NotBelow (Some low) key = less key low ≡ false

abbrev pub Above : Bound → List ℕ → Type 0
Above None key = ⊤
Above (Some low) key = less low key ≡ true

abbrev pub Below : Bound → List ℕ → Type 0
Below None key = ⊤
Below (Some high) key = less key high ≡ true

-- Members of a row, one more than the separators: each lies between the separators beside it.
abbrev pub IsRow : {X : Type 0} → (Bound → Bound → X → Type 0) → Bound → List (List ℕ) → List X → Bound
    → Type 0
IsRow Between low separators [] high = ⊥
IsRow Between low [] (x ∷ []) high = Between low high x
IsRow Between low [] (x ∷ y ∷ xs) high = ⊥
IsRow Between low (s ∷ ss) (x ∷ xs) high = Above low s × Below high s × Between low (Some s) x
    × IsRow Between (Some s) ss xs high

-- the keys rise and lie from `low` on, below `high`
abbrev pub IsOrdered : ℕ → (h : ℕ) → Bound → Bound → TreeOf h → Type 0
IsOrdered width zero low high t = Ascends width t.1
    × Each (λ e. NotBelow low (take width e) × Below high (take width e)) t.1
IsOrdered width (suc h) low high t = Ascends width t.1 × IsRow (IsOrdered width h) low t.1 t.2 high
