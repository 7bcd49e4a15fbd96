-- A tree of two levels or more has many entries, one for each row.
use Rattle.std.proofs.Common.{◌≡◌, ℕ, zero, suc, ◌+◌, ◌-◌, ◌*◌, ◌^◌, ◌≤◌, ◌<◌, List, length, None, sym, subst, ◌∙◌, arith}
use Rattle.std.specs.Prelude.{map, slice_index}
use Rattle.std.proofs.lemmas.List.{length-map}
use Rattle.std.proofs.Math.Nat.{pow-succ'}
use Rattle.indexed_file.specs.File.{File}
use Rattle.pages.specs.PageMap.{PageMap}
use Rattle.tree_node.specs.declared.shape.NodeShape.{NodeShape}
use Rattle.bplus_tree.specs.declared.tree.Tree.{Tree}
use Rattle.tree_search.specs.Tree.{TreeOf, entries_of}
use Rattle.tree_search.specs.Calls.{IsWhole}
use Rattle.bplus_tree.specs.Count.{fewest}
use Rattle.bplus_tree.specs.Standing.{TreeStands}
use Rattle.bplus_tree.proofs.CountLemmas.{have_many_entries}
use Rattle.bplus_tree.specs.Fields.{tree_shape, tree_root, tree_levels}
use Rattle.key_index.specs.Standing.{alt_height}
use Rattle.key_index.specs.Stored.{prime_bytes, alt_bytes}
use Rattle.open_file.specs.InOrder.{alt_entries, prime_entries}
use Rattle.open_file.specs.Parts.{prime_pages, alternate_pages}
use Rattle.open_file.specs.Stands.{Stands, heights_of}
use Rattle.open_file.specs.Laws.{is_filled, counts_its_rows}
use Rattle.open_file.specs.declared.open_file.OpenFile.{OpenFile}
use Rattle.open_file.proofs.HeaderLemmas.{alt_entries_many, prime_entries_many}
use Rattle.open_file.proofs.PartsLemmas.{found_at}
use Rattle.open_file.proofs.HeightLemmas.{heights_many, mapped_at}

-- ---- trees

fewest_many : (h : ℕ) → 4 ^ (suc h) ≤ fewest h
fewest_many zero = omega arith
fewest_many (suc h) =
    let rest = fewest_many h in
    let power : 4 ^ (suc (suc h)) ≡ 4 * 4 ^ (suc h) = pow-succ' 4 (suc h) in
    omega (arith, rest, power)

whole_filled : (shape : NodeShape) (pages : PageMap) (levels page : ℕ) (t : TreeOf levels) → IsWhole shape pages levels page None None t → 2 ≤ levels + 1 → 2 * 4 ^ (levels + 1 - 1) ≤ length (entries_of levels t)
whole_filled shape pages zero page t whole high = absurd (omega (arith, high))
whole_filled shape pages (suc h) page t whole high =
    let e : suc h + 1 - 1 ≡ suc h = omega arith in
    rw e (omega (arith, fewest_many h, have_many_entries shape pages h page t whole))

-- a tree has many entries for its height
tree_filled : (tree : Tree) (pages : PageMap) (rows : List (List ℕ)) (own : List ℕ) → TreeStands tree pages rows own → 2 ≤ tree_levels tree + 1 → 2 * 4 ^ (tree_levels tree + 1 - 1) ≤ length rows
tree_filled tree pages rows own stands high =
    subst (λ (entries : List (List ℕ)). 2 * 4 ^ (tree_levels tree + 1 - 1) ≤ length entries) stands.has (whole_filled (tree_shape tree) pages (tree_levels tree) (tree_root tree) stands.value stands.whole high)

-- ---- the laws

-- the heights of the trees, by key
abbrev AtKey : List ℕ → ℕ → ℕ → Type 0
AtKey heights rows k = (1 ≤ slice_index heights k) × (2 ≤ slice_index heights k → 2 * 4 ^ (slice_index heights k - 1) ≤ rows)

pub counted : counts_its_rows
counted opened pages file stands =
    let entries = prime_entries opened.schema stands.places file.rows in
    stands.parts.prime_stands.tree.count ∙ length-map entries prime_bytes
    ∙ prime_entries_many opened.schema stands.slots stands.places file.rows stands.placed.rows_at

filled_at : (opened : OpenFile) (pages : PageMap) (file : File) → Stands opened pages file → (k : ℕ) → k < length opened.alternates.items + 1 → AtKey (heights_of opened) (length file.rows) k
filled_at opened pages file stands zero lt =
    let entries = prime_entries opened.schema stands.places file.rows in
    let rows = prime_entries_many opened.schema stands.slots stands.places file.rows stands.placed.rows_at in
    let many = length-map entries prime_bytes ∙ rows in (
      omega arith,
      λ high. subst (λ n. 2 * 4 ^ (tree_levels opened.prime.tree + 1 - 1) ≤ n) many
          (tree_filled opened.prime.tree pages (map prime_bytes entries) (prime_pages stands.parts.owns) stands.parts.prime_stands.tree high),
    )
filled_at opened pages file stands (suc j) lt =
    let indexes = opened.alternates.items in
    let within : j < length indexes = omega (arith, lt) in
    let index = found_at indexes j within in
    let entries = alt_entries opened.schema (j + 1) file.rows in
    let stand = stands.parts.alternates_stand j index.0 within index.1 in
    let many = length-map entries alt_bytes ∙ alt_entries_many opened.schema (j + 1) file.rows in
    let height : slice_index (heights_of opened) (suc j) ≡ alt_height index.0 = mapped_at indexes j index.0 within index.1 in
    rw height (
      omega arith,
      λ high. subst (λ n. 2 * 4 ^ (tree_levels index.0.tree + 1 - 1) ≤ n) many
          (tree_filled index.0.tree pages (map alt_bytes entries) (alternate_pages stands.parts.owns j) stand.tree high),
    )

pub filled : is_filled
filled opened pages file available shaped stands =
    let many = heights_many opened.prime opened.alternates.items in
    (many ∙ sym shaped.keys, λ k lt. filled_at opened pages file stands k (omega (arith, lt, many)))
