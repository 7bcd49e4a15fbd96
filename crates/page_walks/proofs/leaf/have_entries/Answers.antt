use Rattle.std.proofs.Common.{◌≡◌, ◌+◌, ◌≤◌, ℕ, zero, suc, List, [], ◌∷◌, ◌++◌, length, take, slice_index_or, ap, ◌∙◌, arith}
use Rattle.std.proofs.Math.Seq.{take-suc}
use Rattle.page_walks.specs.declared.leaf.Leaf.{Leaf}
use Rattle.std.proofs.lemmas.Bool.{false≢true}
use Rattle.std.proofs.lemmas.List.{length-append}
use Rattle.page_walks.specs.Spots.{spots_below, spots_in}
use Rattle.page_walks.proofs.SpotLemmas.{spots_many_more}
use Rattle.page_walks.proofs.leaf.have_entries.Goals as goal

-- the first leaves have no more entries than all of them
few_more : (leaves : List Leaf) (n : ℕ) → length (spots_in (take n leaves)) ≤ length (spots_in leaves)
few_more leaves zero = omega arith
few_more [] (suc n) = omega arith
few_more (leaf ∷ leaves) (suc n) =
    let rest = few_more leaves n in
    let here = length-append (spots_below leaf.page leaf.count) (spots_in (take n leaves)) in
    let all = length-append (spots_below leaf.page leaf.count) (spots_in leaves) in
    omega (arith, rest, here, all)

pub returns-then-left-entries : goal.returns-then-left-entries
returns-then-left-entries c =
    let leaves = c.args.leaves.now in
    let k = c.loop-leaf.leaf-index in
    let leaf = slice_index_or leaves k (record { page = 0; count = 0 }) in
    let up : k + 1 ≡ suc k = omega arith in
    let more : take (k + 1) leaves ≡ take k leaves ++ leaf ∷ [] = ap (λ (n : ℕ). take n leaves) up ∙ take-suc leaves k (record { page = 0; count = 0 }) c.loop-leaf-test.true in
    let many : length (spots_in (take (k + 1) leaves)) ≡ length (spots_in (take k leaves)) + leaf.count = ap (λ (l : List Leaf). length (spots_in l)) more ∙ spots_many_more (take k leaves) leaf in
    let few = few_more leaves (k + 1) in
    (λ yes. absurd (false≢true yes), λ same. absurd (omega (arith, many, few, same, c.loop-leaf.invariant, c.if-left-entries.true)))

pub loop-leaf-preserved : goal.loop-leaf-preserved
loop-leaf-preserved c =
    let leaves = c.args.leaves.now in
    let k = c.loop-leaf.leaf-index in
    let leaf = slice_index_or leaves k (record { page = 0; count = 0 }) in
    let up : k + 1 ≡ suc k = omega arith in
    let more : take (k + 1) leaves ≡ take k leaves ++ leaf ∷ [] = ap (λ (n : ℕ). take n leaves) up ∙ take-suc leaves k (record { page = 0; count = 0 }) c.loop-leaf-test.true in
    let many : length (spots_in (take (k + 1) leaves)) ≡ length (spots_in (take k leaves)) + leaf.count = ap (λ (l : List Leaf). length (spots_in l)) more ∙ spots_many_more (take k leaves) leaf in
    omega (arith, many, c.loop-leaf.invariant, c.if-left-entries.false)
