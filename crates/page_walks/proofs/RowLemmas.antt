-- Counts over rows of nodes.
use Rattle.std.proofs.Common.{◌≡◌, ℕ, zero, suc, ◌+◌, ◌<◌, List, [], ◌∷◌, ◌++◌, length, take, drop, refl, sym, ap, ◌∙◌, arith, slice_index_or, Result, Ok, Err, IsErrAnd}
use Rattle.std.proofs.lemmas.List.{length-append, append-nil, append_assoc}
use Rattle.tree_node.specs.declared.shape.NodeShape.{NodeShape}
use Rattle.tree_node.specs.Leaf.{leaf_entries}
use Rattle.tree_node.specs.Inner.{separators, children}
use Rattle.tree_node.proofs.InnerLemmas.{length_separators, length_children}
use Rattle.pages.specs.Each.{Each}
use Rattle.std.specs.Global.{Vec}
use Rattle.std.proofs.lemmas.Result.{err_from_is_err_and}
use Rattle.pages.specs.declared.walk_fault.WalkFault.{WalkFault}
use Rattle.pages.specs.Refused.{RefusesRightly}
use Rattle.pages.proofs.RefusedLemmas.{refuses_more}
use Rattle.page_walks.specs.declared.level.Level.{Level}
use Rattle.page_walks.specs.Rows.{IsInnerIn, page_at, children_in, separators_in, entries_in_row, AreNodes, AddsRows, inner_level, levels_in}

-- the nodes of a row have a child more than separators, each
pub children_many : (shape : NodeShape) (list : List (List ℕ)) (row : List ℕ) → length (children_in shape list row) ≡ length (separators_in shape list row) + length row
children_many shape list [] = refl
children_many shape list (n ∷ row) =
    let one = length_children shape (page_at list n) in
    let none = length_separators shape (page_at list n) in
    let rest = children_many shape list row in
    let left = length-append (children shape (page_at list n)) (children_in shape list row) in
    let right = length-append (separators shape (page_at list n)) (separators_in shape list row) in
    omega (arith, one, none, rest, left, right)

-- the entries from leaf k on are those of the leaf, and those behind it
pub entries_behind : (shape : NodeShape) (list : List (List ℕ)) (row : List ℕ) (k m : ℕ) → m ≡ suc k → k < length row
    → length (entries_in_row shape list (drop k row)) ≡ length (leaf_entries shape (page_at list (slice_index_or row k 0))) + length (entries_in_row shape list (drop m row))
entries_behind shape list [] k m e inside = absurd (omega arith)
entries_behind shape list (n ∷ row) zero m e inside = rw e (length-append (leaf_entries shape (page_at list n)) (entries_in_row shape list row))
entries_behind shape list (n ∷ row) (suc k) m e inside = rw e (entries_behind shape list row k (suc k) refl (omega arith))

-- a row up to node k, and that node, lead to the children of both
pub children_before : (shape : NodeShape) (list : List (List ℕ)) (row : List ℕ) (k m : ℕ) → m ≡ suc k → k < length row
    → children_in shape list (take k row) ++ children shape (page_at list (slice_index_or row k 0)) ≡ children_in shape list (take m row)
children_before shape list [] k m e inside = absurd (omega arith)
children_before shape list (n ∷ row) zero m e inside = rw e (sym (append-nil (children shape (page_at list n))))
children_before shape list (n ∷ row) (suc k) m e inside =
    rw e (append_assoc (children shape (page_at list n)) (children_in shape list (take k row)) (children shape (page_at list (slice_index_or row k 0)))
    ∙ ap (λ (rest : List ℕ). children shape (page_at list n) ++ rest) (children_before shape list row k (suc k) refl (omega arith)))

-- a node of a row of inner nodes
pub inner_of_row : (shape : NodeShape) (list : List (List ℕ)) (row : List ℕ) (k : ℕ) → Each (IsInnerIn shape list) row → k < length row → IsInnerIn shape list (slice_index_or row k 0)
inner_of_row shape list [] k all inside = absurd (omega arith)
inner_of_row shape list (n ∷ row) zero all inside = all.0
inner_of_row shape list (n ∷ row) (suc k) all inside = inner_of_row shape list row k all.1 (omega arith)

-- a row with more levels below it is one of inner nodes
pub inner_row : (shape : NodeShape) (list : List (List ℕ)) (h : ℕ) (row : List ℕ) → (h ≡ 0 → ⊥) → AreNodes shape list h row → Each (IsInnerIn shape list) row
inner_row shape list zero row some nodes = absurd (some refl)
inner_row shape list (suc h) row some nodes = nodes.0

-- what a row of inner nodes adds, before those that it leads to
pub adds_below : (shape : NodeShape) (list : List (List ℕ)) (k : ℕ) (row : List ℕ) (old mid new : List Level) (result : Result (Vec ℕ) WalkFault) → mid ≡ old ++ inner_level shape list row ∷ []
    → AddsRows shape list k (children_in shape list row) mid new result → AddsRows shape list (suc k) row old new result
adds_below shape list k row old mid new (Ok leaves) is adds = record {
  levels = λ few. adds.levels few ∙ ap (λ (front : List Level). front ++ levels_in shape list k (children_in shape list row)) is
      ∙ append_assoc old (inner_level shape list row ∷ []) (levels_in shape list k (children_in shape list row));
  leaves = adds.leaves;
  refused = tt;
}
adds_below shape list k row old mid new (Err fault) is adds = record {
  levels = λ few. tt;
  leaves = tt;
  refused = refuses_more (AreNodes shape list k (children_in shape list row)) (AreNodes shape list (suc k) row) fault (λ nodes. nodes.1) adds.refused;
}

-- a fault comes before anything is added
pub adds_none : (shape : NodeShape) (list : List (List ℕ)) (h : ℕ) (row : List ℕ) (old new : List Level) (S : Type 0) (result : Result (Vec ℕ) WalkFault) (fault : WalkFault)
    → IsErrAnd result (λ e. e ≡ fault) → (AreNodes shape list h row → S) → RefusesRightly S fault → AddsRows shape list h row old new result
adds_none shape list h row old new S result fault was f never =
    let p = err_from_is_err_and result was in
    rw (p.1, p.2) (record { levels = λ few. tt; leaves = tt; refused = refuses_more S (AreNodes shape list h row) fault f never })
