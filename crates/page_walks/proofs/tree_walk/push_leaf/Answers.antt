use Rattle.std.proofs.Common.{ℕ, List, [], ◌≢◌, slice_index_or, ap, sym, ◌∙◌, subst, length, arith}
use Rattle.tree_node.specs.Leaf.{IsLeaf, leaf_entries}
use Rattle.page_walks.specs.declared.leaf.Leaf.{Leaf}
use Rattle.page_walks.specs.Spots.{entries_at, spots_in}
use Rattle.pages.proofs.SourceLemmas.{there_is}
use Rattle.page_walks.proofs.SpotLemmas.{entries_more}
use Rattle.page_walks.proofs.WalkLemmas.{on_ok}
use Rattle.page_walks.proofs.TreeAheadLemmas.{leaf_added, none_added}
use Rattle.page_walks.proofs.tree_walk.push_leaf.Goals as goal

pub returns-clause-adds : goal.returns-clause-adds
returns-clause-adds c = λ list is.
    let shape = c.args.shape in
    let here = there_is list c.args.page c.args.bytes.now is in
    on_ok c.push.result
    (λ added. ap (λ (leaves : List Leaf). entries_at shape list (spots_in leaves)) added
    ∙ entries_more shape list c.args.leaves.now.items (record { page = c.args.page; count = c.count-count.result })
    (c.count-count.ensures.value ∙ ap (λ (b : List ℕ). length (leaf_entries shape b)) (sym here.1)))
    c.push.ensures.added

pub returns-then-count-eq0-clause-adds : goal.returns-then-count-eq0-clause-adds
returns-then-count-eq0-clause-adds c = λ list is.
    let here = there_is list c.args.page c.args.bytes.now is in
    none_added (entries_at c.args.shape list (spots_in c.args.leaves.now.items)) (leaf_entries c.args.shape (slice_index_or list c.args.page []))
    (ap (λ (b : List ℕ). length (leaf_entries c.args.shape b)) here.1 ∙ sym c.count-count.ensures.value ∙ c.if-count-eq0.true)

pub returns-clause-there : goal.returns-clause-there
returns-clause-there c = λ list is.
    let here = there_is list c.args.page c.args.bytes.now is in
    on_ok c.push.result
    (λ added. leaf_added c.args.shape list c.args.leaves.now.items c.push.new.leaves.items (record { page = c.args.page; count = c.count-count.result }) added
    (record {
      page = here.0;
      is = subst (IsLeaf c.args.shape) (sym here.1) c.requires.leaf;
      some = (let some : c.count-count.result ≢ 0 = c.if-count-eq0.false in omega arith);
      many = c.count-count.ensures.value ∙ ap (λ (b : List ℕ). length (leaf_entries c.args.shape b)) (sym here.1);
    }))
    c.push.ensures.added
