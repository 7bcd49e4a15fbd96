-- What is told of the entry of a key, from the leaf in which it stands.
use Rattle.std.proofs.Common.{◌≡◌, ℕ, Bool, List, Option, Ok, Err, Result, sym, subst}
use Rattle.std.specs.Prelude.{IsErrAnd}
use Rattle.io_state.specs.declared.fault.Fault.{Fault}
use Rattle.tree_node.specs.declared.shape.NodeShape.{NodeShape}
use Rattle.pages.specs.PageMap.{PageMap}
use Rattle.tree_search.specs.Tree.{entries_of}
use Rattle.tree_search.specs.Stored.{IsLeafAt}
use Rattle.tree_search.specs.Calls.{entry_of}
use Rattle.tree_search.specs.Search.{LeadsToLeaf}
use Rattle.tree_search.specs.Tail.{TellsBelow, TellsInLeaf}
use Rattle.tree_search.proofs.AnswerLemmas.{fails}
use Rattle.tree_search.proofs.SearchLemmas.{if_ok}

module _ (Says : Option (List ℕ) → Bool → Type 0) (shape : NodeShape) (pages : PageMap) (h page : ℕ) (key : List ℕ) (out : Result Bool Fault) where
  pub lead_missed : (fault : Fault) → LeadsToLeaf shape pages h page key (Err fault) → IsErrAnd out (λ e. e ≡ fault) → TellsBelow Says shape pages h page key out
  lead_missed fault leads was t low high tree = fails out fault (Says (entry_of shape.width key (entries_of h t))) was (leads t low high tree).no_damage

  pub leaf_told : (mid : PageMap) (leaf : ℕ) → mid ≡ pages → LeadsToLeaf shape pages h page key (Ok leaf) → TellsInLeaf Says shape mid leaf key out → TellsBelow Says shape pages h page key out
  leaf_told mid leaf same leads tells t low high tree =
      let is = (leads t low high tree).answer in
      if_ok out (Says (entry_of shape.width key is.entries)) (Says (entry_of shape.width key (entries_of h t)))
      (λ told says. subst (λ (o : Option (List ℕ)). Says o told) (sym is.same) says)
      (tells is.entries (subst (λ (m : PageMap). IsLeafAt shape m leaf is.entries) (sym same) is.at) is.rises)
