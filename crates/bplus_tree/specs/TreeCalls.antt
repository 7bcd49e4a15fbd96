-- What calls that change the entries of a tree leave of it and of the pages.
use Rattle.std.specs.Prelude.{◌≡◌, ℕ, ◌+◌, List, Option, None, IsSome, Result, Ok, IfOk}
use Rattle.arrayvec.specs.ArrayVec.{ArrayVec}
use Rattle.io_state.specs.declared.fault.Fault.{Fault}
use Rattle.pages.specs.ShownPages.{ShownPages}
use Rattle.bplus_tree.specs.declared.tree.Tree.{Tree}
use Rattle.bplus_tree.specs.Changes.{WhereSound, KeepsShape}
use Rattle.bplus_tree.specs.Standing.{Inserts, Removes, one_more}

-- a call that puts an entry in where its key is not there
pub record InsertsInPages {S : Type 0} (shown : ShownPages S) (entry : List ℕ) (was is : Tree) (old new : S)
    (result : Result (Option (ArrayVec ℕ)) Fault) : Type 0 where
  pub inserted : WhereSound shown old new (Inserts was is entry result)
  pub shape : KeepsShape (was.levels + 1) was is
  pub changes : result ≡ Ok None → is.changes ≡ one_more was.changes

-- a call that takes the entry of a key out, where there is one
pub record RemovesInPages {S : Type 0} (shown : ShownPages S) (key : List ℕ) (was is : Tree) (old new : S)
    (result : Result (Option (ArrayVec ℕ)) Fault) : Type 0 where
  pub removed : WhereSound shown old new (Removes was is key result)
  pub shape : KeepsShape was.levels was is
  pub changes : IfOk result (λ found. IsSome found → is.changes ≡ one_more was.changes)
