-- An open gate has one proof at most.
use Rattle.std.proofs.Common.{ℕ, List, Option, None, Some}
use Rattle.std.proofs.Props.{props}
use Rattle.page_store.specs.Gate.{IsOpen}

pub open_prop : (c : Option (List ℕ)) → IsProp (IsOpen c)
open_prop None = hlevel props
open_prop (Some bytes) = hlevel props
