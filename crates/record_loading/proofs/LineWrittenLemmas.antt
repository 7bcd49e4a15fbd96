-- What two writes come to.
use Rattle.std.proofs.Common.{ℕ, List, ◌++◌, Option, OnOk}
use Rattle.std.specs.Prelude.{Result, Ok, Err}
use Rattle.std.specs.Io.KnownBytes.{Appends}
use Rattle.std.proofs.KnownBytes.{Appends-trans}

pub both_written : {E : Type 0} (a b c : Option (List ℕ)) (xs ys : List ℕ) (r : Result (Unit {0}) E)
    → Appends a b xs → OnOk r (Appends b c ys) → OnOk r (Appends a c (xs ++ ys))
both_written a b c xs ys (Ok _) first second = Appends-trans a b c xs ys first second
both_written a b c xs ys (Err e) first second = tt
