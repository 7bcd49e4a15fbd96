-- What three writes come to.
use Rattle.std.proofs.Common.{ℕ, List, ◌++◌, Option, OnOk}
use Rattle.std.specs.Prelude.{Result, Ok, Err}
use Rattle.std.specs.Io.KnownBytes.{Appends}
use Rattle.std.proofs.KnownBytes.{Appends-trans}

pub three_written : {E : Type 0} (a b c d : Option (List ℕ)) (xs ys zs : List ℕ) (r : Result (Unit {0}) E)
    → Appends a b xs → Appends b c ys → OnOk r (Appends c d zs) → OnOk r (Appends a d (xs ++ (ys ++ zs)))
three_written a b c d xs ys zs (Ok _) first second third = Appends-trans a b d xs (ys ++ zs) first (Appends-trans b c d ys zs second third)
three_written a b c d xs ys zs (Err e) first second third = tt
