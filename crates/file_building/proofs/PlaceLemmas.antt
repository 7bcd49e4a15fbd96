-- The name that a text is.
use Rattle.std.proofs.Common.{◌≡◌, ℕ, Bool, true, false, List, Some, None, if◌then◌else◌, refl}

pub named_by : (is : Bool) (bytes given : List ℕ) → Some given ≡ (if is then Some bytes else None) → (given ≡ bytes) × (is ≡ true)
named_by true bytes given same = (cc, refl)
named_by false bytes given same = absurd (cc)
