-- What was copied of a loan.
use Rattle.std.proofs.Common.{◌≡◌, List, ℕ, [], Some, None, Option, refl, ap}
use Rattle.std.specs.Prelude.{option_map, unwrap_or}

-- bytes that were made of something: it is there
pub made_of : {X : Type 0} (f : X → List ℕ) (of : Option X) (bytes : List ℕ) → Some bytes ≡ option_map f of → (x : X) × (of ≡ Some x) × (bytes ≡ f x)
made_of f None bytes is = absurd (cc)
made_of f (Some x) bytes is = (x, refl, ap (λ (o : Option (List ℕ)). unwrap_or o []) is)

-- and where none were made, nothing is
pub made_of_none : {X : Type 0} (f : X → List ℕ) (of : Option X) → None ≡ option_map f of → of ≡ None
made_of_none f None is = refl
made_of_none f (Some x) is = absurd (cc)
