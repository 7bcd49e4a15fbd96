-- What follows from tests that are true, and from options that are there.
use Rattle.std.proofs.Common.{◌≡◌, Bool, true, false, not, ◌&&◌, ◌||◌, ◌⊎◌, inl, inr, cond, Option, Some, None, refl, sym, ap, ◌∙◌}
use Rattle.std.specs.Option.{option_map}
use Rattle.std.specs.Prelude.{option_and_then}
use Rattle.std.proofs.lemmas.Bool.{false≢true}

pub both_true : (a b : Bool) → (a && b) ≡ true → (a ≡ true) × (b ≡ true)
both_true true b e = (refl, e)
both_true false b e = absurd (false≢true e)

pub both_are : (a b : Bool) → a ≡ true → b ≡ true → (a && b) ≡ true
both_are a b p q = rw (p, q)

pub neither_true : (a b : Bool) → (a || b) ≡ false → (a ≡ false) × (b ≡ false)
neither_true true b e = absurd (false≢true (sym e))
neither_true false b e = (refl, e)

pub either_true : (a b : Bool) → (a || b) ≡ true → (a ≡ true) ⊎ (b ≡ true)
either_true true b e = inl refl
either_true false b e = inr e

pub or_true : (a : Bool) → (a || true) ≡ true
or_true true = refl
or_true false = refl

pub not_is : (a : Bool) → not a ≡ true → a ≡ false
not_is true e = absurd (false≢true e)
not_is false e = refl

-- the last of three choices
pub third : {A : Type 0} (v w : Bool) (x y z : A) → v ≡ false → w ≡ false → cond v x (cond w y z) ≡ z
third v w x y z p q = rw (p, q)

pub then_some : {A : Type 0} (b : Bool) (o : Option A) (y : A) → cond b o None ≡ Some y → (b ≡ true) × (o ≡ Some y)
then_some true o y e = (refl, e)
then_some false o y e = absurd (cc)

pub map_some : {A B : Type 0} (f : A → B) (o : Option A) (y : B) → option_map f o ≡ Some y → (x : A) × (o ≡ Some x) × (f x ≡ y)
map_some f None y e = absurd (cc)
map_some f (Some x) y e = (x, refl, cc)

pub bind_some : {A B : Type 0} (f : A → Option B) (o : Option A) (y : B) → option_and_then f o ≡ Some y → (x : A) × (o ≡ Some x) × (f x ≡ Some y)
bind_some f None y e = absurd (cc)
bind_some f (Some x) y e = (x, refl, e)

pub bind_is : {A B : Type 0} (f : A → Option B) (o : Option A) (x : A) (r : Option B) → o ≡ Some x → f x ≡ r → option_and_then f o ≡ r
bind_is f o x r e q = ap (option_and_then f) e ∙ q

pub bind_same : {A B : Type 0} (f g : A → Option B) (o : Option A) → ((x : A) → f x ≡ g x) → option_and_then f o ≡ option_and_then g o
bind_same f g None h = refl
bind_same f g (Some x) h = h x

pub none_mapped : {A B : Type 0} (f : A → B) (o : Option A) → option_map f o ≡ None → o ≡ None
none_mapped f None e = refl
none_mapped f (Some x) e = absurd (cc)
