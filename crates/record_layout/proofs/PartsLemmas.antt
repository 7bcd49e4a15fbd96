-- Parts by rising offset, the first one and those behind it.
use Rattle.std.proofs.Common.{◌≡◌, suc, ◌<◌, List, ◌∷◌, length, All, AllPairs, IsTrue, ◌↔◌, Bool, false, sym, subst, arith}
use Rattle.std.proofs.lemmas.List.Kept.{AllPairs-cons}
use Rattle.record_layout.specs.declared.schema.KeyPart.{KeyPart}

abbrev pub Rise : List KeyPart → Type 0
Rise parts = AllPairs (λ a b. a.offset < b.offset) parts

pub first_below : (first : KeyPart) (later : List KeyPart) → Rise (first ∷ later) → All (λ part. first.offset < part.offset) later
first_below first later rise k d h = rise 0 (suc k) d (omega arith) (let inside : suc k < length (first ∷ later) = omega arith in inside)

pub later_rise : (first : KeyPart) (later : List KeyPart) → Rise (first ∷ later) → Rise later
later_rise first later rise i j d below h =
    let up : suc i < suc j = omega arith in
    let inside : suc j < length (first ∷ later) = omega arith in
    rise (suc i) (suc j) d up inside

-- where the first one is below those behind it, all rise as those do
pub rise_behind : (first : KeyPart) (later parts : List KeyPart) (s : Bool) → parts ≡ first ∷ later → All (λ part. first.offset < part.offset) later
    → (IsTrue s ↔ Rise later) → (IsTrue s ↔ Rise parts)
rise_behind first later parts s is below same = (
  λ holds. subst Rise (sym is) (AllPairs-cons (λ a b. a.offset < b.offset) first later below (same.0 holds)),
  λ rise. same.1 (later_rise first later (subst Rise is rise)),
)

-- where it is not, they do not rise
pub none_rise : (first : KeyPart) (later parts : List KeyPart) (r : Bool) → parts ≡ first ∷ later → r ≡ false
    → (IsTrue r ↔ All (λ part. first.offset < part.offset) later) → (IsTrue r ↔ Rise parts)
none_rise first later parts r is fails same = (
  λ holds. absurd (cc),
  λ rise. same.1 (first_below first later (subst Rise is rise)),
)
