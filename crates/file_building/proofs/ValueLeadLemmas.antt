-- What values begin with, as numbers, rises as they do.
use Rattle.std.proofs.Common.{◌≡◌, ◌≢◌, ℕ, zero, suc, ◌+◌, ◌*◌, ◌^◌, ◌<◌, ◌≤◌, List, [], ◌∷◌, refl, sym, ap, ◌∙◌, arith}
use Rattle.std.specs.Prelude.{slice_index}
use Rattle.std.specs.declared.cmp.Ordering.{Ordering}
use Rattle.std.specs.declared.cmp.Ordering.TheVariants.{Equal, Greater}
use Rattle.std.specs.Ordering.{ordering_then}
use Rattle.std.specs.Cmp.{nat_cmp_is}
use Rattle.std.proofs.Math.Nat.{add-mul, mul-le-mul_right}
use Rattle.byteorder.specs.Endian.{big_from}
use Rattle.byteorder.specs.Numbers.{big_from-cons, big_from-lt}
use Rattle.io_state.specs.Rank.{value_cmp}
use Rattle.key_index.proofs.OrderLemmas.{by_order}
use Rattle.file_building.specs.ValueLead.{lead_of_value}

-- each item is a byte
abbrev pub AreBytes : List ℕ → Type 0
AreBytes bytes = (i : ℕ) → slice_index bytes i < 256

-- no bytes are no number
none : (i n : ℕ) → big_from i n [] ≡ 0
none i zero = refl
none i (suc n) = let rest = none (suc i) n in omega (arith, rest)

-- of two values that are in order, neither has the greater number
lead_from : (n : ℕ) (v w : List ℕ) → AreBytes v → AreBytes w → value_cmp v w ≢ Greater → big_from 0 n v ≤ big_from 0 n w
lead_from zero v w small small' order = omega arith
lead_from (suc n) [] w small small' order = let no = none 0 (suc n) in omega (arith, no)
lead_from (suc n) (x ∷ xs) [] small small' order = absurd (order refl)
lead_from (suc n) (x ∷ xs) (y ∷ ys) small small' order =
    let left = big_from-cons 0 n x xs in
    let right = big_from-cons 0 n y ys in
    by_order x y (big_from 0 (suc n) (x ∷ xs) ≤ big_from 0 (suc n) (y ∷ ys))
    (λ less. let low = big_from-lt 0 n xs (λ i. small (suc i)) in
    let top : (x + 1) * 256 ^ n ≤ y * 256 ^ n = mul-le-mul_right (256 ^ n) (omega (arith, less)) in
    let grow : (x + 1) * 256 ^ n ≡ x * 256 ^ n + 1 * 256 ^ n = add-mul x 1 (256 ^ n) in
    omega (arith, left, right, low, top, grow))
    (λ same. let rest = lead_from n xs ys (λ i. small (suc i)) (λ i. small' (suc i))
    (λ above. order (ap (λ (o : Ordering). ordering_then o (value_cmp xs ys)) (sym (nat_cmp_is x y Equal same)) ∙ above)) in
    let level : x * 256 ^ n ≡ y * 256 ^ n = ap (λ (z : ℕ). z * 256 ^ n) same in
    omega (arith, left, right, rest, level))
    (λ above. absurd (order (ap (λ (o : Ordering). ordering_then o (value_cmp xs ys)) (sym (nat_cmp_is x y Greater above)))))

pub lead_rises : (v w : List ℕ) → AreBytes v → AreBytes w → value_cmp v w ≢ Greater → lead_of_value v ≤ lead_of_value w
lead_rises v w small small' order = lead_from 8 v w small small' order
