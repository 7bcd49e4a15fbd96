-- A record behind another one has the greater number.
use Rattle.std.proofs.Common.{◌≡◌, ◌<◌, ◌≤◌, ℕ, zero, suc, ◌+◌, ◌-◌, ◌*◌, ◌^◌, true, List, [], ◌∷◌, length, slice_index_or, refl, sym, ap, ap₂, ◌∙◌, subst, arith}
use Rattle.std.specs.Ordering.{is_gt, nat_cmp, ordering_then}
use Rattle.std.specs.declared.cmp.Ordering.{Ordering}
use Rattle.std.specs.declared.cmp.Ordering.TheVariants.{Less, Equal, Greater}
use Rattle.std.proofs.Math.Nat.{mul-le-mul_right, pow-succ'}
use Rattle.std.proofs.lemmas.Map.Lookups.{exact_bytes, exact_unsigned}
use Rattle.std.proofs.lemmas.Bool.Decides.{nat_tests}
use Rattle.std.proofs.lemmas.Grind.{common_steps}
use Rattle.io_state.specs.Rank.{value_cmp, rank_cmp}
use Rattle.record_listing.specs.Rising.{value_number, rank_number, rank_limit}

-- each of them is a byte
abbrev pub AreBytes : List ℕ → Type 0
AreBytes bytes = (i : ℕ) → slice_index_or bytes i 0 < 256

-- a greater number of wholes, with a part of one
more_wholes : (a b part other whole : ℕ) → a < b → part < whole → a * whole + part < b * whole + other
more_wholes a b part other whole more less =
    let up : (a + 1) * whole ≤ b * whole = mul-le-mul_right whole (omega (arith, more)) in
    let one : (a + 1) * whole ≡ a * whole + whole = omega arith in
    omega (arith, up, one, less)

next_power : (n : ℕ) → 257 ^ suc n ≡ 257 * 257 ^ n
next_power n = pow-succ' 257 n

some_power : (n : ℕ) → 0 < 257 ^ n
some_power zero = omega arith
some_power (suc n) = let below = some_power n in let up = next_power n in omega (arith, below, up)

-- the number of n bytes has n digits
small : (n : ℕ) (bytes : List ℕ) → AreBytes bytes → value_number n bytes < 257 ^ n
unfolding value_number
small zero bytes are = omega arith
small (suc n) [] are = some_power (suc n)
small (suc n) (byte ∷ bytes) are =
    let rest = small n bytes (λ i. are (suc i)) in
    let first : byte < 256 = are 0 in
    let up = more_wholes (byte + 1) 257 (value_number n bytes) 0 (257 ^ n) (omega (arith, first)) rest in
    let next = next_power n in
    omega (arith, up, next)

by_order : (o : Ordering) (P : Type 0) → (o ≡ Less → P) → (o ≡ Equal → P) → (o ≡ Greater → P) → P
by_order Less P l e g = l refl
by_order Equal P l e g = e refl
by_order Greater P l e g = g refl

greater_is : (x y : ℕ) → nat_cmp x y ≡ Greater → y < x
greater_is x y is = grind (arith, common_steps, nat_tests)

then_rest : (x y : ℕ) (o : Ordering) → nat_cmp x y ≡ Equal → ordering_then (nat_cmp x y) o ≡ o
then_rest x y o same = ap (λ p. ordering_then p o) same

then_first : (x y : ℕ) (o : Ordering) → nat_cmp x y ≡ Less → ordering_then (nat_cmp x y) o ≡ Less
then_first x y o less = ap (λ p. ordering_then p o) less

-- of two values the later one has the greater number
value_up : (n : ℕ) (v w : List ℕ) → length v ≤ n → AreBytes v → AreBytes w → value_cmp v w ≡ Greater → value_number n w < value_number n v
unfolding value_number
value_up n [] [] fits are also up = absurd (cc)
value_up n [] (y ∷ w) fits are also up = absurd (cc)
value_up zero (x ∷ v) w fits are also up = let no : ⊥ = omega (arith, fits) in absurd no
value_up (suc n) (x ∷ v) [] fits are also up =
    let more = more_wholes 0 (x + 1) 0 (value_number n v) (257 ^ n) (omega arith) (some_power n) in
    omega (arith, more)
value_up (suc n) (x ∷ v) (y ∷ w) fits are also up =
    by_order (nat_cmp x y) (value_number (suc n) (y ∷ w) < value_number (suc n) (x ∷ v))
    (λ less. let never : Less ≡ Greater = sym (then_first x y (value_cmp v w) less) ∙ up in absurd (cc))
    (λ same.
    let rest = value_up n v w (omega (arith, fits)) (λ i. are (suc i)) (λ i. also (suc i)) (sym (then_rest x y (value_cmp v w) same) ∙ up) in
    let equal : x ≡ y = exact_unsigned x y same in
    subst (λ (z : ℕ). (z + 1) * 257 ^ n + value_number n w < (x + 1) * 257 ^ n + value_number n v) equal (omega (arith, rest)))
    (λ more. more_wholes (y + 1) (x + 1) (value_number n w) (value_number n v) (257 ^ n) (let low = greater_is x y more in omega (arith, low)) (small n w (λ i. also (suc i))))

-- of two numbers below a limit, the greater one leaves less
leaves_less : (a b limit : ℕ) → a < b → b < limit → limit - b < limit - a
leaves_less a b limit more below = omega (arith, more, below)

module _ (v w : List ℕ) (s t : ℕ) where
  number_up : length v ≤ 250 → AreBytes v → AreBytes w → t < 2 ^ 64 → is_gt (rank_cmp v s w t) ≡ true → rank_number w t < rank_number v s
  unfolding rank_number
  number_up fits are also low up =
      by_order (value_cmp v w) (value_number 250 w * 2 ^ 64 + t < value_number 250 v * 2 ^ 64 + s)
      (λ less. let never : is_gt (ordering_then Less (nat_cmp s t)) ≡ true = subst (λ (o : Ordering). is_gt (ordering_then o (nat_cmp s t)) ≡ true) less up in absurd (cc))
      (λ same.
      let stamps : is_gt (ordering_then Equal (nat_cmp s t)) ≡ true = subst (λ (o : Ordering). is_gt (ordering_then o (nat_cmp s t)) ≡ true) same up in
      let later : t < s = later_stamp stamps in
      subst (λ (x : List ℕ). value_number 250 x * 2 ^ 64 + t < value_number 250 v * 2 ^ 64 + s) (exact_bytes v w same) (omega (arith, later)))
      (λ more. more_wholes (value_number 250 w) (value_number 250 v) t s (2 ^ 64) (value_up 250 v w fits are also more) low)
    where
      later_stamp : is_gt (nat_cmp s t) ≡ true → t < s
      later_stamp is = grind (arith, common_steps, nat_tests)

  number_below : AreBytes v → s < 2 ^ 64 → rank_number v s < rank_limit
  unfolding rank_number rank_limit
  number_below are low =
      let up = more_wholes (value_number 250 v) (257 ^ 250) s 0 (2 ^ 64) (small 250 v are) low in
      omega (arith, up)

  -- a record behind another one has fewer behind it
  pub rank_rises : length v ≤ 250 → AreBytes v → AreBytes w → s < 2 ^ 64 → t < 2 ^ 64 → is_gt (rank_cmp v s w t) ≡ true
      → rank_limit - rank_number v s < rank_limit - rank_number w t
  rank_rises fits are also low other up =
      leaves_less (rank_number w t) (rank_number v s) rank_limit (number_up fits are also other up) (number_below are low)

-- every record has fewer behind it than the start
pub below_start : (value : List ℕ) (stamp : ℕ) → rank_limit - rank_number value stamp < rank_limit + 1
below_start value stamp = omega arith
