-- How tree keys compare: a value with a stamp behind it, and the first bytes of a value with the greatest bytes behind them.
use Rattle.std.proofs.Common.{◌≡◌, ℕ, zero, suc, ◌+◌, ◌*◌, ◌/◌, ◌%◌, ◌^◌, ◌<◌, ◌≤◌, Bool, true, false, not, refl, sym, ap, ◌∙◌, arith}
use Rattle.std.proofs.Common.{List, [], ◌∷◌, ◌++◌, length, take}
use Rattle.std.specs.Prelude.{replicate}
use Rattle.std.proofs.Math.Nat.{add-mul, add_assoc, div-add-mod', mod-eq_of_lt, mod-lt, mul-add-mod_self_right, mul-le-mul_right, mul_assoc, one-le-pow, pow-succ', div-one}
use Rattle.std.specs.declared.cmp.Ordering.{Ordering}
use Rattle.std.specs.declared.cmp.Ordering.TheVariants.{Less, Equal, Greater}
use Rattle.std.specs.Ordering.{nat_cmp, ordering_then, ordering_reverse, is_lt, is_gt, is_ge, MatchOrdering}
use Rattle.std.specs.Cmp.{nat_cmp_is}
use Rattle.std.specs.Cmp.Lexicographic.{slice_cmp}
use Rattle.std.specs.Int.{byte_at, bytes_high_first}
use Rattle.std.proofs.lemmas.Cmp.{nat_cmp_total, ranked}
use Rattle.pages.specs.Each.{Each}
use Rattle.io_state.specs.Rank.{value_cmp, rank_cmp}

-- one of three holds of two numbers
pub by_order : (x y : ℕ) (P : Type 0) → (x < y → P) → (x ≡ y → P) → (y < x → P) → P
by_order x y P below equal above = split (nat_cmp x y) (ranked x y (nat_cmp x y) refl)
  where
    split : (o : Ordering) → MatchOrdering o (x < y) (x ≡ y) (y < x) → P
    split Less h = below h
    split Equal h = equal h
    split Greater h = above h

lower : (x y : ℕ) → x < y → nat_cmp x y ≡ Less
lower x y h = sym (nat_cmp_is x y Less h)

same : (x y : ℕ) → x ≡ y → nat_cmp x y ≡ Equal
same x y e = sym (nat_cmp_is x y Equal e)

upper : (x y : ℕ) → y < x → nat_cmp x y ≡ Greater
upper x y h = sym (nat_cmp_is x y Greater h)

-- two numbers compare by their upper parts and then by their lower ones
by_parts : (m a b c d : ℕ) → b < m → d < m → nat_cmp (a * m + b) (c * m + d) ≡ ordering_then (nat_cmp a c) (nat_cmp b d)
by_parts m a b c d hb hd =
    by_order a c (nat_cmp (a * m + b) (c * m + d) ≡ ordering_then (nat_cmp a c) (nat_cmp b d))
    (λ h. let top : (a + 1) * m ≤ c * m = mul-le-mul_right m (omega arith) in
    let grow : (a + 1) * m ≡ a * m + 1 * m = add-mul a 1 m in
    lower (a * m + b) (c * m + d) (omega arith) ∙ ap (λ o. ordering_then o (nat_cmp b d)) (sym (lower a c h)))
    (λ e. let level : a * m ≡ c * m = ap (λ (z : ℕ). z * m) e in
    rest level ∙ ap (λ o. ordering_then o (nat_cmp b d)) (sym (same a c e)))
    (λ h. let top : (c + 1) * m ≤ a * m = mul-le-mul_right m (omega arith) in
    let grow : (c + 1) * m ≡ c * m + 1 * m = add-mul c 1 m in
    upper (a * m + b) (c * m + d) (omega arith) ∙ ap (λ o. ordering_then o (nat_cmp b d)) (sym (upper a c h)))
  where
    rest : a * m ≡ c * m → nat_cmp (a * m + b) (c * m + d) ≡ nat_cmp b d
    rest level =
        by_order b d (nat_cmp (a * m + b) (c * m + d) ≡ nat_cmp b d)
        (λ h. lower (a * m + b) (c * m + d) (omega arith) ∙ sym (lower b d h))
        (λ e. same (a * m + b) (c * m + d) (omega arith) ∙ sym (same b d e))
        (λ h. upper (a * m + b) (c * m + d) (omega arith) ∙ sym (upper b d h))

-- the two low digits of n, to the bases c and then m
mod-split : (n m c : ℕ) → 0 < m → 0 < c → n % (m * c) ≡ (n / c % m) * c + n % c
mod-split n m c hm hc =
    let a = mod-lt (n / c) hm in
    let b = mod-lt n hc in
    let top : (n / c % m + 1) * c ≤ m * c = mul-le-mul_right c (omega arith) in
    let expand : (n / c % m + 1) * c ≡ n / c % m * c + 1 * c = add-mul (n / c % m) 1 c in
    let split : n ≡ n / c / m * (m * c) + (n / c % m * c + n % c) =
    sym (div-add-mod' n c)
    ∙ ap (λ (x : ℕ). x * c + n % c) (sym (div-add-mod' (n / c) m))
    ∙ ap (λ (x : ℕ). x + n % c) (add-mul (n / c / m * m) (n / c % m) c ∙ ap (λ (x : ℕ). x + n / c % m * c) (mul_assoc (n / c / m) m c))
    ∙ add_assoc (n / c / m * (m * c)) (n / c % m * c) (n % c) in
    ap (λ (x : ℕ). x % (m * c)) split ∙ mul-add-mod_self_right (n / c / m) (m * c) (n / c % m * c + n % c) ∙ mod-eq_of_lt (omega arith)

byte_at-pow : (k x : ℕ) → byte_at k x ≡ x / 256 ^ k % 256
byte_at-pow zero x = ap (λ (y : ℕ). y % 256) (sym (div-one x))
byte_at-pow (suc k) x = refl

byte_at-small : (k x : ℕ) → byte_at k x < 256
byte_at-small zero x = mod-lt x (omega arith)
byte_at-small (suc k) x = mod-lt (x / 256 ^ suc k) (omega arith)

-- the bytes of numbers, the highest first, compare as what is left of the numbers below the highest byte
numbers : (n x y : ℕ) → slice_cmp nat_cmp (bytes_high_first n x) (bytes_high_first n y) ≡ nat_cmp (x % 256 ^ n) (y % 256 ^ n)
numbers zero x y = sym (same (x % 256 ^ 0) (y % 256 ^ 0) (omega arith))
numbers (suc n) x y =
    let some : 0 < 256 ^ n = (let h = one-le-pow n 256 (omega arith) in omega arith) in
    ap (λ o. ordering_then (nat_cmp (byte_at n x) (byte_at n y)) o) (numbers n x y)
    ∙ sym (by_parts (256 ^ n) (byte_at n x) (x % 256 ^ n) (byte_at n y) (y % 256 ^ n) (mod-lt x some) (mod-lt y some))
    ∙ ap (λ (z : ℕ). nat_cmp z (byte_at n y * 256 ^ n + y % 256 ^ n)) (sym (digits some x))
    ∙ ap (λ (z : ℕ). nat_cmp (x % 256 ^ suc n) z) (sym (digits some y))
  where
    digits : 0 < 256 ^ n → (z : ℕ) → z % 256 ^ suc n ≡ byte_at n z * 256 ^ n + z % 256 ^ n
    digits some z =
        ap (λ (p : ℕ). z % p) (pow-succ' 256 n) ∙ mod-split z 256 (256 ^ n) (omega arith) some ∙ ap (λ (b : ℕ). b * 256 ^ n + z % 256 ^ n) (sym (byte_at-pow n z))

pub stamps : (s t : ℕ) → s < 2 ^ 64 → t < 2 ^ 64 → slice_cmp nat_cmp (bytes_high_first 8 s) (bytes_high_first 8 t) ≡ nat_cmp s t
stamps s t hs ht =
    numbers 8 s t
    ∙ ap (λ (z : ℕ). nat_cmp z (t % 256 ^ 8)) (mod-eq_of_lt hs)
    ∙ ap (λ (z : ℕ). nat_cmp s z) (mod-eq_of_lt ht)

pub bytes_small : (n x : ℕ) → Each (λ b. b < 256) (bytes_high_first n x)
bytes_small zero x = tt
bytes_small (suc n) x = (byte_at-small n x, bytes_small n x)

-- what is told of two orderings, of which the second one decides where the first does not
then_assoc : (a b c : Ordering) → ordering_then a (ordering_then b c) ≡ ordering_then (ordering_then a b) c
then_assoc Less b c = refl
then_assoc a b c = refl

-- two tests that say the same where the first one decides, and the same of the second ones
then_alike : (f h : Ordering → Bool) → f Less ≡ h Less → f Greater ≡ h Greater → (a b c : Ordering) → f b ≡ h c
    → f (ordering_then a b) ≡ h (ordering_then a c)
then_alike f h less more Less b c same = less
then_alike f h less more Equal b c same = same
then_alike f h less more Greater b c same = more

then_turned : (a b c : Ordering) → is_lt b ≡ is_gt c → is_lt (ordering_then a b) ≡ is_gt (ordering_then (ordering_reverse a) c)
then_turned Equal b c h = h
then_turned a b c h = refl

pub not_lt : (o : Ordering) → not (is_lt o) ≡ is_ge o
not_lt Less = refl
not_lt o = refl

pub turned_lt : (o : Ordering) → is_lt (ordering_reverse o) ≡ is_gt o
turned_lt Less = refl
turned_lt o = refl

-- behind values of one length what follows them decides where they are the same
pub behind : (v w s t : List ℕ) → length v ≡ length w → slice_cmp nat_cmp (v ++ s) (w ++ t) ≡ ordering_then (value_cmp v w) (slice_cmp nat_cmp s t)
behind [] [] s t h = refl
behind (x ∷ xs) (y ∷ ys) s t h =
    ap (λ o. ordering_then (nat_cmp x y) o) (behind xs ys s t (omega arith)) ∙ then_assoc (nat_cmp x y) (value_cmp xs ys) (slice_cmp nat_cmp s t)
behind v w s t h = absurd (omega arith)

-- the tree keys of values of one length are in the order of their ranks
pub ranks : (v w : List ℕ) (s t : ℕ) → length v ≡ length w → s < 2 ^ 64 → t < 2 ^ 64
    → slice_cmp nat_cmp (v ++ bytes_high_first 8 s) (w ++ bytes_high_first 8 t) ≡ rank_cmp v s w t
ranks v w s t h hs ht =
    behind v w (bytes_high_first 8 s) (bytes_high_first 8 t) h ∙ ap (λ o. ordering_then (value_cmp v w) o) (stamps s t hs ht)

-- what stands behind a value is not looked at by an operand that is no longer than it
pub cut : (v s k : List ℕ) → length k ≤ length v → is_lt (slice_cmp nat_cmp (v ++ s) k) ≡ is_lt (value_cmp v k)
cut [] [] [] h = refl
cut [] s (y ∷ ys) h = absurd (omega arith)
cut (x ∷ xs) s (y ∷ ys) h =
    then_alike is_lt is_lt refl refl (nat_cmp x y) (slice_cmp nat_cmp (xs ++ s) ys) (value_cmp xs ys) (cut xs s ys (omega arith))
cut v s [] h = refl

-- a value that begins with a shorter operand comes after it, by every test that tells what is less and what is greater
pub shorter : (f : Ordering → Bool) → f Less ≡ false → f Greater ≡ true → (v k : List ℕ) → length k < length v
    → f (value_cmp v k) ≡ is_ge (value_cmp v k)
shorter f less more [] k h = absurd (omega arith)
shorter f less more (x ∷ xs) [] h = more
shorter f less more (x ∷ xs) (y ∷ ys) h =
    then_alike f is_ge less more (nat_cmp x y) (value_cmp xs ys) (value_cmp xs ys) (shorter f less more xs ys (omega arith))

-- and an operand that is longer than a value comes after it where it begins with it
pub longer : (f : Ordering → Bool) → f Less ≡ false → f Greater ≡ true → (v k : List ℕ) → length v < length k
    → f (value_cmp v k) ≡ is_gt (value_cmp v (take (length v) k))
longer f less more [] (y ∷ ys) h = less
longer f less more (x ∷ xs) (y ∷ ys) h =
    then_alike f is_gt less more (nat_cmp x y) (value_cmp xs ys) (value_cmp xs (take (length xs) ys))
    (longer f less more xs ys (omega arith))
longer f less more v [] h = absurd (omega arith)

-- nothing comes after the greatest bytes
greatest : (m : ℕ) (xs : List ℕ) → length xs ≡ m → Each (λ b. b < 256) xs → is_lt (slice_cmp nat_cmp (replicate m 255) xs) ≡ false
greatest zero [] h small = refl
greatest (suc m) (x ∷ xs) h small =
    by_order 255 x (is_lt (ordering_then (nat_cmp 255 x) (slice_cmp nat_cmp (replicate m 255) xs)) ≡ false)
    (λ k. let below : x < 256 = small.0 in absurd (omega arith))
    (λ e. ap (λ o. is_lt (ordering_then o (slice_cmp nat_cmp (replicate m 255) xs))) (same 255 x e) ∙ greatest m xs (omega arith) small.1)
    (λ k. ap (λ o. is_lt (ordering_then o (slice_cmp nat_cmp (replicate m 255) xs))) (upper 255 x k))
greatest m xs h small = absurd (omega arith)

-- what comes after the operand with the greatest bytes behind it is what has other first bytes, which come after the operand
pub padded : (k xs : List ℕ) (m : ℕ) → length xs ≡ length k + m → Each (λ b. b < 256) xs
    → is_lt (slice_cmp nat_cmp (k ++ replicate m 255) xs) ≡ is_gt (value_cmp (take (length k) xs) k)
padded [] xs m h small = greatest m xs (omega arith) small
padded (y ∷ ys) [] m h small = absurd (omega arith)
padded (y ∷ ys) (x ∷ xs) m h small =
    then_turned (nat_cmp y x) (slice_cmp nat_cmp (ys ++ replicate m 255) xs) (value_cmp (take (length ys) xs) ys) (padded ys xs m (omega arith) small.1)
    ∙ ap (λ o. is_gt (ordering_then o (value_cmp (take (length ys) xs) ys))) (sym (nat_cmp_total.antisymm x y))
