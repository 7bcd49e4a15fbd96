-- What the tree tells of the bytes of an entry is what is told of the entry.
use Rattle.std.proofs.Common.{◌≡◌, ℕ, ◌+◌, ◌-◌, ◌^◌, ◌<◌, ◌≤◌, not, List, [], ◌∷◌, ◌++◌, length, take, refl, sym, ap, ◌∙◌, arith, append_assoc, length-append}
use Rattle.std.specs.Prelude.{bytes_eq, replicate, ◌&&◌}
use Rattle.std.proofs.Math.Seq.{take-append_seam}
use Rattle.std.proofs.lemmas.List.{append-nil, take-append-le, take_all, length-take-le}
use Rattle.std.specs.declared.cmp.Ordering.{Ordering}
use Rattle.std.specs.declared.cmp.Ordering.TheVariants.{Less}
use Rattle.std.specs.Ordering.{nat_cmp, ordering_then, is_lt, is_gt, is_ge, is_eq}
use Rattle.std.specs.Cmp.{unsigned_ties}
use Rattle.std.specs.Cmp.Lexicographic.{slice_cmp}
use Rattle.std.specs.Int.{bytes_high_first}
use Rattle.std.proofs.lemmas.Cmp.{nat_list_cmp_total}
use Rattle.std.proofs.lemmas.Map.Text.{is_eq-slice_cmp}
use Rattle.byteorder.specs.Numbers.{length-bytes_high_first}
use Rattle.pages.specs.Each.{Each}
use Rattle.tree_node.specs.Order.{less}
use Rattle.io_state.specs.Rank.{value_cmp}
use Rattle.key_index.specs.Keys.{greatest_key}
use Rattle.key_index.specs.Stored.{prime_bytes, alt_bytes, IsPrimeEntry, IsAltEntry}
use Rattle.key_index.specs.Entries.{has_prime, from_prime, after_prime, past_prime, has_rank, from_value, after_rank, past_value}
use Rattle.key_index.specs.declared.entry.PrimeEntry.{PrimeEntry}
use Rattle.key_index.specs.declared.entry.AltEntry.{AltEntry}
use Rattle.key_index.proofs.OrderLemmas.{by_order, ranks, cut, padded, bytes_small, longer, shorter, not_lt, turned_lt}

each_append : {X : Type 0} (P : X → Type 0) (xs ys : List X) → Each P xs → Each P ys → Each P (xs ++ ys)
each_append P [] ys h k = k
each_append P (x ∷ xs) ys h k = (h.0, each_append P xs ys h.1 k)

-- the first bytes of a list that is made of two
pub front : (n : ℕ) (xs ys : List ℕ) → length xs ≡ n → take n (xs ++ ys) ≡ xs
front n xs ys h = ap (λ (m : ℕ). take m (xs ++ ys)) (sym h) ∙ take-append_seam xs ys

-- what comes after the greatest key of an operand is what has other first bytes, which come after it
past : (w m : ℕ) (k v s : List ℕ) → length v ≡ w → length s ≡ m → Each (λ b. b < 256) v → Each (λ b. b < 256) s
    → is_lt (slice_cmp nat_cmp (greatest_key w (w + m) k) (v ++ s)) ≡ is_gt (value_cmp (take (length k) v) k)
past w m k v s hv hs small_v small_s =
    by_order (length k) w (is_lt (slice_cmp nat_cmp (greatest_key w (w + m) k) (v ++ s)) ≡ is_gt (value_cmp (take (length k) v) k))
    (λ h. short (omega arith)) (λ e. short (omega arith)) long
  where
    whole : length (v ++ s) ≡ w + m
    whole = length-append v s ∙ omega arith

    padded_to : (p : List ℕ) → length p ≤ w
        → is_lt (slice_cmp nat_cmp (p ++ replicate (w + m - length p) 255) (v ++ s)) ≡ is_gt (value_cmp (take (length p) v) p)
    padded_to p h =
        padded p (v ++ s) (w + m - length p) (omega (arith, whole)) (each_append (λ b. b < 256) v s small_v small_s)
        ∙ ap (λ (l : List ℕ). is_gt (value_cmp l p)) (take-append-le (length p) v s (omega arith))

    short : length k ≤ w → is_lt (slice_cmp nat_cmp (greatest_key w (w + m) k) (v ++ s)) ≡ is_gt (value_cmp (take (length k) v) k)
    short h =
        ap (λ (p : List ℕ). is_lt (slice_cmp nat_cmp (p ++ replicate (w + m - length p) 255) (v ++ s))) (take_all w k h)
        ∙ padded_to k h

    long : w < length k → is_lt (slice_cmp nat_cmp (greatest_key w (w + m) k) (v ++ s)) ≡ is_gt (value_cmp (take (length k) v) k)
    long h =
        let size : length (take w k) ≡ w = length-take-le w k (omega arith) in
        padded_to (take w k) (omega arith)
        ∙ ap (λ (n : ℕ). is_gt (value_cmp (take n v) (take w k))) size
        ∙ ap (λ (l : List ℕ). is_gt (value_cmp l (take w k))) (take_all w v (omega arith))
        ∙ ap (λ (n : ℕ). is_gt (value_cmp v (take n k))) (sym hv)
        ∙ sym (longer is_gt refl refl v k (omega arith))
        ∙ ap (λ (l : List ℕ). is_gt (value_cmp l k)) (sym (take_all (length k) v (omega arith)))

-- ---- the prime index

pub prime_key : (w : ℕ) (e : PrimeEntry) → IsPrimeEntry w e → take w (prime_bytes e) ≡ e.value.items
prime_key w e fit = front w e.value.items (bytes_high_first 4 e.place.page ++ bytes_high_first 2 e.place.slot) fit.long

-- at the width of the tree's keys
module _ {n w : ℕ} (keys : n ≡ w) where
  pub prime_key_at : (e : PrimeEntry) → IsPrimeEntry w e → take n (prime_bytes e) ≡ e.value.items
  prime_key_at e fit = ap (λ (m : ℕ). take m (prime_bytes e)) keys ∙ prime_key w e fit

  pub prime_has : (k : List ℕ) (e : PrimeEntry) → IsPrimeEntry w e → bytes_eq (take n (prime_bytes e)) k ≡ has_prime k e
  prime_has k e fit = ap (λ (l : List ℕ). bytes_eq l k) (prime_key_at e fit)

  pub prime_from : (k : List ℕ) (e : PrimeEntry) → IsPrimeEntry w e → not (less (take n (prime_bytes e)) k) ≡ from_prime k e
  unfolding less
  prime_from k e fit = ap (λ (l : List ℕ). not (less l k)) (prime_key_at e fit) ∙ not_lt (value_cmp e.value.items k)

  pub prime_after : (k : List ℕ) (e : PrimeEntry) → IsPrimeEntry w e → less k (take n (prime_bytes e)) ≡ after_prime k e
  unfolding less
  prime_after k e fit =
      ap (λ (l : List ℕ). less k l) (prime_key_at e fit)
      ∙ ap is_lt (nat_list_cmp_total.antisymm k e.value.items)
      ∙ turned_lt (value_cmp e.value.items k)

  pub prime_past : (key k : List ℕ) → key ≡ greatest_key w w k
      → (e : PrimeEntry) → IsPrimeEntry w e → less key (take n (prime_bytes e)) ≡ past_prime k e
  unfolding less
  prime_past key k is e fit =
      ap (λ (l : List ℕ). less key l) (prime_key_at e fit)
      ∙ ap (λ (l : List ℕ). less l e.value.items) (is ∙ ap (λ (m : ℕ). greatest_key w m k) none)
      ∙ ap (λ (l : List ℕ). less (greatest_key w (w + 0) k) l) (sym (append-nil e.value.items))
      ∙ past w 0 k e.value.items [] fit.long refl fit.bytes tt
    where
      none : w ≡ w + 0
      none = omega arith

-- ---- an alternate index

pub alt_key : (w p : ℕ) (e : AltEntry) → IsAltEntry w p e → take (w + 8) (alt_bytes e) ≡ e.value.items ++ bytes_high_first 8 e.stamp
alt_key w p e fit =
    ap (λ (l : List ℕ). take (w + 8) l) (sym (append_assoc e.value.items (bytes_high_first 8 e.stamp) e.prime.items))
    ∙ front (w + 8) (e.value.items ++ bytes_high_first 8 e.stamp) e.prime.items
    (simp (length-append, length-bytes_high_first) (omega (arith, fit.long)))

then_eq : (a b : Ordering) → is_eq (ordering_then a b) ≡ (is_eq a && is_eq b)
then_eq Less b = refl
then_eq a b = refl

module _ {n w : ℕ} (p : ℕ) (keys : n ≡ w + 8) where
  pub alt_key_at : (e : AltEntry) → IsAltEntry w p e → take n (alt_bytes e) ≡ e.value.items ++ bytes_high_first 8 e.stamp
  alt_key_at e fit = ap (λ (m : ℕ). take m (alt_bytes e)) keys ∙ alt_key w p e fit

  pub alt_has : (key k : List ℕ) (t : ℕ) → key ≡ k ++ bytes_high_first 8 t → length k ≡ w → t < 2 ^ 64
      → (e : AltEntry) → IsAltEntry w p e → bytes_eq (take n (alt_bytes e)) key ≡ has_rank k t e
  alt_has key k t is long small e fit =
      ap (λ (l : List ℕ). bytes_eq l key) (alt_key_at e fit)
      ∙ ap (λ (l : List ℕ). bytes_eq (e.value.items ++ bytes_high_first 8 e.stamp) l) is
      ∙ sym (is_eq-slice_cmp (e.value.items ++ bytes_high_first 8 e.stamp) (k ++ bytes_high_first 8 t))
      ∙ ap is_eq (ranks e.value.items k e.stamp t (fit.long ∙ sym long) fit.stamp small)
      ∙ then_eq (value_cmp e.value.items k) (nat_cmp e.stamp t)
      ∙ ap (λ b. b && is_eq (nat_cmp e.stamp t)) (is_eq-slice_cmp e.value.items k)
      ∙ ap (λ b. bytes_eq e.value.items k && b) (sym (unsigned_ties e.stamp t))

  pub alt_from : (k : List ℕ) → length k ≤ w → (e : AltEntry) → IsAltEntry w p e → not (less (take n (alt_bytes e)) k) ≡ from_value k e
  unfolding less
  alt_from k short e fit =
      ap (λ (l : List ℕ). not (less l k)) (alt_key_at e fit)
      ∙ ap not (cut e.value.items (bytes_high_first 8 e.stamp) k (omega (arith, fit.long)))
      ∙ not_lt (value_cmp e.value.items k)

  pub alt_after : (key k : List ℕ) (t : ℕ) → key ≡ k ++ bytes_high_first 8 t → length k ≡ w → t < 2 ^ 64
      → (e : AltEntry) → IsAltEntry w p e → less key (take n (alt_bytes e)) ≡ after_rank k t e
  unfolding less
  alt_after key k t is long small e fit =
      (λ i. less (is i) (alt_key_at e fit i))
      ∙ ap is_lt (nat_list_cmp_total.antisymm (k ++ bytes_high_first 8 t) (e.value.items ++ bytes_high_first 8 e.stamp))
      ∙ turned_lt (slice_cmp nat_cmp (e.value.items ++ bytes_high_first 8 e.stamp) (k ++ bytes_high_first 8 t))
      ∙ ap is_gt (ranks e.value.items k e.stamp t (fit.long ∙ sym long) fit.stamp small)

  pub alt_past : (key k : List ℕ) → key ≡ greatest_key w (w + 8) k
      → (e : AltEntry) → IsAltEntry w p e → less key (take n (alt_bytes e)) ≡ past_value k e
  unfolding less
  alt_past key k is e fit =
      (λ i. less (is i) (alt_key_at e fit i))
      ∙ past w 8 k e.value.items (bytes_high_first 8 e.stamp) fit.long (length-bytes_high_first 8 e.stamp) fit.bytes (bytes_small 8 e.stamp)

-- ---- operands of another length than a value has

-- what lies past an operand that is longer than a value comes after it
past_long : (w p : ℕ) (k : List ℕ) → w < length k → (e : AltEntry) → IsAltEntry w p e → past_value k e ≡ is_gt (value_cmp e.value.items (take (length e.value.items) k))
past_long w p k long e fit =
    ap (λ (l : List ℕ). is_gt (value_cmp l k)) (take_all (length k) e.value.items (omega (arith, fit.long)))
    ∙ longer is_gt refl refl e.value.items k (omega (arith, fit.long))

pub past_from : (w p : ℕ) (k : List ℕ) → w < length k → (e : AltEntry) → IsAltEntry w p e → past_value k e ≡ from_value k e
past_from w p k long e fit = past_long w p k long e fit ∙ sym (longer is_ge refl refl e.value.items k (omega (arith, fit.long)))

pub past_rank : (w p : ℕ) (k : List ℕ) (t : ℕ) → w < length k → (e : AltEntry) → IsAltEntry w p e → past_value k e ≡ after_rank k t e
past_rank w p k t long e fit =
    past_long w p k long e fit
    ∙ sym (longer (λ o. is_gt (ordering_then o (nat_cmp e.stamp t))) refl refl e.value.items k (omega (arith, fit.long)))

pub from_rank : (w p : ℕ) (k : List ℕ) (t : ℕ) → length k < w → (e : AltEntry) → IsAltEntry w p e → from_value k e ≡ after_rank k t e
from_rank w p k t short e fit =
    sym (shorter (λ o. is_gt (ordering_then o (nat_cmp e.stamp t))) refl refl e.value.items k (omega (arith, fit.long)))
