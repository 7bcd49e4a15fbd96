-- A number that is put in its place.
use Rattle.std.proofs.Common.{◌≡◌, ℕ, zero, suc, ◌+◌, ◌≤◌, List, [], ◌∷◌, ◌++◌, length, take, drop, set, append-nil, length-drop, refl, ap, ◌∙◌, arith}
use Rattle.std.proofs.lemmas.List.{length-take, length-set}
use Rattle.byteorder.specs.Endian.{big_bytes}
use borrow.Rule.Slice.PartMut.{put_mid, same_len_mid}

-- nothing is left of the n bytes that n bytes are put over
fills : (n : ℕ) (bytes old : List ℕ) → bytes ++ drop n (take n old) ≡ bytes
fills n bytes old = ap (λ (l : List ℕ). bytes ++ l) (none_left n old) ∙ append-nil bytes
  where
    none_left : (n : ℕ) (old : List ℕ) → drop n (take n old) ≡ []
    none_left zero old = refl
    none_left (suc n) [] = refl
    none_left (suc n) (x ∷ old) = none_left n old

-- bytes with a number of n bytes written at `at` are those with the number in that place
pub puts : (at n : ℕ) {old bytes new : List ℕ} {number x : ℕ} → old ≡ bytes → number ≡ x → new ≡ big_bytes n number ++ drop n (take n (drop at old))
    → put_mid at n old new ≡ put_mid at n bytes (big_bytes n x)
puts at n {old} {number = number} same is written =
    λ i. put_mid at n (same i) ((written ∙ fills n (big_bytes n number) (drop at old) ∙ ap (big_bytes n) is) i)

-- as many bytes as the numbers take
pub record Are64 (bytes : List ℕ) : Type 0 where
  pub long : length bytes ≡ 64

-- a part of them, with d bytes behind it, is as long as it says
pub part : (at n d : ℕ) {bytes : List ℕ} → Are64 bytes → at + n + d ≡ 64 → n ≤ length (take n (drop at bytes))
part at n d {bytes} are within = omega (arith, length-take n (drop at bytes), length-drop at bytes, are.long)

-- they are as many where a part of them is written over
pub kept : (at n : ℕ) {bytes : List ℕ} (new : List ℕ) → Are64 bytes → length new ≡ length (take n (drop at bytes)) → Are64 (put_mid at n bytes new)
kept at n {bytes} new are same = record { long = same_len_mid at n bytes new same ∙ are.long }

-- or one of them
pub kept_but_one : (at x : ℕ) {bytes : List ℕ} → Are64 bytes → Are64 (set bytes at x)
kept_but_one at x {bytes} are = record { long = length-set bytes at x ∙ are.long }
