-- Bytes are read back from what was read of them.
use Rattle.std.proofs.Common.{◌≡◌, ℕ, zero, suc, ◌+◌, ◌*◌, ◌^◌, ◌%◌, ◌<◌, ◌≤◌, true, false, List, [], ◌∷◌, ◌++◌, length, take, drop, refl, ap, sym, ◌∙◌, arith, append-nil, append_assoc, length-drop, length-take-le}
use Rattle.std.specs.Prelude.{slice_index}
use Rattle.std.proofs.lemmas.Nat.{mod-mul-add}
use Rattle.std.proofs.lemmas.List.{drop-drop, take-append-drop, take_all}
use Rattle.std.proofs.Math.Nat.{add-mul, mul-le-mul_right}
use Rattle.std.specs.Int.{bytes_high_first}
use Rattle.byteorder.specs.Endian.{big_from, big_number, big_bytes}
use Rattle.byteorder.specs.Numbers.{big_from-cons, big_from-take, length-bytes_high_first, big_from-lt, big_number-reads_back}
use Rattle.pages.specs.Each.{Each}
use Rattle.record_layout.specs.declared.schema.KeyPart.{KeyPart}
use Rattle.record_layout.specs.Schema.{has_duplicates}
use Rattle.key_index.specs.Stored.{prime_bytes, alt_bytes, prime_entry_in, alt_entry_in}
use Rattle.key_index.proofs.OrderLemmas.{by_order, bytes_small}
use Rattle.open_file.specs.Stored.{stamp_bytes, stamps_length}
use Rattle.open_file.specs.ReadOff.{stamps_off}
use Rattle.open_file.proofs.OrderLemmas.{either}

abbrev pub AreBytes : List ℕ → Type 0
AreBytes = Each (λ b. b < 256)

pub small_at : (xs : List ℕ) → AreBytes xs → (k : ℕ) → slice_index xs k < 256
small_at [] all k = omega arith
small_at (x ∷ xs) all zero = all.0
small_at (x ∷ xs) all (suc k) = small_at xs all.1 k

pub each_take : (n : ℕ) (xs : List ℕ) → AreBytes xs → AreBytes (take n xs)
each_take zero xs all = tt
each_take (suc n) [] all = tt
each_take (suc n) (x ∷ xs) all = (all.0, each_take n xs all.1)

pub each_drop : (n : ℕ) (xs : List ℕ) → AreBytes xs → AreBytes (drop n xs)
each_drop zero xs all = all
each_drop (suc n) [] all = tt
each_drop (suc n) (x ∷ xs) all = each_drop n xs all.1

same_digit : (c x y r s : ℕ) → r < c → s < c → x * c + r ≡ y * c + s → x ≡ y
same_digit c x y r s hr hs e =
    by_order x y (x ≡ y)
    (λ h. let top : (x + 1) * c ≤ y * c = mul-le-mul_right c (omega arith) in
    let grow : (x + 1) * c ≡ x * c + 1 * c = add-mul x 1 c in
    absurd (omega arith))
    (λ same. same)
    (λ h. let top : (y + 1) * c ≤ x * c = mul-le-mul_right c (omega arith) in
    let grow : (y + 1) * c ≡ y * c + 1 * c = add-mul y 1 c in
    absurd (omega arith))

same_rest : (c x y r s : ℕ) → r < c → s < c → x * c + r ≡ y * c + s → r ≡ s
same_rest c x y r s hr hs e = sym (mod-mul-add x c r hr) ∙ ap (λ (n : ℕ). n % c) e ∙ mod-mul-add y c s hs

-- bytes of one number are the same
same_bytes : (n : ℕ) (xs ys : List ℕ) → length xs ≡ n → length ys ≡ n → AreBytes xs → AreBytes ys → big_from 0 n xs ≡ big_from 0 n ys → xs ≡ ys
same_bytes zero [] [] long long' small small' e = refl
same_bytes zero (x ∷ xs) ys long long' small small' e = absurd (omega (arith, long))
same_bytes zero [] (y ∷ ys) long long' small small' e = absurd (omega (arith, long'))
same_bytes (suc n) [] ys long long' small small' e = absurd (omega (arith, long))
same_bytes (suc n) (x ∷ xs) [] long long' small small' e = absurd (omega (arith, long'))
same_bytes (suc n) (x ∷ xs) (y ∷ ys) long long' small small' e =
    let r = big_from 0 n xs in
    let s = big_from 0 n ys in
    let hr : r < 256 ^ n = big_from-lt 0 n xs (small_at xs small.1) in
    let hs : s < 256 ^ n = big_from-lt 0 n ys (small_at ys small'.1) in
    let both : x * 256 ^ n + r ≡ y * 256 ^ n + s =
    ap (λ (m : ℕ). x * 256 ^ n + m) (sym (big_from-cons 0 n x xs)) ∙ e ∙ ap (λ (m : ℕ). y * 256 ^ n + m) (big_from-cons 0 n y ys) in
    let first = same_digit (256 ^ n) x y r s hr hs both in
    let rest = same_bytes n xs ys (omega (arith, long)) (omega (arith, long')) small.1 small'.1 (same_rest (256 ^ n) x y r s hr hs both) in
    λ i. first i ∷ rest i

bytes_again : (n : ℕ) (xs : List ℕ) → length xs ≡ n → AreBytes xs → bytes_high_first n (big_from 0 n xs) ≡ xs
bytes_again n xs long small =
    let x = big_from 0 n xs in
    let less : x < 256 ^ n = big_from-lt 0 n xs (small_at xs small) in
    same_bytes n (bytes_high_first n x) xs (length-bytes_high_first n x) long (bytes_small n x) small
    (ap (big_from 0 n) (sym (append-nil (bytes_high_first n x))) ∙ big_number-reads_back n x [] less)

-- the bytes of the number in the first n bytes
pub number_again : (n : ℕ) (xs : List ℕ) → n ≤ length xs → AreBytes xs → big_bytes n (big_number n xs) ≡ take n xs
number_again n xs long small =
    ap (bytes_high_first n) (sym (big_from-take 0 n n xs (omega arith))) ∙ bytes_again n (take n xs) (length-take-le n xs long) (each_take n xs small)

pub number_small : (n : ℕ) (xs : List ℕ) → AreBytes xs → big_number n xs < 256 ^ n
number_small n xs small = big_from-lt 0 n xs (small_at xs small)

-- ---- entries

pub prime_again : (w : ℕ) (e : List ℕ) → length e ≡ w + 6 → AreBytes e → prime_bytes (prime_entry_in w e) ≡ e
prime_again w e long small =
    let rest = drop w e in
    let four : 4 ≤ length rest = rw length-drop (omega (arith, long)) in
    let last : drop (w + 4) e ≡ drop 4 rest = sym (drop-drop 4 w e) in
    let two : 2 ≤ length (drop (w + 4) e) = rw length-drop (omega (arith, long)) in
    let end : length (drop (w + 4) e) ≤ 2 = rw length-drop (omega (arith, long)) in
    ap (λ (l : List ℕ). take w e ++ (l ++ big_bytes 2 (big_number 2 (drop (w + 4) e)))) (number_again 4 rest four (each_drop w e small))
    ∙ ap (λ (l : List ℕ). take w e ++ (take 4 rest ++ l)) (number_again 2 (drop (w + 4) e) two (each_drop (w + 4) e small) ∙ take_all 2 (drop (w + 4) e) end ∙ last)
    ∙ ap (λ (l : List ℕ). take w e ++ l) (take-append-drop 4 rest)
    ∙ take-append-drop w e

pub alt_again : (w p : ℕ) (e : List ℕ) → length e ≡ w + 8 + p → AreBytes e → alt_bytes (alt_entry_in w e) ≡ e
alt_again w p e long small =
    let rest = drop w e in
    let eight : 8 ≤ length rest = rw length-drop (omega (arith, long)) in
    let last : drop (w + 8) e ≡ drop 8 rest = sym (drop-drop 8 w e) in
    ap (λ (l : List ℕ). take w e ++ (l ++ drop (w + 8) e)) (number_again 8 rest eight (each_drop w e small))
    ∙ ap (λ (l : List ℕ). take w e ++ (take 8 rest ++ l)) last
    ∙ ap (λ (l : List ℕ). take w e ++ l) (take-append-drop 8 rest)
    ∙ take-append-drop w e

-- ---- stamps and a record

stamps_many : (part : KeyPart) (parts : List KeyPart) (bytes : List ℕ) → has_duplicates part ≡ true
    → stamp_bytes (part ∷ parts) (stamps_off (part ∷ parts) bytes) ++ drop (stamps_length (part ∷ parts)) bytes
    ≡ (big_bytes 8 (big_number 8 bytes) ++ stamp_bytes parts (stamps_off parts (drop 8 bytes))) ++ drop (8 + stamps_length parts) bytes
stamps_many part parts bytes many = rw many (rw many refl)

stamps_one : (part : KeyPart) (parts : List KeyPart) (bytes : List ℕ) → has_duplicates part ≡ false
    → stamp_bytes (part ∷ parts) (stamps_off (part ∷ parts) bytes) ++ drop (stamps_length (part ∷ parts)) bytes ≡ stamp_bytes parts (stamps_off parts bytes) ++ drop (stamps_length parts) bytes
stamps_one part parts bytes one = rw one (rw one refl)

pub long_many : (part : KeyPart) (parts : List KeyPart) (n : ℕ) → has_duplicates part ≡ true → stamps_length (part ∷ parts) ≤ n → 8 + stamps_length parts ≤ n
long_many part parts n many long = rw many at long

pub long_one : (part : KeyPart) (parts : List KeyPart) (n : ℕ) → has_duplicates part ≡ false → stamps_length (part ∷ parts) ≤ n → stamps_length parts ≤ n
long_one part parts n one long = rw one at long

pub stored_again : (parts : List KeyPart) (bytes : List ℕ) → stamps_length parts ≤ length bytes → AreBytes bytes → stamp_bytes parts (stamps_off parts bytes) ++ drop (stamps_length parts) bytes ≡ bytes
stored_again [] bytes long small = refl
stored_again (part ∷ parts) bytes long small =
    either (has_duplicates part) (stamp_bytes (part ∷ parts) (stamps_off (part ∷ parts) bytes) ++ drop (stamps_length (part ∷ parts)) bytes ≡ bytes)
    (λ many.
    let whole = long_many part parts (length bytes) many long in
    let eight : 8 ≤ length bytes = omega (arith, whole) in
    let rest = drop 8 bytes in
    let again = stored_again parts rest (rw length-drop (omega (arith, whole))) (each_drop 8 bytes small) in
    stamps_many part parts bytes many
    ∙ append_assoc (big_bytes 8 (big_number 8 bytes)) (stamp_bytes parts (stamps_off parts rest)) (drop (8 + stamps_length parts) bytes)
    ∙ ap (λ (l : List ℕ). big_bytes 8 (big_number 8 bytes) ++ (stamp_bytes parts (stamps_off parts rest) ++ l)) (sym (drop-drop (stamps_length parts) 8 bytes))
    ∙ ap (λ (l : List ℕ). big_bytes 8 (big_number 8 bytes) ++ l) again
    ∙ ap (λ (l : List ℕ). l ++ rest) (number_again 8 bytes eight small)
    ∙ take-append-drop 8 bytes)
    (λ one. stamps_one part parts bytes one ∙ stored_again parts bytes (long_one part parts (length bytes) one long) small)

pub stamps_many_as_parts : (parts : List KeyPart) (bytes : List ℕ) → length (stamps_off parts bytes) ≡ length parts
stamps_many_as_parts [] bytes = refl
stamps_many_as_parts (part ∷ parts) bytes =
    either (has_duplicates part) (length (stamps_off (part ∷ parts) bytes) ≡ length (part ∷ parts))
    (λ many. rw many (ap suc (stamps_many_as_parts parts (drop 8 bytes))))
    (λ one. rw one (ap suc (stamps_many_as_parts parts bytes)))
