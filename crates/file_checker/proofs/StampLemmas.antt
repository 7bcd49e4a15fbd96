-- The stamps before a record, one after another.
use Rattle.std.proofs.Common.{◌≡◌, ℕ, suc, ◌+◌, ◌-◌, ◌≤◌, ◌<◌, true, false, List, ◌∷◌, length, drop, take, refl, ap, sym, subst, ◌∙◌, arith, length-drop}
use Rattle.std.specs.Prelude.{Bool, IsTrue, slice_index, slice_index_or, zip, nat_le, nat_lt}
use Rattle.std.specs.List.{list_all}
use Rattle.std.proofs.lemmas.List.{length-take, length-take-le, take_all, get_or-take}
use Rattle.std.proofs.lemmas.Bool.{and_from, and_parts, le-leb, leb-true, lt-ltb, ltb-true}
use Rattle.byteorder.specs.Endian.{big_number}
use Rattle.record_layout.specs.declared.schema.KeyPart.{KeyPart}
use Rattle.record_layout.specs.Schema.{has_duplicates}
use Rattle.indexed_file.specs.Sound.{is_stamp}
use Rattle.open_file.specs.Stored.{stamps_length}
use Rattle.open_file.specs.ReadOff.{stamps_off}
use Rattle.open_file.proofs.LookLemmas.{dropped, all_dropped}
use Rattle.file_checker.proofs.ByteLemmas.{long_many, long_one}

-- the stamps of these parts are such
abbrev pub Fit : ℕ → List KeyPart → List ℕ → Type 0
Fit next parts bytes = IsTrue (list_all {X = KeyPart × ℕ} (λ p. is_stamp next p.0 p.1) (zip parts (stamps_off parts bytes)))

-- those from part i on, which begin with `rest`, are such where all are, and only there
pub record FitFront (next : ℕ) (parts : List KeyPart) (bytes : List ℕ) (i : ℕ) (rest : List ℕ) : Type 0 where
  pub long : stamps_length (drop i parts) ≤ length rest
  pub front : Fit next (drop i parts) rest → Fit next parts bytes
  pub back : Fit next parts bytes → Fit next (drop i parts) rest

-- what is tested of a stamp and those behind it
abbrev test_of : ℕ → KeyPart × ℕ → Bool
test_of next p = is_stamp next p.0 p.1

stamp_many_fits : (next s : ℕ) (part : KeyPart) → has_duplicates part ≡ true → 1 ≤ s → s < next → is_stamp next part s ≡ true
stamp_many_fits next s part many low high = rw many (and_from (nat_le 1 s) (nat_lt s next) (le-leb 1 s low) (lt-ltb s next high))

zip_many : (part : KeyPart) (parts : List KeyPart) (rest : List ℕ) → has_duplicates part ≡ true
    → zip (part ∷ parts) (stamps_off (part ∷ parts) rest) ≡ (part, big_number 8 rest) ∷ zip parts (stamps_off parts (drop 8 rest))
zip_many part parts rest many = rw many refl

zip_one : (part : KeyPart) (parts : List KeyPart) (rest : List ℕ) → has_duplicates part ≡ false → zip (part ∷ parts) (stamps_off (part ∷ parts) rest) ≡ (part, 0) ∷ zip parts (stamps_off parts rest)
zip_one part parts rest one = rw one refl

stamp_one_fits : (next : ℕ) (part : KeyPart) → has_duplicates part ≡ false → is_stamp next part 0 ≡ true
stamp_one_fits next part one = rw one refl

fit_many : (next : ℕ) (part : KeyPart) (parts : List KeyPart) (rest : List ℕ) → has_duplicates part ≡ true → 1 ≤ big_number 8 rest → big_number 8 rest < next
    → Fit next parts (drop 8 rest) → Fit next (part ∷ parts) rest
fit_many next part parts rest many low high h =
    subst (λ (l : List (KeyPart × ℕ)). IsTrue (list_all (test_of next) l)) (sym (zip_many part parts rest many))
    (and_from (is_stamp next part (big_number 8 rest)) (list_all (test_of next) (zip parts (stamps_off parts (drop 8 rest)))) (stamp_many_fits next (big_number 8 rest) part many low high) h)

fit_one : (next : ℕ) (part : KeyPart) (parts : List KeyPart) (rest : List ℕ) → has_duplicates part ≡ false → Fit next parts rest → Fit next (part ∷ parts) rest
fit_one next part parts rest one h =
    subst (λ (l : List (KeyPart × ℕ)). IsTrue (list_all (test_of next) l)) (sym (zip_one part parts rest one))
    (and_from (is_stamp next part 0) (list_all (test_of next) (zip parts (stamps_off parts rest))) (stamp_one_fits next part one) h)

unfit_many : (next : ℕ) (part : KeyPart) (parts : List KeyPart) (rest : List ℕ) → has_duplicates part ≡ true → Fit next (part ∷ parts) rest
    → (is_stamp next part (big_number 8 rest) ≡ true) × Fit next parts (drop 8 rest)
unfit_many next part parts rest many h =
    and_parts (is_stamp next part (big_number 8 rest)) (list_all (test_of next) (zip parts (stamps_off parts (drop 8 rest))))
    (subst (λ (l : List (KeyPart × ℕ)). IsTrue (list_all (test_of next) l)) (zip_many part parts rest many) h)

unfit_one : (next : ℕ) (part : KeyPart) (parts : List KeyPart) (rest : List ℕ) → has_duplicates part ≡ false → Fit next (part ∷ parts) rest → Fit next parts rest
unfit_one next part parts rest one h =
    (and_parts (is_stamp next part 0) (list_all (test_of next) (zip parts (stamps_off parts rest)))
    (subst (λ (l : List (KeyPart × ℕ)). IsTrue (list_all (test_of next) l)) (zip_one part parts rest one) h)).1

-- a stamp of a duplicates key
stamp_within : (next s : ℕ) (part : KeyPart) → has_duplicates part ≡ true → is_stamp next part s ≡ true → (1 ≤ s) × (s < next)
stamp_within next s part many is =
    let both = and_parts (nat_le 1 s) (nat_lt s next) (rw many at is) in
    (leb-true 1 s both.0, ltb-true s next both.1)

module _ (next : ℕ) (parts : List KeyPart) (bytes : List ℕ) (i : ℕ) (d : KeyPart) (rest : List ℕ) (within : i < length parts) (f : FitFront next parts bytes i rest) where
  long_here : stamps_length (slice_index_or parts i d ∷ drop (i + 1) parts) ≤ length rest
  long_here = subst (λ (ps : List KeyPart). stamps_length ps ≤ length rest) (dropped parts d i within) f.long

  pub eight_more : has_duplicates (slice_index_or parts i d) ≡ true → 8 ≤ length rest
  eight_more many = (let l = long_many (slice_index_or parts i d) (drop (i + 1) parts) (length rest) many long_here in omega (arith, l))

  pub front_many : has_duplicates (slice_index_or parts i d) ≡ true → 1 ≤ big_number 8 rest → big_number 8 rest < next → FitFront next parts bytes (i + 1) (drop 8 rest)
  front_many many low high = record {
    long = (let l = long_many (slice_index_or parts i d) (drop (i + 1) parts) (length rest) many long_here in rw length-drop (omega (arith, l)));
    front = λ h. f.front (subst (λ (ps : List KeyPart). Fit next ps rest) (sym (dropped parts d i within)) (fit_many next (slice_index_or parts i d) (drop (i + 1) parts) rest many low high h));
    back = λ h. (unfit_many next (slice_index_or parts i d) (drop (i + 1) parts) rest many (subst (λ (ps : List KeyPart). Fit next ps rest) (dropped parts d i within) (f.back h))).1;
  }

  pub front_one : has_duplicates (slice_index_or parts i d) ≡ false → FitFront next parts bytes (i + 1) rest
  front_one one = record {
    long = long_one (slice_index_or parts i d) (drop (i + 1) parts) (length rest) one long_here;
    front = λ h. f.front (subst (λ (ps : List KeyPart). Fit next ps rest) (sym (dropped parts d i within)) (fit_one next (slice_index_or parts i d) (drop (i + 1) parts) rest one h));
    back = λ h. unfit_one next (slice_index_or parts i d) (drop (i + 1) parts) rest one (subst (λ (ps : List KeyPart). Fit next ps rest) (dropped parts d i within) (f.back h));
  }

  -- where all are such, so is the stamp here
  pub stamp_here : has_duplicates (slice_index_or parts i d) ≡ true → Fit next parts bytes → (1 ≤ big_number 8 rest) × (big_number 8 rest < next)
  stamp_here many h =
      stamp_within next (big_number 8 rest) (slice_index_or parts i d) many
      (unfit_many next (slice_index_or parts i d) (drop (i + 1) parts) rest many (subst (λ (ps : List KeyPart). Fit next ps rest) (dropped parts d i within) (f.back h))).0

pub front_all : (next : ℕ) (parts : List KeyPart) (bytes : List ℕ) (i : ℕ) (rest : List ℕ) → length parts ≤ i → FitFront next parts bytes i rest → Fit next parts bytes
front_all next parts bytes i rest end f = f.front (subst (λ (ps : List KeyPart). Fit next ps rest) (sym (all_dropped parts i end)) refl)

-- ---- the stamp of one part

-- the stamp of part k is that of part k - i among those from part i on, which begin with `rest`
pub record IsBehind (parts : List KeyPart) (bytes : List ℕ) (k i : ℕ) (rest : List ℕ) : Type 0 where
  pub long : stamps_length (drop i parts) ≤ length rest
  pub is : (j : ℕ) → i + j ≡ k → slice_index (stamps_off (drop i parts) rest) j ≡ slice_index (stamps_off parts bytes) k

pub behind_none : (parts : List KeyPart) (bytes : List ℕ) (k : ℕ) → stamps_length parts ≤ length bytes → IsBehind parts bytes k 0 bytes
behind_none parts bytes k long = record { long = long; is = λ j same. (let e : j ≡ k = omega (arith, same) in ap (slice_index (stamps_off parts bytes)) e) }

skip_many : (part : KeyPart) (parts : List KeyPart) (rest : List ℕ) (j : ℕ) → has_duplicates part ≡ true → slice_index (stamps_off (part ∷ parts) rest) (suc j) ≡ slice_index (stamps_off parts (drop 8 rest)) j
skip_many part parts rest j many = rw many refl

skip_one : (part : KeyPart) (parts : List KeyPart) (rest : List ℕ) (j : ℕ) → has_duplicates part ≡ false → slice_index (stamps_off (part ∷ parts) rest) (suc j) ≡ slice_index (stamps_off parts rest) j
skip_one part parts rest j one = rw one refl

first_many : (part : KeyPart) (parts : List KeyPart) (rest : List ℕ) → has_duplicates part ≡ true → slice_index (stamps_off (part ∷ parts) rest) 0 ≡ big_number 8 rest
first_many part parts rest many = rw many refl

first_one : (part : KeyPart) (parts : List KeyPart) (rest : List ℕ) → has_duplicates part ≡ false → slice_index (stamps_off (part ∷ parts) rest) 0 ≡ 0
first_one part parts rest one = rw one refl

module _ (parts : List KeyPart) (bytes : List ℕ) (k i : ℕ) (d : KeyPart) (rest : List ℕ) (within : i < length parts) (b : IsBehind parts bytes k i rest) where
  long_there : stamps_length (slice_index_or parts i d ∷ drop (i + 1) parts) ≤ length rest
  long_there = subst (λ (ps : List KeyPart). stamps_length ps ≤ length rest) (dropped parts d i within) b.long

  pub eight_behind : has_duplicates (slice_index_or parts i d) ≡ true → 8 ≤ length rest
  eight_behind many = (let l = long_many (slice_index_or parts i d) (drop (i + 1) parts) (length rest) many long_there in omega (arith, l))

  on_from : (j : ℕ) → i + 1 + j ≡ k → slice_index (stamps_off (slice_index_or parts i d ∷ drop (i + 1) parts) rest) (suc j) ≡ slice_index (stamps_off parts bytes) k
  on_from j same = ap (λ (ps : List KeyPart). slice_index (stamps_off ps rest) (suc j)) (sym (dropped parts d i within)) ∙ b.is (suc j) (omega (arith, same))

  pub behind_many : has_duplicates (slice_index_or parts i d) ≡ true → IsBehind parts bytes k (i + 1) (drop 8 rest)
  behind_many many = record {
    long = (let l = long_many (slice_index_or parts i d) (drop (i + 1) parts) (length rest) many long_there in rw length-drop (omega (arith, l)));
    is = λ j same. sym (skip_many (slice_index_or parts i d) (drop (i + 1) parts) rest j many) ∙ on_from j same;
  }

  pub behind_one : has_duplicates (slice_index_or parts i d) ≡ false → IsBehind parts bytes k (i + 1) rest
  behind_one one = record {
    long = long_one (slice_index_or parts i d) (drop (i + 1) parts) (length rest) one long_there;
    is = λ j same. sym (skip_one (slice_index_or parts i d) (drop (i + 1) parts) rest j one) ∙ on_from j same;
  }

  here_is : i ≡ k → slice_index (stamps_off (slice_index_or parts i d ∷ drop (i + 1) parts) rest) 0 ≡ slice_index (stamps_off parts bytes) k
  here_is same = ap (λ (ps : List KeyPart). slice_index (stamps_off ps rest) 0) (sym (dropped parts d i within)) ∙ b.is 0 (omega (arith, same))

  pub stamp_many : i ≡ k → has_duplicates (slice_index_or parts i d) ≡ true → big_number 8 rest ≡ slice_index (stamps_off parts bytes) k
  stamp_many same many = sym (first_many (slice_index_or parts i d) (drop (i + 1) parts) rest many) ∙ here_is same

  pub stamp_one : i ≡ k → has_duplicates (slice_index_or parts i d) ≡ false → 0 ≡ slice_index (stamps_off parts bytes) k
  stamp_one same one = sym (first_one (slice_index_or parts i d) (drop (i + 1) parts) rest one) ∙ here_is same

-- what is left behind the first n
pub rest_from : {X : Type 0} (n : ℕ) (xs : List X) → take (length xs - n) (drop n xs) ≡ drop n xs
rest_from n xs = take_all (length xs - n) (drop n xs) (rw length-drop (omega arith))

-- ---- the first parts, so many

pub within_front : (parts : List KeyPart) (n i : ℕ) → i < length (take n parts) → i < length parts
within_front parts n i within = (let few = length-take n parts in omega (arith, within, few))

below_front : (parts : List KeyPart) (n i : ℕ) → i < length (take n parts) → i < n
below_front parts n i within = (let few = length-take n parts in omega (arith, within, few))

pub front_part : (parts : List KeyPart) (n i : ℕ) (d : KeyPart) (many : Bool) → i < length (take n parts) → has_duplicates (slice_index_or (take n parts) i d) ≡ many → has_duplicates (slice_index_or parts i d) ≡ many
front_part parts n i d many within is = ap has_duplicates (sym (get_or-take n parts i d (below_front parts n i within))) ∙ is

pub all_walked : (parts : List KeyPart) (bytes : List ℕ) (k i : ℕ) (rest : List ℕ) → k < length parts → length (take k parts) ≤ i → i ≤ length (take k parts) → IsBehind parts bytes k i rest → IsBehind parts bytes k k rest
all_walked parts bytes k i rest within low high b =
    let whole = length-take-le k parts (omega (arith, within)) in
    let same : i ≡ k = omega (arith, low, high, whole) in
    subst (λ (m : ℕ). IsBehind parts bytes k m rest) same b
