-- Values that are sifted, one more and none.
use Rattle.std.proofs.Common.{◌≡◌, ℕ, ◌+◌, ◌*◌, Bool, true, false, cond, ◌||◌, ◌&&◌, List, [], ◌∷◌, ◌++◌, length, refl, sym, subst, ◌∙◌, arith}
use Rattle.std.specs.Prelude.{nat_lt}
use Rattle.std.specs.BTreeSet.{BTreeSet}
use Rattle.std.specs.Global.{Vec}
use Rattle.std.specs.Str.{bytes_eq}
use Rattle.std.proofs.lemmas.Bool.{false≢true, lt-ltb, ltb-true}
use Rattle.std.proofs.lemmas.Slice.Eq.{bytes_eq-Decides}
use Rattle.salvaged_records.proofs.FilterLemmas.{and_true, left_of, right_of}
use Rattle.salvaged_records.proofs.ValueLemmas.{times_more}
use Rattle.salvaged_records.specs.Filter.{MeetsNumber, bit_by, has_marks, is_marked, may_have, filter_number}
use Rattle.salvaged_records.specs.Sifting.{IsSifted}
use Rattle.salvaged_records.specs.Values.{AddsValue, comes, comes_twice, is_in_set, times}

-- what was marked stays marked
still : (old new : List ℕ) (number other : ℕ) (answer : Bool) → MeetsNumber old new number answer → has_marks old other ≡ true → has_marks new other ≡ true
still old new number other answer meets had =
    let f = bit_by 11400714819323198485 other (64 * length old) in
    let s = bit_by 14181476777654086739 other (64 * length old) in
    let t = bit_by 9650029242287828579 other (64 * length old) in
    let rest = right_of (is_marked old f) (is_marked old s && is_marked old t) had in
    let here : (is_marked new f && (is_marked new s && is_marked new t)) ≡ true =
    and_true (is_marked new f) (is_marked new s && is_marked new t) (meets.keeps f (left_of (is_marked old f) (is_marked old s && is_marked old t) had))
    (and_true (is_marked new s) (is_marked new t) (meets.keeps s (left_of (is_marked old s) (is_marked old t) rest)) (meets.keeps t (right_of (is_marked old s) (is_marked old t) rest))) in
    subst (λ (m : ℕ). (is_marked new (bit_by 11400714819323198485 other (64 * m)) && (is_marked new (bit_by 14181476777654086739 other (64 * m)) && is_marked new (bit_by 9650029242287828579 other (64 * m)))) ≡ true)
    (sym meets.long) here

-- another value does not come by one more, and one that comes twice then came before
no_other : (same : Bool) (n m k : ℕ) → m ≡ n + cond same 1 0 → same ≡ false → nat_lt k m ≡ true → nat_lt k n ≡ true
no_other true n m k is other more = absurd (false≢true (sym other))
no_other false n m k is other more = let same : m ≡ n = omega (arith, is) in subst (λ (x : ℕ). nat_lt k x ≡ true) same more

came : (same : Bool) (n m : ℕ) → m ≡ n + cond same 1 0 → nat_lt 1 m ≡ true → nat_lt 0 n ≡ true
came true n m is more = let twice = ltb-true 1 m more in lt-ltb 0 n (omega (arith, is, twice))
came false n m is more = let twice = ltb-true 1 m more in lt-ltb 0 n (omega (arith, is, twice))

or_in : (a b : Bool) → b ≡ true → (a || b) ≡ true
or_in true b is = refl
or_in false b is = is

or_left : (a b : Bool) → a ≡ true → (a || b) ≡ true
or_left true b is = refl
or_left false b is = absurd (false≢true is)

-- each value that was met, and one more
met_one : (old new : List ℕ) (candidates : BTreeSet (Vec ℕ)) (values : List (List ℕ)) (value : List ℕ) (answer : Bool) → MeetsNumber old new (filter_number value) answer → IsSifted old candidates values
    → (other : List ℕ) → comes (values ++ value ∷ []) other ≡ true → may_have new other ≡ true
met_one old new candidates values value answer meets is other more = go (bytes_eq value other) refl
  where
    go : (same : Bool) → bytes_eq value other ≡ same → may_have new other ≡ true
    go true e = subst (λ (v : List ℕ). may_have new v ≡ true) ((bytes_eq-Decides value other).0 e) meets.met
    go false e = still old new (filter_number value) (filter_number other) answer meets
        (is.met other (no_other (bytes_eq value other) (times values other) (times (values ++ value ∷ []) other) 0 (times_more values value other) e more))

-- a value was sifted that may have been met before
pub sifted_again : (old new : List ℕ) (candidates after : BTreeSet (Vec ℕ)) (value : List ℕ) (answer : Bool) → MeetsNumber old new (filter_number value) answer → AddsValue candidates after value
    → (values : List (List ℕ)) → IsSifted old candidates values → IsSifted new after (values ++ value ∷ [])
sifted_again old new candidates after value answer meets adds values is = record {
  met = met_one old new candidates values value answer meets is;
  found = λ other more. go other more (bytes_eq value other) refl;
}
  where
    go : (other : List ℕ) → comes_twice (values ++ value ∷ []) other ≡ true → (same : Bool) → bytes_eq value other ≡ same → is_in_set after other ≡ true
    go other more true e = adds other ∙ or_left (bytes_eq value other) (is_in_set candidates other) e
    go other more false e = adds other
        ∙ or_in (bytes_eq value other) (is_in_set candidates other) (is.found other (no_other (bytes_eq value other) (times values other) (times (values ++ value ∷ []) other) 1 (times_more values value other) e more))

-- a value was sifted that was not met before
pub sifted_first : (old new : List ℕ) (candidates : BTreeSet (Vec ℕ)) (value : List ℕ) (answer : Bool) → MeetsNumber old new (filter_number value) answer → answer ≡ false
    → (values : List (List ℕ)) → IsSifted old candidates values → IsSifted new candidates (values ++ value ∷ [])
sifted_first old new candidates value answer meets first values is = record {
  met = met_one old new candidates values value answer meets is;
  found = λ other more. go other more (bytes_eq value other) refl;
}
  where
    go : (other : List ℕ) → comes_twice (values ++ value ∷ []) other ≡ true → (same : Bool) → bytes_eq value other ≡ same → is_in_set candidates other ≡ true
    go other more true e =
        let before : comes values other ≡ true = came (bytes_eq value other) (times values other) (times (values ++ value ∷ []) other) (times_more values value other) more in
        let here = subst (λ (v : List ℕ). comes values v ≡ true) (sym ((bytes_eq-Decides value other).0 e)) before in
        absurd (false≢true (sym first ∙ meets.before (is.met value here)))
    go other more false e = is.found other (no_other (bytes_eq value other) (times values other) (times (values ++ value ∷ []) other) 1 (times_more values value other) e more)

-- nothing was sifted yet
pub none_sifted : (words : List ℕ) (candidates : BTreeSet (Vec ℕ)) → IsSifted words candidates []
none_sifted words candidates = record { met = λ value comes. absurd (false≢true comes); found = λ value twice. absurd (false≢true twice) }
