-- Values, and those of them that come twice.
use Rattle.std.proofs.Common.{◌≡◌, ℕ, ◌+◌, ◌<◌, ◌≤◌, Bool, true, false, cond, ◌||◌, List, [], ◌∷◌, ◌++◌, length, refl, sym, ap, subst, ◌∙◌, arith, Ordering}
use Rattle.std.specs.Prelude.{nat_lt, Result, Ok, Err, OnOk}
use Rattle.std.specs.Ordering.{nat_cmp, is_eq, match_ordering}
use Rattle.std.specs.declared.cmp.Ordering.TheVariants.{Less, Equal, Greater}
use Rattle.std.specs.Bool.{one_answer}
use Rattle.std.specs.Str.{bytes_eq}
use Rattle.std.specs.List.{sum_by, list_any}
use Rattle.std.specs.BTreeMap.{is_at}
use Rattle.std.specs.Cmp.Lexicographic.{slice_cmp}
use Rattle.std.specs.BTreeSet.{BTreeSet, btree_set_len, insert_key}
use Rattle.std.specs.Global.{Vec}
use Rattle.std.proofs.lemmas.Bool.{false≢true, lt-ltb, le-ltb, ltb-true, ltb-false}
use Rattle.std.proofs.lemmas.List.Sums.{sum_by-append, sum_by-cons}
use Rattle.std.proofs.lemmas.Map.Text.{is_eq-slice_cmp}
use Rattle.std.proofs.lemmas.Slice.Eq.{bytes_eq-Decides}
use Rattle.salvaged_records.specs.Values.{times, is_in_set, AddsValue, AddsValues, NotesValue}

-- one value more
pub times_more : (values : List (List ℕ)) (value other : List ℕ) → times (values ++ value ∷ []) other ≡ times values other + cond (bytes_eq value other) 1 0
times_more values value other =
    let f : List ℕ → ℕ = λ v. cond (bytes_eq v other) 1 0 in
    let both : times (values ++ value ∷ []) other ≡ times values other + sum_by f (value ∷ []) = sum_by-append f values (value ∷ []) in
    let one : sum_by f (value ∷ []) ≡ cond (bytes_eq value other) 1 0 + sum_by f [] = sum_by-cons f value [] in
    let none : sum_by f [] ≡ 0 = refl in
    omega (arith, both, one, none)

-- whether it comes then
one_comes : (yes had : Bool) (n m : ℕ) → had ≡ nat_lt 0 n → m ≡ n + cond yes 1 0 → cond yes true had ≡ nat_lt 0 m
one_comes true had n m h e = sym (lt-ltb 0 m (omega (arith, e)))
one_comes false had n m h e = let same : n ≡ m = omega (arith, e) in h ∙ ap (λ (k : ℕ). nat_lt 0 k) same

-- whether it comes twice, where it did not come before, and where it did
fresh : (yes : Bool) (n m : ℕ) → m ≡ n + cond yes 1 0 → (yes ≡ true → n ≡ 0) → nat_lt 1 n ≡ nat_lt 1 m
fresh true n m e none = let z = none refl in le-ltb 1 n (omega (arith, z)) ∙ sym (le-ltb 1 m (omega (arith, e, z)))
fresh false n m e none = let same : n ≡ m = omega (arith, e) in ap (λ (k : ℕ). nat_lt 1 k) same

again : (yes had : Bool) (n m : ℕ) → had ≡ nat_lt 1 n → m ≡ n + cond yes 1 0 → (yes ≡ true → 0 < n) → cond yes true had ≡ nat_lt 1 m
again true had n m h e some = let s = some refl in sym (lt-ltb 1 m (omega (arith, e, s)))
again false had n m h e some = let same : n ≡ m = omega (arith, e) in h ∙ ap (λ (k : ℕ). nat_lt 1 k) same

-- a value that came before comes again
comes_again : (yes had : Bool) (n m : ℕ) → had ≡ nat_lt 0 n → m ≡ n + cond yes 1 0 → (yes ≡ true → 0 < n) → had ≡ nat_lt 0 m
comes_again true had n m h e some = let s = some refl in h ∙ lt-ltb 0 n s ∙ sym (lt-ltb 0 m (omega (arith, e, s)))
comes_again false had n m h e some = let same : n ≡ m = omega (arith, e) in h ∙ ap (λ (k : ℕ). nat_lt 0 k) same

-- a set with one value more
or_more : (a b c : Bool) → (b || (a || c)) ≡ (a || (b || c))
or_more true true c = refl
or_more true false c = refl
or_more false true c = refl
or_more false false c = refl

or_known : (a b c : Bool) → a ≡ b → (b || c) ≡ (a || (b || c))
or_known true true c is = refl
or_known false false c is = refl
or_known true false c is = absurd (false≢true (sym is))
or_known false true c is = absurd (false≢true is)

inserted_at : (o : Ordering) (p : Vec ℕ → Bool) (key x : Vec ℕ) (xs rest : List (Vec ℕ)) → (is_eq o ≡ true → p key ≡ p x) → list_any p rest ≡ (p key || list_any p xs)
    → list_any p (match_ordering o (key ∷ x ∷ xs) (x ∷ xs) (x ∷ rest)) ≡ (p key || list_any p (x ∷ xs))
inserted_at Less p key x xs rest same is = refl
inserted_at Equal p key x xs rest same is = or_known (p key) (p x) (list_any p xs) (same refl)
inserted_at Greater p key x xs rest same is = ap (λ (b : Bool). p x || b) is ∙ or_more (p key) (p x) (list_any p xs)

inserted : (p : Vec ℕ → Bool) (key : Vec ℕ) (keys : List (Vec ℕ)) → ((x : Vec ℕ) → is_eq (slice_cmp nat_cmp key.items x.items) ≡ true → p key ≡ p x)
    → list_any p (insert_key (λ (x : Vec ℕ) (y : Vec ℕ). slice_cmp nat_cmp x.items y.items) keys key) ≡ (p key || list_any p keys)
inserted p key [] same = refl
inserted p key (x ∷ xs) same =
    inserted_at (slice_cmp nat_cmp key.items x.items) p key x xs (insert_key (λ (x : Vec ℕ) (y : Vec ℕ). slice_cmp nat_cmp x.items y.items) xs key) (same x) (inserted p key xs same)

eq_same : (a b other : List ℕ) → is_eq (slice_cmp nat_cmp a b) ≡ true → is_eq (slice_cmp nat_cmp other a) ≡ is_eq (slice_cmp nat_cmp other b)
eq_same a b other is = ap (λ (v : List ℕ). is_eq (slice_cmp nat_cmp other v)) ((bytes_eq-Decides a b).0 (sym (is_eq-slice_cmp a b) ∙ is))

eq_back : (a b : List ℕ) → bytes_eq a b ≡ bytes_eq b a
eq_back a b = one_answer (bytes_eq a b) (bytes_eq b a) (bytes_eq-Decides a b) ((λ is. sym ((bytes_eq-Decides b a).0 is)), (λ is. (bytes_eq-Decides b a).1 (sym is)))

pub value_added : (key : Vec ℕ) (value : List ℕ) (old new : BTreeSet (Vec ℕ)) → new.keys ≡ insert_key (λ (x : Vec ℕ) (y : Vec ℕ). slice_cmp nat_cmp x.items y.items) old.keys key → key.items ≡ value
    → AddsValue old new value
value_added key value old new keys is other =
    ap (λ (ks : List (Vec ℕ)). list_any (is_at (λ (k : Vec ℕ). slice_cmp nat_cmp other k.items)) ks) keys
    ∙ inserted (is_at (λ (k : Vec ℕ). slice_cmp nat_cmp other k.items)) key old.keys (λ x same. eq_same key.items x.items other same)
    ∙ ap (λ (b : Bool). b || is_in_set old other) (is_eq-slice_cmp other key.items ∙ ap (λ (v : List ℕ). bytes_eq other v) is ∙ eq_back other value)

or_cond : (a b : Bool) → (a || b) ≡ cond a true b
or_cond true b = refl
or_cond false b = refl

in_added : (value : List ℕ) (old new : BTreeSet (Vec ℕ)) → AddsValue old new value → (other : List ℕ) → is_in_set new other ≡ cond (bytes_eq value other) true (is_in_set old other)
in_added value old new adds other = adds other ∙ or_cond (bytes_eq value other) (is_in_set old other)

pub added : (value : List ℕ) (old new : BTreeSet (Vec ℕ)) → AddsValue old new value → AddsValues old new (value ∷ [])
added value old new adds values known other =
    in_added value old new adds other
    ∙ one_comes (bytes_eq value other) (is_in_set old other) (times values other) (times (values ++ value ∷ []) other) (known other) (times_more values value other)

-- a value that did not come before is noted
noted_first : (value : List ℕ) (seen seen_after twice : BTreeSet (Vec ℕ)) → AddsValue seen seen_after value → is_in_set seen value ≡ false → NotesValue value seen seen_after twice twice
noted_first value seen seen_after twice adds new values has doubles =
    let absent : nat_lt 0 (times values value) ≡ false = sym (has value) ∙ new in
    let none : times values value ≤ 0 = ltb-false 0 (times values value) absent in (
      added value seen seen_after adds values has,
      λ other. doubles other ∙ fresh (bytes_eq value other) (times values other) (times (values ++ value ∷ []) other) (times_more values value other)
          (λ same. let zero : times values value ≡ 0 = omega (arith, none) in subst (λ (v : List ℕ). times values v ≡ 0) ((bytes_eq-Decides value other).0 same) zero),
    )

-- one that came before is noted as one that came twice
noted_again : (value : List ℕ) (seen twice twice_after : BTreeSet (Vec ℕ)) → AddsValue twice twice_after value → is_in_set seen value ≡ true → NotesValue value seen seen twice twice_after
noted_again value seen twice twice_after adds old values has doubles =
    let there : nat_lt 0 (times values value) ≡ true = sym (has value) ∙ old in
    let some : 0 < times values value = ltb-true 0 (times values value) there in
    let where_same : (other : List ℕ) → bytes_eq value other ≡ true → 0 < times values other =
    λ other same. subst (λ (v : List ℕ). 0 < times values v) ((bytes_eq-Decides value other).0 same) some in (
      λ other. comes_again (bytes_eq value other) (is_in_set seen other) (times values other) (times (values ++ value ∷ []) other) (has other) (times_more values value other) (where_same other),
      λ other. in_added value twice twice_after adds other
          ∙ again (bytes_eq value other) (is_in_set twice other) (times values other) (times (values ++ value ∷ []) other) (doubles other) (times_more values value other) (where_same other),
    )

pub noted_new : {E : Type 0} (result : Result Unit E) (value : List ℕ) (seen seen_after twice : BTreeSet (Vec ℕ)) → OnOk result (AddsValue seen seen_after value) → is_in_set seen value ≡ false
    → OnOk result (NotesValue value seen seen_after twice twice)
noted_new (Ok done) value seen seen_after twice adds new = noted_first value seen seen_after twice adds new
noted_new (Err fault) value seen seen_after twice adds new = tt

pub noted_old : {E : Type 0} (result : Result Unit E) (value : List ℕ) (seen twice twice_after : BTreeSet (Vec ℕ)) → OnOk result (AddsValue twice twice_after value) → is_in_set seen value ≡ true
    → OnOk result (NotesValue value seen seen twice twice_after)
noted_old (Ok done) value seen twice twice_after adds old = noted_again value seen twice twice_after adds old
noted_old (Err fault) value seen twice twice_after adds old = tt

-- an empty set has no value
none_in : (keys : List (Vec ℕ)) → length keys ≡ 0 → (value : List ℕ) → list_any (is_at (λ (key : Vec ℕ). slice_cmp nat_cmp value key.items)) keys ≡ false
none_in [] none value = refl
none_in (key ∷ keys) none value = absurd (omega (arith, none))

pub none_in_empty : (set : BTreeSet (Vec ℕ)) → btree_set_len set ≡ 0 → (value : List ℕ) → is_in_set set value ≡ false
none_in_empty set none value = none_in set.keys none value
