-- Marks of a filter, which are never taken away.
use Rattle.std.proofs.Common.{◌≡◌, ℕ, ◌+◌, ◌*◌, ◌<◌, ◌≤◌, ◌==◌, ◌&&◌, Bool, true, false, List, length, drop, get_or, refl, sym, ap, subst, ◌∙◌}
use Rattle.std.specs.Prelude.{◌≢◌}
use Rattle.std.proofs.lemmas.Bool.{false≢true}
use Rattle.std.proofs.lemmas.Bool.Decides.{Decides-eqb}
use Rattle.std.proofs.lemmas.List.{drop_all, drop_more}
use Rattle.salvaged_records.specs.Filter.{KeepsMarks, MeetsNumber, bit_by, is_marked, number_from, number_with}

-- a bit was marked, and no other changed
keeps_at : (same : Bool) (old new : List ℕ) (i j : ℕ) → (j == i) ≡ same → is_marked new i ≡ true → ((k : ℕ) → k ≢ i → is_marked new k ≡ is_marked old k) → is_marked old j ≡ true → is_marked new j ≡ true
keeps_at true old new i j is here others had = subst (λ (k : ℕ). is_marked new k ≡ true) (sym ((Decides-eqb j i).0 is)) here
keeps_at false old new i j is here others had = others j (λ same. false≢true (sym is ∙ (Decides-eqb j i).1 same)) ∙ had

pub keeps_marks : (old new : List ℕ) (i : ℕ) → is_marked new i ≡ true → ((k : ℕ) → k ≢ i → is_marked new k ≡ is_marked old k) → KeepsMarks old new
keeps_marks old new i here others j had = keeps_at (j == i) old new i j refl here others had

-- three bits were marked, one after another
pub and_true : (a b : Bool) → a ≡ true → b ≡ true → (a && b) ≡ true
and_true a b is too = ap (λ (x : Bool). x && b) is ∙ too

pub left_of : (a b : Bool) → (a && b) ≡ true → a ≡ true
left_of true b is = refl
left_of false b is = is

pub right_of : (a b : Bool) → (a && b) ≡ true → b ≡ true
right_of true b is = is
right_of false b is = absurd (false≢true is)

pub three_met : (old one two new : List ℕ) (number i j k : ℕ) (answer : Bool) → i ≡ bit_by 11400714819323198485 number (64 * length old) → j ≡ bit_by 14181476777654086739 number (64 * length old)
    → k ≡ bit_by 9650029242287828579 number (64 * length old) → is_marked one i ≡ true → is_marked two j ≡ true → is_marked new k ≡ true → KeepsMarks old one → KeepsMarks one two → KeepsMarks two new
    → length new ≡ length old → answer ≡ (is_marked old i && (is_marked one j && is_marked two k)) → MeetsNumber old new number answer
three_met old one two new number i j k answer is_i is_j is_k first second third keep_one keep_two keep_new long so =
    let f = bit_by 11400714819323198485 number (64 * length old) in
    let s = bit_by 14181476777654086739 number (64 * length old) in
    let t = bit_by 9650029242287828579 number (64 * length old) in
    let here : (is_marked new f && (is_marked new s && is_marked new t)) ≡ true =
    and_true (is_marked new f) (is_marked new s && is_marked new t) (subst (λ (x : ℕ). is_marked new x ≡ true) is_i (keep_new i (keep_two i first)))
    (and_true (is_marked new s) (is_marked new t) (subst (λ (x : ℕ). is_marked new x ≡ true) is_j (keep_new j second)) (subst (λ (x : ℕ). is_marked new x ≡ true) is_k third)) in
    record {
      before = λ had.
          let at_i = left_of (is_marked old f) (is_marked old s && is_marked old t) had in
          let rest = right_of (is_marked old f) (is_marked old s && is_marked old t) had in
          let at_j = left_of (is_marked old s) (is_marked old t) rest in
          let at_k = right_of (is_marked old s) (is_marked old t) rest in
          so ∙ and_true (is_marked old i) (is_marked one j && is_marked two k) (subst (λ (x : ℕ). is_marked old x ≡ true) (sym is_i) at_i)
          (and_true (is_marked one j) (is_marked two k) (keep_one j (subst (λ (x : ℕ). is_marked old x ≡ true) (sym is_j) at_j))
          (keep_two k (keep_one k (subst (λ (x : ℕ). is_marked old x ≡ true) (sym is_k) at_k))));
      met = subst (λ (m : ℕ). (is_marked new (bit_by 11400714819323198485 number (64 * m)) && (is_marked new (bit_by 14181476777654086739 number (64 * m)) && is_marked new (bit_by 9650029242287828579 number (64 * m)))) ≡ true)
          (sym long) here;
      keeps = λ x had. keep_new x (keep_two x (keep_one x had));
      long = long;
    }

-- the number of a value with one byte more
pub byte_more : (number : ℕ) (value : List ℕ) (i : ℕ) (d : ℕ) → i < length value → number_from (number_with number (get_or value i d)) (drop (i + 1) value) ≡ number_from number (drop i value)
byte_more number value i d within = sym (ap (number_from number) (drop_more value i d within))

pub all_numbered : (number : ℕ) (value : List ℕ) (i : ℕ) → length value ≤ i → number ≡ number_from number (drop i value)
all_numbered number value i past = sym (ap (number_from number) (drop_all i value past))
