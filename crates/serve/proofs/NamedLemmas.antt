-- What names stand for among units with names that differ.
use Rattle.std.proofs.Common.{◌≡◌, ◌≢◌, ℕ, zero, suc, ◌<◌, ◌||◌, Bool, true, false, List, [], ◌∷◌, ◌++◌, map, length, slice_set, slice_index_or, bytes_eq, refl, sym, ap, subst, ◌∙◌, arith, if◌then◌else◌}
use Rattle.std.specs.List.{list_any}
use Rattle.std.proofs.lemmas.Cmp.{nat_list_eq_equiv}
use Rattle.std.proofs.lemmas.Slice.Eq.{bytes_eq-Decides}
use Rattle.indexed_file.specs.World.{World, FileUnit, Named, Absent, Holding, Shut, OnlyAt, name_in, named_in, name_at, named_at, holding_at}
use Rattle.indexed_file.proofs.TestLemmas.{either}
use Rattle.deck_runner.specs.Running.{unit_names}
use Rattle.deck_runner.proofs.FrameLemmas.{names_after}

abbrev no_unit : FileUnit
no_unit = record { name = []; named = Absent; holding = Shut }

-- each of these names is another one than those behind it
abbrev pub AreApart : List (List ℕ) → Type 0
AreApart [] = Unit {0}
AreApart (name ∷ names) = (list_any (λ other. bytes_eq other name) names ≡ false) × AreApart names

or_false : (a b : Bool) → a ≡ false → b ≡ false → (a || b) ≡ false
or_false true b is also = absurd (cc)
or_false false b is also = also

or_left : (a b : Bool) → (a || b) ≡ false → a ≡ false
or_left true b is = absurd (cc)
or_left false b is = refl

or_right : (a b : Bool) → (a || b) ≡ false → b ≡ false
or_right true b is = absurd (cc)
or_right false b is = is

differ_back : (a b : List ℕ) → bytes_eq a b ≡ false → bytes_eq b a ≡ false
differ_back a b miss =
    either (bytes_eq b a) (bytes_eq b a ≡ false)
    (λ yes. let same : b ≡ a = (bytes_eq-Decides b a).0 yes in let hit : bytes_eq a b ≡ true = (bytes_eq-Decides a b).1 (sym same) in absurd (cc))
    (λ other. other)

any_more : (names : List (List ℕ)) (name first : List ℕ) → list_any (λ other. bytes_eq other first) names ≡ false → bytes_eq name first ≡ false
    → list_any (λ other. bytes_eq other first) (names ++ name ∷ []) ≡ false
any_more [] name first none apart = or_false (bytes_eq name first) false apart refl
any_more (other ∷ names) name first none apart =
    or_false (bytes_eq other first) _ (or_left (bytes_eq other first) _ none) (any_more names name first (or_right (bytes_eq other first) _ none) apart)

-- one more name, that none of them is
pub apart_more : (names : List (List ℕ)) (name : List ℕ) → AreApart names → list_any (λ other. bytes_eq other name) names ≡ false → AreApart (names ++ name ∷ [])
apart_more [] name apart new = (refl, tt)
apart_more (first ∷ names) name apart new = (
  any_more names name first apart.0 (differ_back first name (or_left (bytes_eq first name) _ new)),
  apart_more names name apart.1 (or_right (bytes_eq first name) _ new),
)

any_name : (units : List FileUnit) (name : List ℕ) → list_any (λ other. bytes_eq other name) (map (λ (u : FileUnit). u.name) units) ≡ list_any (λ (u : FileUnit). bytes_eq u.name name) units
any_name [] name = refl
any_name (x ∷ units) name = ap (λ (b : Bool). bytes_eq x.name name || b) (any_name units name)

pub new_among_names : (units : List FileUnit) (name : List ℕ) → list_any (λ (u : FileUnit). bytes_eq u.name name) units ≡ false
    → list_any (λ other. bytes_eq other name) (map (λ (u : FileUnit). u.name) units) ≡ false
new_among_names units name new = any_name units name ∙ new

-- the name of a unit is another one than that in front
unlike : (units : List FileUnit) (name : List ℕ) (v : ℕ) → list_any (λ other. bytes_eq other name) (map (λ (u : FileUnit). u.name) units) ≡ false → v < length units
    → bytes_eq (slice_index_or units v no_unit).name name ≡ false
unlike [] name v none within = absurd (omega (arith, within))
unlike (x ∷ units) name zero none within = or_left (bytes_eq x.name name) _ none
unlike (x ∷ units) name (suc v) none within = unlike units name v (or_right (bytes_eq x.name name) _ none) (omega (arith, within))

-- a unit's name stands for what the unit says
pub name_here : (units : List FileUnit) (elsewhere : List ℕ → Named) (u : ℕ) → AreApart (map (λ (x : FileUnit). x.name) units) → u < length units
    → name_in units elsewhere (slice_index_or units u no_unit).name ≡ (slice_index_or units u no_unit).named
name_here [] elsewhere u apart within = absurd (omega (arith, within))
name_here (x ∷ units) elsewhere zero apart within = rw (nat_list_eq_equiv.refl x.name) refl
name_here (x ∷ units) elsewhere (suc u) apart within =
    let other = differ_back _ x.name (unlike units x.name u apart.0 (omega (arith, within))) in
    rw other (name_here units elsewhere u apart.1 (omega (arith, within)))

-- what names stand for where unit u stands for something else
name_set : (units : List FileUnit) (elsewhere : List ℕ → Named) (u : ℕ) (n : Named) (h : Holding) (name : List ℕ) → AreApart (map (λ (x : FileUnit). x.name) units) → u < length units
    → name_in (slice_set units u (record { name = (slice_index_or units u no_unit).name; named = n; holding = h })) elsewhere name
    ≡ (if bytes_eq (slice_index_or units u no_unit).name name then n else name_in units elsewhere name)
name_set [] elsewhere u n h name apart within = absurd (omega (arith, within))
name_set (x ∷ units) elsewhere zero n h name apart within =
    either (bytes_eq x.name name)
    (name_in (slice_set (x ∷ units) 0 (record { name = x.name; named = n; holding = h })) elsewhere name ≡ (if bytes_eq x.name name then n else name_in (x ∷ units) elsewhere name))
    (λ yes. rw yes refl)
    (λ miss. rw miss refl)
name_set (x ∷ units) elsewhere (suc u) n h name apart within =
    let here : List ℕ = (slice_index_or units u no_unit).name in
    let differ : bytes_eq here x.name ≡ false = unlike units x.name u apart.0 (omega (arith, within)) in
    let rest = name_set units elsewhere u n h name apart.1 (omega (arith, within)) in
    either (bytes_eq x.name name)
    (name_in (slice_set (x ∷ units) (suc u) (record { name = here; named = n; holding = h })) elsewhere name ≡ (if bytes_eq here name then n else name_in (x ∷ units) elsewhere name))
    (λ yes.
    let same : x.name ≡ name = (bytes_eq-Decides x.name name).0 yes in
    let not_here : bytes_eq here name ≡ false = ap (bytes_eq here) (sym same) ∙ differ in
    rw (yes, not_here) refl)
    (λ miss. rw miss rest)

module _ (old new : World) (u : ℕ) (only : OnlyAt u old new) where
  pub apart_after : AreApart (unit_names old) → AreApart (unit_names new)
  apart_after apart = subst AreApart (sym (names_after old new u only)) apart

  pub named_after : AreApart (unit_names old) → u < length old.units → (name : List ℕ)
      → named_in new name ≡ (if bytes_eq (name_at old u) name then named_at new u else named_in old name)
  named_after apart within name =
      ap (λ (w : World). named_in w name) only
      ∙ name_set old.units old.elsewhere u (named_at new u) (holding_at new u) name apart within
