-- The groups that are read are the groups that there are.
use Rattle.std.proofs.Common.{◌≡◌, ℕ, zero, suc, ◌+◌, ◌<◌, ◌≤◌, Bool, true, false, ◌&&◌, ◌⊎◌, cond, eqb, ltb, List, [], ◌∷◌, ◌++◌, length, take, drop, sum, get_or, Option, Some, None, refl, sym, ap, ◌∙◌, subst, inl, inr, arith, rules, append_assoc}
use Rattle.std.proofs.Math.Numerals.{one-add}
use Rattle.std.specs.Option.{option_map}
use Rattle.std.specs.Borrow.{Bor}
use Rattle.std.specs.List.{list_all, prefix_len}
use Rattle.std.specs.Char.{is_ascii_digit}
use Rattle.std.proofs.lemmas.Option.{some_pair_parts, same_Some}
use Rattle.std.proofs.lemmas.Grind.{common_steps}
use Rattle.std.proofs.lemmas.Bool.{false≢true, eqb-true, ltb-true}
use Rattle.std.proofs.lemmas.Bool.Decides.{nat_tests}
use Rattle.record_layout.specs.declared.picture.Picture.{Picture}
use Rattle.record_layout.specs.Picture.{number, IsGroup, AreGroups, Means, IsPicture}
use Rattle.record_layout.specs.Reading.{behind_close, size_at, behind_symbol, is_symbol, group_at, capped_size, IsCappedCut}

both_true : (a b : Bool) → (a && b) ≡ true → (a ≡ true) × (b ≡ true)
both_true true b e = (refl, e)
both_true false b e = absurd (false≢true e)

-- a list goes on with no opening parenthesis
abbrev NoOpen : List ℕ → Type 0
NoOpen [] = Unit {0}
NoOpen (b ∷ rest) = eqb b 40 ≡ false

symbol_no_open : (numeric : Bool) (b : ℕ) → is_symbol numeric b ≡ true → eqb b 40 ≡ false
symbol_no_open true b e = grind (arith, nat_tests)
symbol_no_open false b e = grind (arith, nat_tests)

groups_no_open : (numeric : Bool) (bytes sizes : List ℕ) → AreGroups numeric bytes sizes → NoOpen bytes
groups_no_open numeric bytes [] g = subst NoOpen (sym g) tt
groups_no_open numeric bytes (n ∷ sizes) g = no_open_front numeric g.0 g.1 n bytes g.2 g.3
  where
    no_open_front : (numeric : Bool) (group rest : List ℕ) (n : ℕ) (bytes : List ℕ) → bytes ≡ group ++ rest → IsGroup numeric group n → NoOpen bytes
    no_open_front numeric [] rest n bytes e h = absurd h
    no_open_front numeric (b ∷ group) rest n bytes e h = subst NoOpen (sym e) (symbol_no_open numeric b h.0)

digits_front : (digits rest : List ℕ) → list_all is_ascii_digit digits ≡ true → prefix_len is_ascii_digit (digits ++ 41 ∷ rest) ≡ length digits
digits_front [] rest e = refl
digits_front (b ∷ digits) rest e = let p = both_true (is_ascii_digit b) (list_all is_ascii_digit digits) e in rw (p.0, digits_front digits rest p.1) (omega arith)

take_front : (run rest : List ℕ) → take (length run) (run ++ rest) ≡ run
take_front [] rest = refl
take_front (b ∷ run) rest = ap (λ (r : List ℕ). b ∷ r) (take_front run rest)

drop_front : (run rest : List ℕ) → drop (length run) (run ++ rest) ≡ rest
drop_front [] rest = refl
drop_front (b ∷ run) rest = drop_front run rest

positive : (n : ℕ) → 0 < n → ltb 0 n ≡ true
positive n h = grind (arith, nat_tests)

size_complete : (digits rest : List ℕ) → list_all is_ascii_digit digits ≡ true → 0 < number digits → size_at (digits ++ 41 ∷ rest) ≡ Some (number digits, rest)
size_complete digits rest e h =
    rw (digits_front digits rest e, take_front digits (41 ∷ rest), drop_front digits (41 ∷ rest), positive (number digits) h)

-- what stands behind a symbol, for n characters
abbrev Behind : List ℕ → ℕ → Type 0
Behind rest n = ((rest ≡ []) × (n ≡ 1)) ⊎ ((digits : List ℕ) × (rest ≡ 40 ∷ digits ++ 41 ∷ []) × (list_all is_ascii_digit digits ≡ true) × (0 < length digits) × (n ≡ number digits) × (0 < n))

behind_plain : (rest : List ℕ) → NoOpen rest → behind_symbol rest ≡ Some (1, rest)
behind_plain [] stops = refl
behind_plain (b ∷ rest) stops = rw stops

behind_complete : (group rest : List ℕ) (n : ℕ) → Behind group n → NoOpen rest → behind_symbol (group ++ rest) ≡ Some (n, rest)
behind_complete group rest n h stops = elim h [
  | inl a ↦ ap (λ (g : List ℕ). behind_symbol (g ++ rest)) a.0 ∙ (behind_plain rest stops ∙ ap (λ (m : ℕ). Some (m, rest)) (sym a.1))
  | inr a ↦
      let size = size_complete a.0 rest a.2 (subst (λ m. 0 < m) a.4 a.5) in
      ap (λ (g : List ℕ). behind_symbol (g ++ rest)) a.1 ∙ (ap size_at (append_assoc a.0 (41 ∷ []) rest) ∙ (size ∙ ap (λ (m : ℕ). Some (m, rest)) (sym a.4)))
]

-- a group is read where groups follow
pub group_complete : (numeric : Bool) (group rest : List ℕ) (n : ℕ) → IsGroup numeric group n → NoOpen rest → group_at numeric (group ++ rest) ≡ Some (n, rest)
group_complete numeric [] rest n h stops = absurd h
group_complete numeric (b ∷ group) rest n h stops = rw h.0 (behind_complete group rest n h.1 stops)

then_some : {A : Type 0} (b : Bool) (o : Option A) (y : A) → cond b o None ≡ Some y → (b ≡ true) × (o ≡ Some y)
then_some true o y e = (refl, e)
then_some false o y e = absurd (cc)

map_some : {A B : Type 0} (f : A → B) (o : Option A) (y : B) → option_map f o ≡ Some y → (x : A) × (o ≡ Some x) × (f x ≡ y)
map_some f None y e = absurd (cc)
map_some f (Some x) y e = (x, refl, cc)

joined : (n : ℕ) (xs : List ℕ) → take n xs ++ drop n xs ≡ xs
joined zero xs = refl
joined (suc n) [] = refl
joined (suc n) (x ∷ xs) = ap (λ (r : List ℕ). x ∷ r) (joined n xs)

front_digits : (bytes : List ℕ) → list_all is_ascii_digit (take (prefix_len is_ascii_digit bytes) bytes) ≡ true
front_digits [] = refl
front_digits (b ∷ bytes) =
    elim (is_ascii_digit b) as (λ v. is_ascii_digit b ≡ v → list_all is_ascii_digit (take (cond v (1 + prefix_len is_ascii_digit bytes) 0) (b ∷ bytes)) ≡ true) [
      | true ↦ λ e. rw (one-add, e) (front_digits bytes)
      | false ↦ λ e. refl
    ] refl

some_digits : (digits : List ℕ) → 0 < number digits → 0 < length digits
some_digits [] h = absurd (omega (arith, h))
some_digits (d ∷ digits) h = omega arith

behind_close_sound : (bytes rest : List ℕ) → behind_close bytes ≡ Some rest → bytes ≡ 41 ∷ rest
behind_close_sound [] rest e = absurd (cc)
behind_close_sound (b ∷ bytes) rest e =
    let p = then_some (eqb b 41) (Some bytes) rest e in rw (eqb-true b 41 p.0) (ap (λ (r : List ℕ). 41 ∷ r) (same_Some bytes rest p.1))

size_sound : (bytes : List ℕ) (n : ℕ) (rest : List ℕ) → size_at bytes ≡ Some (n, rest) → (digits : List ℕ) × (bytes ≡ digits ++ 41 ∷ rest) × (list_all is_ascii_digit digits ≡ true) × (0 < length digits) × (n ≡ number digits) × (0 < n)
size_sound bytes n rest e =
    let end : ℕ = prefix_len is_ascii_digit bytes in
    let p = then_some {A = ℕ × List ℕ} (ltb 0 (number (take end bytes))) (option_map (λ r. (number (take end bytes), r)) (behind_close (drop end bytes))) (n, rest) e in
    let m = map_some {B = ℕ × List ℕ} (λ r. (number (take end bytes), r)) (behind_close (drop end bytes)) (n, rest) p.1 in
    let close = behind_close_sound (drop end bytes) m.0 m.1 in
    let some = ltb-true 0 (number (take end bytes)) p.0 in
    let is : number (take end bytes) ≡ n = ap (λ q. q.0) m.2 in
    (take end bytes, sym (joined end bytes) ∙ ap (λ (r : List ℕ). take end bytes ++ r) (close ∙ ap (λ (r : List ℕ). 41 ∷ r) (ap (λ q. q.1) m.2)), front_digits bytes, some_digits (take end bytes) some, sym is, subst (λ m. 0 < m) is some)

behind_sound_by : (c : ℕ) (bytes : List ℕ) (n : ℕ) (rest : List ℕ) (v : Bool) → eqb c 40 ≡ v → cond v (size_at bytes) (Some (1, c ∷ bytes)) ≡ Some (n, rest) → (group : List ℕ) × (c ∷ bytes ≡ group ++ rest) × Behind group n
behind_sound_by c bytes n rest true p e =
    let s = size_sound bytes n rest e in
    (40 ∷ s.0 ++ 41 ∷ [], rw (eqb-true c 40 p) (ap (λ (r : List ℕ). 40 ∷ r) (s.1 ∙ sym (append_assoc s.0 (41 ∷ []) rest))), inr (s.0, refl, s.2, s.3, s.4, s.5))
behind_sound_by c bytes n rest false p e =
    let q = some_pair_parts 1 n (c ∷ bytes) rest e in ([], q.1, inl (refl, sym q.0))

behind_sound : (bytes : List ℕ) (n : ℕ) (rest : List ℕ) → behind_symbol bytes ≡ Some (n, rest) → (group : List ℕ) × (bytes ≡ group ++ rest) × Behind group n
behind_sound [] n rest e = let q = some_pair_parts {B = List ℕ} 1 n [] rest e in ([], q.1, inl (refl, sym q.0))
behind_sound (c ∷ bytes) n rest e = behind_sound_by c bytes n rest (eqb c 40) refl e

pub group_sound : (numeric : Bool) (bytes : List ℕ) (n : ℕ) (rest : List ℕ) → group_at numeric bytes ≡ Some (n, rest) → (group : List ℕ) × (bytes ≡ group ++ rest) × IsGroup numeric group n
group_sound numeric [] n rest e = absurd (cc)
group_sound numeric (b ∷ bytes) n rest e =
    let p = then_some (is_symbol numeric b) (behind_symbol bytes) (n, rest) e in
    let s = behind_sound bytes n rest p.1 in
    (b ∷ s.0, ap (λ (r : List ℕ). b ∷ r) s.1, (p.0, s.2))

-- one group more in front, and the groups behind the first one
pub more_groups : (numeric : Bool) (bytes : List ℕ) (n : ℕ) (rest sizes : List ℕ) → group_at numeric bytes ≡ Some (n, rest) → AreGroups numeric rest sizes → AreGroups numeric bytes (n ∷ sizes)
more_groups numeric bytes n rest sizes e g = let s = group_sound numeric bytes n rest e in (s.0, rest, s.1, s.2, g)

pub other_groups : (numeric : Bool) (bytes : List ℕ) (n : ℕ) (rest : List ℕ) (size : ℕ) (sizes : List ℕ) → group_at numeric bytes ≡ Some (n, rest) → AreGroups numeric bytes (size ∷ sizes) → (size ≡ n) × AreGroups numeric rest sizes
other_groups numeric bytes n rest size sizes e g =
    let c = group_complete numeric g.0 g.1 size g.3 (groups_no_open numeric g.1 sizes g.4) in
    let q = some_pair_parts size n g.1 rest (sym c ∙ (ap (group_at numeric) (sym g.2) ∙ e)) in
    (q.0, subst (λ r. AreGroups numeric r sizes) q.1 g.4)

-- ---- all groups

sum_front : (x : ℕ) (xs : List ℕ) → sum (x ∷ xs) ≡ x + sum xs
sum_front x xs = first_of (search rules, grind (arith, common_steps))

some_front : (rest : List ℕ) → 0 < length rest → (b : ℕ) × (after : List ℕ) × (rest ≡ b ∷ after)
some_front [] h = absurd (omega (arith, h))
some_front (b ∷ after) h = (b, after, refl)

-- the groups so far are the front of those of the text, and the rest has the others
pub record SoFar (numeric : Bool) (text : List ℕ) (total : ℕ) (rest : List ℕ) : Type 0 where
  pub done : ℕ
  pub total_is : total ≡ capped_size done
  pub onward : (sizes : List ℕ) → AreGroups numeric rest sizes → (all : List ℕ) × AreGroups numeric text all × (sum all ≡ done + sum sizes)
  pub back : (all : List ℕ) → AreGroups numeric text all → (sizes : List ℕ) × AreGroups numeric rest sizes × (sum all ≡ done + sum sizes)
  pub some : 0 < length text

pub start : (numeric : Bool) (text : List ℕ) → 0 < length text → SoFar numeric text 0 text
start numeric text some = record { done = 0; total_is = refl; onward = λ sizes g. (sizes, g, omega arith); back = λ all g. (all, g, omega arith); some = some }

found_cut : (cut : Option (ℕ × List ℕ)) (found : ℕ × Bor (List ℕ)) → IsCappedCut cut (Some found) → (g : ℕ × List ℕ) × (cut ≡ Some g) × (found.0 ≡ capped_size g.0) × (found.1.now ≡ g.1)
found_cut None found h = absurd h
found_cut (Some g) found h = (g, refl, h.0, h.1)

none_cut : (cut : Option (ℕ × List ℕ)) → IsCappedCut cut None → cut ≡ None
none_cut None h = refl
none_cut (Some g) h = absurd h

head_size : (numeric : Bool) (b : ℕ) (rest sizes : List ℕ) → AreGroups numeric (b ∷ rest) sizes → (first : ℕ) × (others : List ℕ) × (sizes ≡ first ∷ others)
head_size numeric b rest [] g = let k = g in absurd (cc)
head_size numeric b rest (n ∷ sizes) g = (n, sizes, refl)

pub step : (numeric : Bool) (text : List ℕ) (total : ℕ) (rest : List ℕ) (found : ℕ × Bor (List ℕ)) → SoFar numeric text total rest → 0 < length rest → IsCappedCut (group_at numeric rest) (Some found) → SoFar numeric text (capped_size (total + found.0)) found.1.now
step numeric text total rest found so long h =
    let k = some_front rest long in
    let c = found_cut (group_at numeric rest) found h in
    subst (λ left. SoFar numeric text (capped_size (total + found.0)) left) (sym c.3) (record {
      done = so.done + c.0.0;
      total_is = omega (arith, so.total_is, c.2);
      onward = λ sizes g.
          let o = so.onward (c.0.0 ∷ sizes) (more_groups numeric rest c.0.0 c.0.1 sizes c.1 g) in
          (o.0, o.1, omega (arith, o.2, sum_front c.0.0 sizes));
      back = λ all g.
          let o = so.back all g in
          let f = head_size numeric k.0 k.1 o.0 (subst (λ bytes. AreGroups numeric bytes o.0) k.2 o.1) in
          let q = other_groups numeric rest c.0.0 c.0.1 f.0 f.1 c.1 (subst (λ sizes. AreGroups numeric rest sizes) f.2 o.1) in
          let total_of : sum o.0 ≡ f.0 + sum f.1 = ap sum f.2 ∙ sum_front f.0 f.1 in
          (f.1, q.1, omega (arith, o.2, total_of, q.0));
      some = so.some;
    })

not_none : (numeric : Bool) (text sizes : List ℕ) → AreGroups numeric text sizes → 0 < length text → 0 < length sizes
not_none numeric text [] g h = let k : length text ≡ 0 = ap length g in absurd (omega (arith, h, k))
not_none numeric text (n ∷ sizes) g h = omega arith

no_groups : (numeric : Bool) (sizes : List ℕ) → 0 < length sizes → AreGroups numeric [] sizes → ⊥
no_groups numeric [] h g = omega (arith, h)
no_groups numeric (n ∷ sizes) h g = no_group numeric g.0 g.1 n g.2 g.3
  where
    no_group : (numeric : Bool) (group rest : List ℕ) (n : ℕ) → [] ≡ group ++ rest → IsGroup numeric group n → ⊥
    no_group numeric [] rest n e i = i
    no_group numeric (b ∷ group) rest n e i = cc

pub finish : (numeric : Bool) (text : List ℕ) (total : ℕ) (rest : List ℕ) → SoFar numeric text total rest → length rest ≡ 0 → (n : ℕ) × Means numeric text n × (total ≡ capped_size n)
finish numeric text total [] so e =
    let o = so.onward [] refl in
    (so.done, (o.0, not_none numeric text o.0 o.1 so.some, o.1, omega (arith, o.2)), so.total_is)
finish numeric text total (b ∷ rest) so e = absurd (omega (arith, e))

pub refused : (numeric : Bool) (text : List ℕ) (total : ℕ) (rest : List ℕ) → SoFar numeric text total rest → 0 < length rest → IsCappedCut (group_at numeric rest) None → (n : ℕ) → Means numeric text n → ⊥
refused numeric text total rest so long h n m =
    let front = some_front rest long in
    let o = so.back m.0 m.2 in
    let f = head_size numeric front.0 front.1 o.0 (subst (λ bytes. AreGroups numeric bytes o.0) front.2 o.1) in
    let g = subst (λ sizes. AreGroups numeric rest sizes) f.2 o.1 in
    let c = group_complete numeric g.0 g.1 f.0 g.3 (groups_no_open numeric g.1 f.1 g.4) in
    let k : ◌≡◌ {A = Option (ℕ × List ℕ)} None (Some (f.0, g.1)) = sym (none_cut (group_at numeric rest) h) ∙ (ap (group_at numeric) g.2 ∙ c) in cc

pub empty_means_none : (numeric : Bool) (text : List ℕ) → length text ≡ 0 → (n : ℕ) → Means numeric text n → ⊥
empty_means_none numeric (b ∷ text) e n m = omega (arith, e)
empty_means_none numeric [] e n m = no_groups numeric m.0 m.1 m.2

-- ---- one meaning

groups_only : (numeric : Bool) (a b : List ℕ) (text : List ℕ) → AreGroups numeric text a → AreGroups numeric text b → a ≡ b
groups_only numeric [] [] text g h = refl
groups_only numeric [] (m ∷ b) text g h = absurd (no_groups numeric (m ∷ b) (omega arith) (subst (λ t. AreGroups numeric t (m ∷ b)) g h))
groups_only numeric (n ∷ a) [] text g h = absurd (no_groups numeric (n ∷ a) (omega arith) (subst (λ t. AreGroups numeric t (n ∷ a)) h g))
groups_only numeric (n ∷ a) (m ∷ b) text g h =
    let e = ap (group_at numeric) g.2 ∙ group_complete numeric g.0 g.1 n g.3 (groups_no_open numeric g.1 a g.4) in
    let o = other_groups numeric text n g.1 m b e h in
    ap (λ x. x ∷ a) (sym o.0) ∙ ap (λ (xs : List ℕ). m ∷ xs) (groups_only numeric a b g.1 g.4 o.1)

pub one_size : (numeric : Bool) (text : List ℕ) (m n : ℕ) → Means numeric text m → Means numeric text n → m ≡ n
one_size numeric text m n g h = g.3 ∙ (ap sum (groups_only numeric g.0 h.0 text g.2 h.2) ∙ sym h.3)

symbol_kind : (k : Bool) (b : ℕ) → is_symbol k b ≡ true → k ≡ eqb b 57
symbol_kind true b e = sym e
symbol_kind false b e = grind (arith, nat_tests)

kind_by : (k : Bool) (text sizes : List ℕ) → 0 < length sizes → AreGroups k text sizes → k ≡ eqb (get_or text 0 0) 57
kind_by k text [] h g = absurd (omega (arith, h))
kind_by k text (n ∷ sizes) h g = kind_front k g.0 g.1 n text g.2 g.3
  where
    kind_front : (k : Bool) (group rest : List ℕ) (n : ℕ) (text : List ℕ) → text ≡ group ++ rest → IsGroup k group n → k ≡ eqb (get_or text 0 0) 57
    kind_front k [] rest n text e i = absurd i
    kind_front k (b ∷ group) rest n text e i = subst (λ t. k ≡ eqb (get_or t 0 0) 57) (sym e) (symbol_kind k b i.0)

-- the first byte says which kind a picture is of
pub kind_of : (k : Bool) (text : List ℕ) (n : ℕ) → Means k text n → k ≡ eqb (get_or text 0 0) 57
kind_of k text n m = kind_by k text m.0 m.1 m.2

pub of_this_kind : (k numeric : Bool) (text : List ℕ) (n : ℕ) → numeric ≡ eqb (get_or text 0 0) 57 → Means k text n → (k ≡ numeric) × Means numeric text n
of_this_kind k numeric text n e m =
    let same : k ≡ numeric = kind_of k text n m ∙ sym e in (same, subst (λ v. Means v text n) same m)

pub above_18 : (n : ℕ) → 18 < capped_size n → 18 < n
above_18 n h = omega (arith, h)

-- a picture is for a character or more
pub some_picture : (text : List ℕ) (picture : Picture) → IsPicture text picture → 1 ≤ picture.length
some_picture text picture h = some_of picture.numeric text h.means.0 picture.length h.means.1 h.means.2 h.means.3
  where
    some_group : (numeric : Bool) (group : List ℕ) (n : ℕ) → IsGroup numeric group n → 0 < n
    some_group numeric [] n h = absurd h
    some_group numeric (symbol ∷ rest) n h = elim h.1 [ inl a ↦ omega (arith, a.1) | inr a ↦ a.5 ]

    some_of : (numeric : Bool) (text sizes : List ℕ) (n : ℕ) → 0 < length sizes → AreGroups numeric text sizes → n ≡ sum sizes → 1 ≤ n
    some_of numeric text [] n h g e = absurd (omega (arith, h))
    some_of numeric text (size ∷ sizes) n h g e = omega (arith, some_group numeric g.0 size g.3, e, sum_front size sizes)
