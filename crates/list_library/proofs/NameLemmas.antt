-- What names stand for among units that change places.
use Rattle.std.proofs.Common.{◌≡◌, ℕ, zero, suc, ◌+◌, ◌<◌, true, false, None, Some, List, [], ◌∷◌, ◌++◌, length, take, drop, map, get_or, set, refl, sym, ap, ◌∙◌, subst, arith, bytes_eq, position}
use Rattle.std.specs.Prelude.{IsTrue}
use Rattle.std.specs.List.{list_all, IsDistinct, AllByRecursion, position_from}
use Rattle.std.proofs.lemmas.List.{drop_more, drop-set-lt, take_more, take_more_set, map-append}
use Rattle.std.proofs.lemmas.List.Quantifiers.{position-Some}
use Rattle.std.proofs.lemmas.Iterator.Adapters.{position_from-zero}
use Rattle.std.proofs.lemmas.Slice.Eq.{bytes_eq-Decides}
use Rattle.indexed_file.specs.World.{FileUnit, World, Named, Absent, Shut, name_in, named_in, attached}
use Rattle.list_library.specs.Units.{absent_unit, in_place_among, named_among}
use Rattle.indexed_file.specs.SoundWorld.{is_sound_unit}
use Rattle.indexed_file.proofs.TestLemmas.{either}

-- a name that no unit has stands for nothing
none_from : (units : List FileUnit) (name : List ℕ) (i : ℕ) → position_from (λ (u : FileUnit). bytes_eq u.name name) i units ≡ None → named_among units name ≡ Absent
none_from [] name i none = refl
none_from (x ∷ xs) name i none =
    either (bytes_eq x.name name) (named_among (x ∷ xs) name ≡ Absent)
    (λ yes. let e = rw yes at none in absurd (cc))
    (λ no. rw no (none_from xs name (i + 1) (rw no at none)))

pub none_named : (units : List FileUnit) (name : List ℕ) → position (λ (u : FileUnit). bytes_eq u.name name) units ≡ None → named_among units name ≡ Absent
none_named units name none = none_from units name 0 (sym (position_from-zero (λ (u : FileUnit). bytes_eq u.name name) units) ∙ none)

first_from :
    (units : List FileUnit) (name : List ℕ) (i : ℕ) (d : FileUnit) → i < length units → bytes_eq (get_or units i d).name name ≡ true → ((k : ℕ) → k < i → bytes_eq (get_or units k d).name name ≡ false)
    → named_among units name ≡ (get_or units i d).named
first_from [] name i d within here before = absurd (omega arith)
first_from (x ∷ xs) name zero d within here before = rw here refl
first_from (x ∷ xs) name (suc i) d within here before =
    let first : bytes_eq x.name name ≡ false = before 0 (omega arith) in
    rw first (first_from xs name i d (omega arith) here (λ k below. before (suc k) (omega arith)))

-- a name stands for what the first unit of that name shows
pub first_named : (units : List FileUnit) (name : List ℕ) (i : ℕ) (d : FileUnit) → position (λ (u : FileUnit). bytes_eq u.name name) units ≡ Some i → named_among units name ≡ (get_or units i d).named
first_named units name i d is =
    let found = position-Some (λ (u : FileUnit). bytes_eq u.name name) units i d is in
    first_from units name i d found.0 found.1 found.2

-- a unit that is changed into one of the same name leaves the other names
pub others_named : (units : List FileUnit) (i : ℕ) (d new : FileUnit) (name : List ℕ) → bytes_eq (get_or units i d).name name ≡ false → bytes_eq new.name name ≡ false → named_among (set units i new) name ≡ named_among units name
others_named [] i d new name old_no new_no = refl
others_named (x ∷ xs) zero d new name old_no new_no = rw (old_no, new_no) refl
others_named (x ∷ xs) (suc i) d new name old_no new_no =
    either (bytes_eq x.name name) (named_among (set (x ∷ xs) (suc i) new) name ≡ named_among (x ∷ xs) name)
    (λ yes. rw yes refl)
    (λ no. rw no (others_named xs i d new name old_no new_no))

unlike_at : (units : List FileUnit) (name : List ℕ) (i : ℕ) (d : FileUnit) → AllByRecursion (λ y. bytes_eq name y ≡ false) (map (λ (u : FileUnit). u.name) units) → i < length units → bytes_eq name (get_or units i d).name ≡ false
unlike_at [] name i d all within = absurd (omega arith)
unlike_at (x ∷ xs) name zero d all within = all.0
unlike_at (x ∷ xs) name (suc i) d all within = unlike_at xs name i d all.1 (omega arith)

-- the name of a unit is none of those before it
unlike_before :
    (units : List FileUnit) (i : ℕ) (d : FileUnit) (others : List FileUnit) (elsewhere : List ℕ → Named) → IsDistinct bytes_eq (map (λ (u : FileUnit). u.name) units) → i < length units
    → name_in (map (λ (u : FileUnit). in_place_among others u.name) (take i units)) elsewhere (get_or units i d).name ≡ elsewhere (get_or units i d).name
unfolding IsDistinct
unlike_before [] i d others elsewhere distinct within = absurd (omega arith)
unlike_before (x ∷ xs) zero d others elsewhere distinct within = refl
unlike_before (x ∷ xs) (suc i) d others elsewhere distinct within =
    let no : bytes_eq x.name (get_or xs i d).name ≡ false = unlike_at xs x.name i d distinct.0 (omega arith) in
    rw no (unlike_before xs i d others elsewhere distinct.1 (omega arith))

-- one more unit, which stands for what its name stood for
pub one_more :
    (units : List FileUnit) (new : FileUnit) (old now : List ℕ → Named) (name : List ℕ) → new.named ≡ old new.name → (bytes_eq new.name name ≡ false → now name ≡ old name)
    → name_in (units ++ new ∷ []) now name ≡ name_in units old name
one_more [] new old now name named keeps =
    either (bytes_eq new.name name) (name_in (new ∷ []) now name ≡ old name)
    (λ yes. let same : new.name ≡ name = (bytes_eq-Decides new.name name).0 yes in rw yes (named ∙ ap old same))
    (λ no. rw no (keeps no))
one_more (x ∷ xs) new old now name named keeps =
    either (bytes_eq x.name name) (name_in ((x ∷ xs) ++ new ∷ []) now name ≡ name_in (x ∷ xs) old name)
    (λ yes. rw yes refl)
    (λ no. rw no (one_more xs new old now name named keeps))

-- the first i units have changed places with those of their names among the others, and no name stands for anything else
pub record IsExchanged (units others now left : List FileUnit) (i : ℕ) : Type 0 where
  pub before : take i now ≡ map (λ (u : FileUnit). in_place_among others u.name) (take i units)
  pub after : drop i now ≡ drop i units
  pub named : (name : List ℕ) → name_in (take i now) (named_among left) name ≡ named_among others name
  pub sound : IsTrue (list_all is_sound_unit others) → IsTrue (list_all is_sound_unit left)

same_head : {x y : FileUnit} {xs ys : List FileUnit} → x ∷ xs ≡ y ∷ ys → (x ≡ y) × (xs ≡ ys)
same_head e = (cc, cc)

pub same_unit : (units others now left : List FileUnit) (i : ℕ) (d : FileUnit) → IsExchanged units others now left i → i < length units → i < length now → (get_or now i d ≡ get_or units i d) × (drop (i + 1) now ≡ drop (i + 1) units)
same_unit units others now left i d so_far within here =
    let joined : get_or now i d ∷ drop (i + 1) now ≡ get_or units i d ∷ drop (i + 1) units = sym (drop_more now i d here) ∙ (so_far.after ∙ drop_more units i d within) in
    same_head joined

pub exchange_more :
    (units others now left new_left : List FileUnit) (i : ℕ) (d new : FileUnit) → IsExchanged units others now left i → IsDistinct bytes_eq (map (λ (u : FileUnit). u.name) units)
    → i < length units → i < length now → new ≡ in_place_among left (get_or now i d).name
    → ((name : List ℕ) → bytes_eq (get_or now i d).name name ≡ false → named_among new_left name ≡ named_among left name)
    → (IsTrue (list_all is_sound_unit left) → IsTrue (list_all is_sound_unit new_left))
    → IsExchanged units others (set now i new) new_left (i + 1)
exchange_more units others now left new_left i d new so_far distinct within here is keeps keeps_sound =
    let same = same_unit units others now left i d so_far within here in
    let unit : FileUnit = get_or units i d in
    let free : name_in (take i now) (named_among left) unit.name ≡ named_among left unit.name =
    subst (λ (us : List FileUnit). name_in us (named_among left) unit.name ≡ named_among left unit.name) (sym so_far.before) (unlike_before units i d others (named_among left) distinct within) in
    let stands : named_among left unit.name ≡ named_among others unit.name = sym free ∙ so_far.named unit.name in
    let named : new ≡ in_place_among left unit.name = is ∙ ap (λ (u : FileUnit). in_place_among left u.name) same.0 in
    let placed : new ≡ in_place_among others unit.name = named ∙ ap (λ (n : Named). let u : FileUnit = record { name = unit.name; named = n; holding = Shut } in u) stands in
    record {
      before = take_more_set now i new here ∙ (ap (λ us. us ++ new ∷ []) so_far.before ∙ (ap (λ (u : FileUnit). map (λ (v : FileUnit). in_place_among others v.name) (take i units) ++ u ∷ []) placed
          ∙ (sym (map-append (λ (v : FileUnit). in_place_among others v.name) (take i units) (unit ∷ [])) ∙ ap (map (λ (v : FileUnit). in_place_among others v.name)) (sym (take_more units i d within)))));
      after = drop-set-lt (i + 1) now i new (omega arith) ∙ same.1;
      named = λ name. ap (λ us. name_in us (named_among new_left) name) (take_more_set now i new here)
          ∙ (one_more (take i now) new (named_among left) (named_among new_left) name (ap (λ (u : FileUnit). u.named) named ∙ ap (named_among left) (sym (ap (λ (u : FileUnit). u.name) named)))
          (λ no. keeps name (rw (same.0) (subst (λ (u : FileUnit). bytes_eq u.name name ≡ false) named no))) ∙ so_far.named name);
      sound = λ all. keeps_sound (so_far.sound all);
    }

-- units that stand for nothing, named after these
pub absent_again : {X : Type 0} (f : X → List ℕ) (xs : List X) → map (λ (x : X). absent_unit (f x)) xs ≡ map (λ (u : FileUnit). absent_unit u.name) (map (λ (x : X). absent_unit (f x)) xs)
absent_again f [] = refl
absent_again f (x ∷ xs) = ap (λ us. absent_unit (f x) ∷ us) (absent_again f xs)

pub absent_names : {X : Type 0} (f : X → List ℕ) (xs : List X) → map (λ (u : FileUnit). u.name) (map (λ (x : X). absent_unit (f x)) xs) ≡ map f xs
absent_names f [] = refl
absent_names f (x ∷ xs) = ap (λ ns. f x ∷ ns) (absent_names f xs)

-- what names stand for among units in front of others
pub named_joined : (units others : List FileUnit) (name : List ℕ) → named_among (units ++ others) name ≡ name_in units (named_among others) name
named_joined [] others name = refl
named_joined (x ∷ xs) others name =
    either (bytes_eq x.name name) (named_among ((x ∷ xs) ++ others) name ≡ name_in (x ∷ xs) (named_among others) name)
    (λ yes. rw yes refl)
    (λ no. rw no (named_joined xs others name))

-- units in the places of their names are attached
pub attached_in_place :
    {X : Type 0} (f : X → List ℕ) (world : World) (all : List FileUnit) (xs : List X) → ((name : List ℕ) → named_among all name ≡ named_in world name)
    → map (λ (u : FileUnit). in_place_among all u.name) (map (λ (x : X). absent_unit (f x)) xs) ≡ attached world (map f xs)
attached_in_place {X} f world all [] same = refl
attached_in_place {X} f world all (x ∷ xs) same =
    ap (λ (n : Named). let u : FileUnit = record { name = f x; named = n; holding = Shut } in u ∷ map (λ (v : FileUnit). in_place_among all v.name) (map (λ (y : X). absent_unit (f y)) xs)) (same (f x))
    ∙ ap (λ us. let u : FileUnit = record { name = f x; named = named_in world (f x); holding = Shut } in u ∷ us) (attached_in_place f world all xs same)

-- one name is no two
pub one_name : (name : List ℕ) → IsDistinct bytes_eq (name ∷ [])
unfolding IsDistinct
one_name name = (tt, tt)
