-- Where a file in memory is, and what a change of it does to the others.
use Rattle.std.proofs.Common.{map, inl, inr, zero, suc, ◌≡◌, ℕ, ◌+◌, ◌<◌, List, [], ◌∷◌, ◌++◌, Option, Some, None, option_map, Result, Ok, Err, OnOk, OnErr, is_ok, true, false, is_some, bytes_eq, length, get_or, set, refl, sym, ◌∙◌, ap, subst, add-one, MatchOption}
use Rattle.std.proofs.lemmas.List.{get_or-map}
use Rattle.std.proofs.lemmas.Bool.{cases_Bool, false_from_ne_true}
use Rattle.std.proofs.lemmas.Slice.Eq.{bytes_eq-Decides}
use Rattle.page_store.specs.DeviceFile.{FileStep, DeviceFile, absent, IsWithin}
use Rattle.memory_shelf.specs.Events.{steps}
use Rattle.memory_shelf.specs.MemFiles.{is_file_of_name, device_file_of, file_by_name, index_of, IsFirstNamedAt, Found, ChangedMemFile}
use Rattle.memory_shelf.specs.declared.memory_file.MemFile.{MemFile}

step : (r : Option ℕ) (i : ℕ) → option_map (λ n. n + 1) r ≡ Some i → (j : ℕ) × (r ≡ Some j) × (suc j ≡ i)
step None i e = absurd (cc)
step (Some j) i e = let same : j + 1 ≡ i = cc in (j, refl, sym (add-one j) ∙ same)

pub at_from : (fs : List MemFile) (name : List ℕ) (i : ℕ) → index_of fs name ≡ Some i → IsFirstNamedAt fs name i
at_from [] name i is = absurd (cc)
at_from (f ∷ fs) name i is =
    elim (cases_Bool (is_file_of_name f name)) [
      | inl e ↦ let at : Some 0 ≡ Some i = rw e at is in let same : 0 ≡ i = cc in subst (λ (n : ℕ). IsFirstNamedAt (f ∷ fs) name n) same e
      | inr e ↦
          let at : option_map (λ n. n + 1) (index_of fs name) ≡ Some i = rw e at is in
          let s = step (index_of fs name) i at in
          subst (λ (n : ℕ). IsFirstNamedAt (f ∷ fs) name n) s.2 (e, at_from fs name s.0 s.1)
    ]

pub file_at : (fs : List MemFile) (name : List ℕ) (i : ℕ) (d : MemFile) → IsFirstNamedAt fs name i → file_by_name fs name ≡ device_file_of (get_or fs i d)
file_at [] name i d at = absurd at
file_at (f ∷ fs) name zero d at = rw at refl
file_at (f ∷ fs) name (suc i) d at = rw at.0 (file_at fs name i d at.1)

pub named_at : (fs : List MemFile) (name : List ℕ) (i : ℕ) (d : MemFile) → IsFirstNamedAt fs name i → is_file_of_name (get_or fs i d) name ≡ true
named_at [] name i d at = absurd at
named_at (f ∷ fs) name zero d at = at
named_at (f ∷ fs) name (suc i) d at = named_at fs name i d at.1

pub file_set : (fs : List MemFile) (name : List ℕ) (i : ℕ) (g : MemFile) → IsFirstNamedAt fs name i → is_file_of_name g name ≡ true → file_by_name (set fs i g) name ≡ device_file_of g
file_set [] name i g at is = absurd at
file_set (f ∷ fs) name zero g at is = rw is refl
file_set (f ∷ fs) name (suc i) g at is = rw at.0 (file_set fs name i g at.1 is)

other_name : (f : MemFile) (name other : List ℕ) → is_file_of_name f name ≡ true → ¬ (other ≡ name) → is_file_of_name f other ≡ false
other_name f name other is not = false_from_ne_true (is_file_of_name f other) (λ also. not (sym ((bytes_eq-Decides f.name.bytes other).0 also) ∙ (bytes_eq-Decides f.name.bytes name).0 is))

pub others_set : (fs : List MemFile) (name : List ℕ) (i : ℕ) (g : MemFile) (other : List ℕ) → IsFirstNamedAt fs name i → is_file_of_name g name ≡ true → ¬ (other ≡ name) → file_by_name (set fs i g) other ≡ file_by_name fs other
others_set [] name i g other at is not = absurd at
others_set (f ∷ fs) name zero g other at is not = rw (other_name g name other is not, other_name f name other at not) refl
others_set (f ∷ fs) name (suc i) g other at is not =
    elim (cases_Bool (is_file_of_name f other)) [
      | inl e ↦ rw e refl
      | inr e ↦ rw e (others_set fs name i g other at.1 is not)
    ]

-- a new file behind the others
pub file_push : (fs : List MemFile) (g : MemFile) (name : List ℕ) → file_by_name fs name ≡ absent → is_file_of_name g name ≡ true → file_by_name (fs ++ g ∷ []) name ≡ device_file_of g
file_push [] g name none is = rw is refl
file_push (f ∷ fs) g name none is =
    elim (cases_Bool (is_file_of_name f name)) [
      | inl e ↦ let same : device_file_of f ≡ absent = rw e at none in let there : Some f.bytes.items ≡ None = ap (λ (x : DeviceFile). x.seen) same in absurd (cc)
      | inr e ↦ rw e (file_push fs g name (rw e at none) is)
    ]

pub others_push : (fs : List MemFile) (g : MemFile) (name other : List ℕ) → is_file_of_name g name ≡ true → ¬ (other ≡ name) → file_by_name (fs ++ g ∷ []) other ≡ file_by_name fs other
others_push [] g name other is not = rw (other_name g name other is not) refl
others_push (f ∷ fs) g name other is not =
    elim (cases_Bool (is_file_of_name f other)) [
      | inl e ↦ rw e refl
      | inr e ↦ rw e (others_push fs g name other is not)
    ]

-- a file that is not there has not been asked for anything
pub absent_from : (fs : List MemFile) (name : List ℕ) → (file_by_name fs name).seen ≡ None → file_by_name fs name ≡ absent
absent_from [] name none = refl
absent_from (f ∷ fs) name none =
    elim (cases_Bool (is_file_of_name f name)) [
      | inl e ↦ let there : Some f.bytes.items ≡ None = rw e at none in absurd (cc)
      | inr e ↦ rw e (absent_from fs name (rw e at none))
    ]

rest : (r : Option ℕ) → option_map (λ n. n + 1) r ≡ None → r ≡ None
rest None e = refl
rest (Some j) e = absurd (cc)

pub none_from : (fs : List MemFile) (name : List ℕ) → index_of fs name ≡ None → (file_by_name fs name).seen ≡ None
none_from [] name none = refl
none_from (f ∷ fs) name none =
    elim (cases_Bool (is_file_of_name f name)) [
      | inl e ↦ let zero_at : Option ℕ = Some 0 in let there : zero_at ≡ None = rw e at none in absurd (cc)
      | inr e ↦ rw e (none_from fs name (rest (index_of fs name) (rw e at none)))
    ]

-- a file that is there is found
pub not_none : (file : DeviceFile) (n : ℕ) → IsWithin n file → file.seen ≡ None → ⊥
not_none file n within none = let e : true ≡ false = sym within.there ∙ ap is_some none in absurd (cc)

pub found_from : (fs : List MemFile) (name : List ℕ) (i : ℕ) → index_of fs name ≡ Some i → Found fs name i
found_from fs name i is =
    let at = at_from fs name i is in
    record {
      at = at;
      file = λ d. file_at fs name i d at;
      named = λ d. named_at fs name i d at;
      within = λ d n h. let e = (subst (λ (f : DeviceFile). IsWithin n f) (file_at fs name i d at) h).long in e;
    }

-- the name of a unit
pub unit_is : {X : Type 0} (f : X → List ℕ) (units : List X) (u : ℕ) (x : X) → u < length units → x ≡ get_or units u x → get_or (map f units) u [] ≡ f x
unit_is f units u x low is = get_or-map f units u x [] low ∙ ap f (sym is)

pub placed : (fs : List MemFile) (name : List ℕ) (r : Option ℕ) → r ≡ index_of fs name → MatchOption r ((file_by_name fs name).seen ≡ None) (λ i. Found fs name i)
placed fs name None is = none_from fs name (sym is)
placed fs name (Some i) is = found_from fs name i (sym is)

pub file_is : (f : MemFile) (seen : List ℕ) (log : List FileStep) → f.bytes.items ≡ seen → steps f.log.items ≡ log → device_file_of f ≡ record { seen = Some seen; log = log }
file_is f seen log a b = ap (λ (s : List ℕ). record { seen = Some s; log = steps f.log.items }) a ∙ ap (λ (l : List FileStep). record { seen = Some seen; log = l }) b

pub changed : (fs : List MemFile) (name : List ℕ) (i : ℕ) (f g : MemFile) → Found fs name i → f ≡ get_or fs i f → g.name ≡ f.name → ChangedMemFile fs name i f g
changed fs name i f g found is same =
    let named : is_file_of_name f name ≡ true = subst (λ (x : MemFile). is_file_of_name x name ≡ true) (sym is) (found.named f) in
    let still : is_file_of_name g name ≡ true = ap (λ (n : _). bytes_eq n.bytes name) same ∙ named in
    record {
      was = found.file f ∙ ap device_file_of (sym is);
      this = file_set fs name i g found.at still;
      others = λ other not. others_set fs name i g other found.at still not;
    }

-- what a call did, told by another answer that fails where it does
pub done_as : {T E F : Type 0} (P : Type 0) (told : Result T F) (was : Result T E) → is_ok told ≡ is_ok was → OnOk was P → OnOk told P
done_as P (Ok x) (Ok y) same done = done
done_as P (Ok x) (Err e) same done = absurd (cc)
done_as P (Err e) was same done = tt

pub failed_as : {T E F : Type 0} (P : Type 0) (told : Result T F) (was : Result T E) → is_ok told ≡ is_ok was → OnErr was P → OnErr told P
failed_as P (Err e) (Err g) same failed = failed
failed_as P (Err e) (Ok x) same failed = absurd (cc)
failed_as P (Ok x) was same failed = tt
