-- Entries that have a layout have no fault.
use Rattle.std.proofs.Common.{◌≡◌, ℕ, ◌+◌, ◌<◌, ◌≤◌, Bool, true, false, not, ◌&&◌, ◌||◌, cond, eqb, leb, List, [], ◌∷◌, ◌++◌, Option, Some, None, refl, sym, ap, subst, ◌∙◌, inl, inr, arith, append_assoc}
use Rattle.std.specs.Prelude.{is_none, IsFalse}
use Rattle.std.specs.List.{find}
use Rattle.std.specs.Option.{option_map_or}
use Rattle.std.proofs.Math.Nat.{add-zero}
use Rattle.std.proofs.lemmas.Bool.{false≢true}
use Rattle.std.proofs.lemmas.Bool.Decides.{nat_tests, when_false}
use Rattle.std.proofs.lemmas.Cmp.{nat_list_eq_equiv}
use Rattle.record_layout.specs.declared.fault.LayoutFault.{LayoutFault}
use Rattle.record_layout.specs.declared.fault.LayoutFault.TheVariants.{BadPicture, BadLevel, TooLong, DuplicateName, Empty, Memory}
use Rattle.record_layout.specs.declared.picture.Picture.{Picture}
use Rattle.record_layout.specs.Picture.{Means, IsPicture}
use Rattle.record_layout.specs.Layout.{Entry, Placed, Structure, written_items, width, is_nothing, IsWellFormed, is_one, is_named, is_name_of, IsLayout}
use Rattle.record_layout.specs.Layout.Structure.{Nothing, Elementary, Group}
use Rattle.record_layout.specs.LayoutFault.{is_behind_empty, is_open_level, is_level_fit, is_unfinished, HasPictureFault, IsFaultOf, IsFirstFault}
use Rattle.record_layout.proofs.PictureLemmas.{kind_of, one_size}
use Rattle.record_layout.proofs.RecordLemmas.{AreNamedApart, apart_by_names}

-- ---- pictures

same_length : (text : List ℕ) (a b : Picture) → IsPicture text a → IsPicture text b → a.length ≡ b.length
same_length text a b first second =
    let same : a.numeric ≡ b.numeric = kind_of a.numeric text a.length first.means ∙ sym (kind_of b.numeric text b.length second.means) in
    one_size b.numeric text a.length b.length (subst (λ numeric. Means numeric text a.length) same first.means) second.means

no_picture_fault : (total : ℕ) (text : List ℕ) (picture : Picture) (fault : LayoutFault) → IsPicture text picture → total + picture.length ≤ 4000 → HasPictureFault total (Some text) fault → ⊥
no_picture_fault total text picture BadPicture is short h =
    let k = h picture.numeric picture.length is.means in omega (arith, k.1, is.digits k.0)
no_picture_fault total text picture TooLong is short h = elim h [
  | inl a ↦
      let same : picture.numeric ≡ false = kind_of picture.numeric text picture.length is.means ∙ sym (kind_of false text a.0 a.1) in
      let long = one_size false text picture.length a.0 (subst (λ numeric. Means numeric text picture.length) same is.means) a.1 in
      omega (arith, long, a.2, is.short)
  | inr a ↦ omega (arith, same_length text picture a.0 is a.1, a.2, short)
]
no_picture_fault total text picture BadLevel is short h = h
no_picture_fault total text picture DuplicateName is short h = h
no_picture_fault total text picture Empty is short h = h
no_picture_fault total text picture Memory is short h = h

-- ---- names

nor : (a b : Bool) → (a || b) ≡ false → (a ≡ false) × (b ≡ false)
nor true b e = absurd (false≢true (sym e))
nor false b e = (refl, e)

neither : (a b : Bool) → a ≡ false → b ≡ false → (a || b) ≡ false
neither true b e f = e
neither false b e f = f

-- none of these entries has a name of an entry before it
abbrev NoneBefore : List Entry → List Entry → Type 0
NoneBefore before [] = Unit {0}
NoneBefore before (entry ∷ after) = IsFalse (is_name_of before entry.name) × NoneBefore (entry ∷ before) after

-- none of the entries before has a name that one of these has
abbrev NoneAfter : List Entry → List Entry → Type 0
NoneAfter [] after = Unit {0}
NoneAfter (entry ∷ before) after = IsFalse (is_name_of after entry.name) × NoneAfter before after

other_way : (name : List ℕ) (has : Option (List ℕ)) (entry : Entry) (after : List Entry) → entry.name ≡ Some name → is_name_of (entry ∷ after) has ≡ false → is_named name has ≡ false
other_way name None entry after is e = refl
other_way name (Some other) entry after is e =
    nat_list_eq_equiv.symm other name ∙ subst (λ o. is_named other o ≡ false) is (nor (is_named other entry.name) _ e).0

none_named : (before : List Entry) (entry : Entry) (after : List Entry) (name : Option (List ℕ)) → entry.name ≡ name → NoneAfter before (entry ∷ after) → is_name_of before name ≡ false
none_named before entry after None is h = refl
none_named [] entry after (Some name) is h = refl
none_named (first ∷ before) entry after (Some name) is h =
    neither (is_named name first.name) _ (other_way name first.name entry after is h.0) (none_named before entry after (Some name) is h.1)

none_later : (before : List Entry) (entry : Entry) (after : List Entry) → NoneAfter before (entry ∷ after) → NoneAfter before after
none_later [] entry after h = tt
none_later (first ∷ before) entry after h = (later first.name h.0, none_later before entry after h.1)
  where
    later : (name : Option (List ℕ)) → is_name_of (entry ∷ after) name ≡ false → is_name_of after name ≡ false
    later None e = refl
    later (Some name) e = (nor (is_named name entry.name) _ e).1

none_before : (before entries : List Entry) → NoneAfter before entries → AreNamedApart entries → NoneBefore before entries
none_before before [] h apart = tt
none_before before (entry ∷ after) h apart =
    (none_named before entry after entry.name refl h, none_before (entry ∷ before) after (apart.0, none_later before entry after h) apart.1)

-- ---- where an entry may stand

abbrev CanStand : List Entry → ℕ → Type 0
CanStand before level = (is_behind_empty before level ≡ false) × (is_level_fit before level ≡ true)

abbrev behind : List Entry → List Entry → List Entry
behind before [] = before
behind before (entry ∷ entries) = behind (entry ∷ before) entries

behind-append : (before xs ys : List Entry) → behind before (xs ++ ys) ≡ behind (behind before xs) ys
behind-append before [] ys = refl
behind-append before (x ∷ xs) ys = behind-append (x ∷ before) xs ys

is_within : (level : ℕ) → 2 ≤ level → level ≤ 49 → (leb 2 level && leb level 49) ≡ true
is_within level low high = grind (arith, nat_tests)

open_itself : (entry : Entry) (before : List Entry) → is_open_level (entry ∷ before) entry.level ≡ true
open_itself entry before = by_test (leb entry.level entry.level) (grind (arith, nat_tests))
  where
    by_test : (b : Bool) → b ≡ true → option_map_or (λ (other : Entry). eqb other.level entry.level) (cond b (Some entry) (find (λ other. leb other.level entry.level) before)) false ≡ true
    by_test true e = grind (arith, nat_tests)
    by_test false e = absurd (false≢true e)

open_past : (entry : Entry) (before : List Entry) (level : ℕ) → level < entry.level → is_open_level (entry ∷ before) level ≡ is_open_level before level
open_past entry before level deeper = by_test (leb entry.level level) (grind (arith, nat_tests))
  where
    by_test : (b : Bool) → b ≡ false → option_map_or (λ (other : Entry). eqb other.level level) (cond b (Some entry) (find (λ other. leb other.level level) before)) false ≡ is_open_level before level
    by_test true e = absurd (false≢true (sym e))
    by_test false e = refl

both_true : (a b c d : Bool) → (a && b) ≡ true → d ≡ true → (a && b && (c || d)) ≡ true
both_true true true true d e f = refl
both_true true true false d e f = f
both_true true false c d e f = absurd (false≢true e)
both_true false b c d e f = absurd (false≢true e)

-- behind an elementary item, an open level goes on
stand_behind_picture : (last : Entry) (before : List Entry) (level : ℕ) → 2 ≤ level → level ≤ 49 → is_none last.picture ≡ false → is_open_level (last ∷ before) level ≡ true → CanStand (last ∷ before) level
stand_behind_picture last before level low high some opened =
    (ap (λ b. b && leb level last.level) some, both_true (leb 2 level) (leb level 49) (is_none last.picture) _ (is_within level low high) opened)

-- behind a group, a greater level begins
stand_behind_group : (level inner : ℕ) (name : Option (List ℕ)) (before : List Entry) → level < inner → 2 ≤ inner → inner ≤ 49 → CanStand (record { level = level; name = name; picture = None } ∷ before) inner
stand_behind_group level inner name before deeper low high = (grind (arith, nat_tests), fits (is_within inner low high))
  where
    fits : (leb 2 inner && leb inner 49) ≡ true → (leb 2 inner && leb inner 49 && true) ≡ true
    fits e = ap (λ b. b && true) e

-- the last item of a structure is elementary
record EndsInPicture (entries : List Entry) : Type 0 where
  last : Entry
  before : List Entry
  is : entries ≡ last ∷ before
  some : is_none last.picture ≡ false

ends_in_picture : (level : ℕ) (s : Structure) (before : List Entry) → IsFalse (is_nothing s) → IsWellFormed level s → EndsInPicture (behind before (written_items level s))
ends_in_picture level Nothing before some sound = absurd (false≢true (sym some))
ends_in_picture level (Elementary name text picture after) before some sound = by_after after sound.1 (ends_in_picture level after (record { level = level; name = name; picture = Some text } ∷ before))
  where
    by_after : (s : Structure) → IsWellFormed level s → (IsFalse (is_nothing s) → IsWellFormed level s → EndsInPicture (behind (record { level = level; name = name; picture = Some text } ∷ before) (written_items level s))) → EndsInPicture (behind (record { level = level; name = name; picture = Some text } ∷ before) (written_items level s))
    by_after Nothing sound later = record { last = record { level = level; name = name; picture = Some text }; before = before; is = refl; some = refl }
    by_after (Elementary n t p a) sound later = later refl sound
    by_after (Group n i m a) sound later = later refl sound
ends_in_picture level (Group name inner members after) before some sound =
    subst EndsInPicture (sym (behind-append (record { level = level; name = name; picture = None } ∷ before) (written_items inner members) (written_items level after)))
    (by_after after sound.4 (ends_in_picture level after (behind (record { level = level; name = name; picture = None } ∷ before) (written_items inner members))) (ends_in_picture inner members (record { level = level; name = name; picture = None } ∷ before) sound.2 sound.3))
  where
    by_after : (s : Structure) → IsWellFormed level s → (IsFalse (is_nothing s) → IsWellFormed level s → EndsInPicture (behind (behind (record { level = level; name = name; picture = None } ∷ before) (written_items inner members)) (written_items level s))) → EndsInPicture (behind (record { level = level; name = name; picture = None } ∷ before) (written_items inner members)) → EndsInPicture (behind (behind (record { level = level; name = name; picture = None } ∷ before) (written_items inner members)) (written_items level s))
    by_after Nothing sound later here = here
    by_after (Elementary n t p a) sound later here = later refl sound
    by_after (Group n i m a) sound later here = later refl sound

-- deeper items do not close a level
open_behind : (level inner : ℕ) (s : Structure) (before : List Entry) → level < inner → IsWellFormed inner s → is_open_level (behind before (written_items inner s)) level ≡ is_open_level before level
open_behind level inner Nothing before deeper sound = refl
open_behind level inner (Elementary name text picture after) before deeper sound =
    let entry : Entry = record { level = inner; name = name; picture = Some text } in
    open_behind level inner after (entry ∷ before) deeper sound.1 ∙ open_past entry before level deeper
open_behind level inner (Group name within members after) before deeper sound =
    let entry : Entry = record { level = inner; name = name; picture = None } in
    ap (λ (b : List Entry). is_open_level b level) (behind-append (entry ∷ before) (written_items within members) (written_items inner after))
    ∙ (open_behind level inner after (behind (entry ∷ before) (written_items within members)) deeper sound.4
    ∙ (open_behind level within members (entry ∷ before) (omega (arith, deeper, sound.0)) sound.3 ∙ open_past entry before level deeper))

-- behind a whole group, its level goes on
stand_behind_members : (level inner : ℕ) (name : Option (List ℕ)) (members : Structure) (before : List Entry) → 2 ≤ level → level ≤ 49 → level < inner → IsFalse (is_nothing members) → IsWellFormed inner members → CanStand (behind (record { level = level; name = name; picture = None } ∷ before) (written_items inner members)) level
stand_behind_members level inner name members before low high deeper some sound =
    let entry : Entry = record { level = level; name = name; picture = None } in
    let end = ends_in_picture inner members (entry ∷ before) some sound in
    let opened : is_open_level (behind (entry ∷ before) (written_items inner members)) level ≡ true = open_behind level inner members (entry ∷ before) deeper sound ∙ open_itself entry before in
    subst (λ b. CanStand b level) (sym end.is) (stand_behind_picture end.last end.before level low high end.some (subst (λ b. is_open_level b level ≡ true) end.is opened))

-- ---- no fault

picture_looked_at : (before : List Entry) (total : ℕ) (entry : Entry) (fault : LayoutFault) → CanStand before entry.level → IsFalse (is_name_of before entry.name) → IsFaultOf before total entry fault → HasPictureFault total entry.picture fault
picture_looked_at before total entry fault stands unnamed h =
    when_false _ _ unnamed (when_false _ _ (ap not stands.1) (when_false _ _ stands.0 h))

none_before_rest : (before xs ys : List Entry) → NoneBefore before (xs ++ ys) → NoneBefore (behind before xs) ys
none_before_rest before [] ys h = h
none_before_rest before (x ∷ xs) ys h = none_before_rest (x ∷ before) xs ys h.1

joined : (before xs ys rest : List Entry) (fault : LayoutFault) (total sum : ℕ) → total ≡ sum → IsFirstFault (behind (behind before xs) ys) total rest fault → IsFirstFault (behind before (xs ++ ys)) sum rest fault
joined before xs ys rest fault total sum is h =
    subst (λ t. IsFirstFault (behind before (xs ++ ys)) t rest fault) is (subst (λ b. IsFirstFault b total rest fault) (sym (behind-append before xs ys)) h)

unnamed : (name : Option (List ℕ)) → is_name_of [] name ≡ false
unnamed None = refl
unnamed (Some name) = refl

-- without a fault in the items of a structure, the first fault is behind them
past : (level total : ℕ) (before : List Entry) (s : Structure) (rest : List Entry) (fault : LayoutFault) → 2 ≤ level → level ≤ 49 → IsWellFormed level s → CanStand before level → NoneBefore before (written_items level s ++ rest) → total + width s ≤ 4000 → IsFirstFault before total (written_items level s ++ rest) fault → IsFirstFault (behind before (written_items level s)) (total + width s) rest fault
past level total before Nothing rest fault low high sound stands names short h = subst (λ t. IsFirstFault before t rest fault) (sym (add-zero total)) h
past level total before (Elementary name text picture after) rest fault low high sound stands names short h =
    let entry : Entry = record { level = level; name = name; picture = Some text } in
    elim h [
      | inl a ↦ absurd (no_picture_fault total text picture fault sound.0 (omega (arith, short)) (picture_looked_at before total entry fault stands names.0 a))
      | inr a ↦
          let next_is : a.1.0 ≡ total + picture.length = a.1.1.2 ∙ ap (λ n. total + n) (same_length text a.1.1.0 picture a.1.1.1 sound.0) in
          let here : IsFirstFault (entry ∷ before) (total + picture.length) (written_items level after ++ rest) fault = subst (λ t. IsFirstFault (entry ∷ before) t (written_items level after ++ rest) fault) next_is a.1.2 in
          let r = past level (total + picture.length) (entry ∷ before) after rest fault low high sound.1 (stand_behind_picture entry before level low high refl (open_itself entry before)) names.1 (omega (arith, short)) here in
          subst (λ t. IsFirstFault (behind (entry ∷ before) (written_items level after)) t rest fault) (omega arith) r
    ]
past level total before (Group name inner members after) rest fault low high sound stands names short h =
    let entry : Entry = record { level = level; name = name; picture = None } in
    elim h [
      | inl a ↦ absurd (picture_looked_at before total entry fault stands names.0 a)
      | inr a ↦
          let items_are = append_assoc (written_items inner members) (written_items level after) rest in
          let names_are : NoneBefore (entry ∷ before) (written_items inner members ++ (written_items level after ++ rest)) = subst (NoneBefore (entry ∷ before)) items_are names.1 in
          let here : IsFirstFault (entry ∷ before) total (written_items inner members ++ (written_items level after ++ rest)) fault =
          subst (λ es. IsFirstFault (entry ∷ before) total es fault) items_are (subst (λ t. IsFirstFault (entry ∷ before) t ((written_items inner members ++ written_items level after) ++ rest) fault) a.1.1 a.1.2) in
          let r = past inner total (entry ∷ before) members (written_items level after ++ rest) fault (omega (arith, low, sound.0)) sound.1 sound.3 (stand_behind_group level inner name before sound.0 (omega (arith, low, sound.0)) sound.1) names_are (omega (arith, short)) here in
          let q = past level (total + width members) (behind (entry ∷ before) (written_items inner members)) after rest fault low high sound.4 (stand_behind_members level inner name members before low high sound.0 sound.2 sound.3) (none_before_rest (entry ∷ before) (written_items inner members) (written_items level after ++ rest) names_are) (omega (arith, short)) r in
          joined (entry ∷ before) (written_items inner members) (written_items level after) rest fault (total + width members + width after) (total + (width members + width after)) (omega arith) q
    ]

-- at the end of a structure, nothing is unfinished
all_finished : (level total : ℕ) (s : Structure) (before : List Entry) (fault : LayoutFault) → IsFalse (is_nothing s) → IsWellFormed level s → IsFirstFault (behind before (written_items level s)) total [] fault → ⊥
all_finished level total s before fault some sound h =
    let end = ends_in_picture level s before some sound in
    let unfinished : is_unfinished (end.last ∷ end.before) ≡ true = subst (λ b. is_unfinished b ≡ true) end.is h.0 in
    false≢true (sym end.some ∙ unfinished)

of_structure : (s : Structure) (fault : LayoutFault) → is_one s ≡ true → IsWellFormed 1 s → AreNamedApart (written_items 1 s) → width s ≤ 4000 → IsFirstFault [] 0 (written_items 1 s) fault → ⊥
of_structure Nothing fault one sound names short h = false≢true one
of_structure (Elementary name text picture Nothing) fault one sound names short h =
    let entry : Entry = record { level = 1; name = name; picture = Some text } in
    elim h [
      | inl a ↦ no_picture_fault 0 text picture fault sound.0 (omega (arith, short)) (picture_looked_at [] 0 entry fault (refl, refl) (unnamed name) a)
      | inr a ↦ false≢true a.1.2.0
    ]
of_structure (Elementary name text picture (Elementary n t p a)) fault one sound names short h = false≢true one
of_structure (Elementary name text picture (Group n i m a)) fault one sound names short h = false≢true one
of_structure (Group name inner members Nothing) fault one sound names short h =
    let entry : Entry = record { level = 1; name = name; picture = None } in
    elim h [
      | inl a ↦ picture_looked_at [] 0 entry fault (refl, refl) (unnamed name) a
      | inr a ↦
          let here : IsFirstFault (entry ∷ []) 0 (written_items inner members ++ []) fault = subst (λ t. IsFirstFault (entry ∷ []) t (written_items inner members ++ []) fault) a.1.1 a.1.2 in
          let apart = none_before [] (entry ∷ written_items inner members ++ []) tt names in
          let low : 2 ≤ inner = omega (arith, sound.0) in
          all_finished inner (0 + width members) members (entry ∷ []) fault sound.2 sound.3
          (past inner 0 (entry ∷ []) members [] fault low sound.1 sound.3 (stand_behind_group 1 inner name [] sound.0 low sound.1) apart.1 (omega (arith, short)) here)
    ]
of_structure (Group name inner members (Elementary n t p a)) fault one sound names short h = false≢true one
of_structure (Group name inner members (Group n i m a)) fault one sound names short h = false≢true one

pub no_fault : (entries : List Entry) (layout : List Placed) (fault : LayoutFault) → IsLayout entries layout → IsFirstFault [] 0 entries fault → ⊥
no_fault entries layout fault is h =
    of_structure is.structure fault is.one is.sound (subst AreNamedApart is.entries_are (apart_by_names entries is.names)) is.short (subst (λ es. IsFirstFault [] 0 es fault) is.entries_are h)
