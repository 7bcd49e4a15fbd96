-- Entries have one layout, and its items have their names.
use Rattle.std.proofs.Common.{◌≡◌, ℕ, ◌+◌, ◌<◌, Bool, true, false, cond, List, [], ◌∷◌, ◌++◌, Option, Some, None, refl, sym, ap, subst, ◌∙◌, arith, append_assoc}
use Rattle.std.specs.Prelude.{IsFalse}
use Rattle.std.specs.List.{list_any}
use Rattle.std.proofs.lemmas.Bool.{false≢true}
use Rattle.std.proofs.lemmas.Option.{same_Some}
use Rattle.std.proofs.lemmas.List.Folds.{list_any-append}
use Rattle.record_layout.specs.declared.picture.Picture.{Picture}
use Rattle.record_layout.specs.Picture.{Means, IsPicture}
use Rattle.record_layout.specs.Layout.{Entry, Placed, Structure, written_items, width, placed, places, is_nothing, IsWellFormed, is_named, is_name_of, IsLayout, field_of}
use Rattle.record_layout.specs.Layout.Structure.{Nothing, Elementary, Group}
use Rattle.record_layout.proofs.PictureLemmas.{kind_of, one_size}
use Rattle.deck_parser.proofs.TestLemmas.{neither_true}

-- ---- one structure

same_picture : (text : List ℕ) (a b : Picture) → IsPicture text a → IsPicture text b → a ≡ b
same_picture text a b first second =
    let kinds : a.numeric ≡ b.numeric = kind_of a.numeric text a.length first.means ∙ sym (kind_of b.numeric text b.length second.means) in
    let sizes : a.length ≡ b.length = one_size b.numeric text a.length b.length (subst (λ numeric. Means numeric text a.length) kinds first.means) second.means in
    λ j. record { numeric = kinds j; length = sizes j }

-- the next entry is of a lower level
abbrev Below : ℕ → List Entry → Type 0
Below level [] = Unit {0}
Below level (entry ∷ after) = entry.level < level

abbrev head_level : List Entry → Option ℕ
head_level [] = None
head_level (entry ∷ after) = Some entry.level

abbrev head_entry : Entry → List Entry → Entry
head_entry default [] = default
head_entry default (entry ∷ after) = entry

abbrev tail_of : List Entry → List Entry
tail_of [] = []
tail_of (entry ∷ after) = after

not_below : (level : ℕ) (rest after : List Entry) (entry : Entry) → entry.level ≡ level → Below level rest → rest ≡ entry ∷ after → ⊥
not_below level rest after entry same below is =
    let less : entry.level < level = subst (Below level) is below in omega (arith, less, same)

first_level : (inner : ℕ) (s : Structure) (rest : List Entry) → IsFalse (is_nothing s) → head_level (written_items inner s ++ rest) ≡ Some inner
first_level inner Nothing rest some = absurd (false≢true (sym some))
first_level inner (Elementary name text picture after) rest some = refl
first_level inner (Group name within members after) rest some = refl

below_inner : (level inner : ℕ) (s : Structure) (rest : List Entry) → level < inner → Below level rest → Below inner (written_items level s ++ rest)
below_inner level inner Nothing [] less below = tt
below_inner level inner Nothing (entry ∷ rest) less below = omega (arith, less, below)
below_inner level inner (Elementary name text picture after) rest less below = less
below_inner level inner (Group name within members after) rest less below = less

some_text : (text : List ℕ) → ◌≡◌ {A = Option (List ℕ)} (Some text) None → ⊥
some_text text e = cc

-- entries of a level are written by one structure
same : (level : ℕ) (s t : Structure) (r q : List Entry) → IsWellFormed level s → IsWellFormed level t → Below level r → Below level q → written_items level s ++ r ≡ written_items level t ++ q → (s ≡ t) × (r ≡ q)
same level Nothing Nothing r q a b c d e = (refl, e)
same level Nothing (Elementary name text picture after) r q a b c d e = absurd (not_below level r _ (record { level = level; name = name; picture = Some text }) refl c e)
same level Nothing (Group name inner members after) r q a b c d e = absurd (not_below level r _ (record { level = level; name = name; picture = None }) refl c e)
same level (Elementary name text picture after) Nothing r q a b c d e = absurd (not_below level q _ (record { level = level; name = name; picture = Some text }) refl d (sym e))
same level (Group name inner members after) Nothing r q a b c d e = absurd (not_below level q _ (record { level = level; name = name; picture = None }) refl d (sym e))
same level (Elementary name text picture after) (Group other inner members behind) r q a b c d e =
    let entry : Entry = record { level = level; name = name; picture = Some text } in
    absurd (some_text text (ap (λ es. (head_entry entry es).picture) e))
same level (Group other inner members behind) (Elementary name text picture after) r q a b c d e =
    let entry : Entry = record { level = level; name = name; picture = Some text } in
    absurd (some_text text (sym (ap (λ es. (head_entry entry es).picture) e)))
same level (Elementary name text picture after) (Elementary other words image behind) r q a b c d e =
    let entry : Entry = record { level = level; name = name; picture = Some text } in
    let names : name ≡ other = ap (λ es. (head_entry entry es).name) e in
    let texts : text ≡ words = same_Some text words (ap (λ es. (head_entry entry es).picture) e) in
    let pictures : picture ≡ image = same_picture text picture image a.0 (subst (λ w. IsPicture w image) (sym texts) b.0) in
    let more = same level after behind r q a.1 b.1 c d (ap tail_of e) in
    (λ j. Elementary (names j) (texts j) (pictures j) (more.0 j), more.1)
same level (Group name inner members after) (Group other within parts behind) r q a b c d e =
    let entry : Entry = record { level = level; name = name; picture = None } in
    let names : name ≡ other = ap (λ es. (head_entry entry es).name) e in
    let tails : written_items inner members ++ (written_items level after ++ r) ≡ written_items within parts ++ (written_items level behind ++ q) =
    sym (append_assoc (written_items inner members) (written_items level after) r) ∙ (ap tail_of e ∙ append_assoc (written_items within parts) (written_items level behind) q) in
    let levels : inner ≡ within = same_Some inner within (sym (first_level inner members (written_items level after ++ r) a.2) ∙ (ap head_level tails ∙ first_level within parts (written_items level behind ++ q) b.2)) in
    let front = same inner members parts (written_items level after ++ r) (written_items level behind ++ q) a.3 (subst (λ k. IsWellFormed k parts) (sym levels) b.3)
    (below_inner level inner after r a.0 c) (below_inner level inner behind q a.0 d) (subst (λ k. written_items inner members ++ (written_items level after ++ r) ≡ written_items k parts ++ (written_items level behind ++ q)) (sym levels) tails) in
    let back = same level after behind r q a.4 b.4 c d front.1 in
    (λ j. Group (names j) (levels j) (front.0 j) (back.0 j), back.1)

-- ---- one layout

pub one_layout : (entries : List Entry) (a b : List Placed) → IsLayout entries a → IsLayout entries b → a ≡ b
one_layout entries a b first second =
    let written_same : written_items 1 first.structure ++ [] ≡ written_items 1 second.structure ++ [] = ap (λ (es : List Entry). es ++ []) (sym first.entries_are ∙ second.entries_are) in
    let structures = (same 1 first.structure second.structure [] [] first.sound second.sound tt tt written_same).0 in
    first.layout_is ∙ (ap (places 0) structures ∙ sym second.layout_is)

-- ---- names

none_behind : (xs ys : List Placed) (name : List ℕ) → field_of xs name ≡ None → field_of ys name ≡ None → field_of (xs ++ ys) name ≡ None
none_behind [] ys name e f = f
none_behind (item ∷ xs) ys name e f = by_test (is_named name item.name) e (λ k. none_behind xs ys name k f)
  where
    by_test : (b : Bool) → cond b (Some item.field) (field_of xs name) ≡ None → (field_of xs name ≡ None → field_of (xs ++ ys) name ≡ None) → cond b (Some item.field) (field_of (xs ++ ys) name) ≡ None
    by_test true k more = absurd (cc)
    by_test false k more = more k

no_field_in : (offset level : ℕ) (s : Structure) (name : List ℕ) → list_any (λ entry. is_named name entry.name) (written_items level s) ≡ false → field_of (places offset s) name ≡ None
no_field_in offset level Nothing name e = refl
no_field_in offset level (Elementary own text picture after) name e =
    let p = neither_true (is_named name own) (list_any (λ (entry : Entry). is_named name entry.name) (written_items level after)) e in
    ap (λ b. cond b (Some (placed own offset picture.length picture.numeric).field) (field_of (places (offset + picture.length) after) name)) p.0
    ∙ no_field_in (offset + picture.length) level after name p.1
no_field_in offset level (Group own inner members after) name e =
    let p = neither_true (is_named name own) (list_any (λ (entry : Entry). is_named name entry.name) (written_items inner members ++ written_items level after)) e in
    let q = neither_true (list_any (λ (entry : Entry). is_named name entry.name) (written_items inner members)) (list_any (λ (entry : Entry). is_named name entry.name) (written_items level after)) (sym (list_any-append (λ (entry : Entry). is_named name entry.name) (written_items inner members) (written_items level after)) ∙ p.1) in
    ap (λ b. cond b (Some (placed own offset (width members) false).field) (field_of (places offset members ++ places (offset + width members) after) name)) p.0
    ∙ none_behind (places offset members) (places (offset + width members) after) name (no_field_in offset inner members name q.0) (no_field_in (offset + width members) level after name q.1)

-- a name that no entry has is that of no item
pub no_field : (entries : List Entry) (layout : List Placed) (name : List ℕ) → IsLayout entries layout → is_name_of entries (Some name) ≡ false → field_of layout name ≡ None
no_field entries layout name is e =
    ap (λ (items : List Placed). field_of items name) is.layout_is
    ∙ no_field_in 0 1 is.structure name (subst (λ es. list_any (λ entry. is_named name entry.name) es ≡ false) is.entries_are e)
