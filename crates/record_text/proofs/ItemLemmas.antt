-- The columns of a record that is described are its elementary items.
use Rattle.std.proofs.Common.{◌≡◌, ◌≤◌, ℕ, ◌+◌, ◌==◌, Bool, true, false, List, [], ◌∷◌, ◌++◌, Option, if◌then◌else◌, refl, sym, ap, subst, ◌∙◌, append_assoc, append-nil, arith}
use Rattle.std.specs.Prelude.{IsFalse}
use Rattle.std.proofs.lemmas.Bool.{ne_eqb}
use Rattle.std.proofs.lemmas.Cmp.{nat_eq_equiv}
use Rattle.record_layout.specs.Layout.{Entry, Placed, Structure, Nothing, Elementary, Group, width, places, placed, is_nothing, IsWellFormed, IsLayout}
use Rattle.record_layout.proofs.PictureLemmas.{some_picture}
use Rattle.record_text.specs.Parts.{Part, is_group, item_part, item_parts, elementary_parts}

-- the first of these items, if there is one, begins there
abbrev pub BeginsAt : ℕ → List Placed → Type 0
BeginsAt at [] = Unit {0}
BeginsAt at (item ∷ items) = item.field.offset ≡ at

begins : (offset : ℕ) (s : Structure) (rest : List Placed) → BeginsAt (offset + width s) rest → BeginsAt offset (places offset s ++ rest)
begins offset Nothing [] at = tt
begins offset Nothing (item ∷ items) at = omega (arith, at)
begins offset (Elementary name text picture after) rest at = refl
begins offset (Group name inner members after) rest at = refl

same_number : (a : ℕ) → (a == a) ≡ true
same_number a = nat_eq_equiv.refl a

other_number : (a b n : ℕ) → a ≡ b + n → 1 ≤ n → (a == b) ≡ false
other_number a b n is some = ne_eqb a b (λ same. omega (arith, is, some, same))

no_group : (item : Placed) (after : List Placed) (n : ℕ) → 1 ≤ n → BeginsAt (item.field.offset + n) after → is_group item after ≡ false
no_group item [] n some at = refl
no_group item (next ∷ after) n some at = other_number next.field.offset item.field.offset n at some

a_group : (name : Option (List ℕ)) (offset length : ℕ) (s : Structure) (rest : List Placed) → IsFalse (is_nothing s) → is_group (placed name offset length false) (places offset s ++ rest) ≡ true
a_group name offset length Nothing rest some = absurd (cc)
a_group name offset length (Elementary other text picture after) rest some = same_number offset
a_group name offset length (Group other inner members after) rest some = same_number offset

-- the items of a structure, with others behind them
parts : (offset level : ℕ) (s : Structure) (rest : List Placed) → IsWellFormed level s → BeginsAt (offset + width s) rest → item_parts (places offset s ++ rest) ≡ elementary_parts offset s ++ item_parts rest
parts offset level Nothing rest sound at = refl
parts offset level (Elementary name text picture after) rest sound at =
    let item = placed name offset picture.length picture.numeric in
    let tail = places (offset + picture.length) after ++ rest in
    let e : offset + (picture.length + width after) ≡ offset + picture.length + width after = omega arith in
    let next = subst (λ (n : ℕ). BeginsAt n rest) e at in
    ap (λ (b : Bool). (if b then [] else item_part item ∷ []) ++ item_parts tail) (no_group item tail picture.length (some_picture text picture sound.0) (begins (offset + picture.length) after rest next))
    ∙ ap (λ (l : List Part). item_part item ∷ l) (parts (offset + picture.length) level after rest sound.1 next)
parts offset level (Group name inner members after) rest sound at =
    let item = placed name offset (width members) false in
    let inside = places offset members in
    let behind = places (offset + width members) after ++ rest in
    let e : offset + (width members + width after) ≡ offset + width members + width after = omega arith in
    let next = subst (λ (n : ℕ). BeginsAt n rest) e at in
    ap (λ (l : List Placed). item_parts (item ∷ l)) (append_assoc inside (places (offset + width members) after) rest)
    ∙ ap (λ (b : Bool). (if b then [] else item_part item ∷ []) ++ item_parts (inside ++ behind)) (a_group name offset (width members) members behind sound.2)
    ∙ parts offset inner members behind sound.3 (begins (offset + width members) after rest next)
    ∙ ap (λ (l : List Part). elementary_parts offset members ++ l) (parts (offset + width members) level after rest sound.4 next)
    ∙ sym (append_assoc (elementary_parts offset members) (elementary_parts (offset + width members) after) (item_parts rest))

pub elementary : (entries : List Entry) (layout : List Placed) (laid : IsLayout entries layout) → item_parts layout ≡ elementary_parts 0 laid.structure
elementary entries layout laid =
    ap item_parts (laid.layout_is ∙ sym (append-nil (places 0 laid.structure)))
    ∙ parts 0 1 laid.structure [] laid.sound tt
    ∙ append-nil (elementary_parts 0 laid.structure)
