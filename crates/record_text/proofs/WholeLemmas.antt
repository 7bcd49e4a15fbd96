-- The columns of the elementary items of a record are the whole of it.
use Rattle.std.proofs.Common.{◌≡◌, ℕ, ◌+◌, true, List, [], ◌∷◌, ◌++◌, refl, sym, ap, subst, arith}
use Rattle.record_layout.specs.Layout.{Structure, Nothing, Elementary, Group, width, is_nothing, is_one, places, length_of}
use Rattle.record_text.specs.Parts.{Part, item_parts, elementary_parts}
use Rattle.record_text.proofs.ItemLemmas.{elementary}
use Rattle.record_text.specs.Whole.{AreTiled, AreItemsWhole}

-- parts before others
tiled_both : (from middle end : ℕ) (first second : List Part) → AreTiled from first middle → AreTiled middle second end → AreTiled from (first ++ second) end
tiled_both from middle end [] second one two = subst (λ (n : ℕ). AreTiled n second end) (sym one) two
tiled_both from middle end (part ∷ first) second one two = (one.0, tiled_both (from + part.length) middle end first second one.1 two)

-- those of a structure
tiled_items : (offset : ℕ) (s : Structure) → AreTiled offset (elementary_parts offset s) (offset + width s)
tiled_items offset Nothing = omega arith
tiled_items offset (Elementary name text picture after) = (
  refl,
  subst (λ (n : ℕ). AreTiled (offset + picture.length) (elementary_parts (offset + picture.length) after) n) (let e : offset + picture.length + width after ≡ offset + (picture.length + width after) = omega arith in e)
      (tiled_items (offset + picture.length) after),
)
tiled_items offset (Group name inner members after) =
    tiled_both offset (offset + width members) (offset + (width members + width after)) (elementary_parts offset members) (elementary_parts (offset + width members) after) (tiled_items offset members)
    (subst (λ (n : ℕ). AreTiled (offset + width members) (elementary_parts (offset + width members) after) n) (let e : offset + width members + width after ≡ offset + (width members + width after) = omega arith in e)
    (tiled_items (offset + width members) after))

nothing_wide : (s : Structure) → is_nothing s ≡ true → width s ≡ 0
nothing_wide Nothing is = refl
nothing_wide (Elementary name text picture after) is = absurd (cc)
nothing_wide (Group name inner members after) is = absurd (cc)

-- the first item is the record
record_wide : (s : Structure) → is_one s ≡ true → length_of (places 0 s) ≡ width s
record_wide Nothing is = absurd (cc)
record_wide (Elementary name text picture after) is = let none = nothing_wide after is in omega (arith, none)
record_wide (Group name inner members after) is = let none = nothing_wide after is in omega (arith, none)

pub items_whole : AreItemsWhole
items_whole entries layout laid =
    let s = laid.structure in
    let wide : 0 + width s ≡ length_of layout = (let one : length_of (places 0 s) ≡ width s = record_wide s laid.one in let same = ap length_of laid.layout_is in omega (arith, one, same)) in
    subst (λ (n : ℕ). AreTiled 0 (item_parts layout) n) wide
    (subst (λ (parts : List Part). AreTiled 0 parts (0 + width s)) (sym (elementary entries layout laid)) (tiled_items 0 s))
