-- The items of a layout, one by one.
use Rattle.std.proofs.Common.{◌≡◌, ℕ, ◌+◌, ◌<◌, ◌≤◌, List, length, map, get_or, sym, ap, subst, ◌∙◌}
use Rattle.std.proofs.lemmas.List.{length-map}
use Rattle.std.proofs.lemmas.List.Elements.{All-get_or}
use Rattle.std.proofs.Math.ListN.{get_or-map}
use Rattle.record_layout.specs.declared.item.Placed.{Placed as Declared}
use Rattle.record_layout.specs.Layout.{Placed, item_of, length_of, IsRecord}

-- an item has a character or more within its record
pub item_within : (items : List Declared) (i : ℕ) (item : Declared) → IsRecord (map item_of items) → i < length items → item ≡ get_or items i item → (1 ≤ item.field.length) × (item.field.offset + item.field.length ≤ length_of (map item_of items))
item_within items i item layout h is =
    let same : get_or (map item_of items) i (item_of item) ≡ item_of item = get_or-map item_of items i item ∙ ap item_of (sym is) in
    let P : Placed → Type 0 = λ placed. (1 ≤ placed.field.length) × (placed.field.offset + placed.field.length ≤ length_of (map item_of items)) in
    let there : i < length (map item_of items) = subst (λ n. i < n) (sym (length-map items item_of)) h in
    subst P same (All-get_or P (map item_of items) i (item_of item) there layout.within)
