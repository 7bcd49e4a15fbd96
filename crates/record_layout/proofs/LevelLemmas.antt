-- What stands before an item, the nearest first.
use Rattle.std.proofs.Common.{◌≡◌, ℕ, ◌+◌, ◌<◌, List, [], ◌∷◌, length, take, map, reverse, get_or, Some, refl, ap, ◌∙◌, inl, inr, ◌⊎◌}
use Rattle.std.proofs.lemmas.List.{map_more, reverse-append}
use Rattle.record_layout.specs.declared.item.Item.{Item}
use Rattle.record_layout.specs.declared.fault.LayoutFault.{LayoutFault}
use Rattle.record_layout.specs.declared.fault.LayoutFault.TheVariants.{BadPicture, BadLevel, TooLong, DuplicateName, Empty, Memory}
use Rattle.record_layout.specs.Picture.{IsTooLong, IsBad}
use Rattle.record_layout.specs.Layout.{entry_of_item}
use Rattle.record_layout.specs.LayoutFault.{HasPictureFault}

-- one item more stands first
pub reverse_more : (items : List Item) (i : ℕ) (d : Item) → i < length items → reverse (map entry_of_item (take (i + 1) items)) ≡ entry_of_item (get_or items i d) ∷ reverse (map entry_of_item (take i items))
reverse_more items i d h = ap reverse (map_more entry_of_item items i d h) ∙ reverse-append (map entry_of_item (take i items)) (entry_of_item (get_or items i d) ∷ [])

-- the fault of a picture by itself
pub picture_fault : (total : ℕ) (text : List ℕ) (fault : LayoutFault) → (fault ≡ TooLong → IsTooLong text) → (fault ≡ BadPicture → IsBad text) → (fault ≡ TooLong) ⊎ (fault ≡ BadPicture) → HasPictureFault total (Some text) fault
picture_fault total text BadPicture long bad only = bad refl
picture_fault total text TooLong long bad only = inl (long refl)
picture_fault total text BadLevel long bad only = elim only [ inl e ↦ cc | inr e ↦ cc ]
picture_fault total text DuplicateName long bad only = elim only [ inl e ↦ cc | inr e ↦ cc ]
picture_fault total text Empty long bad only = elim only [ inl e ↦ cc | inr e ↦ cc ]
picture_fault total text Memory long bad only = elim only [ inl e ↦ cc | inr e ↦ cc ]
