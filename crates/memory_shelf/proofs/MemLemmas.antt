-- What a crash of a shelf in memory keeps.
use Rattle.std.proofs.Common.{zero, suc, is_some, ◌≡◌, ℕ, List, [], ◌∷◌, ◌++◌, Option, Some, None, true, false, refl, sym, ◌∙◌, ap, subst, inl, inr}
use Rattle.std.proofs.lemmas.Bool.{cases_Bool}
use Rattle.std.proofs.lemmas.Slice.Eq.{bytes_eq-Decides}
use Rattle.page_store.specs.DeviceFile.{DeviceFile, absent, synced}
use Rattle.page_store.specs.Images.{Leaves}
use Rattle.page_store.proofs.ImageLemmas.{only_synced}
use Rattle.memory_shelf.specs.CrashImages.{Crashed, image_of}
use Rattle.memory_shelf.proofs.CrashImageLemmas.{crash_image, image_of_absent}
use Rattle.memory_shelf.specs.MemFiles.{is_file_of_name, device_file_of, file_by_name, index_of, IsFirstNamedAt}
use Rattle.memory_shelf.proofs.MemFilesLemmas.{file_push, others_push, none_from, absent_from, at_from}
use Rattle.memory_shelf.specs.declared.memory_file.MemFile.{MemFile}
use Rattle.memory_shelf.specs.declared.crash.Image.{Image}

-- a file that was kept
pub crashed_some : (image : Image) (f g : MemFile) (bytes : List ℕ) → Some bytes ≡ image_of image (device_file_of f) → device_file_of g ≡ record { seen = Some bytes; log = synced bytes ∷ [] } → Crashed image (device_file_of f) (device_file_of g)
crashed_some image f g bytes left is = record {
  left = ap (λ (x : DeviceFile). x.seen) is ∙ left;
  may = subst (Leaves (device_file_of f)) (sym (ap (λ (x : DeviceFile). x.seen) is ∙ left)) (crash_image image (device_file_of f) f.sound);
  settled = λ c may. only_synced [] bytes c (subst (λ (x : DeviceFile). Leaves x c) is may) ∙ sym (ap (λ (x : DeviceFile). x.seen) is);
}

name_is : (f : MemFile) (name : List ℕ) → is_file_of_name f name ≡ true → f.name.bytes ≡ name
name_is f name is = (bytes_eq-Decides f.name.bytes name).0 is

own_name : (f : MemFile) → is_file_of_name f f.name.bytes ≡ true
own_name f = (bytes_eq-Decides f.name.bytes f.name.bytes).1 refl

not_name : (f : MemFile) (name : List ℕ) → is_file_of_name f name ≡ false → ¬ (name ≡ f.name.bytes)
not_name f name isnt same = let e : is_file_of_name f name ≡ true = (bytes_eq-Decides f.name.bytes name).1 (sym same) in let clash : true ≡ false = sym e ∙ isnt in absurd (cc)

-- a file behind the others changes no other name
pub push_other : (fs : List MemFile) (f : MemFile) (name : List ℕ) → is_file_of_name f name ≡ false → file_by_name (fs ++ f ∷ []) name ≡ file_by_name fs name
push_other fs f name isnt = others_push fs f f.name.bytes name (own_name f) (not_name f name isnt)

absent_here : (fs : List MemFile) (f : MemFile) (name : List ℕ) → index_of fs f.name.bytes ≡ None → is_file_of_name f name ≡ true → file_by_name fs name ≡ absent
absent_here fs f name none is = subst (λ (n : List ℕ). file_by_name fs n ≡ absent) (name_is f name is) (absent_from fs f.name.bytes (none_from fs f.name.bytes none))

-- one more file is looked at, whose name is new
pub crash_step : (image : Image) (fs : List MemFile) (f : MemFile) (new after : List MemFile) → ((n : List ℕ) → Crashed image (file_by_name fs n) (file_by_name new n)) → index_of fs f.name.bytes ≡ None
    → ((n : List ℕ) → is_file_of_name f n ≡ true → file_by_name new n ≡ absent → Crashed image (device_file_of f) (file_by_name after n)) → ((n : List ℕ) → is_file_of_name f n ≡ false → file_by_name after n ≡ file_by_name new n)
    → (n : List ℕ) → Crashed image (file_by_name (fs ++ f ∷ []) n) (file_by_name after n)
crash_step image fs f new after so none this others n =
    elim (cases_Bool (is_file_of_name f n)) [
      | inl is ↦
          let was = absent_here fs f n none is in
          let gone : file_by_name new n ≡ absent = absent_from new n ((so n).left ∙ ap (image_of image) was ∙ image_of_absent image) in
          rw (file_push fs f n was is) (this n is gone)
      | inr isnt ↦ rw (push_other fs f n isnt, others n isnt) (so n)
    ]

found_stays : (fs : List MemFile) (f : MemFile) (name : List ℕ) (i : ℕ) → IsFirstNamedAt fs name i → file_by_name (fs ++ f ∷ []) name ≡ file_by_name fs name
found_stays [] f name i at = absurd at
found_stays (g ∷ fs) f name zero at = rw at refl
found_stays (g ∷ fs) f name (suc i) at = rw at.0 (found_stays fs f name i at.1)

hidden : (fs : List MemFile) (f : MemFile) (name : List ℕ) → (index_of fs f.name.bytes ≡ None → ⊥) → is_file_of_name f name ≡ true → file_by_name (fs ++ f ∷ []) name ≡ file_by_name fs name
hidden fs f name some is = subst (λ (n : List ℕ). file_by_name (fs ++ f ∷ []) n ≡ file_by_name fs n) (name_is f name is) (go (index_of fs f.name.bytes) refl)
  where
    go : (r : Option ℕ) → index_of fs f.name.bytes ≡ r → file_by_name (fs ++ f ∷ []) f.name.bytes ≡ file_by_name fs f.name.bytes
    go None e = absurd (some e)
    go (Some i) e = found_stays fs f f.name.bytes i (at_from fs f.name.bytes i e)

-- one more file is looked at, which an earlier one of its name hides
pub crash_hidden : (image : Image) (fs : List MemFile) (f : MemFile) (new : List MemFile) → ((n : List ℕ) → Crashed image (file_by_name fs n) (file_by_name new n)) → (index_of fs f.name.bytes ≡ None → ⊥)
    → (n : List ℕ) → Crashed image (file_by_name (fs ++ f ∷ []) n) (file_by_name new n)
crash_hidden image fs f new so some n =
    elim (cases_Bool (is_file_of_name f n)) [
      | inl is ↦ rw (hidden fs f n some is) (so n)
      | inr isnt ↦ rw (push_other fs f n isnt) (so n)
    ]

pub none_is : {X : Type 0} (r : Option X) → is_some r ≡ false → r ≡ None
none_is None e = refl
none_is (Some x) e = absurd (cc)

pub some_is : {X : Type 0} (r : Option X) → is_some r ≡ true → r ≡ None → ⊥
some_is None e none = absurd (cc)
some_is (Some x) e none = absurd (cc)
