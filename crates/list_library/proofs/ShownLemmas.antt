-- Units that show files, and what they show of a name.
use Rattle.std.proofs.Common.{◌≡◌, ℕ, zero, suc, true, List, [], ◌∷◌, ◌++◌, map, refl, ◌∙◌, slice_index_or}
use Rattle.std.specs.Prelude.{slice_set, bytes_eq, IsTrue}
use Rattle.std.specs.List.{list_all}
use Rattle.std.proofs.lemmas.Bool.{and_parts, and_from}
use Rattle.std.proofs.lemmas.List.Folds.{list_all-append}
use Rattle.indexed_file.specs.World.{FileUnit, Named, Absent, Shut, name_in}
use Rattle.list_library.specs.Units.{in_place_among, named_among}
use Rattle.indexed_file.specs.SoundWorld.{is_sound_named, is_sound_unit, ShowsFiles}
use Rattle.indexed_file.proofs.TestLemmas.{either}

-- one more unit that shows files, in the place of another
pub sound_set : (units : List FileUnit) (i : ℕ) (unit : FileUnit) → IsTrue (list_all is_sound_unit units) → IsTrue (is_sound_unit unit) → IsTrue (list_all is_sound_unit (slice_set units i unit))
sound_set [] i unit all one = refl
sound_set (x ∷ xs) zero unit all one = and_from _ _ one (and_parts _ _ all).1
sound_set (x ∷ xs) (suc i) unit all one = and_from _ _ (and_parts _ _ all).0 (sound_set xs i unit (and_parts _ _ all).1 one)

-- units that show files behind others
pub sound_joined : (units others : List FileUnit) → IsTrue (list_all is_sound_unit units) → IsTrue (list_all is_sound_unit others) → IsTrue (list_all is_sound_unit (units ++ others))
sound_joined units others all more = list_all-append is_sound_unit units others ∙ and_from _ _ all more

-- what a name stands for among units that show files
pub sound_among : (units : List FileUnit) (name : List ℕ) → IsTrue (list_all is_sound_unit units) → IsTrue (is_sound_named (named_among units name))
sound_among [] name all = refl
sound_among (x ∷ xs) name all =
    let parts = and_parts _ _ all in
    either (bytes_eq x.name name) (is_sound_named (named_among (x ∷ xs) name) ≡ true)
    (λ yes. rw yes ((and_parts _ _ parts.0).0))
    (λ no. rw no (sound_among xs name parts.1))

-- units in the places of their names
pub sound_placed : {X : Type 0} (f : X → List ℕ) (others : List FileUnit) (xs : List X) → IsTrue (list_all is_sound_unit others) → IsTrue (list_all is_sound_unit (map (λ (x : X). in_place_among others (f x)) xs))
sound_placed f others [] all = refl
sound_placed f others (x ∷ xs) all = and_from _ _ (and_from _ _ (sound_among others (f x) all) refl) (sound_placed f others xs all)

named_sound : (units : List FileUnit) (elsewhere : List ℕ → Named) (name : List ℕ) → IsTrue (list_all is_sound_unit units) → IsTrue (is_sound_named (elsewhere name)) → IsTrue (is_sound_named (name_in units elsewhere name))
named_sound [] elsewhere name all one = one
named_sound (x ∷ xs) elsewhere name all one =
    let parts = and_parts _ _ all in
    either (bytes_eq x.name name) (is_sound_named (name_in (x ∷ xs) elsewhere name) ≡ true)
    (λ yes. rw yes ((and_parts _ _ parts.0).0))
    (λ no. rw no (named_sound xs elsewhere name parts.1 one))

unit_sound : (units : List FileUnit) (u : ℕ) (d : FileUnit) → IsTrue (is_sound_unit d) → IsTrue (list_all is_sound_unit units) → IsTrue (is_sound_unit (slice_index_or units u d))
unit_sound [] u d none all = none
unit_sound (x ∷ xs) zero d none all = (and_parts _ _ all).0
unit_sound (x ∷ xs) (suc u) d none all = unit_sound xs u d none (and_parts _ _ all).1

-- they show files of every name
pub all_show_files : (units others : List FileUnit) → IsTrue (list_all is_sound_unit units) → IsTrue (list_all is_sound_unit others) → (name : List ℕ) → ShowsFiles (record { units = units; elsewhere = named_among others }) name
all_show_files units others all more name = record {
  named = named_sound units (named_among others) name all (sound_among others name more);
  units = λ u same. let parts = and_parts _ _ (unit_sound units u (record { name = []; named = Absent; holding = Shut }) refl all) in record { named = parts.0; holding = parts.1 };
}
