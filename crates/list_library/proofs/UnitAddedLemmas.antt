-- A unit is added to a library in memory.
use Rattle.std.proofs.Common.{◌≡◌, ℕ, List, [], ◌∷◌, ◌++◌, Ok, Result, bytes_eq, refl, sym, ap, ◌∙◌, subst, false}
use Rattle.std.specs.Prelude.{IsTrue, IsFalse}
use Rattle.std.specs.List.{list_any, list_all}
use Rattle.std.proofs.lemmas.Bool.{and_from}
use Rattle.indexed_file.specs.World.{World, FileUnit, Named, Shut, name_in, named_in}
use Rattle.indexed_file.specs.SoundWorld.{is_sound_unit}
use Rattle.indexed_file.proofs.TestLemmas.{either}
use Rattle.indexed_file.specs.Growing.{IsNewName, has_unit_named, with_added_unit, shut_unit}
use Rattle.list_library.specs.Units.{in_place_among, named_among, TakesPlace}
use Rattle.list_library.proofs.NameLemmas.{one_more}
use Rattle.list_library.proofs.ShownLemmas.{sound_joined, sound_among}

-- a name that no unit has stands for what it stands for elsewhere
free_name : (units : List FileUnit) (elsewhere : List ℕ → Named) (name : List ℕ) → list_any (λ (unit : FileUnit). bytes_eq unit.name name) units ≡ false
    → name_in units elsewhere name ≡ elsewhere name
free_name [] elsewhere name free = refl
free_name (x ∷ xs) elsewhere name free =
    either (bytes_eq x.name name) (name_in (x ∷ xs) elsewhere name ≡ elsewhere name)
    (λ yes. let e = rw yes at free in absurd (cc))
    (λ no. rw no (free_name xs elsewhere name (rw no at free)))

module _ (units others left : List FileUnit) (own : List ℕ) (unit : FileUnit) (takes : TakesPlace own unit others left) where
  pub named_as_before : (name : List ℕ) → name_in (units ++ unit ∷ []) (named_among left) name ≡ name_in units (named_among others) name
  named_as_before name =
      one_more units unit (named_among others) (named_among left) name
      (ap (λ (u : FileUnit). u.named) takes.unit ∙ ap (named_among others) (sym (ap (λ (u : FileUnit). u.name) takes.unit)))
      (λ no. takes.others name (subst (λ (u : FileUnit). bytes_eq u.name name ≡ false) takes.unit no))

  pub unit_added : list_any (λ (u : FileUnit). bytes_eq u.name own) units ≡ false
      → units ++ unit ∷ [] ≡ with_added_unit (record { units = units; elsewhere = named_among others }) own
  unit_added free =
      ap (λ (u : FileUnit). units ++ u ∷ []) (takes.unit
      ∙ ap (λ (n : Named). let u : FileUnit = record { name = own; named = n; holding = Shut } in u) (sym (free_name units (named_among others) own free)))

  pub sound_added : IsTrue (list_all is_sound_unit units) → IsTrue (list_all is_sound_unit others) → IsTrue (list_all is_sound_unit (units ++ unit ∷ []))
  sound_added all more =
      let one : IsTrue (is_sound_unit unit) = subst (λ (u : FileUnit). IsTrue (is_sound_unit u)) (sym takes.unit) (and_from _ _ (sound_among others own more) refl) in
      sound_joined units (unit ∷ []) all (and_from _ _ one refl)
