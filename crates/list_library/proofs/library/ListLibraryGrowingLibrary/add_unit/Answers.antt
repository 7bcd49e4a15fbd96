use Rattle.std.proofs.Common.{◌≡◌, ℕ, List, [], ◌∷◌, ◌++◌, IsTrue, refl, sym, ap, ◌∙◌, subst, rules, arith}
use Rattle.std.specs.List.{list_all}
use Rattle.std.specs.Vec.{with_items}
use Rattle.std.proofs.lemmas.Grind.{common_steps}
use Rattle.std.proofs.lemmas.List.{with_items_is}
use Rattle.indexed_file.specs.Growing.{with_added_unit}
use Rattle.indexed_file.specs.World.{FileUnit, name_in}
use Rattle.indexed_file.specs.SoundWorld.{is_sound_unit}
use Rattle.list_library.specs.Units.{named_among, TakesPlace}
use Rattle.list_library.specs.ListWorld.{list_world_of}
use Rattle.list_library.proofs.ListWorldLemmas.{keeps_all, all_stay_in_memory}
use Rattle.list_library.proofs.UnitAddedLemmas.{named_as_before, unit_added, sound_added}
use Rattle.list_library.proofs.library.ListLibraryGrowingLibrary.add_unit.Goals.{After-push}
use Rattle.list_library.proofs.library.ListLibraryGrowingLibrary.add_unit.Goals as goal

pub invariant_of-self-2 : goal.invariant_of-self-2
invariant_of-self-2 c =
    let name : c.absent-unit.result.name ≡ c.args.name.now.bytes = ap (λ (u : FileUnit). u.name) c.absent-unit.ensures in
    let there : c.deref_mut.result.now ≡ c.args.self.now.others.items = first_of (search rules, grind (arith, common_steps)) in
    let takes : TakesPlace c.args.name.now.bytes c.take_place.new.unit c.args.self.now.others.items c.take_place.new.others =
    subst (λ (n : List ℕ). TakesPlace n c.take_place.new.unit c.args.self.now.others.items c.take_place.new.others) name
    (subst (λ (us : List FileUnit). TakesPlace c.absent-unit.result.name c.take_place.new.unit us c.take_place.new.others) there c.take_place.ensures) in
    let units : c.push.new.self.items ≡ c.args.self.now.units.items ++ c.take_place.new.unit ∷ [] = first_of (search rules, grind (arith, common_steps)) in
    let others : (with_items c.args.self.now.others c.take_place.new.others).items ≡ c.take_place.new.others = with_items_is c.args.self.now.others c.take_place.new.others (first_of (search rules, grind (arith, common_steps))) in
    record {
      sound = subst (λ (us : List FileUnit). IsTrue (list_all is_sound_unit us)) (sym units)
          (sound_added c.args.self.now.units.items c.args.self.now.others.items c.take_place.new.others c.args.name.now.bytes c.take_place.new.unit takes c.args.self.now.sound c.args.self.now.others_sound);
      others_sound = subst (λ (us : List FileUnit). IsTrue (list_all is_sound_unit us)) (sym others) (takes.sound c.args.self.now.others_sound);
    }

pub returns-clause-added : goal.returns-clause-added
returns-clause-added c =
    let name : c.absent-unit.result.name ≡ c.args.name.now.bytes = ap (λ (u : FileUnit). u.name) c.absent-unit.ensures in
    let there : c.deref_mut.result.now ≡ c.args.self.now.others.items = first_of (search rules, grind (arith, common_steps)) in
    let takes : TakesPlace c.args.name.now.bytes c.take_place.new.unit c.args.self.now.others.items c.take_place.new.others =
    subst (λ (n : List ℕ). TakesPlace n c.take_place.new.unit c.args.self.now.others.items c.take_place.new.others) name
    (subst (λ (us : List FileUnit). TakesPlace c.absent-unit.result.name c.take_place.new.unit us c.take_place.new.others) there c.take_place.ensures) in
    let units : c.push.new.self.items ≡ c.args.self.now.units.items ++ c.take_place.new.unit ∷ [] = first_of (search rules, grind (arith, common_steps)) in
    let others : (with_items c.args.self.now.others c.take_place.new.others).items ≡ c.take_place.new.others = with_items_is c.args.self.now.others c.take_place.new.others (first_of (search rules, grind (arith, common_steps))) in
    record {
      units = units ∙ unit_added c.args.self.now.units.items c.args.self.now.others.items c.take_place.new.others c.args.name.now.bytes c.take_place.new.unit takes c.requires.new;
      named = λ other.
          ap (λ (us : List FileUnit). name_in us (named_among (with_items c.args.self.now.others c.take_place.new.others).items) other) units
          ∙ ap (λ (us : List FileUnit). name_in (c.args.self.now.units.items ++ c.take_place.new.unit ∷ []) (named_among us) other) others
          ∙ named_as_before c.args.self.now.units.items c.args.self.now.others.items c.take_place.new.others c.args.name.now.bytes c.take_place.new.unit takes other;
      err = tt;
      only_memory = tt;
      others = λ u within. record { pages = record { room = refl; counts = refl }; frames = refl; asked = refl };
      images = all_stay_in_memory _ _;
      keeps = keeps_all _ _;
    }
