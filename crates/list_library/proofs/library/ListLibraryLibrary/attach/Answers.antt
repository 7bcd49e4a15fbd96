use Rattle.std.proofs.Common.{◌≡◌, ℕ, List, ◌++◌, map, bytes_eq, sym, ap, ◌∙◌, subst, rules, arith}
use Rattle.std.specs.Prelude.{IsTrue}
use Rattle.std.specs.List.{IsDistinct, list_all}
use Rattle.std.specs.Vec.{with_items}
use Rattle.std.proofs.lemmas.Grind.{common_steps}
use Rattle.std.proofs.lemmas.List.{with_items_is}
use Rattle.indexed_file.specs.World.{FileUnit, name_in}
use Rattle.list_library.specs.Units.{absent_unit, in_place_among, named_among}
use Rattle.list_library.specs.ListWorld.{list_world_of}
use Rattle.indexed_file.specs.SoundWorld.{is_sound_unit}
use Rattle.list_library.proofs.ShownLemmas.{sound_joined, sound_placed}
use Rattle.list_library.proofs.ListWorldLemmas.{keeps_all}
use Rattle.list_library.proofs.NameLemmas.{absent_again, absent_names, named_joined, attached_in_place}
use Rattle.list_library.proofs.library.ListLibraryLibrary.attach.Goals as goal

pub exchange-requires-clause-absent : goal.exchange-requires-clause-absent
exchange-requires-clause-absent c =
    let units : c.deref_mut.result.now ≡ map (λ name. absent_unit name.bytes) c.args.names.now = first_of (search rules, grind (arith, common_steps)) in
    subst (λ (us : List FileUnit). us ≡ map (λ (u : FileUnit). absent_unit u.name) us) (sym units) (absent_again (λ name. name.bytes) c.args.names.now)

pub exchange-requires-clause-distinct : goal.exchange-requires-clause-distinct
exchange-requires-clause-distinct c =
    let units : c.deref_mut.result.now ≡ map (λ name. absent_unit name.bytes) c.args.names.now = first_of (search rules, grind (arith, common_steps)) in
    subst (λ (us : List FileUnit). IsDistinct bytes_eq (map (λ (u : FileUnit). u.name) us)) (sym units)
    (subst (IsDistinct bytes_eq) (sym (absent_names (λ name. name.bytes) c.args.names.now)) c.requires.distinct)

pub returns-clause-attached : goal.returns-clause-attached
returns-clause-attached c =
    let units : c.deref_mut.result.now ≡ map (λ name. absent_unit name.bytes) c.args.names.now = first_of (search rules, grind (arith, common_steps)) in
    let all = c.deref_mut-2.result.now in
    let joined : all ≡ c.args.self.now.units.items ++ c.args.self.now.others.items = first_of (search rules, grind (arith, common_steps)) in
    let named = λ (name : List ℕ). ap (λ (us : List FileUnit). named_among us name) joined ∙ named_joined c.args.self.now.units.items c.args.self.now.others.items name in
    let items : (with_items c.replace-others.new.dest c.exchange.new.units).items ≡ c.exchange.new.units = with_items_is c.replace-others.new.dest c.exchange.new.units (first_of (search rules, grind (arith, common_steps))) in
    items ∙ (c.exchange.ensures.units
    ∙ (ap (map (λ (u : FileUnit). in_place_among all u.name)) units ∙ attached_in_place (λ name. name.bytes) (list_world_of c.args.self.now) all c.args.names.now named))

pub returns-clause-named : goal.returns-clause-named
returns-clause-named c = λ name.
    let all = c.deref_mut-2.result.now in
    let joined : all ≡ c.args.self.now.units.items ++ c.args.self.now.others.items = first_of (search rules, grind (arith, common_steps)) in
    let units : (with_items c.replace-others.new.dest c.exchange.new.units).items ≡ c.exchange.new.units = with_items_is c.replace-others.new.dest c.exchange.new.units (first_of (search rules, grind (arith, common_steps))) in
    let others : (with_items c.replace-others.result c.exchange.new.others).items ≡ c.exchange.new.others = with_items_is c.replace-others.result c.exchange.new.others (first_of (search rules, grind (arith, common_steps))) in
    ap (λ (us : List FileUnit). name_in us (named_among (with_items c.replace-others.result c.exchange.new.others).items) name) units
    ∙ (ap (λ (us : List FileUnit). name_in c.exchange.new.units (named_among us) name) others
    ∙ (c.exchange.ensures.named name
    ∙ (ap (λ (us : List FileUnit). named_among us name) joined ∙ named_joined c.args.self.now.units.items c.args.self.now.others.items name)))

pub invariant_of-self-2 : goal.invariant_of-self-2
invariant_of-self-2 c =
    let all = c.deref_mut-2.result.now in
    let joined : all ≡ c.args.self.now.units.items ++ c.args.self.now.others.items = first_of (search rules, grind (arith, common_steps)) in
    let sound : IsTrue (list_all is_sound_unit all) = subst (λ (us : List FileUnit). IsTrue (list_all is_sound_unit us)) (sym joined) (sound_joined c.args.self.now.units.items c.args.self.now.others.items c.args.self.now.sound c.args.self.now.others_sound) in
    let units : (with_items c.replace-others.new.dest c.exchange.new.units).items ≡ c.exchange.new.units = with_items_is c.replace-others.new.dest c.exchange.new.units (first_of (search rules, grind (arith, common_steps))) in
    let others : (with_items c.replace-others.result c.exchange.new.others).items ≡ c.exchange.new.others = with_items_is c.replace-others.result c.exchange.new.others (first_of (search rules, grind (arith, common_steps))) in
    record {
      sound = subst (λ (us : List FileUnit). IsTrue (list_all is_sound_unit us)) (sym (units ∙ c.exchange.ensures.units)) (sound_placed (λ (u : FileUnit). u.name) all c.deref_mut.result.now sound);
      others_sound = subst (λ (us : List FileUnit). IsTrue (list_all is_sound_unit us)) (sym others) (c.exchange.ensures.sound sound);
    }

pub returns-clause-keeps : goal.returns-clause-keeps
returns-clause-keeps c = keeps_all _ _
