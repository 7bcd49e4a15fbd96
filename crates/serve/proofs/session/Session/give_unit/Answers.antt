use Rattle.std.proofs.Common.{◌≡◌, ◌++◌, ◌∷◌, [], List, length, Some, Ok, refl, sym, ap, ◌∙◌, subst, inl, inr, rules, arith}
use Rattle.std.proofs.lemmas.Grind.{common_steps}
use Rattle.arrayvec.specs.ArrayString.{ArrayString}
use Rattle.indexed_file.specs.Growing.{AddsUnit}
use Rattle.serve.specs.Files.{Files, FileTable, NumberedFile, IsVacant}
use Rattle.serve.specs.Fields.{AreNamed}
use Rattle.serve.specs.Steps.{GivesUnit}
use Rattle.serve.proofs.CallLemmas.{files_with_table, not_named}
use Rattle.serve.proofs.UnitLemmas.{is_new_name, found_shut, found_vacant, named_stays, named_added, new_vacant, new_unit, as_many}
use Rattle.serve.proofs.session.Session.give_unit.Goals as goal

pub returns-in-Some-clause-gives : goal.returns-in-Some-clause-gives
returns-in-Some-clause-gives g c =
    let here : files_with_table c.self.inside.library (record { places = c.self.inside.files.items; opened = c.self.inside.order }) ≡ c.args.self.now = search rules in
    let named : AreNamed g.L.Library.shown c.args.self.now c.self.inside.names.items = subst (λ (f : Files _). AreNamed g.L.Library.shown f c.self.inside.names.items) here c.self.invariant in
    record {
      unit = found_shut g.L.Library.shown c.args.self.now c.self.inside.names.items c.args.name.now.bytes named c.in-Some.unit c.args.name.now (first_of (search rules, grind (arith, common_steps)))
          (λ n file is same. not_named c.args.self.now.table c.args.name.now.bytes n file c.requires.unnamed is same);
      from = inl refl;
    }

pub returns-in-Some-clause-vacant : goal.returns-in-Some-clause-vacant
returns-in-Some-clause-vacant g c =
    let here : files_with_table c.self.inside.library (record { places = c.self.inside.files.items; opened = c.self.inside.order }) ≡ c.args.self.now = search rules in
    let named : AreNamed g.L.Library.shown c.args.self.now c.self.inside.names.items = subst (λ (f : Files _). AreNamed g.L.Library.shown f c.self.inside.names.items) here c.self.invariant in
    found_vacant g.L.Library.shown c.args.self.now c.self.inside.names.items c.args.name.now.bytes named c.in-Some.unit c.args.name.now (first_of (search rules, grind (arith, common_steps)))
    (λ n file is same. not_named c.args.self.now.table c.args.name.now.bytes n file c.requires.unnamed is same)

pub add_unit-requires : goal.add_unit-requires
add_unit-requires g c = record {
  new = is_new_name g.L.Library.shown (files_with_table c.self.inside.library (record { places = c.self.inside.files.items; opened = c.self.inside.order })) c.self.inside.names.items c.args.name.now.bytes c.self.invariant
      (first_of (search rules, grind (arith, common_steps)));
}

pub invariant_of-self-in_err-ok-2 : goal.invariant_of-self-in_err-ok-2
invariant_of-self-in_err-ok-2 g c =
    let same : c.reserve.new.self.items ≡ c.self.inside.names.items = first_of (search rules, grind (arith, common_steps)) in
    subst (λ (texts : List ArrayString). AreNamed g.L.Library.shown (files_with_table c.add_unit.new.self (record { places = c.self.inside.files.items; opened = c.self.inside.order })) texts) (sym same)
    (named_stays g.L.Library.shown c.add_unit.new.self (files_with_table c.self.inside.library (record { places = c.self.inside.files.items; opened = c.self.inside.order })) c.self.inside.names.items c.self.invariant
    (first_of (search rules, grind (arith, common_steps))))

pub invariant_of-self-2 : goal.invariant_of-self-2
invariant_of-self-2 g c =
    let texts : c.push.new.self.items ≡ c.self.inside.names.items ++ c.args.name.now ∷ [] = first_of (search rules, grind (arith, common_steps)) in
    let ok : c.add_unit.result ≡ Ok tt = first_of (search rules, grind (arith, common_steps)) in
    let adds = subst (λ r. AddsUnit g.L.Library.shown c.args.name.now.bytes c.self.inside.library c.add_unit.new.self r) ok c.add_unit.ensures.added in
    subst (λ (l : List ArrayString). AreNamed g.L.Library.shown (files_with_table c.add_unit.new.self (record { places = c.self.inside.files.items; opened = c.self.inside.order })) l) (sym texts)
    (named_added g.L.Library.shown (files_with_table c.self.inside.library (record { places = c.self.inside.files.items; opened = c.self.inside.order })) c.add_unit.new.self c.args.name.now.bytes c.self.inside.names.items c.self.invariant adds
    c.args.name.now refl)

pub returns-clause-gives : goal.returns-clause-gives
returns-clause-gives g c =
    let ok : c.add_unit.result ≡ Ok tt = first_of (search rules, grind (arith, common_steps)) in
    let adds = subst (λ r. AddsUnit g.L.Library.shown c.args.name.now.bytes c.self.inside.library c.add_unit.new.self r) ok c.add_unit.ensures.added in
    let here : c.self.inside.library ≡ c.args.self.now.library = search rules in
    let long : c.len-unit.result ≡ length (g.L.Library.shown.world c.self.inside.library).units =
    (let len = c.len-unit.ensures in
    let ok = c.reserve.new.self.ok.0 in
    let texts : c.reserve.new.self.items ≡ c.self.inside.names.items = first_of (search rules, grind (arith, common_steps)) in
    let same = ap (λ (l : List ArrayString). length l) texts in
    let many = as_many (g.L.Library.shown.world c.self.inside.library).units c.self.inside.names.items c.self.invariant.names_are in
    omega (arith, len, ok, same, many)) in
    subst (λ library. GivesUnit g.L.Library.shown g.L.GrowingLibrary.keeps_open c.args.name.now.bytes c.len-unit.result library c.add_unit.new.self) here
    (subst (λ u. GivesUnit g.L.Library.shown g.L.GrowingLibrary.keeps_open c.args.name.now.bytes u c.self.inside.library c.add_unit.new.self) (sym long) (record {
      unit = new_unit g.L.Library.shown (files_with_table c.self.inside.library (record { places = c.self.inside.files.items; opened = c.self.inside.order })) c.add_unit.new.self c.args.name.now.bytes c.self.inside.names.items c.self.invariant adds;
      from = inr (record {
        last = refl;
        is_new = is_new_name g.L.Library.shown (files_with_table c.self.inside.library (record { places = c.self.inside.files.items; opened = c.self.inside.order })) c.self.inside.names.items c.args.name.now.bytes c.self.invariant
            (first_of (search rules, grind (arith, common_steps)));
        adds = adds;
        kept = c.add_unit.ensures.kept;
      });
    }))

pub returns-clause-vacant : goal.returns-clause-vacant
returns-clause-vacant g c =
    let ok : c.add_unit.result ≡ Ok tt = first_of (search rules, grind (arith, common_steps)) in
    let adds = subst (λ r. AddsUnit g.L.Library.shown c.args.name.now.bytes c.self.inside.library c.add_unit.new.self r) ok c.add_unit.ensures.added in
    let long : c.len-unit.result ≡ length (g.L.Library.shown.world c.self.inside.library).units =
    (let len = c.len-unit.ensures in
    let ok = c.reserve.new.self.ok.0 in
    let texts : c.reserve.new.self.items ≡ c.self.inside.names.items = first_of (search rules, grind (arith, common_steps)) in
    let same = ap (λ (l : List ArrayString). length l) texts in
    let many = as_many (g.L.Library.shown.world c.self.inside.library).units c.self.inside.names.items c.self.invariant.names_are in
    omega (arith, len, ok, same, many)) in
    subst (λ u. IsVacant (record { places = c.self.inside.files.items; opened = c.self.inside.order }) u) (sym long)
    (new_vacant g.L.Library.shown (files_with_table c.self.inside.library (record { places = c.self.inside.files.items; opened = c.self.inside.order })) c.add_unit.new.self c.args.name.now.bytes c.self.inside.names.items c.self.invariant adds)
