use Rattle.std.proofs.Common.{◌∙◌, arith, ap, subst, length, rules}
use Rattle.std.proofs.lemmas.Grind.{common_steps}
use Rattle.page_store.specs.DeviceFile.{DeviceFile, content}
use Rattle.page_store.specs.Calls.{ReadsBytes}
use Rattle.page_store.specs.ShelfState.{unit_file}
use Rattle.shelf_library.specs.LookLemmas.{same_file, read_look}
use Rattle.shelf_library.proofs.look.look_at.Goals as goal

pub returns : goal.returns
returns g c = record {
  found = λ honest.
      let before = c.read_at.ensures.only.honest honest in
      let seen = unit_file (g.S.Shelf.state c.args.shelf.now) c.args.unit in
      let same_1 = same_file (g.S.Shelf.state c.args.shelf.now) (g.S.Shelf.state c.exists.new.self) c.args.unit c.exists.ensures.only in
      let same_2 = same_file (g.S.Shelf.state c.exists.new.self) (g.S.Shelf.state c.size.new.self) c.args.unit c.size.ensures.only in
      let reads = subst (λ (file : DeviceFile). ReadsBytes file 0 c.read_at.new.bytes) (same_2 ∙ same_1)
      (c.in_ok-read_at.ensures.answer honest) in
      read_look seen.seen c.in_ok-exists.field-0 c.in_ok-size.size c.read_at.new.bytes c.read.result c.judged.result
      (c.in_ok-exists.ensures.answer (c.size.ensures.only.honest before)) (search rules)
      (c.in_ok-size.ensures.answer before ∙ ap (λ (file : DeviceFile). length (content file)) same_1)
      (omega arith) reads.is (search rules) c.read.ensures.header c.judged.ensures.found;
  header = first_of (search rules, grind (arith, common_steps));
  only = first_of (search rules, grind (arith, common_steps));
  cause = first_of (search rules, grind (arith, common_steps));
}
