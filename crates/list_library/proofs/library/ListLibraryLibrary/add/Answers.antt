use Rattle.std.proofs.Common.{rules, arith, refl}
use Rattle.std.proofs.lemmas.Grind.{common_steps}
use Rattle.std.specs.Prelude.{IsTrue}
use Rattle.indexed_file.specs.FileChange.{addition}
use Rattle.indexed_file.specs.World.{FileUnit, is_open}
use Rattle.list_library.proofs.ChangingLemmas.{changes}
use Rattle.list_library.proofs.library.ListLibraryLibrary.add.Goals as goal

pub returns : goal.returns
returns c =
    let old : FileUnit = c.index_mut-unit.result.now in
    let opened : IsTrue (is_open old.holding) = first_of (search rules, grind (arith, common_steps)) in
    changes (λ schema. addition schema c.args.bytes.now) c.args.self.now _ c.args.u old c.add-added.new.self c.add-added.result c.requires.attached c.index_mut-unit.ensures.value refl opened (λ file full. refl) c.add-added.ensures
