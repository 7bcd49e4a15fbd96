use Rattle.std.proofs.Common.{◌∙◌, List, sym, ap}
use Rattle.std.proofs.lemmas.List.{length-map}
use Rattle.memory_shelf.specs.declared.memory_file.MemFile.{MemFile}
use Rattle.memory_shelf.specs.MemFiles.{index_of}
use Rattle.memory_shelf.proofs.MemFilesLemmas.{placed, unit_is}
use Rattle.memory_shelf.proofs.memory_shelf.MemShelf.place.Goals as goal

pub returns-clause-found : goal.returns-clause-found
returns-clause-found c =
    let named = unit_is (λ name. name.bytes) c.args.self.now.units.items c.args.unit c.index.result.now (rw length-map at c.requires.attached) c.index.ensures in
    placed c.args.self.now.files.items _ c.find.result (c.find.ensures.place ∙ ap (λ (l : List MemFile). index_of l c.index.result.now.bytes) c.deref.ensures.value ∙ ap (index_of c.args.self.now.files.items) (sym named))
