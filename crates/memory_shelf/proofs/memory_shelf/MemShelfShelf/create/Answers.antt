use Rattle.std.proofs.Common.{rules, [], ◌∷◌, ◌++◌, ◌≡◌, ◌∙◌, sym, ap, refl}
use Rattle.std.proofs.lemmas.Slice.Eq.{bytes_eq-Decides}
use Rattle.std.proofs.lemmas.List.{length-map}
use Rattle.memory_shelf.proofs.MemFilesLemmas.{unit_is, absent_from, file_push, others_push}
use Rattle.memory_shelf.proofs.memory_shelf.MemShelfShelf.create.Goals as goal

pub returns : goal.returns
returns c =
    let file = c.in-Ok.file in
    let is = unit_is (λ name. name.bytes) c.args.self.now.units.items c.args.unit c.index.result.now (rw length-map at c.requires.unit.attached) c.index.ensures in
    let named = (bytes_eq-Decides file.name.bytes _).1 (ap (λ (n : _). n.bytes) c.in-Ok.ensures.named ∙ sym is) in
    let old = absent_from c.args.self.now.files.items _ (c.requires.file refl) in
    let pushed : c.push.new.self.items ≡ c.args.self.now.files.items ++ file ∷ [] = search rules in
    let new = file_push c.args.self.now.files.items file _ old named in
    record {
      done = rw (pushed, new, old) c.in-Ok.ensures.made;
      failed = tt;
      only = record {
        names = refl;
        others = λ other not. rw pushed (others_push c.args.self.now.files.items file _ other named not);
        honest = refl;
      };
      cause = search rules;
    }
