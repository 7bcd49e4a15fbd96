use Rattle.std.proofs.Common.{rules, refl}
use Rattle.folder_shelf.specs.Calls.{measured}
use Rattle.folder_shelf.proofs.WithinLemmas.{noted_within}
use Rattle.folder_shelf.proofs.folder_shelf.FolderShelfShelf.size.Goals as goal

pub invariant_of-self : goal.invariant_of-self
invariant_of-self g c = record {
  counted = search rules;
  within = noted_within (g.S.System.state c.args.self.now.system) _ c.args.unit (λ path. measured path c.measure.result) c.requires.unit.attached (λ path. refl) c.measure.ensures c.args.self.now.within;
}

pub invariant_of-self-in-None : goal.invariant_of-self-in-None
invariant_of-self-in-None g c = record {
  counted = search rules;
  within = noted_within (g.S.System.state c.args.self.now.system) _ c.args.unit (λ path. measured path c.measure.result) c.requires.unit.attached (λ path. refl) c.measure.ensures c.args.self.now.within;
}
