use Rattle.std.proofs.Common.{rules, refl}
use Rattle.folder_shelf.specs.Calls.{read}
use Rattle.folder_shelf.proofs.CallLemmas.{read_true}
use Rattle.folder_shelf.proofs.WithinLemmas.{noted_within}
use Rattle.folder_shelf.proofs.folder_shelf.FolderShelfShelf.read_at.Goals as goal

pub returns-then-read : goal.returns-then-read
returns-then-read g c = record {
  answer = read_true g.D.Disk.unseen (g.S.System.state c.args.self.now.system) c.args.unit c.requires.unit.attached c.read.result c.args.at c.read.new.bytes _ c.read.ensures c.if-read.true;
  only = search rules;
  cause = search rules;
}

pub invariant_of-self : goal.invariant_of-self
invariant_of-self g c = record {
  counted = search rules;
  within = noted_within (g.S.System.state c.args.self.now.system) _ c.args.unit (λ path. read path c.read.result c.args.at c.read.new.bytes) c.requires.unit.attached (λ path. refl) c.read.ensures c.args.self.now.within;
}

pub invariant_of-self-else-read : goal.invariant_of-self-else-read
invariant_of-self-else-read g c = record {
  counted = search rules;
  within = noted_within (g.S.System.state c.args.self.now.system) _ c.args.unit (λ path. read path c.read.result c.args.at c.read.new.bytes) c.requires.unit.attached (λ path. refl) c.read.ensures c.args.self.now.within;
}
