use Rattle.std.proofs.Common.{rules, refl}
use Rattle.folder_shelf.specs.Calls.{made}
use Rattle.folder_shelf.proofs.CallLemmas.{on_err, made_true, made_fails, made_only}
use Rattle.folder_shelf.proofs.WithinLemmas.{noted_within}
use Rattle.folder_shelf.proofs.folder_shelf.FolderShelfShelf.create.Goals as goal

pub returns-then-make : goal.returns-then-make
returns-then-make g c = record {
  done = made_true g.D.Disk.unseen (g.S.System.state c.args.self.now.system) c.args.unit c.requires.unit.attached c.make.result _ c.make.ensures c.if-make.true;
  failed = tt;
  only = made_only g.D.Disk.unseen (g.S.System.state c.args.self.now.system) c.args.unit c.requires.unit.attached c.make.result _ c.make.ensures c.requires.file;
  cause = search rules;
}

pub returns-else-make : goal.returns-else-make
returns-else-make g c = record {
  done = search rules;
  failed = on_err c.fail.result _ (made_fails g.D.Disk.unseen (g.S.System.state c.args.self.now.system) c.args.unit c.requires.unit.attached c.make.result _ c.make.ensures c.if-make.false);
  only = made_only g.D.Disk.unseen (g.S.System.state c.args.self.now.system) c.args.unit c.requires.unit.attached c.make.result _ c.make.ensures c.requires.file;
  cause = search rules;
}

pub invariant_of-self : goal.invariant_of-self
invariant_of-self g c = record {
  counted = search rules;
  within = noted_within (g.S.System.state c.args.self.now.system) _ c.args.unit (λ path. made path c.make.result) c.requires.unit.attached (λ path. refl) c.make.ensures c.args.self.now.within;
}

pub invariant_of-self-else-make : goal.invariant_of-self-else-make
invariant_of-self-else-make g c = record {
  counted = search rules;
  within = noted_within (g.S.System.state c.args.self.now.system) _ c.args.unit (λ path. made path c.make.result) c.requires.unit.attached (λ path. refl) c.make.ensures c.args.self.now.within;
}
