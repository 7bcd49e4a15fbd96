use Rattle.std.proofs.Common.{rules, refl}
use Rattle.folder_shelf.specs.Calls.{flushed}
use Rattle.folder_shelf.proofs.CallLemmas.{flushed_true, flushed_only}
use Rattle.folder_shelf.proofs.WithinLemmas.{noted_within}
use Rattle.folder_shelf.proofs.folder_shelf.FolderShelfShelf.sync.Goals as goal

pub returns-then-flush : goal.returns-then-flush
returns-then-flush g c = record {
  done = flushed_true g.D.Disk.unseen (g.S.System.state c.args.self.now.system) c.args.unit c.requires.unit.attached c.flush.result _ c.flush.ensures c.if-flush.true;
  failed = tt;
  only = flushed_only g.D.Disk.unseen (g.S.System.state c.args.self.now.system) c.args.unit c.requires.unit.attached c.flush.result _ c.flush.ensures c.requires.file;
  cause = search rules;
}

pub invariant_of-self : goal.invariant_of-self
invariant_of-self g c = record {
  counted = search rules;
  within = noted_within (g.S.System.state c.args.self.now.system) _ c.args.unit (λ path. flushed path c.flush.result) c.requires.unit.attached (λ path. refl) c.flush.ensures c.args.self.now.within;
}

pub invariant_of-self-else-flush : goal.invariant_of-self-else-flush
invariant_of-self-else-flush g c = record {
  counted = search rules;
  within = noted_within (g.S.System.state c.args.self.now.system) _ c.args.unit (λ path. flushed path c.flush.result) c.requires.unit.attached (λ path. refl) c.flush.ensures c.args.self.now.within;
}
