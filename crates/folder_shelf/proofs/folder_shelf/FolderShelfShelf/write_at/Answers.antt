use Rattle.std.proofs.Common.{rules, refl, ◌≡◌, subst, length, ◌<◌}
use Rattle.folder_shelf.specs.Calls.{held, written}
use Rattle.folder_shelf.proofs.CallLemmas.{on_err, written_all, written_any, written_only}
use Rattle.folder_shelf.proofs.WithinLemmas.{noted_within}
use Rattle.folder_shelf.proofs.folder_shelf.FolderShelfShelf.write_at.Goals as goal

pub returns-then-taken-bytes : goal.returns-then-taken-bytes
returns-then-taken-bytes g c =
    let held = rw c.if-not-held.false at c.hold-held.ensures in
    let noted = rw held at c.write-taken.ensures in
    record {
      done = written_all g.D.Disk.unseen (g.S.System.state c.args.self.now.system) c.args.unit c.requires.unit.attached c.args.at c.write-taken.result c.args.bytes.now _ noted c.if-taken-bytes.true;
      failed = tt;
      only = written_only g.D.Disk.unseen (g.S.System.state c.args.self.now.system) c.args.unit c.requires.unit.attached c.args.at c.write-taken.result c.args.bytes.now _ noted c.requires.file;
      cause = search rules;
    }

pub returns-else-taken-bytes : goal.returns-else-taken-bytes
returns-else-taken-bytes g c =
    let held = rw c.if-not-held.false at c.hold-held.ensures in
    let noted = rw held at c.write-taken.ensures in
    record {
      done = search rules;
      failed = on_err c.fail-else-taken-bytes.result _ (written_any g.D.Disk.unseen (g.S.System.state c.args.self.now.system) c.args.unit c.requires.unit.attached c.args.at c.write-taken.result c.args.bytes.now _ noted);
      only = written_only g.D.Disk.unseen (g.S.System.state c.args.self.now.system) c.args.unit c.requires.unit.attached c.args.at c.write-taken.result c.args.bytes.now _ noted c.requires.file;
      cause = search rules;
    }

pub invariant_of-self : goal.invariant_of-self
invariant_of-self g c = record {
  counted = search rules;
  within = noted_within (g.S.System.state c.args.self.now.system) _ c.args.unit (λ path. held path c.hold-held.result) c.requires.unit.attached (λ path. refl) c.hold-held.ensures c.args.self.now.within;
}

pub invariant_of-self-then-taken-bytes : goal.invariant_of-self-then-taken-bytes
invariant_of-self-then-taken-bytes g c =
    let system = g.S.System.state c.args.self.now.system in
    let was_held = noted_within system _ c.args.unit (λ path. held path c.hold-held.result) c.requires.unit.attached (λ path. refl) c.hold-held.ensures c.args.self.now.within in
    record {
      counted = search rules;
      within = noted_within (g.S.System.state c.hold-held.new.self) _ c.args.unit (λ path. written path c.args.at c.write-taken.result c.args.bytes.now)
          (rw c.hold-held.ensures c.requires.unit.attached) (λ path. refl) c.write-taken.ensures was_held;
    }

pub invariant_of-self-else-taken-bytes : goal.invariant_of-self-else-taken-bytes
invariant_of-self-else-taken-bytes g c =
    let system = g.S.System.state c.args.self.now.system in
    let was_held = noted_within system _ c.args.unit (λ path. held path c.hold-held.result) c.requires.unit.attached (λ path. refl) c.hold-held.ensures c.args.self.now.within in
    record {
      counted = search rules;
      within = noted_within (g.S.System.state c.hold-held.new.self) _ c.args.unit (λ path. written path c.args.at c.write-taken.result c.args.bytes.now)
          (rw c.hold-held.ensures c.requires.unit.attached) (λ path. refl) c.write-taken.ensures was_held;
    }
