use Rattle.std.proofs.Common.{◌≡◌, [], ◌++◌, Some, None, rules}
use Rattle.file_building.proofs.WalkLemmas.{walk_ended}
use Rattle.file_building.proofs.walk.TreeWalk.end.Goals as goal

pub returns-then-branch : goal.returns-then-branch
returns-then-branch g c = record {
  ends = λ honest given own at.
      let moved = rw c.if-branch.true at (c.in_ok-next.ensures.moved honest (given ++ []) own at.stands at.belongs) in
      let none : Some c.next.new.entry.items ≡ None = walk_ended c.args.self.now c.next.new.self _ given own (Some c.next.new.entry) at moved.answer in
      absurd (cc);
  reads = search rules;
}
