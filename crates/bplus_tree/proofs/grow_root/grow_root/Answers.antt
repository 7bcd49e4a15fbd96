use Rattle.std.proofs.Common.{rules}
use Rattle.bplus_tree.proofs.GrowRootLemmas.{grows_none, grows_above}
use Rattle.bplus_tree.proofs.grow_root.grow_root.Goals as goal

pub returns-in-None-clause-alters : goal.returns-in-None-clause-alters
returns-in-None-clause-alters g c = record {
  leaves = λ honest sound. rw c.in-None.is (grows_none sound);
  writes = search rules;
}

pub returns-in_ok-root-in-Some-clause-alters : goal.returns-in_ok-root-in-Some-clause-alters
returns-in_ok-root-in-Some-clause-alters g c = record {
  leaves = λ honest sound. rw c.in-Some.is (grows_above (c.in_ok-root-in-Some.ensures.added honest sound));
  writes = search rules;
}
