use Rattle.std.proofs.Common.{rules}
use Rattle.key_index.proofs.LookLemmas.{fails}
use Rattle.key_index.proofs.prime_index.PrimeIndex.empty.Goals as goal

pub returns-in_err-tree : goal.returns-in_err-tree
returns-in_err-tree g c = search (rules, fails)

pub returns : goal.returns
returns g c = record {
  made = λ honest sound.
      let a = (c.in_ok-tree.ensures.made honest sound).answer in
      record {
        answer = (record { own_now = a.0.changed.own_now; stands = record { tree = a.0.changed.stands; each = tt }; changes = a.0.changed.changes }, a.1);
        no_damage = tt;
      };
  width = search rules;
  spends = search rules;
  one = search rules;
  cause = search rules;
  goes = search rules;
}
