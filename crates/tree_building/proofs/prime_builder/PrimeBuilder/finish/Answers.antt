use Rattle.std.proofs.Common.{map, sym, subst}
use Rattle.tree_node.specs.Order.{Ascends}
use Rattle.key_index.specs.Stored.{prime_bytes}
use Rattle.tree_search.proofs.AnswerLemmas.{fails}
use Rattle.tree_building.proofs.PushLemmas.{prime_built}
use Rattle.tree_building.proofs.prime_builder.PrimeBuilder.finish.Goals as goal

pub returns-in_err-tree-clause-finishes : goal.returns-in_err-tree-clause-finishes
returns-in_err-tree-clause-finishes g c honest sound =
    let finishes = c.in_err-tree.ensures.finishes honest sound in
    record {
      finished = λ entries own b rise.
          fails c.from_residual.result _ _ c.from_residual.ensures.1
          (finishes.finished (map prime_bytes entries) own b.tree (subst (λ n. Ascends n (map prime_bytes entries)) (sym c.args.self.keys) rise)).no_damage;
      kept = finishes.kept;
      sound = finishes.sound;
    }

pub returns-clause-finishes : goal.returns-clause-finishes
returns-clause-finishes g c honest sound =
    let finishes = c.in_ok-tree.ensures.finishes honest sound in
    record {
      finished = λ entries own b rise. record {
        answer = prime_built _ _ _ _ _ own entries
            (finishes.finished (map prime_bytes entries) own b.tree (subst (λ n. Ascends n (map prime_bytes entries)) (sym c.args.self.keys) rise)).answer
            b.each;
        no_damage = tt;
      };
      kept = finishes.kept;
      sound = finishes.sound;
    }
