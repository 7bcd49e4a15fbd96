use Rattle.std.proofs.Common.{ℕ, ◌≤◌, length, Option, subst, arith, rules}
use Rattle.std.proofs.lemmas.Grind.{common_steps}
use Rattle.arrayvec.specs.ArrayVec.{ArrayVec}
use Rattle.tree_search.specs.Spot.{IsEntryAt}
use Rattle.tree_search.proofs.AnswerLemmas.{fails}
use Rattle.tree_search.proofs.SpotLemmas.{first_entry}
use Rattle.tree_search.proofs.search.first_of_leaf.Goals as goal

pub returns-in_err-entry-clause-looks : goal.returns-in_err-entry-clause-looks
returns-in_err-entry-clause-looks g c =
    record {
      found = λ honest entries at some.
          fails c.from_residual.result _ _ c.from_residual.ensures.1 (c.in_err-entry.ensures.found honest entries at).no_damage;
      reads = first_of (search rules, grind (arith, common_steps));
    }

pub returns-in-Some-clause-looks : goal.returns-in-Some-clause-looks
returns-in-Some-clause-looks g c =
    record {
      found = λ honest entries at some.
          let found = subst (λ (o : Option (ArrayVec ℕ)). IsEntryAt c.args.page 0 entries c.entry_in_leaf.new.spot o) c.in-Some.is (c.in_ok-entry.ensures.found honest entries at).answer in
          record { answer = first_entry c.args.page entries c.entry_in_leaf.new.spot c.in-Some.entry some found; no_damage = tt };
      reads = first_of (search rules, grind (arith, common_steps));
    }

pub returns-in-Some-clause-spot : goal.returns-in-Some-clause-spot
returns-in-Some-clause-spot g c honest entries at =
    (subst (λ (o : Option (ArrayVec ℕ)). IsEntryAt c.args.page 0 entries c.entry_in_leaf.new.spot o) c.in-Some.is (c.in_ok-entry.ensures.found honest entries at).answer).1

pub returns-in-None-clause-looks : goal.returns-in-None-clause-looks
returns-in-None-clause-looks g c =
    record {
      found = λ honest entries at some.
          let past : length entries ≤ 0 = subst (λ (o : Option (ArrayVec ℕ)). IsEntryAt c.args.page 0 entries c.entry_in_leaf.new.spot o) c.in-None.is (c.in_ok-entry.ensures.found honest entries at).answer in
          absurd (omega arith);
      reads = first_of (search rules, grind (arith, common_steps));
    }
