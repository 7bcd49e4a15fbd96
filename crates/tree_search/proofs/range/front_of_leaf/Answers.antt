use Rattle.std.proofs.Common.{List, ℕ, subst, length, arith, rules}
use Rattle.std.proofs.lemmas.Grind.{common_steps}
use Rattle.tree_search.specs.Range.{IsSight, Settled, first_with, told_first}
use Rattle.tree_search.proofs.AnswerLemmas.{fails}
use Rattle.tree_search.proofs.RangeRowLemmas.{shown, is_there, is_leaf_there, leaf_large, rank_none, first_fails}
use Rattle.tree_search.proofs.range.front_of_leaf.Goals as goal

pub returns-in_err-bytes : goal.returns-in_err-bytes
returns-in_err-bytes g c =
    record {
      found = λ honest from entries high at rises under large start.
          fails (told_first c.args.entry.now c.from_residual.result) _ _ (first_fails c.args.entry.now _ c.from_residual.result c.from_residual.ensures.1)
          (rw c.in_err-bytes.was at (c.page.follows.holds-at-none.4 honest (is_there c.args.shape (g.P.Pages.shown.state c.args.pages.now).live c.args.page entries at)));
      reads = first_of (search rules, grind (arith, common_steps));
    }

pub returns-then-not-is_leaf : goal.returns-then-not-is_leaf
returns-then-not-is_leaf g c =
    record {
      found = λ honest from entries high at rises under large start.
          let shows = rw c.in_ok-bytes.was at (c.page.follows.holds-at-none.3 honest) in
          let leaf = is_leaf_there c.args.shape (g.P.Pages.shown.state c.args.pages.now).live c.args.page entries c.in_ok-bytes.bytes.now at shows in
          let no = rw c.if-not-is_leaf.true at (c.is_leaf.ensures.1 leaf) in
          absurd (cc);
      reads = first_of (search rules, grind (arith, common_steps));
    }

pub returns-in-Answered : goal.returns-in-Answered
returns-in-Answered g c =
    record {
      found = λ honest from entries high at rises under large start.
          let width = c.args.shape.width in
          let shows = rw c.in_ok-bytes.was at (c.page.follows.holds-at-none.3 honest) in
          let same = shown c.args.shape (g.P.Pages.shown.state c.args.pages.now).live c.args.page entries c.in_ok-bytes.bytes.now at shows in
          let sight = rw c.in-Answered.is at (c.look_from.ensures.sight from high (rw same rises) (rank_none width from _ (rw same start)) (rw same under)) in
          record { answer = subst (λ (es : List (List ℕ)). IsSight width from c.args.to.now high es (Settled (first_with c.look_from.new.entry c.in-Answered.found))) same sight; no_damage = tt };
      reads = first_of (search rules, grind (arith, common_steps));
    }

pub returns-in-Unended : goal.returns-in-Unended
returns-in-Unended g c =
    record {
      found = λ honest from entries high at rises under large start.
          let shows = rw c.in_ok-bytes.was at (c.page.follows.holds-at-none.3 honest) in
          let same = shown c.args.shape (g.P.Pages.shown.state c.args.pages.now).live c.args.page entries c.in_ok-bytes.bytes.now at shows in
          let few = rw same at ((rw c.in-Unended.is at c.look_from.ensures.open) tt) in
          let many = leaf_large c.args.shape (length entries) large in
          absurd (omega arith);
      reads = first_of (search rules, grind (arith, common_steps));
    }
