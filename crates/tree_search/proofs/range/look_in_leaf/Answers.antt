use Rattle.std.proofs.Common.{List, ℕ, subst, arith, rules}
use Rattle.std.proofs.lemmas.Grind.{common_steps}
use Rattle.tree_search.specs.Range.{IsSight, seen}
use Rattle.tree_search.proofs.RangeRowLemmas.{shown}
use Rattle.tree_search.proofs.range.look_in_leaf.Goals as goal

pub returns : goal.returns
returns g c =
    record {
      found = λ honest entries high at rises under.
          let width = c.args.shape.width in
          let shows = rw c.in_ok-bytes.was at (c.page.follows.holds-at-none.3 honest) in
          let same = shown c.args.shape (g.P.Pages.shown.state c.args.pages.now).live c.args.page entries c.in_ok-bytes.bytes.now at shows in
          record {
            answer = subst (λ (es : List (List ℕ)). IsSight width c.args.from.now c.args.to.now high es (seen c.look_from.new.entry c.look_from.result)) same
                (c.look_from.ensures.sight c.args.from.now high (rw same rises) (c.rank.ensures.rank (rw same rises)) (rw same under));
            no_damage = tt;
          };
      reads = first_of (search rules, grind (arith, common_steps));
    }
