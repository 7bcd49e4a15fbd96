use Rattle.std.proofs.Common.{◌≡◌, ℕ, ◌-◌, suc, Ok, Option, subst, arith, IsTrue, rules}
use Rattle.bplus_tree.specs.Collapse.{CollapsesInner}
use Rattle.bplus_tree.proofs.CollapseLemmas.{collapses_none, collapses_some, collapses_fault}
use Rattle.bplus_tree.proofs.collapse.collapse.Goals as goal

pub returns-in_err-collapse_inner-clause-alters : goal.returns-in_err-collapse_inner-clause-alters
returns-in_err-collapse_inner-clause-alters g c = record {
  leaves = λ honest sound.
      let one : c.args.levels ≡ suc (c.args.levels - 1) = omega arith in
      collapses_fault c.args.shape ((g.P.Pages.shown.state c.args.pages.now).live) ((g.P.Pages.shown.state c.collapse_inner.new.pages).live) (IsTrue (g.P.Pages.shown.state c.collapse_inner.new.pages).is_sound) c.args.levels (c.args.levels - 1) c.args.root one
      _ c.from_residual.result (c.in_err-collapse_inner.ensures.inner_collapsed honest sound) c.from_residual.ensures.1;
  writes = search rules;
}

pub returns-in-None-clause-alters : goal.returns-in-None-clause-alters
returns-in-None-clause-alters g c = record {
  leaves = λ honest sound.
      let one : c.args.levels ≡ suc (c.args.levels - 1) = omega arith in
      let before = (g.P.Pages.shown.state c.args.pages.now).live in
      let after = (g.P.Pages.shown.state c.collapse_inner.new.pages).live in
      let is_sound = IsTrue (g.P.Pages.shown.state c.collapse_inner.new.pages).is_sound in
      collapses_none c.args.shape before after is_sound c.args.levels (c.args.levels - 1) c.args.root one
      (subst (λ (o : Option ℕ). CollapsesInner c.args.shape c.args.root (Ok o) before after is_sound) c.in-None.is (c.in_ok-collapse_inner.ensures.inner_collapsed honest sound));
  writes = search rules;
}

pub returns-in-Some-clause-alters : goal.returns-in-Some-clause-alters
returns-in-Some-clause-alters g c = record {
  leaves = λ honest sound.
      let one : c.args.levels ≡ suc (c.args.levels - 1) = omega arith in
      let before = (g.P.Pages.shown.state c.args.pages.now).live in
      let after = (g.P.Pages.shown.state c.collapse_inner.new.pages).live in
      let is_sound = IsTrue (g.P.Pages.shown.state c.collapse_inner.new.pages).is_sound in
      collapses_some c.args.shape before after is_sound c.args.levels (c.args.levels - 1) c.args.root one c.in-Some.child
      (subst (λ (o : Option ℕ). CollapsesInner c.args.shape c.args.root (Ok o) before after is_sound) c.in-Some.is (c.in_ok-collapse_inner.ensures.inner_collapsed honest sound));
  writes = search rules;
}
