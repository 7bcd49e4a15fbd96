use Rattle.std.proofs.Common.{ℕ, Option, IsSome, subst, sym, ap, ◌∙◌, Bool, IsTrue}
use Rattle.pages.specs.PageMap.{PageMap}
use Rattle.bplus_tree.specs.Collapse.{IsOnly}
use Rattle.tree_search.proofs.AnswerLemmas.{fails}
use Rattle.bplus_tree.proofs.CollapseLemmas.{node_there}
use Rattle.bplus_tree.proofs.collapse.collapse_inner.Goals as goal

pub returns-in_err-only_child-clause-inner_collapsed : goal.returns-in_err-only_child-clause-inner_collapsed
returns-in_err-only_child-clause-inner_collapsed g c honest sound separators below at =
    fails c.from_residual.result _ _ c.from_residual.ensures.1 (c.in_err-only_child.ensures.found honest separators below at).no_damage

pub returns-in-None-clause-inner_collapsed : goal.returns-in-None-clause-inner_collapsed
returns-in-None-clause-inner_collapsed g c honest sound separators below at =
    let only = subst (λ (o : Option ℕ). IsOnly separators below o) c.in-None.is (c.in_ok-only_child.ensures.found honest separators below at).answer in
    record { answer = ((only, g.met.P.Pages.reads_live c.args.pages.now c.only_child.new.pages c.only_child.ensures.reads.step honest), subst (λ (b : Bool). IsTrue b) (sym (g.met.P.Pages.reads_sound c.args.pages.now c.only_child.new.pages c.only_child.ensures.reads.step honest)) sound); no_damage = tt }

pub returns-in_ok-give-in-Some-clause-inner_collapsed : goal.returns-in_ok-give-in-Some-clause-inner_collapsed
returns-in_ok-give-in-Some-clause-inner_collapsed g c honest sound separators below at =
    let h1 = g.met.P.Pages.writes_honestly c.only_child.new.pages c.give.new.self c.give.ensures.writes.step honest in
    let live = g.met.P.Pages.reads_live c.args.pages.now c.only_child.new.pages c.only_child.ensures.reads.step h1 in
    let sound1 = subst (λ (b : Bool). IsTrue b) (sym (g.met.P.Pages.reads_sound c.args.pages.now c.only_child.new.pages c.only_child.ensures.reads.step h1)) sound in
    let only = subst (λ (o : Option ℕ). IsOnly separators below o) c.in-Some.is (c.in_ok-only_child.ensures.found h1 separators below at).answer in
    let alive = subst (λ (m : PageMap). IsSome (m c.args.page)) (sym live) (node_there c.args.shape ((g.P.Pages.shown.state c.args.pages.now).live) c.args.page separators below at) in
    let given = c.in_ok-give-in-Some.ensures.given honest alive in
    record {
      answer = ((only.0, only.1, given.free, λ n ne. given.others n ne ∙ ap (λ (m : PageMap). m n) live), subst (λ (b : Bool). IsTrue b) (sym (c.give.ensures.sound honest alive)) sound1);
      no_damage = tt;
    }
