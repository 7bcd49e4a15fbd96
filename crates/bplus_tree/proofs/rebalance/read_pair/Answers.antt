use Rattle.std.proofs.lemmas.Grind.{common_steps}
use Rattle.std.proofs.Common.{IsSome, subst, sym, ap, ◌∙◌, arith}
use Rattle.pages.proofs.CauseLemmas.{fails_since}
use Rattle.tree_search.proofs.AnswerLemmas.{fails}
use Rattle.bplus_tree.proofs.RebalanceLemmas.{kids_there, parent_there}
use Rattle.pages.specs.PageMap.{PageMap}
use Rattle.bplus_tree.proofs.rebalance.read_pair.Goals as goal

pub returns-in_err-copy-2-clause-reads : goal.returns-in_err-copy-2-clause-reads
returns-in_err-copy-2-clause-reads g c =
    record {
      cause =
          fails_since c.from_residual-in_err-copy-2.result _ (g.P.Pages.shown.HasFailed c.copy.new.pages c.copy-2.new.pages) (g.P.Pages.shown.HasFailed c.args.pages.now c.copy-2.new.pages) ⊥ ⊥ c.from_residual-in_err-copy-2.ensures.1
          (g.met.P.Pages.failed_after c.args.pages.now c.copy.new.pages c.copy-2.new.pages (g.met.P.Pages.reads_writes c.args.pages.now c.copy.new.pages c.copy.ensures.reads.step)) (λ x. x) c.in_err-copy-2.ensures.reads.cause;
      asked = grind (arith, common_steps);
      step = g.met.P.Pages.reads_on c.args.pages.now c.copy.new.pages c.copy-2.new.pages c.copy.ensures.reads.step c.copy-2.ensures.reads.step;
    }

pub returns-in_err-copy-3-clause-reads : goal.returns-in_err-copy-3-clause-reads
returns-in_err-copy-3-clause-reads g c =
    record {
      cause =
          fails_since c.from_residual-in_err-copy-3.result _ (g.P.Pages.shown.HasFailed c.copy-2.new.pages c.copy-3.new.pages) (g.P.Pages.shown.HasFailed c.args.pages.now c.copy-3.new.pages) ⊥ ⊥ c.from_residual-in_err-copy-3.ensures.1
          (g.met.P.Pages.failed_after c.args.pages.now c.copy-2.new.pages c.copy-3.new.pages (g.met.P.Pages.reads_writes c.args.pages.now c.copy-2.new.pages (g.met.P.Pages.reads_on c.args.pages.now c.copy.new.pages c.copy-2.new.pages c.copy.ensures.reads.step c.copy-2.ensures.reads.step))) (λ x. x) c.in_err-copy-3.ensures.reads.cause;
      asked = grind (arith, common_steps);
      step = g.met.P.Pages.reads_on c.args.pages.now c.copy-2.new.pages c.copy-3.new.pages (g.met.P.Pages.reads_on c.args.pages.now c.copy.new.pages c.copy-2.new.pages c.copy.ensures.reads.step c.copy-2.ensures.reads.step) c.copy-3.ensures.reads.step;
    }

pub returns-clause-reads : goal.returns-clause-reads
returns-clause-reads g c =
    record {
      cause = tt;
      asked = grind (arith, common_steps);
      step = g.met.P.Pages.reads_on c.args.pages.now c.copy-2.new.pages c.copy-3.new.pages (g.met.P.Pages.reads_on c.args.pages.now c.copy.new.pages c.copy-2.new.pages c.copy.ensures.reads.step c.copy-2.ensures.reads.step) c.copy-3.ensures.reads.step;
    }

pub returns-in_err-copy-2-clause-read : goal.returns-in_err-copy-2-clause-read
returns-in_err-copy-2-clause-read g c honest parent =
    let h1 = g.met.P.Pages.writes_honestly c.copy.new.pages c.copy-2.new.pages (g.met.P.Pages.reads_writes c.copy.new.pages c.copy-2.new.pages c.copy-2.ensures.reads.step) honest in
    let before = (g.P.Pages.shown.state c.args.pages.now).live in
    let there = c.in_ok-copy.ensures.copied h1 (parent_there c.args.shape before c.args.page parent) in
    let kids = kids_there c.args.shape before c.args.page c.args.place c.copy.new.to c.in-Some.pair parent there c.in-Some.ensures in
    let kid = subst (λ (m : PageMap). IsSome (m c.in-Some.pair.lower)) (sym (g.met.P.Pages.reads_live c.args.pages.now c.copy.new.pages c.copy.ensures.reads.step h1)) kids.0 in
    fails c.from_residual-in_err-copy-2.result _ _ c.from_residual-in_err-copy-2.ensures.1 (c.in_err-copy-2.ensures.damage honest kid)

pub returns-in_err-copy-3-clause-read : goal.returns-in_err-copy-3-clause-read
returns-in_err-copy-3-clause-read g c honest parent =
    let h2 = g.met.P.Pages.writes_honestly c.copy-2.new.pages c.copy-3.new.pages (g.met.P.Pages.reads_writes c.copy-2.new.pages c.copy-3.new.pages c.copy-3.ensures.reads.step) honest in
    let h1 = g.met.P.Pages.writes_honestly c.copy.new.pages c.copy-2.new.pages (g.met.P.Pages.reads_writes c.copy.new.pages c.copy-2.new.pages c.copy-2.ensures.reads.step) h2 in
    let before = (g.P.Pages.shown.state c.args.pages.now).live in
    let there = c.in_ok-copy.ensures.copied h1 (parent_there c.args.shape before c.args.page parent) in
    let kids = kids_there c.args.shape before c.args.page c.args.place c.copy.new.to c.in-Some.pair parent there c.in-Some.ensures in
    let kid = subst (λ (m : PageMap). IsSome (m c.in-Some.pair.upper)) (sym (g.met.P.Pages.reads_live c.copy.new.pages c.copy-2.new.pages c.copy-2.ensures.reads.step h2 ∙ g.met.P.Pages.reads_live c.args.pages.now c.copy.new.pages c.copy.ensures.reads.step h1)) kids.1 in
    fails c.from_residual-in_err-copy-3.result _ _ c.from_residual-in_err-copy-3.ensures.1 (c.in_err-copy-3.ensures.damage honest kid)

pub returns-clause-read : goal.returns-clause-read
returns-clause-read g c honest parent =
    let h2 = g.met.P.Pages.writes_honestly c.copy-2.new.pages c.copy-3.new.pages (g.met.P.Pages.reads_writes c.copy-2.new.pages c.copy-3.new.pages c.copy-3.ensures.reads.step) honest in
    let h1 = g.met.P.Pages.writes_honestly c.copy.new.pages c.copy-2.new.pages (g.met.P.Pages.reads_writes c.copy.new.pages c.copy-2.new.pages c.copy-2.ensures.reads.step) h2 in
    let before = (g.P.Pages.shown.state c.args.pages.now).live in
    let there = c.in_ok-copy.ensures.copied h1 (parent_there c.args.shape before c.args.page parent) in
    let kids = kids_there c.args.shape before c.args.page c.args.place c.copy.new.to c.in-Some.pair parent there c.in-Some.ensures in
    let live1 = g.met.P.Pages.reads_live c.args.pages.now c.copy.new.pages c.copy.ensures.reads.step h1 in
    let live2 = g.met.P.Pages.reads_live c.copy.new.pages c.copy-2.new.pages c.copy-2.ensures.reads.step h2 ∙ live1 in
    let lower = c.in_ok-copy-2.ensures.copied h2 (subst (λ (m : PageMap). IsSome (m c.in-Some.pair.lower)) (sym live1) kids.0) in
    let upper = c.in_ok-copy-3.ensures.copied honest (subst (λ (m : PageMap). IsSome (m c.in-Some.pair.upper)) (sym live2) kids.1) in
    record {
      answer = record {
        parent = there;
        beside = c.in-Some.ensures;
        lower = ap (λ (m : PageMap). m c.in-Some.pair.lower) (sym live1) ∙ lower;
        upper = ap (λ (m : PageMap). m c.in-Some.pair.upper) (sym live2) ∙ upper;
      };
      no_damage = tt;
    }

pub copy-requires-2 : goal.copy-requires-2
copy-requires-2 g c = record { ready = g.met.P.Pages.writes_ready c.args.pages.now c.copy.new.pages (g.met.P.Pages.reads_writes c.args.pages.now c.copy.new.pages c.copy.ensures.reads.step) c.requires.ready }

pub copy-requires-3 : goal.copy-requires-3
copy-requires-3 g c =
    record {
      ready =
          g.met.P.Pages.writes_ready c.copy.new.pages c.copy-2.new.pages (g.met.P.Pages.reads_writes c.copy.new.pages c.copy-2.new.pages c.copy-2.ensures.reads.step)
          (g.met.P.Pages.writes_ready c.args.pages.now c.copy.new.pages (g.met.P.Pages.reads_writes c.args.pages.now c.copy.new.pages c.copy.ensures.reads.step) c.requires.ready);
    }

pub returns-clause-inner : goal.returns-clause-inner
returns-clause-inner g c = (c.in-Some.ensures.inner, c.in-Some.ensures.within)
