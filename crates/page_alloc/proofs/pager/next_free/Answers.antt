use Rattle.std.proofs.Common.{rules, ◌∙◌, sym, ap}
use Rattle.std.proofs.lemmas.Bool.{both_ways}
use Rattle.page_cache.proofs.OverLemmas.{held_page}
use Rattle.page_alloc.specs.FreePage.{is_free, next_of}
use Rattle.page_alloc.proofs.JoinLemmas.{kept_after, damaged}
use Rattle.page_alloc.proofs.pager.next_free.Goals as goal

pub returns-then-not-is_free : goal.returns-then-not-is_free
returns-then-not-is_free g c = record {
  next = search rules;
  kept = kept_after c.args.cache.now c.load.new.self c.held.follows.lender-at-none (g.S.Shelf.state c.args.shelf.now) (g.S.Shelf.state c.load.new.shelf) c.load.ensures.looks.kept c.held.follows.holds-at-none;
  fails = record {
    caused = damaged _ _;
    damage = λ marked _.
        let t = g.S.Shelf.state c.load.new.shelf in
        let bytes = sym (ap (λ pages. pages c.args.n) (c.load.ensures.looks.kept.pages marked.0)) ∙ held_page c.load.new.self t c.args.n c.in_ok-page.page.now c.in_ok-page.ensures.answer.value in
        let free = c.is_free.ensures ∙ ap is_free (sym bytes) ∙ marked.1 in
        both_ways c.is_free.result c.if-not-is_free.true free;
  };
  asks = search rules;
}

pub returns : goal.returns
returns g c = record {
  next = λ honest.
      let t = g.S.Shelf.state c.load.new.shelf in
      let bytes = sym (ap (λ pages. pages c.args.n) (c.load.ensures.looks.kept.pages honest)) ∙ held_page c.load.new.self t c.args.n c.in_ok-page.page.now c.in_ok-page.ensures.answer.value in
      c.next.ensures ∙ ap next_of (sym bytes);
  kept = kept_after c.args.cache.now c.load.new.self c.held.follows.lender-at-none (g.S.Shelf.state c.args.shelf.now) (g.S.Shelf.state c.load.new.shelf) c.load.ensures.looks.kept c.held.follows.holds-at-none;
  fails = tt;
  asks = search rules;
}
