use Rattle.std.proofs.Common.{rules, ◌≡◌, ◌∙◌, sym, ap, subst, is_ok, true, arith}
use Rattle.page_cache.proofs.OverLemmas.{counted_same, set_page, set_others, over_set}
use Rattle.page_alloc.specs.FreePage.{is_free, next_of}
use Rattle.page_alloc.proofs.JoinLemmas.{parts_after}
use Rattle.page_alloc.proofs.pager.make_free.Goals as goal

pub returns-clause-freed : goal.returns-clause-freed
returns-clause-freed g c =
    let w = c.link.new.page in
    let d = c.load.new.self in
    let e = c.held_mut.follows.lender w in
    let t = g.S.Shelf.state c.load.new.shelf in
    let set = c.held_mut.follows.holds w (ap is_ok c.in_ok-page.was) in
    record {
      free = subst (λ page. is_free page ≡ true) (sym (set_page c.args.n w d e set t)) c.link.ensures.free;
      linked = ap next_of (set_page c.args.n w d e set t) ∙ c.link.ensures.next;
      others = λ honest k differs. set_others c.args.n w d e set t k differs ∙ ap (λ pages. pages k) (c.load.ensures.looks.kept.pages honest);
    }

pub returns-clause-over : goal.returns-clause-over
returns-clause-over g c =
    let w = c.link.new.page in
    let set = c.held_mut.follows.holds w (ap is_ok c.in_ok-page.was) in
    over_set c.args.n w c.load.new.self (c.held_mut.follows.lender w) set (g.S.Shelf.state c.load.new.shelf) (counted_same c.args.cache.now c.load.new.self c.args.n c.load.ensures.looks.kept.keeps.store c.requires.page) c.load.ensures.looks.kept.over

pub returns-clause-asks : goal.returns-clause-asks
returns-clause-asks g c =
    let w = c.link.new.page in
    let set = c.held_mut.follows.holds w (ap is_ok c.in_ok-page.was) in
    let keeps = c.load.ensures.looks.kept.keeps in
    record {
      asked = search rules;
      goes = parts_after c.args.cache.now (c.held_mut.follows.lender w) (g.S.Shelf.state c.args.shelf.now) (g.S.Shelf.state c.load.new.shelf) _ _
          (record { store = set.store ∙ keeps.store; cap = set.cap ∙ keeps.cap }) c.load.ensures.looks.kept.goes (let p = c.load.ensures.looks.grows in let q = set.asked in omega arith) c.load.ensures.looks.cause.no_fewer;
    }
