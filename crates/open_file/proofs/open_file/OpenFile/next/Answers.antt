use Rattle.std.proofs.Common.{ℕ, subst, sym, rules}
use Rattle.open_file.specs.Reading.{FindsNext}
use Rattle.open_file.proofs.open_file.OpenFile.next.Goals as goal

pub returns-then-k-eq0 : goal.returns-then-k-eq0
returns-then-k-eq0 g c = record {
  finds = subst (λ (k : ℕ). FindsNext g.P.Pages.shown c.args.self.now k c.args.position.now c.args.pages.now c.next_by_prime.new.pages c.args.area.now c.next_by_prime.new.area c.next_by_prime.result)
      (sym c.if-k-eq0.true) c.next_by_prime.ensures.finds;
  stands = search rules;
  rest = search rules;
  reads = search rules;
}

pub returns : goal.returns
returns g c = record {
  finds = subst (λ (k : ℕ). FindsNext g.P.Pages.shown c.args.self.now k c.args.position.now c.args.pages.now c.next_by_alternate.new.pages c.args.area.now c.next_by_alternate.new.area c.next_by_alternate.result)
      c.from.ensures c.next_by_alternate.ensures.finds;
  stands = search rules;
  rest = search rules;
  reads = search rules;
}
