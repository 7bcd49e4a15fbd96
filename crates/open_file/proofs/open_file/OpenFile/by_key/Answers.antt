use Rattle.std.proofs.Common.{ℕ, sym, subst, rules}
use Rattle.open_file.specs.Reading.{FindsByValue}
use Rattle.open_file.proofs.open_file.OpenFile.by_key.Goals as goal

pub returns-then-k-eq0 : goal.returns-then-k-eq0
returns-then-k-eq0 g c = record {
  finds = subst (λ (k : ℕ). FindsByValue g.P.Pages.shown c.args.self.now k c.args.key.now.items c.args.pages.now c.by_prime.new.pages c.args.area.now c.by_prime.new.area c.by_prime.result)
      (sym c.if-k-eq0.true) c.by_prime.ensures.finds;
  once = search rules;
  alone = search rules;
  reads = search rules;
}

pub returns : goal.returns
returns g c = record {
  finds = subst (λ (k : ℕ). FindsByValue g.P.Pages.shown c.args.self.now k c.args.key.now.items c.args.pages.now c.by_alternate.new.pages c.args.area.now c.by_alternate.new.area c.by_alternate.result)
      c.from.ensures c.by_alternate.ensures.finds;
  once = search rules;
  alone = search rules;
  reads = search rules;
}
