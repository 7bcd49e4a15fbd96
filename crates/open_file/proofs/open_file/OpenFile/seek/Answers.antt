use Rattle.std.proofs.Common.{ℕ, subst, sym, rules}
use Rattle.open_file.specs.Reading.{Seeks}
use Rattle.open_file.proofs.open_file.OpenFile.seek.Goals as goal

pub returns-then-k-eq0 : goal.returns-then-k-eq0
returns-then-k-eq0 g c = record {
  found = λ honest. subst (λ (k : ℕ). Seeks c.args.self.now (g.P.Pages.shown.state c.args.pages.now).live k c.args.relation c.args.operand.now c.seek_prime.result)
      (sym c.if-k-eq0.true) (c.seek_prime.ensures.found honest);
  reads = search rules;
}

pub returns : goal.returns
returns g c = record {
  found = λ honest. subst (λ (k : ℕ). Seeks c.args.self.now (g.P.Pages.shown.state c.args.pages.now).live k c.args.relation c.args.operand.now c.seek_alternate.result)
      c.from.ensures (c.seek_alternate.ensures.found honest);
  reads = search rules;
}
