use Rattle.std.proofs.Common.{◌≡◌, ◌+◌, ◌-◌, ◌/◌, ℕ, arith, subst}
use Rattle.file_checker.specs.Search.{EndsBefore, EndsFrom, leaf_at}
use Rattle.file_checker.proofs.entry.leaves_before.Goals as goal

pub halve-init : goal.halve-init
halve-init g c = record {
  low = omega arith;
  high = omega arith;
  before = λ list has k same. absurd (omega (arith, same));
  from = λ list has less. absurd (omega (arith, less));
  back = λ list has. has;
}

pub halve-preserved-then-ends_before : goal.halve-preserved-then-ends_before
halve-preserved-then-ends_before g c =
    let middle = c.halve.low + (c.halve.high - c.halve.low) / 2 in
    record {
      low = omega arith;
      high = omega arith;
      before = λ list has k same.
          let at : middle ≡ k = omega (arith, same) in
          subst (λ (n : ℕ). EndsBefore c.args.file.now list c.args.value.now (leaf_at c.args.primes.now n)) at (c.ends_before.ensures.ends list has c.if-ends_before.true);
      from = λ list has. c.halve.invariant.from list (c.ends_before.ensures.before list has);
      back = λ list has. c.halve.invariant.back list (c.ends_before.ensures.before list has);
    }

pub halve-preserved : goal.halve-preserved
halve-preserved g c = record {
  low = omega arith;
  high = omega arith;
  before = λ list has. c.halve.invariant.before list (c.ends_before.ensures.before list has);
  from = λ list has less. c.ends_before.ensures.from list has c.if-ends_before.false;
  back = λ list has. c.halve.invariant.back list (c.ends_before.ensures.before list has);
}

pub returns-clause-near : goal.returns-clause-near
returns-clause-near g c = λ list has.
    let same : c.halve.high ≡ c.halve.low = omega arith in
    record {
      within = omega arith;
      before = c.halve.invariant.before list has;
      from = λ less. subst (λ (n : ℕ). EndsFrom c.args.file.now list c.args.value.now (leaf_at c.args.primes.now n)) same (c.halve.invariant.from list has (omega (arith, less, same)));
    }
