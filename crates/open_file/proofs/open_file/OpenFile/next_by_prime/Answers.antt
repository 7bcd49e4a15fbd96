use Rattle.std.proofs.Common.{refl, sym, rules}
use Rattle.open_file.proofs.ExitLemmas.{fails_finding}
use Rattle.open_file.proofs.NextLemmas.{nothing_read, row_read, prime_not_admitted, prime_admitted, prime_told}
use Rattle.open_file.proofs.open_file.OpenFile.next_by_prime.Goals as goal

pub returns-in_err-step_in_prime-clause-finds : goal.returns-in_err-step_in_prime-clause-finds
returns-in_err-step_in_prime-clause-finds g c =
    fails_finding c.from_residual.result _ c.from_residual.ensures.1 _ _ _ _ _ _ _ (λ honest file stands. (c.in_err-step_in_prime.ensures.found honest file stands).no_damage) refl

pub returns-then-not-branch-clause-finds : goal.returns-then-not-branch-clause-finds
returns-then-not-branch-clause-finds g c = record {
  found = λ honest file stands.
      let found = (rw c.if-not-branch.true at c.in_ok-step_in_prime.ensures.found honest file stands).answer in
      nothing_read c.args.self.now.schema 0 file _ c.args.area.now (prime_not_admitted c.args.self.now (g.P.Pages.shown.state c.args.pages.now).live file stands c.args.position.now (sym found));
  none = search rules;
  kept = search rules;
}

pub returns-in_err-length-clause-finds : goal.returns-in_err-length-clause-finds
returns-in_err-length-clause-finds g c =
    fails_finding c.from_residual-in_err-length.result _ c.from_residual-in_err-length.ensures.1 _ _ _ _ _ _ _
    (λ honest file stands.
    let before = g.met.P.Pages.writes_honestly c.step_in_prime.new.pages c.read.new.pages (g.met.P.Pages.reads_writes c.step_in_prime.new.pages c.read.new.pages c.read.ensures.keeps.reads.step) honest in
    let same = g.met.P.Pages.reads_live c.args.pages.now c.step_in_prime.new.pages c.step_in_prime.ensures.reads.step before in
    let found = (rw c.if-not-branch.false at c.in_ok-step_in_prime.ensures.found before file stands).answer in
    let next = prime_admitted c.args.self.now c.step_in_prime.new.self (g.P.Pages.shown.state c.args.pages.now).live (g.P.Pages.shown.state c.step_in_prime.new.pages).live file stands c.args.position.now c.step_in_prime.new.entry
    c.step_in_prime.ensures.rest c.requires.shaped.stamps same (sym found) in
    (c.in_err-length.ensures.found honest next.row next.at).answered.no_damage)
    c.in_err-length.ensures.keeps.kept

pub returns-clause-finds : goal.returns-clause-finds
returns-clause-finds g c = record {
  found = λ honest file stands.
      let before = g.met.P.Pages.writes_honestly c.step_in_prime.new.pages c.read.new.pages (g.met.P.Pages.reads_writes c.step_in_prime.new.pages c.read.new.pages c.read.ensures.keeps.reads.step) honest in
      let same = g.met.P.Pages.reads_live c.args.pages.now c.step_in_prime.new.pages c.step_in_prime.ensures.reads.step before in
      let found = (rw c.if-not-branch.false at c.in_ok-step_in_prime.ensures.found before file stands).answer in
      let next = prime_admitted c.args.self.now c.step_in_prime.new.self (g.P.Pages.shown.state c.args.pages.now).live (g.P.Pages.shown.state c.step_in_prime.new.pages).live file stands c.args.position.now c.step_in_prime.new.entry
      c.step_in_prime.ensures.rest c.requires.shaped.stamps same (sym found) in
      row_read c.args.self.now.schema 0 file _ next.row _ c.args.area.now c.read.new.area next.is_next
      (prime_told c.args.self.now.schema file next.row c.step_in_prime.new.entry.value c.in_ok-length.length c.args.area.now c.read.new.area next.value (c.in_ok-length.ensures.found honest next.row next.at));
  none = search rules;
  kept = search rules;
}
