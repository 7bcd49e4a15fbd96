use Rattle.std.proofs.Common.{refl, sym, subst, rules}
use Rattle.open_file.specs.Stands.{Stands}
use Rattle.open_file.proofs.ExitLemmas.{fails_finding}
use Rattle.open_file.proofs.ByKeyLemmas.{by_none}
use Rattle.open_file.proofs.AnswerLemmas.{nothing, found_it, first_row}
use Rattle.open_file.proofs.open_file.OpenFile.by_alternate.Goals as goal

pub returns-then-not-branch-clause-finds : goal.returns-then-not-branch-clause-finds
returns-then-not-branch-clause-finds g c = record {
  found = λ honest file stands.
      let found = rw (c.if-not-branch.true, c.as_slice.ensures.value) at (c.in_ok-first_of.ensures.found honest file stands).answer in
      nothing c.args.self.now.schema c.args.k file c.args.key.now.items c.args.area.now (by_none c.args.self.now.schema c.args.k c.args.key.now.items file found);
  none = search rules;
  kept = search rules;
}

pub returns-in_err-found_of-clause-finds : goal.returns-in_err-found_of-clause-finds
returns-in_err-found_of-clause-finds g c =
    fails_finding c.from_residual-in_err-found_of.result _ c.from_residual-in_err-found_of.ensures.1 _ _ _ _ _ _ _
    (λ honest file stands.
    let before = g.met.P.Pages.writes_honestly c.first_of.new.pages c.found_of.new.pages (g.met.P.Pages.reads_writes c.first_of.new.pages c.found_of.new.pages c.found_of.ensures.keeps.reads.step) honest in
    let still = subst (λ p. Stands c.args.self.now p file) (sym (g.met.P.Pages.reads_live c.args.pages.now c.first_of.new.pages c.first_of.ensures.reads.step before)) stands in
    let found = rw (c.if-not-branch.false, c.as_slice.ensures.value) at (c.in_ok-first_of.ensures.found before file stands).answer in
    let first = first_row c.args.self.now.schema c.args.k file c.args.key.now.items c.first_of.new.first stands.sound found in
    (c.in_err-found_of.ensures.found honest file still c.args.k first.of.row first.is first.repeated).answered.no_damage)
    c.in_err-found_of.ensures.keeps.kept

pub returns-clause-finds : goal.returns-clause-finds
returns-clause-finds g c = record {
  found = λ honest file stands.
      let before = g.met.P.Pages.writes_honestly c.first_of.new.pages c.found_of.new.pages (g.met.P.Pages.reads_writes c.first_of.new.pages c.found_of.new.pages c.found_of.ensures.keeps.reads.step) honest in
      let still = subst (λ p. Stands c.args.self.now p file) (sym (g.met.P.Pages.reads_live c.args.pages.now c.first_of.new.pages c.first_of.ensures.reads.step before)) stands in
      let found = rw (c.if-not-branch.false, c.as_slice.ensures.value) at (c.in_ok-first_of.ensures.found before file stands).answer in
      let first = first_row c.args.self.now.schema c.args.k file c.args.key.now.items c.first_of.new.first stands.sound found in
      found_it c.args.self.now.schema c.args.k file c.args.key.now.items c.first_of.new.first.entry first.of c.in_ok-found_of.field-0 c.args.area.now c.found_of.new.area
      (c.in_ok-found_of.ensures.found honest file still c.args.k first.of.row first.is first.repeated);
  none = search rules;
  kept = search rules;
}

pub returns-in_err-first_of-clause-finds : goal.returns-in_err-first_of-clause-finds
returns-in_err-first_of-clause-finds g c =
    fails_finding c.from_residual.result _ c.from_residual.ensures.1 _ _ _ _ _ _ _ (λ honest file stands. (c.in_err-first_of.ensures.found honest file stands).no_damage) refl
