use Rattle.std.proofs.Common.{refl, sym, subst, arith, rules}
use Rattle.pages.specs.PageMap.{PageMap}
use Rattle.pages.proofs.CauseLemmas.{fails_since}
use Rattle.open_file.specs.Stands.{Stands}
use Rattle.open_file.proofs.ExitLemmas.{fails_finding}
use Rattle.open_file.proofs.HeightLemmas.{height_by_key}
use Rattle.open_file.proofs.PathLemmas.{same_prime_index}
use Rattle.open_file.proofs.NextLemmas.{nothing_read, alt_not_admitted, alt_read, alt_not_read}
use Rattle.open_file.proofs.open_file.OpenFile.next_by_alternate.Goals as goal

pub returns-in_err-step_in_alternate-clause-finds : goal.returns-in_err-step_in_alternate-clause-finds
returns-in_err-step_in_alternate-clause-finds g c =
    fails_finding c.from_residual.result _ c.from_residual.ensures.1 _ _ _ _ _ _ _ (λ honest file stands. (c.in_err-step_in_alternate.ensures.found honest file stands).no_damage) refl

pub returns-in_err-step_in_alternate-clause-reads : goal.returns-in_err-step_in_alternate-clause-reads
returns-in_err-step_in_alternate-clause-reads g c = record {
  cause = fails_since c.from_residual.result _ _ _ _ _ c.from_residual.ensures.1 (λ failed. failed) (λ none. none) c.in_err-step_in_alternate.ensures.reads.cause;
  asked =
      let h = height_by_key c.args.self.now.prime c.args.self.now.alternates.items c.args.k c.alternate-index.result c.requires.key.some c.requires.key.within c.alternate-index.ensures in
      rw h (omega (arith, c.step_in_alternate.ensures.reads.asked));
  step = c.step_in_alternate.ensures.reads.step;
}

pub returns-then-not-branch-clause-finds : goal.returns-then-not-branch-clause-finds
returns-then-not-branch-clause-finds g c = record {
  found = λ honest file stands.
      let found = (rw c.if-not-branch.true at c.in_ok-step_in_alternate.ensures.found honest file stands).answer in
      nothing_read c.args.self.now.schema c.args.k file _ c.args.area.now (alt_not_admitted c.args.self.now.schema c.args.k c.args.position.now file (sym found));
  none = search rules;
  kept = search rules;
}

pub returns-then-not-branch-clause-reads : goal.returns-then-not-branch-clause-reads
returns-then-not-branch-clause-reads g c = record {
  cause = tt;
  asked =
      let h = height_by_key c.args.self.now.prime c.args.self.now.alternates.items c.args.k c.alternate-index.result c.requires.key.some c.requires.key.within c.alternate-index.ensures in
      rw h (omega (arith, c.step_in_alternate.ensures.reads.asked));
  step = c.step_in_alternate.ensures.reads.step;
}

pub returns-in_err-deliver-clause-finds : goal.returns-in_err-deliver-clause-finds
returns-in_err-deliver-clause-finds g c =
    fails_finding c.from_residual-in_err-deliver.result _ c.from_residual-in_err-deliver.ensures.1 _ _ _ _ _ _ _
    (λ honest file stands.
    let pages = c.args.pages.now in
    let stepped = c.step_in_alternate.new.pages in
    let before = g.met.P.Pages.writes_honestly stepped c.deliver.new.pages (g.met.P.Pages.reads_writes stepped c.deliver.new.pages c.deliver.ensures.keeps.reads.step) honest in
    let same = g.met.P.Pages.reads_live pages stepped c.step_in_alternate.ensures.reads.step before in
    let still = subst (λ (p : PageMap). Stands c.step_in_alternate.new.self p file) (sym same) (c.step_in_alternate.ensures.stands before file stands) in
    let found = (rw c.if-not-branch.false at c.in_ok-step_in_alternate.ensures.found before file stands).answer in
    let sound = alt_not_read c.args.self.now c.step_in_alternate.new.self c.args.k c.step_in_alternate.ensures.rest
    (g.P.Pages.shown.state c.args.pages.now).live file stands c.args.position.now c.step_in_alternate.new.entry (sym found) c.args.area.now c.deliver.new.area c.in_err-deliver.field-0.0 (c.in_err-deliver.ensures.found honest file still) in
    sound)
    c.in_err-deliver.ensures.keeps.kept

pub returns-in_err-deliver-clause-reads : goal.returns-in_err-deliver-clause-reads
returns-in_err-deliver-clause-reads g c =
    let pages = c.args.pages.now in
    let stepped = c.step_in_alternate.new.pages in
    let step = c.step_in_alternate.ensures.reads.step in
    record {
      cause = fails_since c.from_residual-in_err-deliver.result _ _ _ _ _ c.from_residual-in_err-deliver.ensures.1 (λ failed. g.met.P.Pages.failed_after pages stepped c.deliver.new.pages (g.met.P.Pages.reads_writes pages stepped step) failed) (λ none. none) c.in_err-deliver.ensures.keeps.reads.cause;
      asked =
          let h = height_by_key c.args.self.now.prime c.args.self.now.alternates.items c.args.k c.alternate-index.result c.requires.key.some c.requires.key.within c.alternate-index.ensures in
          let read = rw (same_prime_index c.args.self.now c.step_in_alternate.new.self c.step_in_alternate.ensures.rest) at c.deliver.ensures.keeps.reads.asked in
          rw h (omega (arith, c.step_in_alternate.ensures.reads.asked, read));
      step = g.met.P.Pages.reads_on pages stepped c.deliver.new.pages step c.deliver.ensures.keeps.reads.step;
    }

pub returns-in_err-deliver-clause-moves : goal.returns-in_err-deliver-clause-moves
returns-in_err-deliver-clause-moves g c = record {
  stands = λ honest file stands.
      c.step_in_alternate.ensures.stands (g.met.P.Pages.writes_honestly c.step_in_alternate.new.pages c.deliver.new.pages
      (g.met.P.Pages.reads_writes c.step_in_alternate.new.pages c.deliver.new.pages c.deliver.ensures.keeps.reads.step) honest) file stands;
  rest = search rules;
}

pub returns-clause-finds : goal.returns-clause-finds
returns-clause-finds g c = record {
  found = λ honest file stands.
      let pages = c.args.pages.now in
      let stepped = c.step_in_alternate.new.pages in
      let before = g.met.P.Pages.writes_honestly stepped c.deliver.new.pages (g.met.P.Pages.reads_writes stepped c.deliver.new.pages c.deliver.ensures.keeps.reads.step) honest in
      let same = g.met.P.Pages.reads_live pages stepped c.step_in_alternate.ensures.reads.step before in
      let still = subst (λ (p : PageMap). Stands c.step_in_alternate.new.self p file) (sym same) (c.step_in_alternate.ensures.stands before file stands) in
      let found = (rw c.if-not-branch.false at c.in_ok-step_in_alternate.ensures.found before file stands).answer in
      alt_read c.args.self.now c.step_in_alternate.new.self c.args.k c.step_in_alternate.ensures.rest
      (g.P.Pages.shown.state c.args.pages.now).live file stands c.args.position.now c.step_in_alternate.new.entry (sym found) c.args.area.now c.deliver.new.area c.in_ok-deliver.field-0 (c.in_ok-deliver.ensures.found honest file still);
  none = search rules;
  kept = search rules;
}

pub returns-clause-moves : goal.returns-clause-moves
returns-clause-moves g c = record {
  stands = λ honest file stands.
      c.step_in_alternate.ensures.stands (g.met.P.Pages.writes_honestly c.step_in_alternate.new.pages c.deliver.new.pages
      (g.met.P.Pages.reads_writes c.step_in_alternate.new.pages c.deliver.new.pages c.deliver.ensures.keeps.reads.step) honest) file stands;
  rest = search rules;
}
