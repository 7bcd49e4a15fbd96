use Rattle.std.proofs.Common.{◌≤◌, ◌<◌, length, sym, ap, subst, ◌∙◌, arith}
use Rattle.record_layout.specs.declared.schema.KeyPart.{KeyPart}
use Rattle.record_layout.specs.Schema.{has_duplicates, no_key}
use Rattle.open_file.specs.Fields.{alternates_of, prime_index_of, file_schema}
use Rattle.open_file.specs.Stands.{Stands, heights_of}
use Rattle.pages.proofs.CauseLemmas.{fails_since}
use Rattle.open_file.proofs.ExitLemmas.{fails}
use Rattle.open_file.proofs.HeightLemmas.{heights_many}
use Rattle.open_file.proofs.LookLemmas.{at_start, step_absent, step_repeated, clash_found, clash_told, done_told, asked_start, asked_more, asked_in_all, asked_so_far}
use Rattle.file_changes.proofs.adding.adding.Goals as goal
use Rattle.file_changes.proofs.adding.adding.Goals.{then-branch+else-not-has_duplicates, else-branch}

pub loop-k-init : goal.loop-k-init
loop-k-init g c =
    (g.met.P.Pages.reads_nothing c.args.pages.now, (λ honest file stands. at_start (file_schema c.args.opened.now).keys c.args.bytes.now file.rows), asked_start (g.P.Pages.shown.state c.args.pages.now).asked (heights_of c.args.opened.now))

pub is_there-requires : goal.is_there-requires
is_there-requires g c = record {
  ready = g.met.P.Pages.writes_ready c.args.pages.now c.loop-k.pages (g.met.P.Pages.reads_writes c.args.pages.now c.loop-k.pages c.loop-k.invariant.0) c.requires.ready;
  shaped = c.requires.shaped;
  key = omega (arith, c.loop-k-test.true, c.key_count-k-end.ensures.count);
  least = c.requires.least;
}

pub loop-k-preserved : goal.loop-k-preserved
loop-k-preserved g c =
    let start = c.args.pages.now in
    let now = c.loop-k.pages in
    let later = c.is_there.new.pages in
    let keys = (file_schema c.args.opened.now).keys in
    let lt : c.loop-k.k < length keys = omega (arith, c.loop-k-test.true, c.key_count-k-end.ensures.count) in
    let d : KeyPart = no_key in (
      g.met.P.Pages.reads_on start now later c.loop-k.invariant.0 c.is_there.ensures.reads.step,
      (λ honest file stands.
          let before = g.met.P.Pages.writes_honestly now later (g.met.P.Pages.reads_writes now later c.is_there.ensures.reads.step) honest in
          let still = subst (λ p. Stands c.args.opened.now p file) (sym (g.met.P.Pages.reads_live start now c.loop-k.invariant.0 before)) stands in
          let found = (c.in_ok-is_there.ensures.found honest file still).answer in
          let on = c.loop-k.invariant.1 before file stands in
          elim c.if-branch.branch [
            | then-branch+else-not-has_duplicates w ↦ rw w.repeated-is (step_repeated keys d c.args.bytes.now file.rows c.loop-k.k c.loop-k.repeated lt (sym found ∙ w.if-branch.true)
                (ap has_duplicates (sym w.part.ensures.part) ∙ (sym w.has_duplicates.ensures ∙ w.if-not-has_duplicates.false)) on)
            | else-branch w ↦ rw w.repeated-is (step_absent keys d c.args.bytes.now file.rows c.loop-k.k c.loop-k.repeated lt (sym found ∙ w.if-branch.false) on)
          ]),
      asked_more (g.P.Pages.shown.state start).asked (g.P.Pages.shown.state now).asked (g.P.Pages.shown.state later).asked (heights_of c.args.opened.now) c.loop-k.k
          (omega (arith, lt, c.requires.shaped.keys, heights_many (prime_index_of c.args.opened.now) (alternates_of c.args.opened.now))) c.is_there.ensures.reads.asked c.loop-k.invariant.2,
    )

pub returns-in_err-is_there-clause-found : goal.returns-in_err-is_there-clause-found
returns-in_err-is_there-clause-found g c honest file stands =
    let before = g.met.P.Pages.writes_honestly c.loop-k.pages c.is_there.new.pages (g.met.P.Pages.reads_writes c.loop-k.pages c.is_there.new.pages c.is_there.ensures.reads.step) honest in
    let still = subst (λ p. Stands c.args.opened.now p file) (sym (g.met.P.Pages.reads_live c.args.pages.now c.loop-k.pages c.loop-k.invariant.0 before)) stands in
    fails c.from_residual.result _ c.from_residual.ensures.1 (c.in_err-is_there.ensures.found honest file still).no_damage _

pub returns-in_err-is_there-clause-reads : goal.returns-in_err-is_there-clause-reads
returns-in_err-is_there-clause-reads g c =
    record {
      cause = fails_since c.from_residual.result _ _ _ _ _ c.from_residual.ensures.1 (λ failed. g.met.P.Pages.failed_after c.args.pages.now c.loop-k.pages c.is_there.new.pages (g.met.P.Pages.reads_writes c.args.pages.now c.loop-k.pages c.loop-k.invariant.0) failed) (λ none. none) c.in_err-is_there.ensures.reads.cause;
      asked =
          let lt : c.loop-k.k < length (file_schema c.args.opened.now).keys = omega (arith, c.loop-k-test.true, c.key_count-k-end.ensures.count) in
          asked_so_far (g.P.Pages.shown.state c.args.pages.now).asked (g.P.Pages.shown.state c.loop-k.pages).asked (g.P.Pages.shown.state c.is_there.new.pages).asked (heights_of c.args.opened.now) c.loop-k.k
          (omega (arith, lt, c.requires.shaped.keys, heights_many (prime_index_of c.args.opened.now) (alternates_of c.args.opened.now))) c.is_there.ensures.reads.asked c.loop-k.invariant.2;
      step = g.met.P.Pages.reads_on c.args.pages.now c.loop-k.pages c.is_there.new.pages c.loop-k.invariant.0 c.is_there.ensures.reads.step;
    }

pub returns-then-not-has_duplicates-clause-found : goal.returns-then-not-has_duplicates-clause-found
returns-then-not-has_duplicates-clause-found g c honest file stands =
    let start = c.args.pages.now in
    let now = c.loop-k.pages in
    let later = c.is_there.new.pages in
    let keys = (file_schema c.args.opened.now).keys in
    let lt : c.loop-k.k < length keys = omega (arith, c.loop-k-test.true, c.key_count-k-end.ensures.count) in
    let d : KeyPart = no_key in
    let before = g.met.P.Pages.writes_honestly now later (g.met.P.Pages.reads_writes now later c.is_there.ensures.reads.step) honest in
    let still = subst (λ p. Stands c.args.opened.now p file) (sym (g.met.P.Pages.reads_live start now c.loop-k.invariant.0 before)) stands in
    let found = (c.in_ok-is_there.ensures.found honest file still).answer in
    let on = c.loop-k.invariant.1 before file stands in
    record {
      answer = clash_told (file_schema c.args.opened.now) c.args.bytes.now file (clash_found keys d c.args.bytes.now file.rows c.loop-k.k c.loop-k.repeated lt (sym found ∙ c.if-branch.true)
          (ap has_duplicates (sym c.part.ensures.part) ∙ (sym c.has_duplicates.ensures ∙ c.if-not-has_duplicates.true)) on);
      no_damage = tt;
    }

pub returns-then-not-has_duplicates-clause-reads : goal.returns-then-not-has_duplicates-clause-reads
returns-then-not-has_duplicates-clause-reads g c =
    record {
      cause = tt;
      asked =
          let lt : c.loop-k.k < length (file_schema c.args.opened.now).keys = omega (arith, c.loop-k-test.true, c.key_count-k-end.ensures.count) in
          asked_so_far (g.P.Pages.shown.state c.args.pages.now).asked (g.P.Pages.shown.state c.loop-k.pages).asked (g.P.Pages.shown.state c.is_there.new.pages).asked (heights_of c.args.opened.now) c.loop-k.k
          (omega (arith, lt, c.requires.shaped.keys, heights_many (prime_index_of c.args.opened.now) (alternates_of c.args.opened.now))) c.is_there.ensures.reads.asked c.loop-k.invariant.2;
      step = g.met.P.Pages.reads_on c.args.pages.now c.loop-k.pages c.is_there.new.pages c.loop-k.invariant.0 c.is_there.ensures.reads.step;
    }

pub returns-clause-found : goal.returns-clause-found
returns-clause-found g c honest file stands =
    let on = c.loop-k.invariant.1 honest file stands in
    let all : length (file_schema c.args.opened.now).keys ≤ c.loop-k.k = omega (arith, c.loop-k-test.false, c.key_count-k-end.ensures.count) in
    record { answer = done_told (file_schema c.args.opened.now) c.args.bytes.now file c.loop-k.k c.loop-k.repeated all on; no_damage = tt }

pub returns-clause-reads : goal.returns-clause-reads
returns-clause-reads g c =
    record {
      cause = tt;
      asked = asked_in_all (g.P.Pages.shown.state c.args.pages.now).asked (g.P.Pages.shown.state c.loop-k.pages).asked (heights_of c.args.opened.now) c.loop-k.k c.loop-k.invariant.2;
      step = c.loop-k.invariant.0;
    }
