use Rattle.std.proofs.lemmas.Grind.{common_steps}
use Rattle.std.proofs.Common.{◌+◌, ◌≤◌, ◌<◌, length, sym, ap, subst, ◌∙◌, arith}
use Rattle.record_layout.specs.Schema.{prime_of, has_duplicates}
use Rattle.open_file.specs.Fields.{alternates_of, prime_index_of, file_schema}
use Rattle.open_file.specs.Stands.{Stands, heights_of}
use Rattle.open_file.proofs.ExitLemmas.{fails}
use Rattle.open_file.proofs.HeightLemmas.{heights_many}
use Rattle.open_file.proofs.LookLemmas.{asked_start, asked_more, asked_in_all}
use Rattle.file_changes.proofs.RemovedLemmas.{is_one, file_rows}
use Rattle.file_changes.proofs.SeenLemmas.{SeenOn, is_told, seen_start, seen_none, seen_repeated, seen_clash, all_seen, clash_seen}
use Rattle.file_changes.proofs.replacing.replacing.Goals as goal
use Rattle.file_changes.proofs.replacing.replacing.Goals.{then-branch+else-not-has_duplicates, else-branch}

pub loop-k-init : goal.loop-k-init
loop-k-init g c =
    let u = c.args.opened.now in
    let start = c.args.pages.now in
    let asked = (g.P.Pages.shown.state start).asked in
    record {
      reads = g.met.P.Pages.reads_nothing start;
      seen = λ honest file stands row is same.
          let one = is_one (file_schema u) file (prime_of (file_schema u) c.args.bytes.now) row stands.sound is in
          let some : 0 < length (file_schema u).keys = omega (arith, c.requires.can.shaped.keys) in
          rw same at (seen_start (file_schema u) file.next_stamp c.args.bytes.now row file.rows some c.requires.can.shaped.is_schema.keys (file_rows (file_schema u) file stands.sound) one.fit one.first one.has);
      asked = asked_more asked asked asked (heights_of u) 0 (omega (arith, heights_many (prime_index_of u) (alternates_of u))) (omega arith) (asked_start asked (heights_of u));
    }

pub is_new_there-requires : goal.is_new_there-requires
is_new_there-requires g c =
    record {
      can = record {
        ready = g.met.P.Pages.writes_ready c.args.pages.now c.loop-k.pages (g.met.P.Pages.reads_writes c.args.pages.now c.loop-k.pages c.loop-k.invariant.reads) c.requires.can.ready;
        shaped = c.requires.can.shaped;
        least = c.requires.can.least;
      };
      key = omega (arith, c.loop-k-test.true, c.key_count-k-end.ensures.count);
      old = c.requires.old;
    }

pub loop-k-preserved : goal.loop-k-preserved
loop-k-preserved g c =
    let u = c.args.opened.now in
    let start = c.args.pages.now in
    let now = c.loop-k.pages in
    let later = c.is_new_there.new.pages in
    let k = c.loop-k.k in
    let lt : k < length (file_schema u).keys = omega (arith, c.loop-k-test.true, c.key_count-k-end.ensures.count) in
    record {
      reads = g.met.P.Pages.reads_on start now later c.loop-k.invariant.reads c.is_new_there.ensures.reads.step;
      seen = λ honest file stands row is same.
          let before = g.met.P.Pages.writes_honestly now later (g.met.P.Pages.reads_writes now later c.is_new_there.ensures.reads.step) honest in
          let still = subst (λ p. Stands u p file) (sym (g.met.P.Pages.reads_live start now c.loop-k.invariant.reads before)) stands in
          let there = (c.in_ok-is_new_there.ensures.found honest file still).answer in
          let on = c.loop-k.invariant.seen before file stands row is same in
          let one = is_one (file_schema u) file (prime_of (file_schema u) c.args.bytes.now) row stands.sound is in
          let told = rw same at (is_told (file_schema u) file.next_stamp k c.args.bytes.now row file.rows lt (file_rows (file_schema u) file stands.sound) one.fit one.first) in
          elim c.if-branch.branch [
            | then-branch+else-not-has_duplicates w ↦ rw w.repeated-is (seen_repeated (file_schema u) c.args.old.now c.args.bytes.now file.rows k c.loop-k.repeated lt told (sym there ∙ w.if-branch.true)
                (ap has_duplicates (sym w.part.ensures.part) ∙ (sym w.has_duplicates.ensures ∙ w.if-not-has_duplicates.false)) on)
            | else-branch w ↦ rw w.repeated-is (seen_none (file_schema u) c.args.old.now c.args.bytes.now file.rows k c.loop-k.repeated lt told (sym there ∙ w.if-branch.false) on)
          ];
      asked = asked_more (g.P.Pages.shown.state start).asked (g.P.Pages.shown.state now).asked (g.P.Pages.shown.state later).asked (heights_of u) k
          (omega (arith, lt, c.requires.can.shaped.keys, heights_many (prime_index_of u) (alternates_of u))) c.is_new_there.ensures.reads.asked c.loop-k.invariant.asked;
    }

pub returns-in_err-is_new_there-clause-found : goal.returns-in_err-is_new_there-clause-found
returns-in_err-is_new_there-clause-found g c honest file stands row is same =
    let before = g.met.P.Pages.writes_honestly c.loop-k.pages c.is_new_there.new.pages (g.met.P.Pages.reads_writes c.loop-k.pages c.is_new_there.new.pages c.is_new_there.ensures.reads.step) honest in
    let still = subst (λ p. Stands c.args.opened.now p file) (sym (g.met.P.Pages.reads_live c.args.pages.now c.loop-k.pages c.loop-k.invariant.reads before)) stands in
    fails c.from_residual.result _ c.from_residual.ensures.1 (c.in_err-is_new_there.ensures.found honest file still).no_damage _

pub returns-then-not-has_duplicates-clause-found : goal.returns-then-not-has_duplicates-clause-found
returns-then-not-has_duplicates-clause-found g c honest file stands row is same =
    let u = c.args.opened.now in
    let k = c.loop-k.k in
    let now = c.loop-k.pages in
    let later = c.is_new_there.new.pages in
    let lt : k < length (file_schema u).keys = omega (arith, c.loop-k-test.true, c.key_count-k-end.ensures.count) in
    let before = g.met.P.Pages.writes_honestly now later (g.met.P.Pages.reads_writes now later c.is_new_there.ensures.reads.step) honest in
    let still = subst (λ p. Stands u p file) (sym (g.met.P.Pages.reads_live c.args.pages.now now c.loop-k.invariant.reads before)) stands in
    let there = (c.in_ok-is_new_there.ensures.found honest file still).answer in
    let on = c.loop-k.invariant.seen before file stands row is same in
    let one = is_one (file_schema u) file (prime_of (file_schema u) c.args.bytes.now) row stands.sound is in
    let told = rw same at (is_told (file_schema u) file.next_stamp k c.args.bytes.now row file.rows lt (file_rows (file_schema u) file stands.sound) one.fit one.first) in
    let unique = ap has_duplicates (sym c.part.ensures.part) ∙ (sym c.has_duplicates.ensures ∙ c.if-not-has_duplicates.true) in
    record { answer = clash_seen (file_schema u) c.args.bytes.now file row (seen_clash (file_schema u) c.args.old.now c.args.bytes.now file.rows k c.loop-k.repeated lt told (sym there ∙ c.if-branch.true) unique on); no_damage = tt }

pub returns-then-not-has_duplicates-clause-reads : goal.returns-then-not-has_duplicates-clause-reads
returns-then-not-has_duplicates-clause-reads g c =
    record {
      cause = tt;
      asked =
          let u = c.args.opened.now in
          let lt : c.loop-k.k < length (file_schema u).keys = omega (arith, c.loop-k-test.true, c.key_count-k-end.ensures.count) in
          asked_in_all (g.P.Pages.shown.state c.args.pages.now).asked (g.P.Pages.shown.state c.is_new_there.new.pages).asked (heights_of u) (c.loop-k.k + 1)
          (asked_more (g.P.Pages.shown.state c.args.pages.now).asked (g.P.Pages.shown.state c.loop-k.pages).asked (g.P.Pages.shown.state c.is_new_there.new.pages).asked (heights_of u) c.loop-k.k
          (omega (arith, lt, c.requires.can.shaped.keys, heights_many (prime_index_of u) (alternates_of u))) c.is_new_there.ensures.reads.asked c.loop-k.invariant.asked);
      step = grind (arith, common_steps);
    }

pub returns-clause-found : goal.returns-clause-found
returns-clause-found g c honest file stands row is same =
    let u = c.args.opened.now in
    let all : length (file_schema u).keys ≤ c.loop-k.k = omega (arith, c.loop-k-test.false, c.key_count-k-end.ensures.count) in
    let on = c.loop-k.invariant.seen honest file stands row is same in
    let seen = subst (λ old. SeenOn (file_schema u) old c.args.bytes.now file.rows c.loop-k.k c.loop-k.repeated) (sym same) on in
    record { answer = all_seen (file_schema u) c.args.bytes.now file row c.loop-k.k c.loop-k.repeated all seen; no_damage = tt }
