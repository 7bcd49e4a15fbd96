use Rattle.std.proofs.Common.{◌≡◌, ◌+◌, ◌<◌, length, drop, arith, refl, ap, ◌∙◌}
use Rattle.file_changes.specs.Adding.{index_levels, added_below}
use Rattle.open_file.specs.Fields.{alternates_of, heap_of, next_stamp_of, prime_index_of, file_schema, with_alternates_of}
use Rattle.pages.proofs.CauseLemmas.{fails_since}
use Rattle.open_file.proofs.ExitLemmas.{fails}
use Rattle.open_file.proofs.PartsLemmas.{said_so, found_at}
use Rattle.file_changes.proofs.LevelLemmas.{levels_dropped, below_start, below_here, below_step}
use Rattle.file_changes.proofs.adding.add_to_alternates.Goals as goal

pub loop-j-init : goal.loop-j-init
loop-j-init g c = (
  g.met.P.Pages.writes_nothing c.args.pages.now,
  (λ honest sound slots primes entries p free. (
    said_so (heap_of c.args.opened.now) (prime_index_of c.args.opened.now) (alternates_of c.args.opened.now) (g.P.Pages.shown.state c.args.pages.now).live slots primes entries p primes
        (added_below (file_schema c.args.opened.now) (next_stamp_of c.args.opened.now) c.args.bytes.now 0 entries) refl (λ i lt. below_start (file_schema c.args.opened.now) (next_stamp_of c.args.opened.now) c.args.bytes.now entries i),
    sound,
  )),
  refl,
  c.requires.can.shaped,
  refl,
  c.requires.room,
  omega arith,
)

pub loop-j-preserved : goal.loop-j-preserved
loop-j-preserved g c =
    let start = c.args.pages.now in
    let now = c.loop-j.pages in
    let later = c.add_to_alternate.new.pages in
    let opened = c.loop-j.opened in
    let new = c.add_to_alternate.new.opened in
    let inv = c.loop-j.invariant in
    let step = c.add_to_alternate.ensures.alternate in
    let lt : c.loop-j.j < length (alternates_of opened) = omega (arith, c.loop-j-test.true, c.alternate_count-j-end.ensures.value, inv.4) in
    let index = found_at (alternates_of opened) c.loop-j.j lt in
    let levels = levels_dropped (alternates_of opened) c.loop-j.j index.0 lt index.1 in
    let left : index_levels (drop (c.loop-j.j + 1) (alternates_of new)) ≡ index_levels (drop (c.loop-j.j + 1) (alternates_of opened)) = ap index_levels step.later in (
      g.met.P.Pages.writes_on start now later inv.0 step.goes,
      (λ honest sound slots primes entries p free.
          let before = g.met.P.Pages.writes_honestly now later step.goes honest in
          let had = inv.1 before sound slots primes entries p free in
          let schema = ap file_schema inv.2 in
          let stamp = ap next_stamp_of inv.2 in
          let j = c.loop-j.j in
          let within : j < length (alternates_of c.args.opened.now) = omega (arith, lt, inv.4) in
          let none = below_here (file_schema c.args.opened.now) (next_stamp_of c.args.opened.now) c.args.bytes.now j entries ∙ refl in
          let done = ((rw (schema, stamp) at c.in_ok-add_to_alternate.ensures.added) honest had.1 slots primes (added_below (file_schema c.args.opened.now) (next_stamp_of c.args.opened.now) c.args.bytes.now j entries) had.0 (rw none (free j within))).answer in (
            said_so (heap_of new) (prime_index_of new) (alternates_of new) (g.P.Pages.shown.state later).live slots primes _ done.0 primes
                (added_below (file_schema c.args.opened.now) (next_stamp_of c.args.opened.now) c.args.bytes.now (j + 1) entries) refl (λ i _. below_step (file_schema c.args.opened.now) (next_stamp_of c.args.opened.now) c.args.bytes.now j entries i),
            done.1,
          )),
      step.rest ∙ ap (with_alternates_of new) inv.2,
      step.shaped,
      step.many ∙ inv.4,
      omega (arith, left, levels, inv.5, step.few index.0 index.1),
      omega (arith, left, levels, inv.6, step.asked index.0 index.1),
    )

pub returns-in_err-add_to_alternate-clause-added : goal.returns-in_err-add_to_alternate-clause-added
returns-in_err-add_to_alternate-clause-added g c honest sound slots primes entries p free =
    let now = c.loop-j.pages in
    let later = c.add_to_alternate.new.pages in
    let opened = c.loop-j.opened in
    let inv = c.loop-j.invariant in
    let lt : c.loop-j.j < length (alternates_of c.args.opened.now) = omega (arith, c.loop-j-test.true, c.alternate_count-j-end.ensures.value, inv.4) in
    let before = g.met.P.Pages.writes_honestly now later c.add_to_alternate.ensures.alternate.goes honest in
    let had = inv.1 before sound slots primes entries p free in
    let schema = ap file_schema inv.2 in
    let stamp = ap next_stamp_of inv.2 in
    let none = below_here (file_schema c.args.opened.now) (next_stamp_of c.args.opened.now) c.args.bytes.now c.loop-j.j entries in
    let failed = (rw (schema, stamp) at c.in_err-add_to_alternate.ensures.added) honest had.1 slots primes (added_below (file_schema c.args.opened.now) (next_stamp_of c.args.opened.now) c.args.bytes.now c.loop-j.j entries) had.0 (rw none (free c.loop-j.j lt)) in
    fails c.from_residual.result _ c.from_residual.ensures.1 failed.no_damage _

pub returns-in_err-add_to_alternate-clause-writes : goal.returns-in_err-add_to_alternate-clause-writes
returns-in_err-add_to_alternate-clause-writes g c =
    let start = c.args.pages.now in
    let now = c.loop-j.pages in
    let later = c.add_to_alternate.new.pages in
    let opened = c.loop-j.opened in
    let inv = c.loop-j.invariant in
    let lt : c.loop-j.j < length (alternates_of opened) = omega (arith, c.loop-j-test.true, c.alternate_count-j-end.ensures.value, inv.4) in
    let index = found_at (alternates_of opened) c.loop-j.j lt in
    let levels = levels_dropped (alternates_of opened) c.loop-j.j index.0 lt index.1 in
    record {
      cause = fails_since c.from_residual.result _ _ _ _ _ c.from_residual.ensures.1 (λ failed. g.met.P.Pages.failed_after start now later inv.0 failed) (λ full. omega (arith, full, levels, inv.5))
          (c.in_err-add_to_alternate.ensures.alternate.cause index.0 index.1);
      asked = omega (arith, levels, inv.6, c.add_to_alternate.ensures.alternate.asked index.0 index.1);
      step = g.met.P.Pages.writes_on start now later inv.0 c.add_to_alternate.ensures.alternate.goes;
    }

pub returns-clause-added : goal.returns-clause-added
returns-clause-added g c honest sound slots primes entries p free =
    let inv = c.loop-j.invariant in
    let e : c.loop-j.j ≡ length (alternates_of c.args.opened.now) = omega (arith, c.loop-j-test.false, c.loop-j.auto.j-end, c.alternate_count-j-end.ensures.value) in
    let had = inv.1 honest sound slots primes entries p free in
    record { answer = rw e at had; no_damage = tt }
