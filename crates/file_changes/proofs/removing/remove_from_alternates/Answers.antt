use Rattle.pages.proofs.CauseLemmas.{fails_since}
use Rattle.std.proofs.Common.{◌≡◌, ◌+◌, ◌<◌, length, drop, arith, refl, ap, sym, ◌∙◌}
use Rattle.file_changes.specs.Adding.{index_levels}
use Rattle.file_changes.specs.Old.{row_with}
use Rattle.file_changes.specs.Removing.{without_below}
use Rattle.open_file.specs.Fields.{alternates_of, heap_of, prime_index_of, file_schema, with_alternates_of}
use Rattle.open_file.proofs.ExitLemmas.{fails}
use Rattle.open_file.proofs.PartsLemmas.{said_so, found_at}
use Rattle.file_changes.proofs.LevelLemmas.{levels_dropped}
use Rattle.file_changes.proofs.WithoutLemmas.{stamp_in_key, without_start, without_here, without_step}
use Rattle.file_changes.proofs.removing.remove_from_alternates.Goals as goal

pub loop-j-init : goal.loop-j-init
loop-j-init g c =
    let u = c.args.opened.now in
    let row = row_with c.args.bytes.now c.args.stamps.now in
    record {
      goes = g.met.P.Pages.writes_nothing c.args.pages.now;
      removed = λ honest sound slots primes entries p there. (
        said_so (heap_of u) (prime_index_of u) (alternates_of u) (g.P.Pages.shown.state c.args.pages.now).live slots primes entries p primes
            (without_below (file_schema u) row 0 entries) refl (λ i lt. without_start (file_schema u) row entries i),
        sound,
      );
      rest = refl;
      shaped = c.requires.can.shaped;
      many = refl;
      asked = omega arith;
    }

pub loop-j-preserved : goal.loop-j-preserved
loop-j-preserved g c =
    let start = c.args.pages.now in
    let now = c.loop-j.pages in
    let later = c.remove_from_alternate.new.pages in
    let j = c.loop-j.j in
    let u = c.loop-j.opened in
    let new = c.remove_from_alternate.new.opened in
    let inv = c.loop-j.invariant in
    let step = c.remove_from_alternate.ensures.alternate in
    let row = row_with c.args.bytes.now c.args.stamps.now in
    let lt : j < length (alternates_of u) = omega (arith, c.loop-j-test.true, c.alternate_count-j-end.ensures.value, inv.many) in
    let index = found_at (alternates_of u) j lt in
    let levels = levels_dropped (alternates_of u) j index.0 lt index.1 in
    let left : index_levels (drop (j + 1) (alternates_of new)) ≡ index_levels (drop (j + 1) (alternates_of u)) = ap index_levels step.later in
    record {
      goes = g.met.P.Pages.writes_on start now later inv.goes step.goes;
      removed = λ honest sound slots primes entries p there.
          let before = g.met.P.Pages.writes_honestly now later step.goes honest in
          let had = inv.removed before sound slots primes entries p there in
          let schema = ap file_schema inv.rest in
          let within : j < length (alternates_of c.args.opened.now) = omega (arith, lt, inv.many) in
          let here = without_here (file_schema c.args.opened.now) row j entries in
          let done = ((rw (schema, sym (stamp_in_key j row)) at c.in_ok-remove_from_alternate.ensures.removed) honest had.1 slots primes (without_below (file_schema c.args.opened.now) row j entries) had.0 (rw here (there j within))).answer in (
            said_so (heap_of new) (prime_index_of new) (alternates_of new) (g.P.Pages.shown.state later).live slots primes _ done.0 primes
                (without_below (file_schema c.args.opened.now) row (j + 1) entries) refl (λ i _. without_step (file_schema c.args.opened.now) row j entries i),
            done.1,
          );
      rest = step.rest ∙ ap (with_alternates_of new) inv.rest;
      shaped = step.shaped;
      many = step.many ∙ inv.many;
      asked = omega (arith, left, levels, inv.asked, step.asked index.0 index.1);
    }

pub returns-in_err-remove_from_alternate-clause-removed : goal.returns-in_err-remove_from_alternate-clause-removed
returns-in_err-remove_from_alternate-clause-removed g c honest sound slots primes entries p there =
    let now = c.loop-j.pages in
    let later = c.remove_from_alternate.new.pages in
    let j = c.loop-j.j in
    let inv = c.loop-j.invariant in
    let row = row_with c.args.bytes.now c.args.stamps.now in
    let within : j < length (alternates_of c.args.opened.now) = omega (arith, c.loop-j-test.true, c.alternate_count-j-end.ensures.value) in
    let before = g.met.P.Pages.writes_honestly now later c.remove_from_alternate.ensures.alternate.goes honest in
    let had = inv.removed before sound slots primes entries p there in
    let schema = ap file_schema inv.rest in
    let here = without_here (file_schema c.args.opened.now) row j entries in
    let failed = (rw (schema, sym (stamp_in_key j row)) at c.in_err-remove_from_alternate.ensures.removed) honest had.1 slots primes (without_below (file_schema c.args.opened.now) row j entries) had.0 (rw here (there j within)) in
    fails c.from_residual.result _ c.from_residual.ensures.1 failed.no_damage _

pub returns-in_err-remove_from_alternate-clause-writes : goal.returns-in_err-remove_from_alternate-clause-writes
returns-in_err-remove_from_alternate-clause-writes g c =
    let start = c.args.pages.now in
    let now = c.loop-j.pages in
    let later = c.remove_from_alternate.new.pages in
    let opened = c.loop-j.opened in
    let inv = c.loop-j.invariant in
    let lt : c.loop-j.j < length (alternates_of opened) = omega (arith, c.loop-j-test.true, c.alternate_count-j-end.ensures.value, inv.many) in
    let index = found_at (alternates_of opened) c.loop-j.j lt in
    let levels = levels_dropped (alternates_of opened) c.loop-j.j index.0 lt index.1 in
    record {
      cause = fails_since c.from_residual.result _ _ _ _ _ c.from_residual.ensures.1 (λ failed. g.met.P.Pages.failed_after start now later inv.goes failed) (λ none. omega (arith, none))
          (c.in_err-remove_from_alternate.ensures.alternate.cause index.0 index.1);
      asked = omega (arith, levels, inv.asked, c.remove_from_alternate.ensures.alternate.asked index.0 index.1);
      step = g.met.P.Pages.writes_on start now later inv.goes c.remove_from_alternate.ensures.alternate.goes;
    }

pub returns-clause-removed : goal.returns-clause-removed
returns-clause-removed g c honest sound slots primes entries p there =
    let e : c.loop-j.j ≡ length (alternates_of c.args.opened.now) = omega (arith, c.loop-j-test.false, c.loop-j.auto.j-end, c.alternate_count-j-end.ensures.value) in
    record { answer = rw e at (c.loop-j.invariant.removed honest sound slots primes entries p there); no_damage = tt }
