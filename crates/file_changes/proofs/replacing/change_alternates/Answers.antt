use Rattle.std.proofs.Common.{◌≡◌, ◌+◌, ◌<◌, true, false, List, length, drop, map, refl, ap, sym, ◌∙◌, arith}
use Rattle.std.specs.Prelude.{if◌then◌else◌}
use Rattle.indexed_file.specs.Room.{need_of_changed}
use Rattle.key_index.specs.declared.alt_index.AltIndex.{AltIndex}
use Rattle.key_index.specs.Standing.{alt_height}
use Rattle.file_changes.specs.Old.{row_with}
use Rattle.file_changes.specs.Replacing.{changed_below, stays}
use Rattle.open_file.specs.Fields.{alternates_of, heap_of, next_stamp_of, prime_index_of, file_schema, with_alternates_of}
use Rattle.pages.proofs.CauseLemmas.{fails_since}
use Rattle.open_file.proofs.ExitLemmas.{fails}
use Rattle.open_file.proofs.PartsLemmas.{said_so, found_at}
use Rattle.file_changes.proofs.WithoutLemmas.{stamp_in_key}
use Rattle.file_changes.proofs.ChangedLemmas.{need_from, need_step}
use Rattle.file_changes.proofs.ChangingLemmas.{changed_start, changed_here, changed_skip, changed_step}
use Rattle.file_changes.proofs.SeenLemmas.{was_false, was_true}
use Rattle.file_changes.proofs.replacing.change_alternates.Goals as goal
use Rattle.file_changes.proofs.replacing.change_alternates.Goals.{then-differs+in_ok-change_alternate, else-differs}

pub loop-j-init : goal.loop-j-init
loop-j-init g c =
    let u = c.args.opened.now in
    let row = row_with c.args.old.now c.args.stamps.now in
    record {
      goes = g.met.P.Pages.writes_nothing c.args.pages.now;
      changed = λ honest sound slots primes entries p there free. (
        said_so (heap_of u) (prime_index_of u) (alternates_of u) (g.P.Pages.shown.state c.args.pages.now).live slots primes entries p primes
            (changed_below (file_schema u) (next_stamp_of u) row c.args.bytes.now 0 entries) refl (λ i lt. changed_start (file_schema u) (next_stamp_of u) row c.args.bytes.now entries i),
        sound,
      );
      rest = refl;
      shaped = c.requires.can.shaped;
      many = refl;
      room = c.requires.room;
      asked = omega arith;
    }

pub loop-j-preserved : goal.loop-j-preserved
loop-j-preserved g c =
    let u = c.args.opened.now in
    let unit = c.loop-j.opened in
    let start = c.args.pages.now in
    let now = c.loop-j.pages in
    let j = c.loop-j.j in
    let inv = c.loop-j.invariant in
    let old = c.args.old.now in
    let bytes = c.args.bytes.now in
    let row = row_with old c.args.stamps.now in
    let schema = ap file_schema inv.rest in
    let next = ap next_stamp_of inv.rest in
    let lt : j < length (alternates_of unit) = omega (arith, c.loop-j-test.true, c.alternate_count-j-end.ensures.value, inv.many) in
    let within : j < length (alternates_of u) = omega (arith, lt, inv.many) in
    let keys : length (file_schema u).keys ≡ length (alternates_of unit) + 1 = omega (arith, c.requires.can.shaped.keys, inv.many) in
    let index = found_at (alternates_of unit) j lt in
    let need = need_step (file_schema u) old bytes (alternates_of unit) j index.0 keys lt index.1 in
    elim c.if-differs.branch [
      | then-differs+in_ok-change_alternate w ↦
          let later = w.change_alternate.new.pages in
          let new = w.change_alternate.new.opened in
          let step = w.change_alternate.ensures.alternate in
          let moves : stays (file_schema u) old bytes j ≡ false = was_false _ (sym (rw (schema, c.number_of.ensures) at c.differs.ensures) ∙ w.if-differs.true) in
          let here = ap (λ b. if b then 0 else alt_height index.0 + 1) moves in
          let left : need_from (file_schema u) old bytes (alternates_of new) (j + 1) ≡ need_from (file_schema u) old bytes (alternates_of unit) (j + 1) =
          ap (λ (is : List AltIndex). need_of_changed (drop (j + 1 + 1) (file_schema u).keys) old bytes (map alt_height is)) step.later in
          rw (w.opened-is, w.pages-is) (record {
            goes = g.met.P.Pages.writes_on start now later inv.goes step.goes;
            changed = λ honest sound slots primes entries p there free.
                let before = g.met.P.Pages.writes_honestly now later step.goes honest in
                let had = inv.changed before sound slots primes entries p there free in
                let was = changed_here (file_schema u) (next_stamp_of u) row bytes j entries in
                let done = ((rw (schema, next, sym (stamp_in_key j row)) at w.in_ok-change_alternate.ensures.put) honest had.1 slots primes (changed_below (file_schema u) (next_stamp_of u) row bytes j entries) had.0
                (record { there = rw was (there j within); freed = rw was (free j within moves) })).answer in (
                  said_so (heap_of new) (prime_index_of new) (alternates_of new) (g.P.Pages.shown.state later).live slots primes _ done.0 primes
                      (changed_below (file_schema u) (next_stamp_of u) row bytes (j + 1) entries) refl (λ i _. changed_step (file_schema u) (next_stamp_of u) row bytes j entries moves i),
                  done.1,
                );
            rest = step.rest ∙ ap (with_alternates_of new) inv.rest;
            shaped = step.shaped;
            many = step.many ∙ inv.many;
            room = omega (arith, need, here, left, inv.room, step.few index.0 index.1);
            asked = omega (arith, need, here, left, inv.asked, step.asked index.0 index.1);
          })
      | else-differs w ↦
          let same : stays (file_schema u) old bytes j ≡ true = was_true _ (sym (rw (schema, c.number_of.ensures) at c.differs.ensures) ∙ w.if-differs.false) in
          let here = ap (λ b. if b then 0 else alt_height index.0 + 1) same in
          rw (w.opened-is, w.pages-is) (record {
            goes = inv.goes;
            changed = λ honest sound slots primes entries p there free.
                let had = inv.changed honest sound slots primes entries p there free in (
                  said_so (heap_of unit) (prime_index_of unit) (alternates_of unit) (g.P.Pages.shown.state now).live slots primes _ had.0 primes
                      (changed_below (file_schema u) (next_stamp_of u) row bytes (j + 1) entries) refl (λ i _. changed_skip (file_schema u) (next_stamp_of u) row bytes j entries same i),
                  had.1,
                );
            rest = inv.rest;
            shaped = inv.shaped;
            many = inv.many;
            room = omega (arith, need, here, inv.room);
            asked = omega (arith, need, here, inv.asked);
          })
    ]

pub returns-in_err-change_alternate-clause-put : goal.returns-in_err-change_alternate-clause-put
returns-in_err-change_alternate-clause-put g c honest sound slots primes entries p asked =
    let there = asked.0 in
    let free = asked.1 in
    let u = c.args.opened.now in
    let now = c.loop-j.pages in
    let later = c.change_alternate.new.pages in
    let j = c.loop-j.j in
    let inv = c.loop-j.invariant in
    let row = row_with c.args.old.now c.args.stamps.now in
    let schema = ap file_schema inv.rest in
    let next = ap next_stamp_of inv.rest in
    let within : j < length (alternates_of u) = omega (arith, c.loop-j-test.true, c.alternate_count-j-end.ensures.value) in
    let moves : stays (file_schema u) c.args.old.now c.args.bytes.now j ≡ false = was_false _ (sym (rw (schema, c.number_of.ensures) at c.differs.ensures) ∙ c.if-differs.true) in
    let before = g.met.P.Pages.writes_honestly now later c.change_alternate.ensures.alternate.goes honest in
    let had = inv.changed before sound slots primes entries p there free in
    let was = changed_here (file_schema u) (next_stamp_of u) row c.args.bytes.now j entries in
    let failed = (rw (schema, next, sym (stamp_in_key j row)) at c.in_err-change_alternate.ensures.put) honest had.1 slots primes (changed_below (file_schema u) (next_stamp_of u) row c.args.bytes.now j entries) had.0
    (record { there = rw was (there j within); freed = rw was (free j within moves) }) in
    fails c.from_residual.result _ c.from_residual.ensures.1 failed.no_damage _

pub returns-in_err-change_alternate-clause-writes : goal.returns-in_err-change_alternate-clause-writes
returns-in_err-change_alternate-clause-writes g c =
    let u = c.args.opened.now in
    let unit = c.loop-j.opened in
    let j = c.loop-j.j in
    let inv = c.loop-j.invariant in
    let schema = ap file_schema inv.rest in
    let lt : j < length (alternates_of unit) = omega (arith, c.loop-j-test.true, c.alternate_count-j-end.ensures.value, inv.many) in
    let keys : length (file_schema u).keys ≡ length (alternates_of unit) + 1 = omega (arith, c.requires.can.shaped.keys, inv.many) in
    let index = found_at (alternates_of unit) j lt in
    let need = need_step (file_schema u) c.args.old.now c.args.bytes.now (alternates_of unit) j index.0 keys lt index.1 in
    let moves : stays (file_schema u) c.args.old.now c.args.bytes.now j ≡ false = was_false _ (sym (rw (schema, c.number_of.ensures) at c.differs.ensures) ∙ c.if-differs.true) in
    let here = ap (λ b. if b then 0 else alt_height index.0 + 1) moves in
    record {
      cause = fails_since c.from_residual.result _ _ _ _ _ c.from_residual.ensures.1 (λ failed. g.met.P.Pages.failed_after c.args.pages.now c.loop-j.pages c.change_alternate.new.pages inv.goes failed)
          (λ lacks. omega (arith, lacks, need, here, inv.room)) (c.in_err-change_alternate.ensures.alternate.cause index.0 index.1);
      asked = omega (arith, need, here, inv.asked, c.change_alternate.ensures.alternate.asked index.0 index.1);
      step = g.met.P.Pages.writes_on c.args.pages.now c.loop-j.pages c.change_alternate.new.pages inv.goes c.change_alternate.ensures.alternate.goes;
    }

pub returns-clause-put : goal.returns-clause-put
returns-clause-put g c honest sound slots primes entries p asked =
    let e : c.loop-j.j ≡ length (alternates_of c.args.opened.now) = omega (arith, c.loop-j-test.false, c.loop-j.auto.j-end, c.alternate_count-j-end.ensures.value) in
    record { answer = rw e at (c.loop-j.invariant.changed honest sound slots primes entries p asked.0 asked.1); no_damage = tt }
