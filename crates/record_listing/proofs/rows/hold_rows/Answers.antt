use Rattle.std.proofs.Common.{◌<◌, ◌-◌, ℕ, List, Option, length, vec_capacity, Ok, Err, sym, subst, ◌∙◌}
use Rattle.std.specs.Prelude.{if◌then◌else◌}
use Rattle.io_state.specs.declared.position.Position.TheVariants.{After}
use Rattle.indexed_file.specs.declared.answer.Found.{Found}
use Rattle.indexed_file.specs.World.{schema_at, file_at}
use Rattle.record_text.specs.Room.{IsLineRoom}
use Rattle.record_listing.specs.declared.condition.Condition.{Condition}
use Rattle.record_listing.specs.Reading.{rows_asked, ComesBehind, HoldsWhere, RowsGoOn}
use Rattle.record_listing.proofs.StepLemmas.{AreToCome, all_to_come, goes_on, step, step_refused, all_done, none_left, some_rest}
use Rattle.record_listing.proofs.WorldLemmas.{reads_self, reads_both, fault_later}
use Rattle.record_listing.proofs.rows.hold_rows.Goals as goal

pub more-init : goal.more-init
more-init g c = record {
  reads = reads_self g.L.Library.shown c.args.lib.now;
  rows = λ honest truly. all_to_come c.args.form.now _ _ c.args.asked _ _ c.requires.empty;
  room = c.requires.room;
}

pub more-smaller : goal.more-smaller
more-smaller g c =
    (subst (ComesBehind c.more.position) c.in-Ok-Some.field-0-is c.in-Ok-Some.ensures.rises).1

pub more-preserved : goal.more-preserved
more-preserved g c =
    let shown = g.L.Library.shown in
    let a = c.args.lib.now in
    let b = c.more.lib in
    let d = c.next_record.new.lib in
    let schema = schema_at (shown.world a) 0 in
    let file = file_at (shown.world a) 0 in
    let asked = c.args.asked in
    let before = g.W.Write.contents c.args.out.now in
    let now = g.W.Write.contents c.hold_where.new.out in
    record {
      reads = reads_both shown a b d c.requires.can.file.attached c.more.invariant.reads c.next_record.ensures.reads;
      rows = λ honest truly.
          let come = c.more.invariant.rows (c.next_record.ensures.reads.keeps.honest honest) truly in
          let goes = goes_on shown a b d asked.key asked.to c.more.position c.next_record.new.area c.in-Ok-Some.field-0 c.requires.can.file.attached c.more.invariant.reads c.next_record.ensures.reads honest truly c.in-Ok-Some.ensures.goes in
          let next = subst (RowsGoOn schema file asked.key asked.to c.more.position c.next_record.new.area) c.in-Ok-Some.field-0-is goes in
          let held = subst (λ (l : List Condition). HoldsWhere c.args.form.now l c.in-Ok-Some.found.length c.next_record.new.area (g.W.Write.contents c.more.out) now c.more.lines c.hold_where.new.lines (Ok c.in-Ok.listed)) c.as_slice-conditions.ensures.value c.in-Ok.ensures.held in
          subst (λ (n : ℕ). AreToCome c.args.form.now (rows_asked schema file asked) schema file asked.key asked.to asked.conditions.items n (After c.in-Ok-Some.found.key c.in-Ok-Some.found.stamp) before now c.hold_where.new.lines)
          (sym c.left_behind-left.ensures)
          (step c.args.form.now (rows_asked schema file asked) schema file asked.key asked.to asked.conditions.items c.more.left c.more.position before (g.W.Write.contents c.more.out) c.more.lines come
          c.next_record.new.area c.in-Ok-Some.found next c.in-Ok.listed now c.hold_where.new.lines c.more-test.true held);
      room = subst (λ (n : ℕ). IsLineRoom c.args.form.now n (vec_capacity c.hold_where.new.line)) (c.next_record.auto.area ∙ c.more.auto.area) c.in-Ok.ensures.room;
    }

pub hold_where-requires : goal.hold_where-requires
hold_where-requires g c =
    record { room = subst (λ (n : ℕ). IsLineRoom c.args.form.now n (vec_capacity c.more.line)) (sym (c.next_record.auto.area ∙ c.more.auto.area)) c.more.invariant.room }

pub returns-in-Ok-None-clause-brings : goal.returns-in-Ok-None-clause-brings
returns-in-Ok-None-clause-brings g c =
    let shown = g.L.Library.shown in
    let a = c.args.lib.now in
    let b = c.more.lib in
    let d = c.next_record.new.lib in
    let schema = schema_at (shown.world a) 0 in
    let file = file_at (shown.world a) 0 in
    let asked = c.args.asked in
    record {
      reads = reads_both shown a b d c.requires.can.file.attached c.more.invariant.reads c.next_record.ensures.reads;
      rows = λ honest truly.
          let come = c.more.invariant.rows (c.next_record.ensures.reads.keeps.honest honest) truly in
          let goes = goes_on shown a b d asked.key asked.to c.more.position c.next_record.new.area c.in-Ok-None.field-0 c.requires.can.file.attached c.more.invariant.reads c.next_record.ensures.reads honest truly c.in-Ok-None.ensures.goes in
          none_left c.args.form.now (rows_asked schema file asked) schema file asked.key asked.to asked.conditions.items c.more.left c.more.position (g.W.Write.contents c.args.out.now) (g.W.Write.contents c.more.out) c.more.lines come
          (subst (RowsGoOn schema file asked.key asked.to c.more.position c.next_record.new.area) c.in-Ok-None.field-0-is goes);
      cause = tt;
    }

pub returns-in-Err-clause-brings : goal.returns-in-Err-clause-brings
returns-in-Err-clause-brings g c =
    let shown = g.L.Library.shown in
    let a = c.args.lib.now in
    let b = c.more.lib in
    let d = c.next_record.new.lib in
    let schema = schema_at (shown.world a) 0 in
    let file = file_at (shown.world a) 0 in
    let asked = c.args.asked in
    record {
      reads = reads_both shown a b d c.requires.can.file.attached c.more.invariant.reads c.next_record.ensures.reads;
      rows = λ honest truly.
          some_rest c.args.form.now (rows_asked schema file asked) schema file asked.key asked.to asked.conditions.items c.more.left c.more.position (g.W.Write.contents c.args.out.now) (g.W.Write.contents c.more.out) c.more.lines
          (c.more.invariant.rows (c.next_record.ensures.reads.keeps.honest honest) truly);
      cause = fault_later shown a b d c.in-Err.fault c.requires.can.file.attached c.more.invariant.reads.world.only c.more.invariant.reads.keeps c.next_record.ensures.reads.keeps c.in-Err.ensures.fault;
    }

pub returns-in-Err-hold_where-clause-brings : goal.returns-in-Err-hold_where-clause-brings
returns-in-Err-hold_where-clause-brings g c =
    let shown = g.L.Library.shown in
    let a = c.args.lib.now in
    let b = c.more.lib in
    let d = c.next_record.new.lib in
    let schema = schema_at (shown.world a) 0 in
    let file = file_at (shown.world a) 0 in
    let asked = c.args.asked in
    record {
      reads = reads_both shown a b d c.requires.can.file.attached c.more.invariant.reads c.next_record.ensures.reads;
      rows = λ honest truly.
          let come = c.more.invariant.rows (c.next_record.ensures.reads.keeps.honest honest) truly in
          let goes = goes_on shown a b d asked.key asked.to c.more.position c.next_record.new.area c.in-Ok-Some.field-0 c.requires.can.file.attached c.more.invariant.reads c.next_record.ensures.reads honest truly c.in-Ok-Some.ensures.goes in
          let next = subst (RowsGoOn schema file asked.key asked.to c.more.position c.next_record.new.area) c.in-Ok-Some.field-0-is goes in
          let held = subst (λ (l : List Condition). HoldsWhere c.args.form.now l c.in-Ok-Some.found.length c.next_record.new.area (g.W.Write.contents c.more.out) (g.W.Write.contents c.hold_where.new.out) c.more.lines c.hold_where.new.lines (Err c.in-Err-hold_where.field-0)) c.as_slice-conditions.ensures.value c.in-Err-hold_where.ensures.held in
          step_refused c.args.form.now (rows_asked schema file asked) schema file asked.key asked.to asked.conditions.items c.more.left c.more.position (g.W.Write.contents c.args.out.now) (g.W.Write.contents c.more.out) c.more.lines come
          c.next_record.new.area c.in-Ok-Some.found next (g.W.Write.contents c.hold_where.new.out) c.hold_where.new.lines c.in-Err-hold_where.field-0 c.more-test.true held;
      cause = tt;
    }

pub returns-clause-brings : goal.returns-clause-brings
returns-clause-brings g c = record {
  reads = c.more.invariant.reads;
  rows = λ honest truly.
      all_done c.args.form.now _ _ _ _ _ _ c.more.left c.more.position (g.W.Write.contents c.args.out.now) (g.W.Write.contents c.more.out) c.more.lines (c.more.invariant.rows honest truly) c.more-test.false;
  cause = tt;
}
