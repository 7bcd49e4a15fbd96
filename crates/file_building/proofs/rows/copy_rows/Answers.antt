use Rattle.std.proofs.Common.{◌≡◌, ◌+◌, ◌-◌, suc, false, ap, sym, subst, ◌∙◌, arith}
use Rattle.pages.specs.PageMap.{PageMap}
use Rattle.record_layout.specs.declared.schema.KeyPart.{KeyPart}
use Rattle.record_heap.specs.Standing.{slot_shape}
use Rattle.key_index.specs.declared.prime_index.PrimeIndex.{PrimeIndex}
use Rattle.key_index.specs.Standing.{CountsPrime}
use Rattle.open_file.specs.Fields.{file_schema, has_broken}
use Rattle.file_building.specs.Walk.{BeginsWalk}
use Rattle.file_building.specs.CopiedRows.{HasCopiedRows}
use Rattle.file_building.proofs.StepLemmas.{StepLaws}
use Rattle.file_building.proofs.CopiedStepLemmas.{copy_handed, copy_fails, copy_no_answer, copy_if_err, copy_if_ok, copy_ok, copy_cause, nothing_true}
use Rattle.file_building.proofs.CopiedLemmas.{rows_begun}
use Rattle.file_building.proofs.rows.copy_rows.Goals as goal

pub loop-init : goal.loop-init
loop-init g c =
    let source = c.args.source.now in
    let tree = subst (λ (i : PrimeIndex). BeginsWalk i.tree c.new-walk.result) c.prime.ensures c.new-walk.ensures in
    let counts = subst (λ (i : PrimeIndex). CountsPrime i c.count-count.result) c.prime.ensures c.count-count.ensures in
    let pages = (g.Q.Pages.shown.state c.args.to.now).live in
    record {
      reads = g.met.P.Pages.reads_nothing c.args.from.now;
      writes = g.met.Q.Pages.writes_nothing c.args.to.now;
      fits = record {
        tree_is = tree.tree_is;
        slots_are = c.new-rows.ensures.slots_are ∙ c.shape.ensures ∙ ap slot_shape c.heap.ensures;
        width_is = c.new-rows.ensures.width_is ∙ ap (λ (part : KeyPart). part.length) c.part-width.ensures.part ∙ sym c.requires.lent.shaped.prime_width;
      };
      copied = λ hf ht sound file left stands free many. (
        rows_begun source c.new-walk.result c.new-rows.result (g.P.Pages.shown.state c.args.from.now).live pages file left c.count-count.result stands tree counts
            (c.new-rows.ensures.begun (file_schema source) pages free) (omega (arith, many)),
        sound,
      );
    }

pub copy_row-requires : goal.copy_row-requires
copy_row-requires g c = record {
  ready = g.met.P.Pages.writes_ready c.args.from.now c.loop.from (g.met.P.Pages.reads_writes c.args.from.now c.loop.from c.loop.invariant.reads) c.requires.lent.ready;
  target = record {
    ready = g.met.Q.Pages.writes_ready c.args.to.now c.loop.to c.loop.invariant.writes c.requires.target.ready;
    «open» = g.met.Q.Pages.writes_changing c.args.to.now c.loop.to c.loop.invariant.writes c.requires.target.open;
  };
  fits = c.loop.invariant.fits;
}

pub returns-in_err-copy_row-clause-copies : goal.returns-in_err-copy_row-clause-copies
returns-in_err-copy_row-clause-copies g c =
    let inv = c.loop.invariant in
    let keeps = c.in_err-copy_row.ensures.keeps in
    let left = c.count-count.result - c.loop.counter - 1 in
    let one : suc left + c.loop.counter ≡ c.count-count.result = omega (arith, c.loop-test.true) in
    record {
      copied = λ hf ht sound file stands free.
          let hb = g.met.P.Pages.writes_honestly c.loop.from c.copy_row.new.from (g.met.P.Pages.reads_writes c.loop.from c.copy_row.new.from keeps.reads) hf in
          let tb = g.met.Q.Pages.writes_honestly c.loop.to c.copy_row.new.to keeps.writes ht in
          let had = inv.copied hb tb sound file (suc left) stands free one in
          let same = g.met.P.Pages.reads_live c.args.from.now c.loop.from inv.reads hb in
          let here = subst (λ (m : PageMap). HasCopiedRows c.args.source.now c.loop.walk c.loop.rows m (g.Q.Pages.shown.state c.loop.to).live file.rows (suc left)) (sym same) had.0 in
          copy_fails _ _ _ c.from_residual.ensures.1 (c.in_err-copy_row.ensures.copies.copied hf ht had.1 file.rows left here).no_damage;
      width = copy_no_answer _ _ _ c.from_residual.ensures.1;
    }

pub returns-in_err-copy_row-clause-keeps : goal.returns-in_err-copy_row-clause-keeps
returns-in_err-copy_row-clause-keeps g c =
    let laws : StepLaws g.Q.Pages.shown = record { nothing = g.met.Q.Pages.writes_nothing; on = g.met.Q.Pages.writes_on; failed_before = g.met.Q.Pages.failed_before; failed_after = g.met.Q.Pages.failed_after } in
    let inv = c.loop.invariant in
    let keeps = c.in_err-copy_row.ensures.keeps in
    let broken = has_broken c.args.source.now in
    record {
      cause = copy_handed _ _ _ c.from_residual.ensures.1
          (copy_cause g.P.Pages.shown g.Q.Pages.shown (λ a b d r f. g.met.P.Pages.failed_after a b d (g.met.P.Pages.reads_writes a b r) f) laws broken broken (λ is. is)
          c.args.from.now c.loop.from c.copy_row.new.from c.args.to.now c.loop.to c.copy_row.new.to inv.reads inv.writes _ keeps.cause);
      reads = g.met.P.Pages.reads_on c.args.from.now c.loop.from c.copy_row.new.from inv.reads keeps.reads;
      writes = g.met.Q.Pages.writes_on c.args.to.now c.loop.to c.copy_row.new.to inv.writes keeps.writes;
    }

pub loop-preserved : goal.loop-preserved
loop-preserved g c =
    let inv = c.loop.invariant in
    let keeps = c.in_ok-copy_row.ensures.keeps in
    record {
      reads = g.met.P.Pages.reads_on c.args.from.now c.loop.from c.copy_row.new.from inv.reads keeps.reads;
      writes = g.met.Q.Pages.writes_on c.args.to.now c.loop.to c.copy_row.new.to inv.writes keeps.writes;
      fits = c.in_ok-copy_row.ensures.copies.fits;
      copied = λ hf ht sound file left stands free many.
          let hb = g.met.P.Pages.writes_honestly c.loop.from c.copy_row.new.from (g.met.P.Pages.reads_writes c.loop.from c.copy_row.new.from keeps.reads) hf in
          let tb = g.met.Q.Pages.writes_honestly c.loop.to c.copy_row.new.to keeps.writes ht in
          let one : suc left + c.loop.counter ≡ c.count-count.result = omega (arith, many) in
          let had = inv.copied hb tb sound file (suc left) stands free one in
          let same = g.met.P.Pages.reads_live c.args.from.now c.loop.from inv.reads hb in
          let here = subst (λ (m : PageMap). HasCopiedRows c.args.source.now c.loop.walk c.loop.rows m (g.Q.Pages.shown.state c.loop.to).live file.rows (suc left)) (sym same) had.0 in
          let more = (c.in_ok-copy_row.ensures.copies.copied hf ht had.1 file.rows left here).answer in
          (subst (λ (m : PageMap). HasCopiedRows c.args.source.now c.copy_row.new.walk c.copy_row.new.rows m (g.Q.Pages.shown.state c.copy_row.new.to).live file.rows left) same more.0, more.1);
    }

pub end_rows-requires-clause-ready : goal.end_rows-requires-clause-ready
end_rows-requires-clause-ready g c = g.met.P.Pages.writes_ready c.args.from.now c.loop.from (g.met.P.Pages.reads_writes c.args.from.now c.loop.from c.loop.invariant.reads) c.requires.lent.ready

pub end_rows-requires-clause-target : goal.end_rows-requires-clause-target
end_rows-requires-clause-target g c = record {
  ready = g.met.Q.Pages.writes_ready c.args.to.now c.loop.to c.loop.invariant.writes c.requires.target.ready;
  «open» = g.met.Q.Pages.writes_changing c.args.to.now c.loop.to c.loop.invariant.writes c.requires.target.open;
}

pub returns-clause-copies : goal.returns-clause-copies
returns-clause-copies g c =
    let inv = c.loop.invariant in
    let keeps = c.end_rows.ensures.keeps in
    let none : 0 + c.loop.counter ≡ c.count-count.result = omega (arith, c.loop-test.false, c.loop.auto.counter-end) in
    record {
      copied = λ hf ht sound file stands free.
          let hb = g.met.P.Pages.writes_honestly c.loop.from c.end_rows.new.from (g.met.P.Pages.reads_writes c.loop.from c.end_rows.new.from keeps.reads) hf in
          let tb = g.met.Q.Pages.writes_honestly c.loop.to c.end_rows.new.to keeps.writes ht in
          let had = inv.copied hb tb sound file 0 stands free none in
          let same = g.met.P.Pages.reads_live c.args.from.now c.loop.from inv.reads hb in
          let here = subst (λ (m : PageMap). HasCopiedRows c.args.source.now c.loop.walk c.loop.rows m (g.Q.Pages.shown.state c.loop.to).live file.rows 0) (sym same) had.0 in
          copy_ok c.end_rows.result _ _ (λ parts is. (is.0, is.1 ∙ inv.fits.slots_are, is.2)) (c.end_rows.ensures.ends.ended hf ht had.1 c.args.source.now file stands.sound here);
      width = copy_if_ok c.end_rows.result _ _ (λ parts is. is ∙ inv.fits.width_is) c.end_rows.ensures.ends.width;
    }

pub returns-clause-keeps : goal.returns-clause-keeps
returns-clause-keeps g c =
    let laws : StepLaws g.Q.Pages.shown = record { nothing = g.met.Q.Pages.writes_nothing; on = g.met.Q.Pages.writes_on; failed_before = g.met.Q.Pages.failed_before; failed_after = g.met.Q.Pages.failed_after } in
    let inv = c.loop.invariant in
    let keeps = c.end_rows.ensures.keeps in
    let broken = has_broken c.args.source.now in
    record {
      cause = copy_if_err c.end_rows.result _ _
          (copy_cause g.P.Pages.shown g.Q.Pages.shown (λ a b d r f. g.met.P.Pages.failed_after a b d (g.met.P.Pages.reads_writes a b r) f) laws false broken (nothing_true broken)
          c.args.from.now c.loop.from c.end_rows.new.from c.args.to.now c.loop.to c.end_rows.new.to inv.reads inv.writes) keeps.cause;
      reads = g.met.P.Pages.reads_on c.args.from.now c.loop.from c.end_rows.new.from inv.reads keeps.reads;
      writes = g.met.Q.Pages.writes_on c.args.to.now c.loop.to c.end_rows.new.to inv.writes keeps.writes;
    }
