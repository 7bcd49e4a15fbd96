use Rattle.std.proofs.Common.{◌≡◌, ◌+◌, ◌-◌, ℕ, suc, false, ap, sym, subst, ◌∙◌, arith}
use Rattle.pages.specs.PageMap.{PageMap}
use Rattle.tree_node.specs.declared.shape.NodeShape.{NodeShape}
use Rattle.file_building.specs.CopiedEntries.{HasCopiedEntries}
use Rattle.tree_building.specs.IndexBuilding.{AltEntriesRise}
use Rattle.tree_building.proofs.RankLemmas.{alts_rise}
use Rattle.file_building.proofs.StepLemmas.{StepLaws}
use Rattle.file_building.proofs.CopiedStepLemmas.{copy_handed, copy_fails, copy_no_answer, copy_if_err, copy_if_ok, copy_cause}
use Rattle.file_building.proofs.CopiedEntryLemmas.{entries_begun}
use Rattle.file_building.proofs.copied_entries.copy_alternate.Goals as goal

pub loop-init : goal.loop-init
loop-init g c =
    let index = c.args.index.now in
    let pages = (g.Q.Pages.shown.state c.args.to.now).live in
    record {
      reads = g.met.P.Pages.reads_nothing c.args.from.now;
      writes = g.met.Q.Pages.writes_nothing c.args.to.now;
      fits = record {
        tree_is = c.new-walk.ensures.tree_is;
        builder_is = record {
          key_is = c.new-builder.ensures.of.key_is ∙ ap (λ (s : NodeShape). s.key) c.shape-key.ensures;
          width_is = c.new-builder.ensures.of.width_is;
          prime_is = c.new-builder.ensures.of.prime_is;
        };
      };
      copied = λ hf ht sound entries own left stands many all. (
        entries_begun index c.new-walk.result c.new-builder.result (g.P.Pages.shown.state c.args.from.now).live pages entries own left stands c.new-walk.ensures
            (c.new-builder.ensures.begun pages) (omega (arith, many, all)),
        sound,
      );
    }

pub copy_entry-requires : goal.copy_entry-requires
copy_entry-requires g c = record {
  ready = g.met.P.Pages.writes_ready c.args.from.now c.loop.from (g.met.P.Pages.reads_writes c.args.from.now c.loop.from c.loop.invariant.reads) c.requires.ready;
  target = record {
    ready = g.met.Q.Pages.writes_ready c.args.to.now c.loop.to c.loop.invariant.writes c.requires.target.ready;
    «open» = g.met.Q.Pages.writes_changing c.args.to.now c.loop.to c.loop.invariant.writes c.requires.target.open;
  };
  fits = c.loop.invariant.fits;
}

pub returns-in_err-copy_entry-clause-copies : goal.returns-in_err-copy_entry-clause-copies
returns-in_err-copy_entry-clause-copies g c =
    let inv = c.loop.invariant in
    let keeps = c.in_err-copy_entry.ensures.keeps in
    let start = (g.Q.Pages.shown.state c.args.to.now).live in
    let left = c.args.records - c.loop.counter - 1 in
    let one : suc left + c.loop.counter ≡ c.args.records = omega (arith, c.loop-test.true) in
    record {
      copied = λ hf ht sound entries own stands many.
          let hb = g.met.P.Pages.writes_honestly c.loop.from c.copy_entry.new.from (g.met.P.Pages.reads_writes c.loop.from c.copy_entry.new.from keeps.reads) hf in
          let tb = g.met.Q.Pages.writes_honestly c.loop.to c.copy_entry.new.to keeps.writes ht in
          let had = inv.copied hb tb sound entries own (suc left) stands many one in
          let same = g.met.P.Pages.reads_live c.args.from.now c.loop.from inv.reads hb in
          let here = subst (λ (m : PageMap). HasCopiedEntries c.args.index.now c.loop.walk c.loop.builder m start (g.Q.Pages.shown.state c.loop.to).live entries (suc left)) (sym same) had.0 in
          copy_fails _ _ _ c.from_residual.ensures.1 (c.in_err-copy_entry.ensures.copies.copied hf ht had.1 start entries left here).no_damage;
      alike = copy_no_answer _ _ _ c.from_residual.ensures.1;
    }

pub returns-in_err-copy_entry-clause-keeps : goal.returns-in_err-copy_entry-clause-keeps
returns-in_err-copy_entry-clause-keeps g c =
    let laws : StepLaws g.Q.Pages.shown = record { nothing = g.met.Q.Pages.writes_nothing; on = g.met.Q.Pages.writes_on; failed_before = g.met.Q.Pages.failed_before; failed_after = g.met.Q.Pages.failed_after } in
    let inv = c.loop.invariant in
    let keeps = c.in_err-copy_entry.ensures.keeps in
    record {
      cause = copy_handed _ _ _ c.from_residual.ensures.1
          (copy_cause g.P.Pages.shown g.Q.Pages.shown (λ a b d r f. g.met.P.Pages.failed_after a b d (g.met.P.Pages.reads_writes a b r) f) laws false false (λ is. is)
          c.args.from.now c.loop.from c.copy_entry.new.from c.args.to.now c.loop.to c.copy_entry.new.to inv.reads inv.writes _ keeps.cause);
      reads = g.met.P.Pages.reads_on c.args.from.now c.loop.from c.copy_entry.new.from inv.reads keeps.reads;
      writes = g.met.Q.Pages.writes_on c.args.to.now c.loop.to c.copy_entry.new.to inv.writes keeps.writes;
    }

pub loop-preserved : goal.loop-preserved
loop-preserved g c =
    let inv = c.loop.invariant in
    let keeps = c.in_ok-copy_entry.ensures.keeps in
    let start = (g.Q.Pages.shown.state c.args.to.now).live in
    record {
      reads = g.met.P.Pages.reads_on c.args.from.now c.loop.from c.copy_entry.new.from inv.reads keeps.reads;
      writes = g.met.Q.Pages.writes_on c.args.to.now c.loop.to c.copy_entry.new.to inv.writes keeps.writes;
      fits = c.in_ok-copy_entry.ensures.copies.fits;
      copied = λ hf ht sound entries own left stands many all.
          let hb = g.met.P.Pages.writes_honestly c.loop.from c.copy_entry.new.from (g.met.P.Pages.reads_writes c.loop.from c.copy_entry.new.from keeps.reads) hf in
          let tb = g.met.Q.Pages.writes_honestly c.loop.to c.copy_entry.new.to keeps.writes ht in
          let one : suc left + c.loop.counter ≡ c.args.records = omega (arith, all) in
          let had = inv.copied hb tb sound entries own (suc left) stands many one in
          let same = g.met.P.Pages.reads_live c.args.from.now c.loop.from inv.reads hb in
          let here = subst (λ (m : PageMap). HasCopiedEntries c.args.index.now c.loop.walk c.loop.builder m start (g.Q.Pages.shown.state c.loop.to).live entries (suc left)) (sym same) had.0 in
          let more = (c.in_ok-copy_entry.ensures.copies.copied hf ht had.1 start entries left here).answer in
          (subst (λ (m : PageMap). HasCopiedEntries c.args.index.now c.copy_entry.new.walk c.copy_entry.new.builder m start (g.Q.Pages.shown.state c.copy_entry.new.to).live entries left) same more.0, more.1);
    }

pub end_entries-requires-clause-ready : goal.end_entries-requires-clause-ready
end_entries-requires-clause-ready g c = g.met.P.Pages.writes_ready c.args.from.now c.loop.from (g.met.P.Pages.reads_writes c.args.from.now c.loop.from c.loop.invariant.reads) c.requires.ready

pub end_entries-requires-clause-target : goal.end_entries-requires-clause-target
end_entries-requires-clause-target g c = record {
  ready = g.met.Q.Pages.writes_ready c.args.to.now c.loop.to c.loop.invariant.writes c.requires.target.ready;
  «open» = g.met.Q.Pages.writes_changing c.args.to.now c.loop.to c.loop.invariant.writes c.requires.target.open;
}

pub returns-clause-copies : goal.returns-clause-copies
returns-clause-copies g c =
    let inv = c.loop.invariant in
    let keeps = c.end_entries.ensures.keeps in
    let start = (g.Q.Pages.shown.state c.args.to.now).live in
    let none : 0 + c.loop.counter ≡ c.args.records = omega (arith, c.loop-test.false, c.loop.auto.counter-end) in
    let had_is = inv.fits.builder_is in
    record {
      copied = λ hf ht sound entries own stands many.
          let hb = g.met.P.Pages.writes_honestly c.loop.from c.end_entries.new.from (g.met.P.Pages.reads_writes c.loop.from c.end_entries.new.from keeps.reads) hf in
          let tb = g.met.Q.Pages.writes_honestly c.loop.to c.end_entries.new.to keeps.writes ht in
          let had = inv.copied hb tb sound entries own 0 stands many none in
          let same = g.met.P.Pages.reads_live c.args.from.now c.loop.from inv.reads hb in
          let here = subst (λ (m : PageMap). HasCopiedEntries c.args.index.now c.loop.walk c.loop.builder m start (g.Q.Pages.shown.state c.loop.to).live entries 0) (sym same) had.0 in
          let rise = subst (λ (w : ℕ). AltEntriesRise w entries) (sym had_is.width_is) (alts_rise c.args.index.now (g.P.Pages.shown.state c.args.from.now).live entries own stands) in
          c.end_entries.ensures.ends.ended hf ht had.1 c.args.index.now start entries here rise;
      alike = copy_if_ok c.end_entries.result _ _
          (λ copy is. record { key_is = is.key_is ∙ had_is.key_is; width_is = is.width_is ∙ had_is.width_is; prime_is = is.prime_is ∙ had_is.prime_is }) c.end_entries.ensures.ends.built;
    }

pub returns-clause-keeps : goal.returns-clause-keeps
returns-clause-keeps g c =
    let laws : StepLaws g.Q.Pages.shown = record { nothing = g.met.Q.Pages.writes_nothing; on = g.met.Q.Pages.writes_on; failed_before = g.met.Q.Pages.failed_before; failed_after = g.met.Q.Pages.failed_after } in
    let inv = c.loop.invariant in
    let keeps = c.end_entries.ensures.keeps in
    record {
      cause = copy_if_err c.end_entries.result _ _
          (copy_cause g.P.Pages.shown g.Q.Pages.shown (λ a b d r f. g.met.P.Pages.failed_after a b d (g.met.P.Pages.reads_writes a b r) f) laws false false (λ is. is)
          c.args.from.now c.loop.from c.end_entries.new.from c.args.to.now c.loop.to c.end_entries.new.to inv.reads inv.writes) keeps.cause;
      reads = g.met.P.Pages.reads_on c.args.from.now c.loop.from c.end_entries.new.from inv.reads keeps.reads;
      writes = g.met.Q.Pages.writes_on c.args.to.now c.loop.to c.end_entries.new.to inv.writes keeps.writes;
    }
