use Rattle.std.proofs.Common.{◌≡◌, ◌+◌, ◌-◌, ◌<◌, ℕ, length, false, ap, sym, subst, ◌∙◌, arith}
use Rattle.std.specs.Prelude.{slice_index_or}
use Rattle.pages.specs.PageMap.{PageMap}
use Rattle.key_index.specs.declared.prime_index.PrimeIndex.{PrimeIndex}
use Rattle.key_index.specs.Standing.{AltStands, CountsPrime}
use Rattle.open_file.specs.InOrder.{alt_entries}
use Rattle.open_file.specs.Parts.{alternate_pages}
use Rattle.open_file.specs.Fields.{file_schema, alternates_of}
use Rattle.file_building.proofs.StepLemmas.{StepLaws}
use Rattle.file_building.proofs.CopiedStepLemmas.{copy_handed, copy_fails, copy_no_answer, copy_cause}
use Rattle.file_building.proofs.CopiedAlternateLemmas.{counted_alike, index_more, alike_more}
use Rattle.file_building.proofs.copied_alternates.copy_alternates.Goals as goal

pub copy_alternate-requires-clause-ready : goal.copy_alternate-requires-clause-ready
copy_alternate-requires-clause-ready g c =
    g.met.P.Pages.writes_ready c.args.from.now c.loop-j.from (g.met.P.Pages.reads_writes c.args.from.now c.loop-j.from c.loop-j.invariant.reads) c.requires.lent.ready

pub copy_alternate-requires-clause-target : goal.copy_alternate-requires-clause-target
copy_alternate-requires-clause-target g c = record {
  ready = g.met.Q.Pages.writes_ready c.args.to.now c.loop-j.to c.loop-j.invariant.writes c.requires.target.ready;
  «open» = g.met.Q.Pages.writes_changing c.args.to.now c.loop-j.to c.loop-j.invariant.writes c.requires.target.open;
}

pub returns-in_err-copy-clause-copies : goal.returns-in_err-copy-clause-copies
returns-in_err-copy-clause-copies g c =
    let source = c.args.source.now in
    let inv = c.loop-j.invariant in
    let keeps = c.in_err-copy.ensures.keeps in
    let j = c.loop-j.j in
    let index = c.alternate-index.result in
    let back : j + 1 - 1 ≡ j = omega arith in
    let index_at : index ≡ slice_index_or (alternates_of source) j index = c.alternate-index.ensures ∙ ap (λ (n : ℕ). slice_index_or (alternates_of source) n index) back in
    let inside : j < length (alternates_of source) = omega (arith, c.loop-j-test.true, c.alternate_count-count.ensures.value) in
    let counts = subst (λ (i : PrimeIndex). CountsPrime i c.count-records.result) c.prime.ensures c.count-records.ensures in
    record {
      copied = λ hf ht sound file stands heap prime rows.
          let hb = g.met.P.Pages.writes_honestly c.loop-j.from c.copy_alternate.new.from (g.met.P.Pages.reads_writes c.loop-j.from c.copy_alternate.new.from keeps.reads) hf in
          let tb = g.met.Q.Pages.writes_honestly c.loop-j.to c.copy_alternate.new.to keeps.writes ht in
          let had = inv.copied hb tb sound file stands heap prime rows in
          let same = g.met.P.Pages.reads_live c.args.from.now c.loop-j.from inv.reads hb in
          let entries = alt_entries (file_schema source) (j + 1) file.rows in
          let own = alternate_pages stands.parts.owns j in
          let there = subst (λ (m : PageMap). AltStands index m entries own) (sym same) (stands.parts.alternates_stand j index inside index_at) in
          let counted = counted_alike source (g.P.Pages.shown.state c.args.from.now).live file c.count-records.result (j + 1) stands counts in
          copy_fails _ _ _ c.from_residual.ensures.1 (c.in_err-copy.ensures.copies.copied hf ht had.1 entries own there counted).no_damage;
      alike = copy_no_answer _ _ _ c.from_residual.ensures.1;
      many = copy_no_answer _ _ _ c.from_residual.ensures.1;
    }

pub returns-in_err-copy-clause-keeps : goal.returns-in_err-copy-clause-keeps
returns-in_err-copy-clause-keeps g c =
    let laws : StepLaws g.Q.Pages.shown = record { nothing = g.met.Q.Pages.writes_nothing; on = g.met.Q.Pages.writes_on; failed_before = g.met.Q.Pages.failed_before; failed_after = g.met.Q.Pages.failed_after } in
    let inv = c.loop-j.invariant in
    let keeps = c.in_err-copy.ensures.keeps in
    record {
      cause = copy_handed _ _ _ c.from_residual.ensures.1
          (copy_cause g.P.Pages.shown g.Q.Pages.shown (λ a b d r f. g.met.P.Pages.failed_after a b d (g.met.P.Pages.reads_writes a b r) f) laws false false (λ is. is)
          c.args.from.now c.loop-j.from c.copy_alternate.new.from c.args.to.now c.loop-j.to c.copy_alternate.new.to inv.reads inv.writes _ keeps.cause);
      reads = g.met.P.Pages.reads_on c.args.from.now c.loop-j.from c.copy_alternate.new.from inv.reads keeps.reads;
      writes = g.met.Q.Pages.writes_on c.args.to.now c.loop-j.to c.copy_alternate.new.to inv.writes keeps.writes;
    }

pub loop-j-preserved : goal.loop-j-preserved
loop-j-preserved g c =
    let source = c.args.source.now in
    let inv = c.loop-j.invariant in
    let keeps = c.in_ok-copy.ensures.keeps in
    let copy = c.in_ok-copy.copy in
    let j = c.loop-j.j in
    let index = c.alternate-index.result in
    let back : j + 1 - 1 ≡ j = omega arith in
    let index_at : index ≡ slice_index_or (alternates_of source) j index = c.alternate-index.ensures ∙ ap (λ (n : ℕ). slice_index_or (alternates_of source) n index) back in
    let inside : j < length (alternates_of source) = omega (arith, c.loop-j-test.true, c.alternate_count-count.ensures.value) in
    let counts = subst (λ (i : PrimeIndex). CountsPrime i c.count-records.result) c.prime.ensures c.count-records.ensures in
    record {
      reads = g.met.P.Pages.reads_on c.args.from.now c.loop-j.from c.copy_alternate.new.from inv.reads keeps.reads;
      writes = g.met.Q.Pages.writes_on c.args.to.now c.loop-j.to c.copy_alternate.new.to inv.writes keeps.writes;
      many = c.push.ensures.len ∙ ap (λ (n : ℕ). n + 1) inv.many;
      alike = rw c.push.ensures.items (alike_more (alternates_of source) c.loop-j.alternates.items index copy j inv.many inside index_at c.in_ok-copy.ensures.copies.alike inv.alike);
      copied = λ hf ht sound file stands heap prime rows.
          let hb = g.met.P.Pages.writes_honestly c.loop-j.from c.copy_alternate.new.from (g.met.P.Pages.reads_writes c.loop-j.from c.copy_alternate.new.from keeps.reads) hf in
          let tb = g.met.Q.Pages.writes_honestly c.loop-j.to c.copy_alternate.new.to keeps.writes ht in
          let had = inv.copied hb tb sound file stands heap prime rows in
          let same = g.met.P.Pages.reads_live c.args.from.now c.loop-j.from inv.reads hb in
          let entries = alt_entries (file_schema source) (j + 1) file.rows in
          let own = alternate_pages stands.parts.owns j in
          let there = subst (λ (m : PageMap). AltStands index m entries own) (sym same) (stands.parts.alternates_stand j index inside index_at) in
          let counted = counted_alike source (g.P.Pages.shown.state c.args.from.now).live file c.count-records.result (j + 1) stands counts in
          let made = (c.in_ok-copy.ensures.copies.copied hf ht had.1 entries own there counted).answer in
          (rw c.push.ensures.items (index_more (file_schema source) heap prime c.loop-j.alternates.items (g.Q.Pages.shown.state c.loop-j.to).live (g.Q.Pages.shown.state c.copy_alternate.new.to).live file.rows copy j inv.many had.0 made.0), made.1);
    }

pub returns-clause-copies : goal.returns-clause-copies
returns-clause-copies g c =
    let inv = c.loop-j.invariant in
    record {
      copied = λ hf ht sound file stands heap prime rows. record { answer = inv.copied hf ht sound file stands heap prime rows; no_damage = tt };
      alike = inv.alike;
      many = inv.many ∙ omega (arith, c.loop-j-test.false, c.loop-j.auto.j-end, c.alternate_count-count.ensures.value);
    }

pub returns-clause-keeps : goal.returns-clause-keeps
returns-clause-keeps g c = record { cause = tt; reads = c.loop-j.invariant.reads; writes = c.loop-j.invariant.writes }
