use Rattle.std.proofs.Common.{◌≡◌, ◌+◌, ◌-◌, suc, false, ap, sym, subst, ◌∙◌, arith}
use Rattle.pages.specs.PageMap.{PageMap}
use Rattle.record_layout.specs.declared.schema.KeyPart.{KeyPart}
use Rattle.key_index.specs.declared.prime_index.PrimeIndex.{PrimeIndex}
use Rattle.key_index.specs.Standing.{CountsPrime}
use Rattle.open_file.specs.Fields.{prime_index_of}
use Rattle.tree_building.proofs.RankLemmas.{primes_rise}
use Rattle.file_building.specs.Leading.{HasLed, IsLeading, LeadsNext}
use Rattle.file_building.specs.Walk.{BeginsWalk}
use Rattle.file_building.proofs.StepLemmas.{StepLaws}
use Rattle.file_building.proofs.CopiedStepLemmas.{copy_handed, copy_fails, copy_no_answer, copy_if_err, copy_if_ok, copy_cause}
use Rattle.file_building.proofs.LeadLemmas.{lead_begun}
use Rattle.file_building.proofs.leading.lead_to_records.Goals as goal

pub loop-init : goal.loop-init
loop-init g c =
    let index = prime_index_of c.args.source.now in
    let places = c.args.places.now in
    let tree = subst (λ (i : PrimeIndex). BeginsWalk i.tree c.new-walk.result) c.prime.ensures c.new-walk.ensures in
    let counts = subst (λ (i : PrimeIndex). CountsPrime i c.count-count.result) c.prime.ensures c.count-count.ensures in
    let pages = (g.Q.Pages.shown.state c.args.to.now).live in
    record {
      reads = g.met.P.Pages.reads_nothing c.args.from.now;
      writes = g.met.Q.Pages.writes_nothing c.args.to.now;
      fits = record {
        tree_is = tree.tree_is;
        width_is = c.new-builder.ensures.width ∙ ap (λ (part : KeyPart). part.length) c.part-width.ensures.part ∙ sym c.requires.lent.shaped.prime_width;
      };
      led = λ hf ht sound entries own left stands known many. (
        lead_begun index places c.new-walk.result c.new-builder.result (g.P.Pages.shown.state c.args.from.now).live pages entries own left c.count-count.result stands counts known tree
            (c.new-builder.ensures.begun pages) (omega (arith, many)),
        sound,
      );
    }

pub lead_next-requires : goal.lead_next-requires
lead_next-requires g c = record {
  ready = g.met.P.Pages.writes_ready c.args.from.now c.loop.from (g.met.P.Pages.reads_writes c.args.from.now c.loop.from c.loop.invariant.reads) c.requires.lent.ready;
  target = record {
    ready = g.met.Q.Pages.writes_ready c.args.to.now c.loop.to c.loop.invariant.writes c.requires.target.ready;
    «open» = g.met.Q.Pages.writes_changing c.args.to.now c.loop.to c.loop.invariant.writes c.requires.target.open;
  };
  fits = subst (λ (i : PrimeIndex). IsLeading i c.loop.walk c.loop.builder) (sym c.prime.ensures) c.loop.invariant.fits;
}

pub returns-in_err-lead_next-clause-leads : goal.returns-in_err-lead_next-clause-leads
returns-in_err-lead_next-clause-leads g c =
    let inv = c.loop.invariant in
    let keeps = c.in_err-lead_next.ensures.keeps in
    let index = prime_index_of c.args.source.now in
    let places = c.args.places.now in
    let start = (g.Q.Pages.shown.state c.args.to.now).live in
    let left = c.count-count.result - c.loop.counter - 1 in
    let one : suc left + c.loop.counter ≡ c.count-count.result = omega (arith, c.loop-test.true) in
    record {
      led = λ hf ht sound entries own stands known.
          let hb = g.met.P.Pages.writes_honestly c.loop.from c.lead_next.new.from (g.met.P.Pages.reads_writes c.loop.from c.lead_next.new.from keeps.reads) hf in
          let tb = g.met.Q.Pages.writes_honestly c.loop.to c.lead_next.new.to keeps.writes ht in
          let had = inv.led hb tb sound entries own (suc left) stands known one in
          let same = g.met.P.Pages.reads_live c.args.from.now c.loop.from inv.reads hb in
          let here = subst (λ (m : PageMap). HasLed index places c.loop.walk c.loop.builder m start (g.Q.Pages.shown.state c.loop.to).live entries (suc left)) (sym same) had.0 in
          let there = subst (λ (i : PrimeIndex). HasLed i places c.loop.walk c.loop.builder (g.P.Pages.shown.state c.loop.from).live start (g.Q.Pages.shown.state c.loop.to).live entries (suc left)) (sym c.prime.ensures) here in
          copy_fails _ _ _ c.from_residual.ensures.1 (c.in_err-lead_next.ensures.leads.led hf ht had.1 start entries left there).no_damage;
      width = copy_no_answer _ _ _ c.from_residual.ensures.1;
    }

pub returns-in_err-lead_next-clause-keeps : goal.returns-in_err-lead_next-clause-keeps
returns-in_err-lead_next-clause-keeps g c =
    let laws : StepLaws g.Q.Pages.shown = record { nothing = g.met.Q.Pages.writes_nothing; on = g.met.Q.Pages.writes_on; failed_before = g.met.Q.Pages.failed_before; failed_after = g.met.Q.Pages.failed_after } in
    let inv = c.loop.invariant in
    let keeps = c.in_err-lead_next.ensures.keeps in
    record {
      cause = copy_handed _ _ _ c.from_residual.ensures.1
          (copy_cause g.P.Pages.shown g.Q.Pages.shown (λ a b d r f. g.met.P.Pages.failed_after a b d (g.met.P.Pages.reads_writes a b r) f) laws false false (λ is. is)
          c.args.from.now c.loop.from c.lead_next.new.from c.args.to.now c.loop.to c.lead_next.new.to inv.reads inv.writes _ keeps.cause);
      reads = g.met.P.Pages.reads_on c.args.from.now c.loop.from c.lead_next.new.from inv.reads keeps.reads;
      writes = g.met.Q.Pages.writes_on c.args.to.now c.loop.to c.lead_next.new.to inv.writes keeps.writes;
    }

pub loop-preserved : goal.loop-preserved
loop-preserved g c =
    let inv = c.loop.invariant in
    let keeps = c.in_ok-lead_next.ensures.keeps in
    let index = prime_index_of c.args.source.now in
    let places = c.args.places.now in
    let start = (g.Q.Pages.shown.state c.args.to.now).live in
    let walk = c.loop.walk in
    let step = subst (λ (i : PrimeIndex). LeadsNext g.P.Pages.shown g.Q.Pages.shown i places c.loop.walk c.lead_next.new.walk c.loop.builder c.lead_next.new.builder c.loop.from c.lead_next.new.from c.loop.to c.lead_next.new.to c.lead_next.result)
    c.prime.ensures c.lead_next.ensures.leads in
    record {
      reads = g.met.P.Pages.reads_on c.args.from.now c.loop.from c.lead_next.new.from inv.reads keeps.reads;
      writes = g.met.Q.Pages.writes_on c.args.to.now c.loop.to c.lead_next.new.to inv.writes keeps.writes;
      fits = step.fits;
      led = λ hf ht sound entries own left stands known many.
          let hb = g.met.P.Pages.writes_honestly c.loop.from c.lead_next.new.from (g.met.P.Pages.reads_writes c.loop.from c.lead_next.new.from keeps.reads) hf in
          let tb = g.met.Q.Pages.writes_honestly c.loop.to c.lead_next.new.to keeps.writes ht in
          let one : suc left + c.loop.counter ≡ c.count-count.result = omega (arith, many) in
          let had = inv.led hb tb sound entries own (suc left) stands known one in
          let same = g.met.P.Pages.reads_live c.args.from.now c.loop.from inv.reads hb in
          let here = subst (λ (m : PageMap). HasLed index places c.loop.walk c.loop.builder m start (g.Q.Pages.shown.state c.loop.to).live entries (suc left)) (sym same) had.0 in
          let there = subst (λ (i : PrimeIndex). HasLed i places c.loop.walk c.loop.builder (g.P.Pages.shown.state c.loop.from).live start (g.Q.Pages.shown.state c.loop.to).live entries (suc left)) (sym c.prime.ensures) here in
          let more = (c.in_ok-lead_next.ensures.leads.led hf ht had.1 start entries left there).answer in
          let back = subst (λ (i : PrimeIndex). HasLed i places c.lead_next.new.walk c.lead_next.new.builder (g.P.Pages.shown.state c.loop.from).live start (g.Q.Pages.shown.state c.lead_next.new.to).live entries left) c.prime.ensures more.0 in
          (subst (λ (m : PageMap). HasLed index places c.lead_next.new.walk c.lead_next.new.builder m start (g.Q.Pages.shown.state c.lead_next.new.to).live entries left) same back, more.1);
    }

pub end_leading-requires-clause-ready : goal.end_leading-requires-clause-ready
end_leading-requires-clause-ready g c = g.met.P.Pages.writes_ready c.args.from.now c.loop.from (g.met.P.Pages.reads_writes c.args.from.now c.loop.from c.loop.invariant.reads) c.requires.lent.ready

pub end_leading-requires-clause-target : goal.end_leading-requires-clause-target
end_leading-requires-clause-target g c = record {
  ready = g.met.Q.Pages.writes_ready c.args.to.now c.loop.to c.loop.invariant.writes c.requires.target.ready;
  «open» = g.met.Q.Pages.writes_changing c.args.to.now c.loop.to c.loop.invariant.writes c.requires.target.open;
}

pub returns-clause-leads : goal.returns-clause-leads
returns-clause-leads g c =
    let inv = c.loop.invariant in
    let keeps = c.end_leading.ensures.keeps in
    let index = prime_index_of c.args.source.now in
    let places = c.args.places.now in
    let start = (g.Q.Pages.shown.state c.args.to.now).live in
    let none : 0 + c.loop.counter ≡ c.count-count.result = omega (arith, c.loop-test.false, c.loop.auto.counter-end) in
    record {
      led = λ hf ht sound entries own stands known.
          let hb = g.met.P.Pages.writes_honestly c.loop.from c.end_leading.new.from (g.met.P.Pages.reads_writes c.loop.from c.end_leading.new.from keeps.reads) hf in
          let tb = g.met.Q.Pages.writes_honestly c.loop.to c.end_leading.new.to keeps.writes ht in
          let had = inv.led hb tb sound entries own 0 stands known none in
          let same = g.met.P.Pages.reads_live c.args.from.now c.loop.from inv.reads hb in
          let here = subst (λ (m : PageMap). HasLed index places c.loop.walk c.loop.builder m start (g.Q.Pages.shown.state c.loop.to).live entries 0) (sym same) had.0 in
          let rise = primes_rise index (g.P.Pages.shown.state c.args.from.now).live entries own stands in
          c.end_leading.ensures.ends.ended hf ht had.1 index places start entries inv.fits.width_is here stands.each rise;
      width = copy_if_ok c.end_leading.result _ _ (λ copy is. is ∙ inv.fits.width_is) c.end_leading.ensures.ends.width;
    }

pub returns-clause-keeps : goal.returns-clause-keeps
returns-clause-keeps g c =
    let laws : StepLaws g.Q.Pages.shown = record { nothing = g.met.Q.Pages.writes_nothing; on = g.met.Q.Pages.writes_on; failed_before = g.met.Q.Pages.failed_before; failed_after = g.met.Q.Pages.failed_after } in
    let inv = c.loop.invariant in
    let keeps = c.end_leading.ensures.keeps in
    record {
      cause = copy_if_err c.end_leading.result _ _
          (copy_cause g.P.Pages.shown g.Q.Pages.shown (λ a b d r f. g.met.P.Pages.failed_after a b d (g.met.P.Pages.reads_writes a b r) f) laws false false (λ is. is)
          c.args.from.now c.loop.from c.end_leading.new.from c.args.to.now c.loop.to c.end_leading.new.to inv.reads inv.writes) keeps.cause;
      reads = g.met.P.Pages.reads_on c.args.from.now c.loop.from c.end_leading.new.from inv.reads keeps.reads;
      writes = g.met.Q.Pages.writes_on c.args.to.now c.loop.to c.end_leading.new.to inv.writes keeps.writes;
    }
