use Rattle.std.proofs.Common.{false, sym, subst}
use Rattle.pages.specs.PageMap.{PageMap}
use Rattle.open_file.specs.InOrder.{prime_entries}
use Rattle.open_file.specs.Fields.{file_schema, prime_index_of}
use Rattle.open_file.specs.Parts.{prime_pages}
use Rattle.key_index.specs.Standing.{PrimeStands}
use Rattle.tree_building.proofs.RankLemmas.{primes_rise}
use Rattle.file_building.proofs.StepLemmas.{StepLaws}
use Rattle.file_building.proofs.CopiedStepLemmas.{copy_handed, copy_fails, copy_no_answer, copy_cause}
use Rattle.file_building.proofs.MovedRowLemmas.{entries_known, rows_moved}
use Rattle.file_building.proofs.rows_by_key.copy_rows_by_alternate.Goals as goal

pub returns-in_err-moved-clause-copies : goal.returns-in_err-moved-clause-copies
returns-in_err-moved-clause-copies g c = record {
  copied = λ hf ht sound file stands free. copy_fails _ _ _ c.from_residual.ensures.1 (c.in_err-moved.ensures.moves.moved hf ht sound file stands).no_damage;
  width = copy_no_answer _ _ _ c.from_residual.ensures.1;
}

pub returns-in_err-moved-clause-keeps : goal.returns-in_err-moved-clause-keeps
returns-in_err-moved-clause-keeps g c =
    let keeps = c.in_err-moved.ensures.keeps in
    record { cause = copy_handed _ _ _ c.from_residual.ensures.1 keeps.cause; reads = keeps.reads; writes = keeps.writes }

pub returns-in_err-prime-clause-copies : goal.returns-in_err-prime-clause-copies
returns-in_err-prime-clause-copies g c =
    let source = c.args.source.now in
    let schema = file_schema source in
    let start = c.args.from.now in
    let mid = c.move_records.new.from in
    let late = c.lead_to_records.new.from in
    let y = c.move_records.new.to in
    let z = c.lead_to_records.new.to in
    let first = c.in_ok-moved.ensures.keeps in
    let second = c.in_err-prime.ensures.keeps in
    record {
      copied = λ hf ht sound file stands free.
          let hb = g.met.P.Pages.writes_honestly mid late (g.met.P.Pages.reads_writes mid late second.reads) hf in
          let tb = g.met.Q.Pages.writes_honestly y z second.writes ht in
          let made = (c.in_ok-moved.ensures.moves.moved hb tb sound file stands).answer in
          let same = g.met.P.Pages.reads_live start mid first.reads hb in
          let primes = prime_entries schema stands.places file.rows in
          let own = prime_pages stands.parts.owns in
          let there = subst (λ (m : PageMap). PrimeStands (prime_index_of source) m primes own) (sym same) stands.parts.prime_stands in
          let rise = primes_rise (prime_index_of source) (g.P.Pages.shown.state start).live primes own stands.parts.prime_stands in
          let known = entries_known schema stands.slots c.args.key (prime_index_of source).width _ stands.places file.rows stands.placed.rows_at stands.parts.prime_stands.each rise made.0.known in
          copy_fails _ _ _ c.from_residual-in_err-prime.ensures.1 (c.in_err-prime.ensures.leads.led hf ht made.1 primes own there known).no_damage;
      width = copy_no_answer _ _ _ c.from_residual-in_err-prime.ensures.1;
    }

pub returns-in_err-prime-clause-keeps : goal.returns-in_err-prime-clause-keeps
returns-in_err-prime-clause-keeps g c =
    let laws : StepLaws g.Q.Pages.shown = record { nothing = g.met.Q.Pages.writes_nothing; on = g.met.Q.Pages.writes_on; failed_before = g.met.Q.Pages.failed_before; failed_after = g.met.Q.Pages.failed_after } in
    let first = c.in_ok-moved.ensures.keeps in
    let second = c.in_err-prime.ensures.keeps in
    let start = c.args.from.now in
    let mid = c.move_records.new.from in
    let late = c.lead_to_records.new.from in
    let x = c.args.to.now in
    let y = c.move_records.new.to in
    let z = c.lead_to_records.new.to in
    record {
      cause = copy_handed _ _ _ c.from_residual-in_err-prime.ensures.1
          (copy_cause g.P.Pages.shown g.Q.Pages.shown (λ a b d r f. g.met.P.Pages.failed_after a b d (g.met.P.Pages.reads_writes a b r) f) laws false false (λ is. is)
          start mid late x y z first.reads first.writes _ second.cause);
      reads = g.met.P.Pages.reads_on start mid late first.reads second.reads;
      writes = g.met.Q.Pages.writes_on x y z first.writes second.writes;
    }

pub returns-clause-copies : goal.returns-clause-copies
returns-clause-copies g c =
    let source = c.args.source.now in
    let schema = file_schema source in
    let start = c.args.from.now in
    let mid = c.move_records.new.from in
    let late = c.lead_to_records.new.from in
    let x = c.args.to.now in
    let y = c.move_records.new.to in
    let z = c.lead_to_records.new.to in
    let records = c.in_ok-moved.moved in
    let first = c.in_ok-moved.ensures.keeps in
    let second = c.in_ok-prime.ensures.keeps in
    record {
      copied = λ hf ht sound file stands free.
          let hb = g.met.P.Pages.writes_honestly mid late (g.met.P.Pages.reads_writes mid late second.reads) hf in
          let tb = g.met.Q.Pages.writes_honestly y z second.writes ht in
          let made = (c.in_ok-moved.ensures.moves.moved hb tb sound file stands).answer in
          let same = g.met.P.Pages.reads_live start mid first.reads hb in
          let primes = prime_entries schema stands.places file.rows in
          let own = prime_pages stands.parts.owns in
          let there = subst (λ (m : PageMap). PrimeStands (prime_index_of source) m primes own) (sym same) stands.parts.prime_stands in
          let rise = primes_rise (prime_index_of source) (g.P.Pages.shown.state start).live primes own stands.parts.prime_stands in
          let known = entries_known schema stands.slots c.args.key (prime_index_of source).width records.places stands.places file.rows stands.placed.rows_at stands.parts.prime_stands.each rise made.0.known in
          let led = (c.in_ok-prime.ensures.leads.led hf ht made.1 primes own there known).answer in
          record {
            answer = (
              rows_moved schema _ stands.slots stands.places file.rows _ (g.Q.Pages.shown.state x).live (g.Q.Pages.shown.state y).live (g.Q.Pages.shown.state z).live records c.in_ok-prime.prime
                  stands.placed.rows_at made.0 known free led.0,
              made.0.shape_is,
              led.1,
            );
            no_damage = tt;
          };
      width = c.in_ok-prime.ensures.leads.width;
    }

pub returns-clause-keeps : goal.returns-clause-keeps
returns-clause-keeps g c =
    let first = c.in_ok-moved.ensures.keeps in
    let second = c.in_ok-prime.ensures.keeps in
    record {
      cause = tt;
      reads = g.met.P.Pages.reads_on c.args.from.now c.move_records.new.from c.lead_to_records.new.from first.reads second.reads;
      writes = g.met.Q.Pages.writes_on c.args.to.now c.move_records.new.to c.lead_to_records.new.to first.writes second.writes;
    }
