use Rattle.std.proofs.Common.{◌≡◌, ap, sym, subst, ◌∙◌}
use Rattle.pages.proofs.CauseLemmas.{caused_since}
use Rattle.pages.specs.PageMap.{PageMap}
use Rattle.tree_search.proofs.AnswerLemmas.{fails}
use Rattle.tree_search.proofs.SearchLemmas.{if_ok}
use Rattle.record_heap.specs.Standing.{HeapStands}
use Rattle.key_index.specs.declared.entry.PrimeEntry.{PrimeEntry}
use Rattle.key_index.specs.Stored.{prime_entry_in}
use Rattle.record_layout.specs.Schema.{prime_of}
use Rattle.open_file.specs.Stored.{stored}
use Rattle.file_building.proofs.StepLemmas.{handed_on, no_answer}
use Rattle.file_building.proofs.CopiedLemmas.{place_told}
use Rattle.file_building.proofs.RereadLemmas.{next_read, front_read, reads_behind}
use Rattle.file_building.proofs.row_reading.next_record.Goals as goal

pub returns-in_err-next : goal.returns-in_err-next
returns-in_err-next g c = record {
  read = λ honest schema row rest a.
      let next = next_read schema c.args.parts.now c.args.walk.now _ row rest a in
      fails _ _ _ c.from_residual.ensures.1 (c.in_err-next.ensures.gives honest next.given _ _ next.own next.walked).no_damage;
  tree_is = c.next.ensures.tree_is;
  least = no_answer _ _ _ c.from_residual.ensures.1;
  greatest = no_answer _ _ _ c.from_residual.ensures.1;
  cause = handed_on _ _ _ c.from_residual.ensures.1 c.in_err-next.ensures.reads.cause;
  reads = c.next.ensures.reads.step;
}

pub get-requires-clause-ready : goal.get-requires-clause-ready
get-requires-clause-ready g c =
    g.met.P.Pages.writes_ready c.args.pages.now c.next.new.pages (g.met.P.Pages.reads_writes c.args.pages.now c.next.new.pages c.next.ensures.reads.step) c.requires.ready

pub returns : goal.returns
returns g c =
    let start = c.args.pages.now in
    let mid = c.next.new.pages in
    let late = c.get.new.pages in
    let parts = c.args.parts.now in
    let walk = c.args.walk.now in
    let live = (g.P.Pages.shown.state start).live in
    let entry = c.next.new.entry.items in
    let first = c.next.ensures.reads.step in
    let second = c.get.ensures.reads.step in
    let width : c.from-width.result ≡ parts.prime.width = c.from-width.ensures in
    record {
      read = λ honest schema row rest a.
          let honest_mid = g.met.P.Pages.writes_honestly mid late (g.met.P.Pages.reads_writes mid late second) honest in
          let next = next_read schema parts walk live row rest a in
          let given = (c.in_ok-next.ensures.gives honest_mid next.given _ _ next.own next.walked).answer in
          let decoded : c.read.result.place ≡ (prime_entry_in parts.prime.width entry).place =
          ap (λ (e : PrimeEntry). e.place) c.read.ensures ∙ (λ i. (prime_entry_in (width i) (c.as_slice.ensures.value i)).place) in
          let told : c.read.result.place ≡ next.place =
          decoded ∙ place_told parts.prime.width (prime_of schema row.bytes) entry next.place next.fits given.0 in
          let same = g.met.P.Pages.reads_live start mid first honest_mid in
          let stands = subst (λ (m : PageMap). HeapStands parts.heap m next.slots next.heap_own) (sym same) next.heap in
          let got = c.get.ensures.got honest next.slots next.heap_own (stored schema row) stands (ap next.slots told ∙ next.row_at) in
          if_ok c.get.result _ _
          (λ n is. (front_read (stored schema row) _ c.args.area.now n is.0 is.1, reads_behind schema parts walk c.next.new.self live row rest next given.1)) got;
      tree_is = c.next.ensures.tree_is;
      least = c.get.ensures.front.least;
      greatest = c.get.ensures.front.greatest;
      cause = caused_since c.get.result _ _ _ _ (λ failed. g.met.P.Pages.failed_after start mid late (g.met.P.Pages.reads_writes start mid first) failed) (λ never. never) c.get.ensures.reads.cause;
      reads = g.met.P.Pages.reads_on start mid late first second;
    }
