use Rattle.std.proofs.Common.{◌≡◌, ◌+◌, length, ap, sym, subst, ◌∙◌}
use Rattle.pages.proofs.CauseLemmas.{caused_since}
use Rattle.pages.specs.PageMap.{PageMap}
use Rattle.tree_search.proofs.AnswerLemmas.{fails}
use Rattle.tree_search.proofs.SearchLemmas.{if_ok}
use Rattle.bplus_tree.specs.declared.tree.Tree.{Tree}
use Rattle.bplus_tree.specs.Fields.{tree_shape}
use Rattle.record_heap.specs.Standing.{HeapStands}
use Rattle.key_index.specs.declared.prime_index.PrimeIndex.{PrimeIndex}
use Rattle.key_index.specs.declared.entry.PrimeEntry.{PrimeEntry}
use Rattle.key_index.specs.Stored.{prime_entry_in}
use Rattle.record_layout.specs.Schema.{prime_of}
use Rattle.open_file.specs.Stored.{stored}
use Rattle.open_file.specs.Fields.{file_schema, heap_of, prime_index_of}
use Rattle.file_building.proofs.StepLemmas.{handed_on, no_answer, if_both}
use Rattle.file_building.proofs.CopiedLemmas.{next_row, place_told, row_read, rows_behind}
use Rattle.file_building.proofs.rows.read_row.Goals as goal

pub returns-in_err-next : goal.returns-in_err-next
returns-in_err-next g c = record {
  read = λ honest row rest a.
      let next = next_row c.args.source.now c.args.walk.now _ row rest a in
      fails _ _ _ c.from_residual.ensures.1 (c.in_err-next.ensures.gives honest next.given _ _ next.own next.walked).no_damage;
  tree_is = c.next.ensures.tree_is;
  fits = no_answer _ _ _ c.from_residual.ensures.1;
  cause = handed_on _ _ _ c.from_residual.ensures.1 c.in_err-next.ensures.reads.cause;
  reads = c.next.ensures.reads.step;
}

pub read_stored-requires-clause-ready : goal.read_stored-requires-clause-ready
read_stored-requires-clause-ready g c =
    g.met.P.Pages.writes_ready c.args.from.now c.next.new.pages (g.met.P.Pages.reads_writes c.args.from.now c.next.new.pages c.next.ensures.reads.step) c.requires.ready

pub returns : goal.returns
returns g c =
    let start = c.args.from.now in
    let mid = c.next.new.pages in
    let late = c.read_stored.new.pages in
    let source = c.args.source.now in
    let walk = c.args.walk.now in
    let live = (g.P.Pages.shown.state start).live in
    let entry = c.next.new.entry.items in
    let first = c.next.ensures.reads.step in
    let second = c.read_stored.ensures.reads.step in
    let width : c.from-width.result ≡ (prime_index_of source).width = c.from-width.ensures ∙ ap (λ (i : PrimeIndex). i.width) c.prime.ensures in
    record {
      read = λ honest row rest a.
          let honest_mid = g.met.P.Pages.writes_honestly mid late (g.met.P.Pages.reads_writes mid late second) honest in
          let next = next_row source walk live row rest a in
          let given = (c.in_ok-next.ensures.gives honest_mid next.given _ _ next.own next.walked).answer in
          let decoded : c.read.result.place ≡ (prime_entry_in (prime_index_of source).width entry).place =
          ap (λ (e : PrimeEntry). e.place) c.read.ensures ∙ (λ i. (prime_entry_in (width i) (c.as_slice.ensures.value i)).place) in
          let told : c.read.result.place ≡ next.place =
          decoded ∙ place_told (prime_index_of source).width (prime_of (file_schema source) row.bytes) entry next.place next.fits given.0 in
          let same = g.met.P.Pages.reads_live start mid first honest_mid in
          let stands = subst (λ (m : PageMap). HeapStands (heap_of source) m next.slots next.heap_own) (sym same) next.heap in
          let got = c.read_stored.ensures.got honest next.slots next.heap_own (stored (file_schema source) row) stands (ap next.slots told ∙ next.row_at) in
          if_ok c.read_stored.result _ _
          (λ n is. (row_read source walk live row rest next entry c.read_stored.new.to c.args.area.now n given.0 is.0 is.1, rows_behind source walk c.next.new.self live row rest next given.1)) got;
      tree_is = c.next.ensures.tree_is;
      fits =
          let long : length entry ≡ (prime_index_of source).width + 6 =
          c.in_ok-next.ensures.long ∙ ap (λ (t : Tree). (tree_shape t).entry) c.requires.walk ∙ (prime_index_of source).entries in
          if_both c.read_stored.result _ _ _ (λ n low high. record { entry_long = long; least = low; greatest = high }) c.read_stored.ensures.front.least c.read_stored.ensures.front.greatest;
      cause = caused_since c.read_stored.result _ _ _ _ (λ failed. g.met.P.Pages.failed_after start mid late (g.met.P.Pages.reads_writes start mid first) failed) (λ never. never) c.read_stored.ensures.reads.cause;
      reads = g.met.P.Pages.reads_on start mid late first second;
    }
