use Rattle.std.proofs.Common.{refl, arith}
use Rattle.record_heap.proofs.FillingLemmas.{page_kept, page_written}
use Rattle.record_heap.proofs.builder.HeapBuilder.write_page.Goals as goal

pub returns-then-self-eq0 : goal.returns-then-self-eq0
returns-then-self-eq0 g c = record {
  written = λ honest sound slots own places f. page_kept c.args.self.now (g.P.Pages.shown.state c.args.pages.now) slots own places c.if-self-eq0.true sound f;
  available = refl;
  writes = record { cause = tt; asked = omega arith; step = g.met.P.Pages.writes_nothing c.args.pages.now };
}

pub returns : goal.returns
returns g c =
    let store = c.store.ensures in
    record {
      written = λ honest sound slots own places f.
          page_written c.args.self.now (g.P.Pages.shown.state c.args.pages.now) (g.P.Pages.shown.state c.store.new.pages) slots own places c.store.result c.if-self-eq0.false f sound
          (λ here. store.stored honest here) (store.kept honest) (λ here. store.damage honest here) (λ here. store.sound honest here);
      available = store.available;
      writes = store.writes;
    }
