use Rattle.std.proofs.Common.{◌∙◌, ap, rules}
use Rattle.record_heap.specs.Standing.{heap_with}
use Rattle.record_heap.proofs.FillingLemmas.{fills_not, fills_finished}
use Rattle.record_heap.proofs.builder.HeapBuilder.finish.Goals as goal

pub returns-in_err-write_page : goal.returns-in_err-write_page
returns-in_err-write_page g c = record {
  finished = λ honest sound slots own places f.
      fills_not c.args.self (g.P.Pages.shown.state c.args.pages.now) (g.P.Pages.shown.state c.write_page.new.pages) c.from_residual.result c.in_err-write_page.field-0.0 _ _
      (c.in_err-write_page.ensures.written honest sound slots own places f) c.from_residual.ensures.1;
  available = c.write_page.ensures.available;
  writes = search rules;
}

pub returns : goal.returns
returns g c = record {
  finished = λ honest sound slots own places f.
      fills_finished c.args.self (g.P.Pages.shown.state c.args.pages.now) (g.P.Pages.shown.state c.write_page.new.pages) slots own places c.stored.result c.args.self.within f
      (c.in_ok-write_page.ensures.written honest sound slots own places f) (c.stored.ensures ∙ ap (heap_with c.args.self.shape c.args.self.first) c.first_free.ensures);
  available = c.write_page.ensures.available;
  writes = search rules;
}
