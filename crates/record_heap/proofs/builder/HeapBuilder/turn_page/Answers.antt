use Rattle.std.proofs.Common.{refl, rules}
use Rattle.record_heap.proofs.FillingLemmas.{page_turned, fills_not, fills_later, fills_turned}
use Rattle.record_heap.proofs.builder.HeapBuilder.turn_page.Goals as goal

pub returns-in_err-write_page-clause-makes : goal.returns-in_err-write_page-clause-makes
returns-in_err-write_page-clause-makes g c = record {
  made = λ honest sound slots own places f.
      fills_not c.args.self.now (g.P.Pages.shown.state c.args.pages.now) (g.P.Pages.shown.state c.write_page.new.pages) c.from_residual.result c.in_err-write_page.field-0.0 _ _
      (c.in_err-write_page.ensures.written honest sound slots own places f) c.from_residual.ensures.1;
  shape = refl;
  few = search rules;
  writes = search rules;
}

pub returns-in_err-n-clause-makes : goal.returns-in_err-n-clause-makes
returns-in_err-n-clause-makes g c =
    let mid = c.write_page.new.pages in
    record {
      made = λ honest sound slots own places f.
          let before = g.met.P.Pages.writes_honestly mid c.take.new.self c.take.ensures.writes.step honest in
          let w = c.in_ok-write_page.ensures.written before sound slots own places f in
          fills_later c.args.self.now (g.P.Pages.shown.state c.args.pages.now) (g.P.Pages.shown.state mid) (g.P.Pages.shown.state c.take.new.self) c.from_residual-in_err-n.result
          c.in_err-n.field-0.0 _ _ w c.from_residual-in_err-n.ensures.1 (c.in_err-n.ensures.damage honest w.sound) (c.in_err-n.ensures.kept honest) (c.take.ensures.sound honest w.sound);
      shape = refl;
      few = search rules;
      writes = search (rules, g.met.P.Pages.writes_on, g.met.P.Pages.failed_after);
    }

pub returns-clause-makes : goal.returns-clause-makes
returns-clause-makes g c =
    let self = c.args.self.now in
    let start = g.P.Pages.shown.state c.args.pages.now in
    let mid = g.P.Pages.shown.state c.write_page.new.pages in
    let later = g.P.Pages.shown.state c.take.new.self in
    record {
      made = λ honest sound slots own places f.
          let before = g.met.P.Pages.writes_honestly c.write_page.new.pages c.take.new.self c.take.ensures.writes.step honest in
          let w = c.in_ok-write_page.ensures.written before sound slots own places f in
          let t = c.in_ok-n.ensures.taken honest w.sound in
          fills_turned self _ start mid later slots own places c.in_ok-n.n t.1.0 w
          (page_turned self _ start mid later slots own places c.in_ok-n.n t.1.0 f w.answer.answer c.requires.full self.within t.0 t.1.1 refl refl refl c.new_page.ensures.heap
          c.new_page.ensures.linked c.write_page.ensures.available c.in_ok-n.ensures.one) t.1.1 (c.take.ensures.sound honest w.sound);
      shape = refl;
      few = search rules;
      writes = search (rules, g.met.P.Pages.writes_on);
    }
