use Rattle.record_heap.proofs.HeapLemmas.{gets}
use Rattle.record_heap.proofs.heap.Heap.get.Goals as goal

pub returns : goal.returns
returns g c = record {
  got = λ honest.
      gets c.args.self.now (g.P.Pages.shown.state c.args.pages.now).live c.args.place c.args.to.now c.read_used.new.to c.read_used.result (c.read_used.ensures.got honest);
  front = c.read_used.ensures.front;
  reads = c.read_used.ensures.reads;
}
