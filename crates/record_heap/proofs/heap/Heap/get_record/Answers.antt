use Rattle.std.proofs.Common.{rules}
use Rattle.record_heap.proofs.HeapLemmas.{gets_record}
use Rattle.record_heap.proofs.heap.Heap.get_record.Goals as goal

pub returns : goal.returns
returns g c = record {
  got = λ honest.
      let read = c.read_record-length in
      let before = g.met.P.Pages.writes_honestly read.new.pages c.demote.new.self (g.met.P.Pages.reads_writes read.new.pages c.demote.new.self c.demote.ensures.reads) honest in
      gets_record c.args.self.now (g.P.Pages.shown.state c.args.pages.now).live c.args.place c.args.to.now read.new.to read.result (read.ensures.got before);
  greatest = c.read_record-length.ensures.greatest;
  kept = c.read_record-length.ensures.kept;
  reads = search (rules, g.met.P.Pages.failed_before, g.met.P.Pages.reads_writes, g.met.P.Pages.reads_on);
}
