use Rattle.std.proofs.lemmas.Option.{IfSome_then}
use Rattle.streams.proofs.FaultLemmas.{fault_first}
use Rattle.streams.proofs.fault_lines.FaultLines.ended.Goals as goal

pub returns-then-self : goal.returns-then-self
returns-then-self c = λ before h numbered.
    let s = c.args.self.now in
    IfSome_then c.fault_line.result c.fault_line.ensures
    (λ first is. fault_first before s.line.items c.as_slice.result.now c.args.number first (h.line c.if-self.true) c.as_slice.ensures.value numbered is)
