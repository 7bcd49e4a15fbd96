use Rattle.std.proofs.Common.{[], ◌∷◌, ◌++◌}
use Rattle.streams.proofs.FaultLemmas.{faults_more}
use Rattle.streams.proofs.fault_lines.FaultLines.keep.Goals as goal

pub returns-in_default : goal.returns-in_default
returns-in_default c = λ before h numbered. faults_more before (10 ∷ []) c.args.self.now.firsts.items h.firsts

pub returns-else-is_none : goal.returns-else-is_none
returns-else-is_none c = λ before h numbered. faults_more before (10 ∷ []) c.args.self.now.firsts.items h.firsts

pub returns-then-is_none : goal.returns-then-is_none
returns-then-is_none c = λ before h numbered.
    c.add_first.ensures (before ++ 10 ∷ []) (faults_more before (10 ∷ []) c.args.self.now.firsts.items h.firsts) (c.in-Some.ensures before h numbered)
