use Rattle.std.proofs.Common.{List, ℕ, [], ◌∷◌, ◌++◌, ap, sym, subst, ◌∙◌, append_assoc}
use Rattle.streams.specs.LineEnds.{AreEndsOf}
use Rattle.streams.specs.FaultLines.{AreFaultsOf}
use Rattle.streams.proofs.EndLemmas.{line_behind, line_whole}
use Rattle.streams.proofs.standard_output.note_lines.Goals as goal

pub more-preserved : goal.more-preserved
more-preserved c =
    let was = c.more.invariant in
    let done = was.0 in
    let line = c.in-Some.line.now in (
      done ++ (line ++ 10 ∷ []),
      was.1 ∙ ap (λ (r : List ℕ). done ++ r) c.in-Some.ensures.0 ∙ line_whole done line c.in-Some.after.now,
      λ before h. subst (λ (b : List ℕ). AreEndsOf b c.end_line.new.self) (line_behind before done line)
          (c.end_line.ensures ((before ++ done) ++ line) (c.pass.ensures (before ++ done) (was.2 before h))),
      λ before h. subst (λ (b : List ℕ). AreFaultsOf b c.end_line-in-Some.new.self) (line_behind before done line)
          (c.end_line-in-Some.ensures ((before ++ done) ++ line) (c.pass-in-Some.ensures (before ++ done) (was.3 before h))),
    )

pub returns-clause-ends : goal.returns-clause-ends
returns-clause-ends c = λ before h.
    let was = c.more.invariant in
    subst (λ (b : List ℕ). AreEndsOf b c.pass-2.new.self) (append_assoc before was.0 c.more.rest.now ∙ ap (λ (r : List ℕ). before ++ r) (sym was.1))
    (c.pass-2.ensures (before ++ was.0) (was.2 before h))

pub returns-clause-faults : goal.returns-clause-faults
returns-clause-faults c = λ before h.
    let was = c.more.invariant in
    subst (λ (b : List ℕ). AreFaultsOf b c.pass-3.new.self) (append_assoc before was.0 c.more.rest.now ∙ ap (λ (r : List ℕ). before ++ r) (sym was.1))
    (c.pass-3.ensures (before ++ was.0) (was.3 before h))
