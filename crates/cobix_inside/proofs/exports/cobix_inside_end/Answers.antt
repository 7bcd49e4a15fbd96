use Rattle.std.proofs.Common.{rules, ◌≡◌, ℕ, Option, Some, subst}
use Rattle.indexed_file.specs.Shown.{Shown}
use Rattle.serve.specs.Files.{Files}
use Rattle.serve.specs.Serving.{ClosesAndCounts}
use Rattle.cobix_inside.specs.Sessions.{ClosesAll}
use Rattle.cobix_inside.proofs.exports.cobix_inside_end.Goals as goal

-- the files of the session that was held were closed
closes_all : {A S : Type 0} (shown : Shown S) (session_of : A → Files S) (held : Option A) (a : A) (last : Files S) (failed : ℕ) → held ≡ Some a
    → ClosesAndCounts shown (session_of a) last failed → (old : A) → held ≡ Some old → ClosesAll shown (session_of old) failed
closes_all {A} shown session_of held a last failed is closes old also =
    let same : a ≡ old = cc in
    record { last = last; closes = subst (λ (it : A). ClosesAndCounts shown (session_of it) last failed) same closes }

pub returns : goal.returns
returns c =
    let first : c.args.handle.value ≡ Some c.deref_mut.result.now = search rules in
    record { closed = closes_all _ (λ held. held.session) c.args.handle.value c.deref_mut.result.now _ _ first c.close_all-unclosed.ensures.closed }
