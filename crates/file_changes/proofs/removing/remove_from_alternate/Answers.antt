use Rattle.open_file.specs.Fields.{alternates_of, heap_of, prime_index_of}
use Rattle.open_file.proofs.PartsLemmas.{alternate_changed}
use Rattle.file_changes.proofs.LevelLemmas.{index_is}
use Rattle.file_changes.proofs.removing.remove_from_alternate.Goals as goal

pub returns-then-removed-clause-removed : goal.returns-then-removed-clause-removed
returns-then-removed-clause-removed g c honest sound slots primes entries p some =
    let u = c.args.opened.now in
    let j = c.args.j in
    let at = index_is (alternates_of u) j c.alternate-index.result (rw (c.from.ensures, c.number_of-k.ensures) at c.alternate-index.ensures) in
    let removed = (rw (c.value-value.ensures.value, c.number_of-k.ensures, c.if-removed.true) at c.in_ok-removed.ensures.removed) honest sound (entries j) _ (p.alternates_stand j c.alternate-index.result c.requires.index at) in
    let whole = alternate_changed (heap_of u) (prime_index_of u) (alternates_of u) (g.P.Pages.shown.state c.args.pages.now).live slots primes entries p (g.P.Pages.shown.state c.remove.new.pages).live j c.remove.new.self _ c.requires.index removed.answer.0.1 in
    record { answer = rw c.put_alternate.ensures (whole, removed.answer.1); no_damage = tt }
