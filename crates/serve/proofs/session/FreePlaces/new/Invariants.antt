use Rattle.std.proofs.Common.{◌≡◌, replicate, None}
use Rattle.serve.proofs.session.FreePlaces.new.Given as goal

-- so many numbers are free
abbrev pub invariant-loop : goal.invariant-loop
invariant-loop l = l.files.items ≡ replicate l.counter None
