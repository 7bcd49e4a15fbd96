use Rattle.std.proofs.Common.{◌≡◌, ◌≤◌, ◌-◌, ◌*◌, length}
use Rattle.serve.specs.Reading.{keys_in}
use Rattle.serve.proofs.KeyLemmas.{behind}
use Rattle.serve.proofs.file_description.keys_of.Given as goal

-- the keys so far, and those of the rows that are left
abbrev pub invariant-loop-k : goal.invariant-loop-k
invariant-loop-k l =
    (behind l.keys.items (keys_in l.k (l.count - l.k) l.rest) ≡ keys_in 0 l.count l.rows) × (length l.keys.items ≡ l.k) × (5 * (l.count - l.k) ≤ length l.rest)
