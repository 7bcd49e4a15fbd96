-- Bytes of runs.
use Rattle.std.proofs.Common.{◌≡◌, ℕ, ◌<◌, ◌≤◌, ◌==◌, true, false, refl, arith}
use Rattle.std.proofs.lemmas.Bool.Decides.{nat_tests}
use Rattle.deck_parser.specs.ByteClass.{is_of_run}

differs : (byte k : ℕ) → k ≤ 39 → 39 < byte → (byte == k) ≡ false
differs byte k low high = grind (arith, nat_tests)

-- a byte above the marks belongs to a run
pub above_marks : (byte : ℕ) → 39 < byte → is_of_run byte ≡ true
above_marks byte h =
    rw (differs byte 32 (omega arith) h, differs byte 9 (omega arith) h, differs byte 10 (omega arith) h, differs byte 13 (omega arith) h, differs byte 34 (omega arith) h, differs byte 39 (omega arith) h) refl
