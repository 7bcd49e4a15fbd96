-- Numbers that are kept within bounds.
use Rattle.std.proofs.Common.{ℕ, ◌+◌, ◌-◌, ◌≤◌, ◌<◌, max, min, arith}

pub at_least : (n : ℕ) → 1 ≤ max 1 (min n 250)
at_least n = omega arith

pub at_most : (n : ℕ) → max 1 (min n 250) ≤ 258
at_most n = omega arith

pub is_key_length : (n : ℕ) → max 1 (min n 250) ≤ 250
is_key_length n = omega arith

pub entry_longer : (n : ℕ) → max 1 (min n 250) ≤ max 1 (min n 250) + 6
entry_longer n = omega arith

pub entry_short : (n : ℕ) → max 1 (min n 250) + 6 ≤ 508
entry_short n = omega arith

pub tree_low : (n : ℕ) → min (n - 1) 19 < 20
tree_low n = omega arith

pub in_order : (n m : ℕ) → min n m ≤ m
in_order n m = omega arith

pub has_room : (n m : ℕ) → min n 64 + min m 4000 ≤ 4077
has_room n m = omega arith
