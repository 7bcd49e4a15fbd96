-- What a MOVE writes, part by part.
use Rattle.std.proofs.Common.{◌≡◌, ℕ, ◌-◌, min, List, ◌++◌, length, drop, replicate, arith, rules}
use Rattle.std.proofs.lemmas.List.{places, same_lists}

-- zeros, and then as much of the end of the digits as there is room for
pub to_the_right-is : (n : ℕ) (digits : List ℕ) → drop (length digits) (replicate n 48 ++ digits) ≡ replicate (n - min (length digits) n) 48 ++ drop (length digits - min (length digits) n) digits
to_the_right-is n digits = same_lists _ _ (search (rules, places)) (λ k d h. grind (arith, places))
