-- How many records a list can still come to, whatever a library answers: each is behind the one before.
use Rattle.std.specs.Prelude.{ℕ, zero, suc, ◌+◌, ◌-◌, ◌*◌, ◌^◌, List, [], ◌∷◌}
use Rattle.io_state.specs.declared.position.Position.{Position}
use Rattle.io_state.specs.declared.position.Position.TheVariants.{Invalid, Missing, From, After}

-- the number that the first n bytes of a value spell, so that of two values of no more bytes the
-- later one has the greater number
unfoldable pub value_number : ℕ → List ℕ → ℕ
value_number zero bytes = 0
value_number (suc n) [] = 0
value_number (suc n) (byte ∷ bytes) = (byte + 1) * 257 ^ n + value_number n bytes

-- the same of a value of at most 250 bytes, and a stamp
unfoldable pub rank_number : List ℕ → ℕ → ℕ
rank_number value stamp = value_number 250 value * 2 ^ 64 + stamp

-- no rank has this number, or a greater one
unfoldable pub rank_limit : ℕ
rank_limit = 257 ^ 250 * 2 ^ 64

-- how many ranks are behind a position at most
abbrev pub ranks_behind : Position → ℕ
ranks_behind Invalid = rank_limit + 1
ranks_behind Missing = rank_limit + 1
ranks_behind (From value) = rank_limit + 1
ranks_behind (After value stamp) = rank_limit - rank_number value.items stamp
