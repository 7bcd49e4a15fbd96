-- Entries of the indexes, in the order of their ranks.
use Rattle.std.specs.Prelude.{ℕ, Bool, not, List, [], ◌∷◌, length, take, filter, bytes_eq, ◌&&◌, ◌==◌}
use Rattle.std.specs.Prelude.{if◌then◌else◌}
use Rattle.std.specs.Ordering.{is_ge, is_gt, is_lt}
use Rattle.io_state.specs.Rank.{value_cmp, rank_cmp}
use Rattle.key_index.specs.declared.entry.PrimeEntry.{PrimeEntry}
use Rattle.key_index.specs.declared.entry.AltEntry.{AltEntry}

-- the value is this one
abbrev pub has_prime : List ℕ → PrimeEntry → Bool
has_prime v e = bytes_eq e.value.items v

-- the value is not less than this one
abbrev pub from_prime : List ℕ → PrimeEntry → Bool
from_prime v e = is_ge (value_cmp e.value.items v)

-- the value comes after this one
abbrev pub after_prime : List ℕ → PrimeEntry → Bool
after_prime v e = is_gt (value_cmp e.value.items v)

-- the first bytes of the value, as many as there are here, come after these
abbrev pub past_prime : List ℕ → PrimeEntry → Bool
past_prime v e = is_gt (value_cmp (take (length v) e.value.items) v)

-- the value is this one
abbrev pub entry_has_value : List ℕ → AltEntry → Bool
entry_has_value v e = bytes_eq e.value.items v

-- the value and stamp are these
abbrev pub has_rank : List ℕ → ℕ → AltEntry → Bool
has_rank v s e = bytes_eq e.value.items v && (e.stamp == s)

-- the value is not less than this one
abbrev pub from_value : List ℕ → AltEntry → Bool
from_value v e = is_ge (value_cmp e.value.items v)

-- the value and stamp come after these
abbrev pub after_rank : List ℕ → ℕ → AltEntry → Bool
after_rank v s e = is_gt (rank_cmp e.value.items e.stamp v s)

-- the first bytes of the value, as many as there are here, come after these
abbrev pub past_value : List ℕ → AltEntry → Bool
past_value v e = is_gt (value_cmp (take (length v) e.value.items) v)

-- the entries with one more, at the place of its value
abbrev pub with_prime : PrimeEntry → List PrimeEntry → List PrimeEntry
with_prime e [] = e ∷ []
with_prime e (x ∷ xs) = if is_lt (value_cmp e.value.items x.value.items) then e ∷ x ∷ xs else x ∷
    with_prime e xs

-- the entries with one more, at the place of its rank
abbrev pub with_alt : AltEntry → List AltEntry → List AltEntry
with_alt e [] = e ∷ []
with_alt e (x ∷ xs) = if is_lt (rank_cmp x.value.items x.stamp e.value.items e.stamp) then x ∷ with_alt e
    xs else e ∷ x ∷ xs

-- the entries but that of this value
abbrev pub without_prime : List ℕ → List PrimeEntry → List PrimeEntry
without_prime v = filter (λ e. not (has_prime v e))

-- the entries but that of this value and stamp
abbrev pub without_rank : List ℕ → ℕ → List AltEntry → List AltEntry
without_rank v s = filter (λ e. not (has_rank v s e))
