-- Records of 12 bytes, one after another.
use Rattle.std.specs.Prelude.{ℕ, zero, suc, ◌+◌, ◌*◌, List, [], ◌∷◌, ◌++◌, slice_range}

-- record n of these bytes
abbrev pub twelve_at : List ℕ → ℕ → List ℕ
twelve_at bytes n = slice_range bytes (12 * n) (12 * n + 12)

-- the first n records of these bytes
abbrev pub first_twelves : List ℕ → ℕ → List (List ℕ)
first_twelves bytes zero = []
first_twelves bytes (suc n) = first_twelves bytes n ++ twelve_at bytes n ∷ []
