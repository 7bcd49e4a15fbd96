-- What a client knows of the units of a library.
use Rattle.std.specs.Prelude.{ℕ, ◌<◌}
use Rattle.indexed_file.specs.World.{World}
use Rattle.indexed_file.specs.Clients.{IsNotOpen}

-- no unit below count is open
abbrev pub AreShut : World → ℕ → Type 0
AreShut world count = (u : ℕ) → u < count → IsNotOpen world u
