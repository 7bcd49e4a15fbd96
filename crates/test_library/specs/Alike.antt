-- Two libraries that are given the same calls.
use Rattle.std.specs.Prelude.{ℕ}
use Rattle.record_layout.specs.Schema.{Schema}
use Rattle.indexed_file.specs.World.{World}
use Rattle.indexed_file.specs.Clients.{IsOpenWith}

-- unit u is open with this schema in both libraries
pub record AreAlike (world other : World) (u : ℕ) (schema : Schema) : Type 0 where
  pub one : IsOpenWith world u schema
  pub another : IsOpenWith other u schema
