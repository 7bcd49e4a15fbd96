-- A connector that goes with the one unit of a library.
use Rattle.std.specs.Prelude.{◌≡◌, length}
use Rattle.indexed_file.specs.World.{World}
use Rattle.verbs.specs.Held.{Held}
use Rattle.verbs.specs.Fits.{Fits}

-- the connector goes with unit 0; its records have 240 bytes, and two keys
pub record IsReadyConnector (held : Held) (world : World) : Type 0 where
  pub fits : Fits held world 0
  pub long : held.connector.schema.greatest ≡ 240
  pub keys : length held.connector.schema.keys ≡ 2
