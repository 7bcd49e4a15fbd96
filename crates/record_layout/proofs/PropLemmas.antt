-- That these are the keys of a schema has one proof at most.
use Rattle.std.proofs.Common.{List, [], ◌∷◌}
use Rattle.std.proofs.Props.{props}
use Rattle.record_layout.specs.declared.schema.KeyPart.{KeyPart}
use Rattle.record_layout.specs.Schema.{AreKeys}

pub keys_prop : (keys : List KeyPart) → IsProp (AreKeys keys)
keys_prop [] = hlevel props
keys_prop (prime ∷ alternates) = hlevel props
