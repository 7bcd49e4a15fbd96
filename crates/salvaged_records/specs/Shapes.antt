-- What the slots of a file have in common. All of this is ours.
use Rattle.std.specs.Prelude.{◌≡◌, drop}
use Rattle.record_layout.specs.Schema.{Schema}
use Rattle.open_file.specs.Stored.{stamps_length}
use Rattle.record_heap.specs.declared.shape.SlotShape.{SlotShape}

-- slots of this shape are those of a file of a schema: they have its lengths, and a stamp for each
-- alternate key that may have duplicates
pub record IsShapeOf (schema : Schema) (shape : SlotShape) : Type 0 where
  pub stamps : shape.stamps ≡ stamps_length (drop 1 schema.keys)
  pub least : shape.least ≡ schema.least
  pub greatest : shape.greatest ≡ schema.greatest
