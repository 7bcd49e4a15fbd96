use Rattle.std.proofs.Common.{[], refl, sym, subst}
use Rattle.record_layout.specs.Schema.{IsSchema}
use Rattle.file_building.specs.Entries.{AreFronts}
use Rattle.file_building.proofs.EntryLemmas.{no_fronts}
use Rattle.file_building.proofs.file_builder.FileBuilder.new.Goals as goal

pub returns : goal.returns
returns c = record {
  schema_is = c.copy.ensures;
  begun = λ pages free. record {
    is_schema = subst IsSchema (sym c.copy.ensures) c.heap_shape-shape.ensures.schema;
    rising = tt;
    lengths = tt;
    rows = c.new.ensures.begun c.copy.result pages free;
    fronts = λ all. subst (AreFronts c.copy.result []) (sym c.new-2.ensures) (no_fronts c.copy.result);
    last = c.new-3.ensures;
    count = refl;
  };
}
