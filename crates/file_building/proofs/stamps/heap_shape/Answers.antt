use Rattle.std.proofs.Common.{◌≡◌, ◌*◌, ◌∙◌, ap, rules}
use Rattle.std.specs.Prelude.{count_by}
use Rattle.record_layout.specs.declared.schema.KeyPart.{KeyPart}
use Rattle.record_layout.specs.Schema.{has_duplicates}
use Rattle.open_file.proofs.CreatingLemmas.{stamps_of_keys}
use Rattle.file_building.proofs.stamps.heap_shape.Goals as goal

pub returns-clause-shape : goal.returns-clause-shape
returns-clause-shape c = record {
  stamps =
      let counted : c.count-stamped.result ≡ count_by (λ (part : KeyPart). has_duplicates part) c.args.schema.now.keys = search rules in
      ap (λ n. 8 * n) counted ∙ stamps_of_keys c.args.schema.now.keys c.least-least.ensures.schema.keys;
  least = c.least-least.ensures.least;
  greatest = c.greatest.ensures.greatest;
}
