use Rattle.std.proofs.Common.{ℕ, ◌∙◌, ap, length, subst}
use Rattle.record_layout.specs.Schema.{Schema}
use Rattle.open_file.specs.Fields.{file_schema}
use Rattle.file_building.specs.Opening.{OpensBuilt}
use Rattle.file_building.proofs.CopiedOpeningLemmas.{as_many, opens_like}
use Rattle.file_building.proofs.copied_opening.open_copy.Goals as goal

pub open_parts-requires : goal.open_parts-requires
open_parts-requires c = record {
  many = ap (λ (s : Schema). length s.keys) c.schema.ensures
      ∙ as_many c.args.source.now c.args.heap.now c.args.prime.now c.args.alternates.now.items c.requires.shaped c.requires.many;
}

pub returns : goal.returns
returns c =
    let source = c.args.source.now in
    let heap = c.args.heap.now in
    let prime = c.args.prime.now in
    let alternates = c.args.alternates.now.items in
    let opens = subst (λ (s : Schema). OpensBuilt s c.next_stamp.result heap prime alternates c.open_parts.result) c.schema.ensures c.open_parts.ensures in
    opens_like source heap prime alternates c.requires.shaped c.requires.many c.open_parts.result
    (subst (λ (n : ℕ). OpensBuilt (file_schema source) n heap prime alternates c.open_parts.result) c.next_stamp.ensures opens)
