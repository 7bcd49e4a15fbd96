use Rattle.std.proofs.Common.{subst}
use Rattle.std.specs.Result.{IfErr}
use Rattle.record_layout.specs.Schema.{Schema}
use Rattle.record_layout.specs.SchemaFault.{GivesSchema}
use Rattle.deck_parser.specs.Fault.{IsFault}
use Rattle.file_control.proofs.file.selected_schema.Goals as goal

pub returns-clause-none : goal.returns-clause-none
returns-clause-none c =
    subst (λ entry. IfErr c.schema_of.result (λ refusal. IsFault refusal → (schema : Schema) → GivesSchema c.args.layout.now c.args.least entry.record_key entry.alternate_keys schema → ⊥)) c.selected.view_is c.schema_of.ensures.none
