-- What is told of a file whose schema is held against that of a deck. All of this is ours.
use Rattle.std.specs.Prelude.{◌≡◌, List, ℕ, Option, Result, Ok, Err, IfSome, IfOk, if◌then◌else◌}
use Rattle.std.specs.Io.KnownBytes.{Appends}
use Rattle.record_layout.specs.Schema.{Schema, same_schema}
use Rattle.open_file.specs.declared.first_page.Header.{Header}
use Rattle.file_reports.specs.declared.comparing.Comparison.{Comparison}
use Rattle.file_reports.specs.declared.comparing.Comparison.TheVariants.{Same, Different}
use Rattle.file_reports.specs.declared.first_page.Refusal.{Refusal}
use Rattle.file_reports.specs.declared.schema_listing.ListingFault.{ListingFault}
use Rattle.file_reports.specs.Differences.{differences}
use Rattle.file_reports.specs.SchemaListing.{read_of_file}

-- whether OPEN takes a file of the one schema for one of the other: status 39 is answered where it does not
abbrev pub comparison_of : Schema → Schema → Comparison
comparison_of file deck = if same_schema file deck then Same else Different

-- what was written by what was read: the differences, or nothing
abbrev pub TellsDifferences : Schema → (before after : Option (List ℕ)) → Result Header Refusal
    → Result Comparison Refusal → Type 0
TellsDifferences deck before after (Ok header) (Ok told) =
    (told ≡ comparison_of header.schema deck) × Appends before after (differences header.schema deck)
TellsDifferences deck before after (Err why) (Err told) = (told ≡ why) × (after ≡ before)
TellsDifferences deck before after read told = ⊥

-- what was written by what a reader has, where that is known
abbrev pub ComparesReader : Schema → (known before after : Option (List ℕ))
    → Result (Result Comparison Refusal) ListingFault → Type 0
ComparesReader deck known before after result =
    IfSome known (λ bytes. IfOk result (TellsDifferences deck before after (read_of_file bytes)))
