-- What is told of a file by its first page, and written. All of this is ours.
use Rattle.std.specs.Prelude.{◌≡◌, ◌≢◌, ℕ, List, take, length, nat_lt, codes, bytes_eq, Option, Some, None}
use Rattle.std.specs.Prelude.{Result, Ok, Err, IfSome, IfOk, if◌then◌else◌}
use Rattle.std.specs.Io.KnownBytes.{Appends}
use Rattle.open_file.specs.declared.first_page.Header.{Header}
use Rattle.open_file.specs.FirstPageReading.{header_in}
use Rattle.file_reports.specs.SchemaLines.{all_header_lines}
use Rattle.file_reports.specs.declared.first_page.Refusal.{Refusal}
use Rattle.file_reports.specs.declared.first_page.Refusal.TheVariants.{Short, Gate, Header as NoHeader}
use Rattle.file_reports.specs.declared.schema_listing.ListingFault.{ListingFault}
use Rattle.file_reports.specs.declared.schema_listing.ListingFault.TheVariants.{Output, Memory}

-- the numbers by which reasons are told are those of a check
abbrev pub number_of_refusal : Refusal → ℕ
number_of_refusal Short = 1
number_of_refusal Gate = 2
number_of_refusal NoHeader = 3

-- why a page that is not accepted has no header: it begins as a first page whose gate is open, or not
abbrev pub refusal_of : List ℕ → Refusal
refusal_of page = if bytes_eq (take 8 page) (codes "DCOBIXIF") then Gate else NoHeader

abbrev pub header_or : Refusal → Option Header → Result Header Refusal
header_or refusal None = Err refusal
header_or refusal (Some header) = Ok header

-- the header that a first page has, or why it has none
abbrev pub read_off : List ℕ → Result Header Refusal
read_off page = header_or (refusal_of page) (header_in page)

-- the same of the first bytes of a file, as many as a page has where there are so many
abbrev pub read_front : List ℕ → Result Header Refusal
read_front first = if nat_lt (length first) 4096 then Err Short else read_off (take 4096 first)

-- the same of all bytes of a file
abbrev pub read_of_file : List ℕ → Result Header Refusal
read_of_file bytes = read_front (take 4096 bytes)

-- what was written by what was read: the lines of the header, or nothing
abbrev pub TellsHeader : Option (List ℕ) → Option (List ℕ) → Result Header Refusal → Result Unit Refusal
    → Type 0
TellsHeader before after (Ok header) (Ok _) = Appends before after (all_header_lines header)
TellsHeader before after (Err why) (Err told) = (told ≡ why) × (after ≡ before)
TellsHeader before after read told = ⊥

-- an answer of a call that writes lines: where it lacks memory, it leaves the writer as it was
abbrev pub WritesSchemaLines : {W : Type 0} → (old new : W) → (before after : Option (List ℕ)) → List ℕ
    → Result Unit ListingFault → Type 0
WritesSchemaLines old new before after lines (Ok _) = Appends before after lines
WritesSchemaLines old new before after lines (Err fault) =
    fault ≢ Output → (fault ≡ Memory) × (new ≡ old)

-- what was written by what a reader has, where that is known
abbrev pub TellsOfReader : (known before after : Option (List ℕ)) → Result (Result Unit Refusal) ListingFault
    → Type 0
TellsOfReader known before after result =
    IfSome known (λ bytes. IfOk result (TellsHeader before after (read_of_file bytes)))
