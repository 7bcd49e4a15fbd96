-- The first bytes of a reader.
use Rattle.std.proofs.Common.{◌≡◌, ℕ, Bool, true, List, [], ◌∷◌, ◌++◌, take, Option, Some, None, option_map, Result, Ok, Err, if◌then◌else◌, refl, sym, ap, subst, ◌∙◌, append-nil}
use Rattle.std.specs.Io.KnownBytes.{Appends}
use Rattle.std.specs.Option.{IfSome}
use Rattle.open_file.specs.declared.first_page.Header.{Header}
use Rattle.file_reports.specs.declared.first_page.Refusal.{Refusal}
use Rattle.record_layout.specs.Schema.{Schema, same_schema}
use Rattle.file_reports.specs.SchemaListing.{read_front, read_of_file, TellsHeader}
use Rattle.file_reports.specs.Comparing.{TellsDifferences}
use Rattle.file_reports.specs.declared.comparing.Comparison.TheVariants.{Same, Different}
use Rattle.file_reports.specs.Differences.{differences, is_none}
use Rattle.file_reports.proofs.DifferencesLemmas.{none_where_same}

first_bytes : (known : Option (List ℕ)) (n : ℕ) (old new : List ℕ) → old ≡ [] → IfSome (option_map (take n) known) (λ xs. new ≡ old ++ xs)
    → IfSome known (λ all. new ≡ take n all)
first_bytes None n old new none read = tt
first_bytes (Some all) n old new none read = read ∙ ap (λ (l : List ℕ). l ++ take n all) none

-- what is read of a reader's first n bytes, into a list that was empty
pub first_read : (known at : Option (List ℕ)) (limit n : ℕ) (old new : List ℕ) → at ≡ known → limit ≡ n → old ≡ []
    → IfSome (option_map (take limit) at) (λ xs. new ≡ old ++ xs) → IfSome known (λ all. new ≡ take n all)
first_read known at limit n old new same is none read =
    first_bytes known n old new none
    (subst (λ (m : ℕ). IfSome (option_map (take m) known) (λ xs. new ≡ old ++ xs)) is
    (subst (λ (a : Option (List ℕ)). IfSome (option_map (take limit) a) (λ xs. new ≡ old ++ xs)) same read))

-- nothing is written of a page that is refused
pub refused : (known out : Option (List ℕ)) (first : List ℕ) (why : Refusal) → IfSome known (λ all. first ≡ take 4096 all) → Err why ≡ read_front first
    → IfSome known (λ bytes. TellsHeader out out (read_of_file bytes) (Err why))
refused None out first why is read = tt
refused (Some all) out first why is read = subst (λ (r : Result Header Refusal). TellsHeader out out r (Err why)) (read ∙ ap read_front is) (refl, refl)

pub not_compared : (known out : Option (List ℕ)) (deck : Schema) (first : List ℕ) (why : Refusal) → IfSome known (λ all. first ≡ take 4096 all) → Err why ≡ read_front first
    → IfSome known (λ bytes. TellsDifferences deck out out (read_of_file bytes) (Err why))
not_compared None out deck first why is read = tt
not_compared (Some all) out deck first why is read = subst (λ (r : Result Header Refusal). TellsDifferences deck out out r (Err why)) (read ∙ ap read_front is) (refl, refl)

-- nothing is told where the schemas are the same
is_empty : (lines : List ℕ) → is_none lines ≡ true → lines ≡ []
is_empty [] none = refl
is_empty (byte ∷ lines) none = absurd (cc)

unchanged : (out : Option (List ℕ)) (lines : List ℕ) → lines ≡ [] → Appends out out lines
unchanged None lines none = tt
unchanged (Some xs) lines none = rw none (sym (append-nil xs))

pub told_same : (out : Option (List ℕ)) (header : Header) (deck : Schema) (same : Bool) → same ≡ same_schema header.schema deck → same ≡ true → TellsDifferences deck out out (Ok header) (Ok Same)
told_same out header deck same is met = (
  sym (ap (λ (b : Bool). if b then Same else Different) (sym is ∙ met)),
  unchanged out (differences header.schema deck) (is_empty (differences header.schema deck) (none_where_same header.schema deck ∙ sym is ∙ met)),
)
