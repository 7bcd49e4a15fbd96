-- The alternate indexes, changed one after another.
use Rattle.std.proofs.Common.{◌≡◌, ℕ, ◌+◌, ◌==◌, Bool, true, false, List, refl, ap, sym, ◌∙◌}
use Rattle.std.specs.Prelude.{if◌then◌else◌}
use Rattle.std.proofs.lemmas.Bool.{eq-eqb}
use Rattle.record_layout.specs.Schema.{Schema}
use Rattle.indexed_file.specs.File.{Row}
use Rattle.key_index.specs.declared.entry.AltEntry.{AltEntry}
use Rattle.key_index.specs.Entries.{with_alt}
use Rattle.open_file.specs.Parts.{but_at}
use Rattle.file_changes.specs.Adding.{entry_of_record}
use Rattle.file_changes.specs.Replacing.{stays, freed, changed_in, changed_below}
use Rattle.open_file.proofs.OrderLemmas.{either}
use Rattle.open_file.proofs.PartsLemmas.{from_eq}
use Rattle.file_changes.proofs.LevelLemmas.{none_below, same_below, one_below}

pub but_here : (j : ℕ) (others : List AltEntry) (entries : ℕ → List AltEntry) → but_at j others entries j ≡ others
but_here j others entries = rw (eq-eqb j j refl) refl

-- of two changes at one place the later holds
pub but_twice : (j : ℕ) (first second : List AltEntry) (entries : ℕ → List AltEntry) (i : ℕ) → but_at j second entries i ≡ but_at j second (but_at j first entries) i
but_twice j first second entries i =
    either (i == j) _ (λ yes. rw yes refl) (λ no. rw no refl)

but_itself : (j : ℕ) (entries : ℕ → List AltEntry) (i : ℕ) → but_at j (entries j) entries i ≡ entries i
but_itself j entries i = either (i == j) _ (λ yes. rw yes (ap entries (sym (from_eq i j yes)))) (λ no. rw no refl)

-- no index has changed yet
pub changed_start : (schema : Schema) (stamp : ℕ) (old : Row) (bytes : List ℕ) (entries : ℕ → List AltEntry) (i : ℕ) → changed_below schema stamp old bytes 0 entries i ≡ entries i
changed_start schema stamp old bytes entries i = none_below (changed_in schema stamp old bytes) entries i

pub changed_here : (schema : Schema) (stamp : ℕ) (old : Row) (bytes : List ℕ) (j : ℕ) (entries : ℕ → List AltEntry) → changed_below schema stamp old bytes j entries j ≡ entries j
changed_here schema stamp old bytes j entries = same_below (changed_in schema stamp old bytes) entries j

-- one more index, which changes or does not
changed_one : (schema : Schema) (stamp : ℕ) (old : Row) (bytes : List ℕ) (j : ℕ) (entries : ℕ → List AltEntry) (b : Bool)
    → stays schema old.bytes bytes j ≡ b → (i : ℕ) → changed_below schema stamp old bytes (j + 1) entries i
    ≡ but_at j (if b then changed_below schema stamp old bytes j entries j else
    with_alt (entry_of_record schema stamp bytes j) (freed schema old j (changed_below schema stamp old bytes j entries j)))
    (changed_below schema stamp old bytes j entries) i
changed_one schema stamp old bytes j entries b is i =
    let here = changed_below schema stamp old bytes j entries in
    one_below (changed_in schema stamp old bytes) entries j i
    ∙ ap (λ b. but_at j (if b then here j else with_alt (entry_of_record schema stamp bytes j) (freed schema old j (here j))) here i) is

pub changed_skip : (schema : Schema) (stamp : ℕ) (old : Row) (bytes : List ℕ) (j : ℕ) (entries : ℕ → List AltEntry) → stays schema old.bytes bytes j ≡ true
    → (i : ℕ) → changed_below schema stamp old bytes (j + 1) entries i ≡ changed_below schema stamp old bytes j entries i
changed_skip schema stamp old bytes j entries same i =
    changed_one schema stamp old bytes j entries true same i ∙ but_itself j (changed_below schema stamp old bytes j entries) i

pub changed_step : (schema : Schema) (stamp : ℕ) (old : Row) (bytes : List ℕ) (j : ℕ) (entries : ℕ → List AltEntry) → stays schema old.bytes bytes j ≡ false
    → (i : ℕ) → changed_below schema stamp old bytes (j + 1) entries i
    ≡ but_at j (with_alt (entry_of_record schema stamp bytes j) (freed schema old j (changed_below schema stamp old bytes j entries j))) (changed_below schema stamp old bytes j entries) i
changed_step schema stamp old bytes j entries moves i = changed_one schema stamp old bytes j entries false moves i
