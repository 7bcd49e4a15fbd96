-- No words have two descriptions.
use Rattle.std.proofs.Common.{◌≡◌, ℕ, zero, suc, ◌<◌, List, [], ◌∷◌, ◌++◌, length, drop, Option, Some, None, refl, sym, ap, subst, ◌∙◌, arith, get_or}
use Rattle.std.specs.Prelude.{Result, Ok}
use Rattle.std.specs.List.{Contains, AllPairs}
use Rattle.std.proofs.lemmas.Option.{same_Some}
use Rattle.std.proofs.lemmas.List.Sorted.{Contains-permutation, IsPermutation-sym}
use Rattle.record_layout.specs.declared.schema.KeyPart.{KeyPart}
use Rattle.record_layout.specs.declared.fault.SchemaFault.{SchemaFault}
use Rattle.record_layout.specs.Layout.{Placed, length_of}
use Rattle.record_layout.specs.Schema.{Schema, IsSchema, AreKeys}
use Rattle.record_layout.specs.SchemaFault.{KeyClause, HasKeys, GivesSchema, keys_given}
use Rattle.record_layout.proofs.NamedKeysLemmas.{gives_keys}
use Rattle.deck_entries.specs.FileControlEntry.{FileControlEntry}
use Rattle.deck_parser.specs.Word.{Word}
use Rattle.file_control.specs.declared.description.Description.{Description}
use Rattle.deck_entries.specs.declared.divisions.Divisions.{Divisions}
use Rattle.deck_entries.specs.declared.record_length.RecordLength.{RecordLength}
use Rattle.deck_entries.specs.declared.record_length.RecordLength.TheVariants.{Fixed, Varying}
use Rattle.deck_entries.specs.FileDescription.{FileDescription, StorageEntry}
use Rattle.file_control.specs.Description.{FileDesc, LengthItem, IsFile, AreFiles, AreItems, DependsOn, with_names, least_length}
use Rattle.file_control.specs.Whole.{Describe, IsDescription}
use Rattle.file_control.proofs.LayoutLemmas.{one_layout}
use Rattle.file_control.proofs.LengthItemLemmas.{one_count}
use Rattle.file_control.proofs.FilesLemmas.{one_after}
use Rattle.file_control.proofs.WholeLemmas.{reads_complete, described}
use Rattle.deck_entries.proofs.DivisionRestLemmas.{same_count}

-- ---- keys

abbrev Rising : List KeyPart → Type 0
Rising keys = AllPairs (λ a b. a.offset < b.offset) keys

tail_rising : (key : KeyPart) (keys : List KeyPart) → Rising (key ∷ keys) → Rising keys
tail_rising key keys h = λ i j d before within. h (suc i) (suc j) d (omega (arith, before)) (omega (arith, within))

-- a key behind another one begins behind it
behind_it : (key : KeyPart) (keys : List KeyPart) (other : KeyPart) (k : ℕ) → Rising (key ∷ keys) → k < length keys → get_or keys k other ≡ other → key.offset < other.offset
behind_it key keys other k h within e = subst (λ (p : KeyPart). key.offset < p.offset) e (h 0 (suc k) other (omega arith) (omega (arith, within)))

-- the first keys of two rising lists with the same elements are one
same_first : (x : KeyPart) (xs : List KeyPart) (y : KeyPart) (ys : List KeyPart) → Rising (x ∷ xs) → Rising (y ∷ ys) → Contains (y ∷ ys) x → Contains (x ∷ xs) y → x ≡ y
same_first x xs y ys a b (zero, within, e) there = sym e
same_first x xs y ys a b (suc k, within, e) (zero, inside, f) = f
same_first x xs y ys a b (suc k, within, e) (suc j, inside, f) =
    let less = behind_it y ys x k b (omega (arith, within)) e in
    let more = behind_it x xs y j a (omega (arith, inside)) f in
    absurd (omega (arith, less, more))

tail_contains : (x : KeyPart) (xs : List KeyPart) (y : KeyPart) (ys : List KeyPart) → Rising (x ∷ xs) → x ≡ y → (p : KeyPart) → ((q : KeyPart) → Contains (x ∷ xs) q → Contains (y ∷ ys) q) → Contains xs p → Contains ys p
tail_contains x xs y ys a same p all here = by_place (all p (suc here.0, omega (arith, here.1), here.2))
  where
    by_place : Contains (y ∷ ys) p → Contains ys p
    by_place (zero, within, e) =
        let less = behind_it x xs p here.0 a here.1 here.2 in
        let equal = ap (λ (k : KeyPart). k.offset) (same ∙ e) in
        absurd (omega (arith, less, equal))
    by_place (suc k, within, e) = (k, omega (arith, within), e)

same_rising : (xs ys : List KeyPart) → Rising xs → Rising ys → ((p : KeyPart) → Contains xs p → Contains ys p) → ((p : KeyPart) → Contains ys p → Contains xs p) → xs ≡ ys
same_rising [] [] a b f g = refl
same_rising [] (y ∷ ys) a b f g = let none = g y (0, omega arith, refl) in absurd (omega (arith, none.1))
same_rising (x ∷ xs) [] a b f g = let none = f x (0, omega arith, refl) in absurd (omega (arith, none.1))
same_rising (x ∷ xs) (y ∷ ys) a b f g =
    let same = same_first x xs y ys a b (f x (0, omega arith, refl)) (g y (0, omega arith, refl)) in
    let rest = same_rising xs ys (tail_rising x xs a) (tail_rising y ys b) (λ p. tail_contains x xs y ys a same p f) (λ p. tail_contains y ys x xs b (sym same) p g) in
    λ j. same j ∷ rest j

rising_of : (keys : List KeyPart) (prime : KeyPart) (others : List KeyPart) (schema : Schema) → IsSchema schema → schema.keys ≡ prime ∷ others → Rising others
rising_of keys prime others schema is e = (subst AreKeys e is.keys).2

one_keys : (keys : List KeyPart) (a b : Schema) → IsSchema a → IsSchema b → HasKeys a keys → HasKeys b keys → a.keys ≡ b.keys
one_keys [] a b first second h k = absurd h
one_keys (prime ∷ alternates) a b first second h k =
    let there = λ (p : KeyPart) (c : Contains h.0 p). Contains-permutation alternates k.0 p k.2 (Contains-permutation h.0 alternates p (IsPermutation-sym alternates h.0 h.2) c) in
    let back = λ (p : KeyPart) (c : Contains k.0 p). Contains-permutation alternates h.0 p h.2 (Contains-permutation k.0 alternates p (IsPermutation-sym alternates k.0 k.2) c) in
    let same = same_rising h.0 k.0 (rising_of alternates prime h.0 a first h.1) (rising_of alternates prime k.0 b second k.1) there back in
    h.1 ∙ (ap (λ (keys : List KeyPart). prime ∷ keys) same ∙ sym k.1)

same_ok : (r : Result (List KeyPart) SchemaFault) (a b : List KeyPart) → r ≡ Ok a → r ≡ Ok b → a ≡ b
same_ok r a b e f = let k : ◌≡◌ {A = Result (List KeyPart) SchemaFault} (Ok a) (Ok b) = sym e ∙ f in cc

one_schema : (layout : List Placed) (least : ℕ) (prime : List ℕ) (alternates : List KeyClause) (a b : Schema) → IsSchema a → IsSchema b → GivesSchema layout least prime alternates a → GivesSchema layout least prime alternates b → a ≡ b
one_schema layout least prime alternates a b first second h k =
    let keys = same_ok (keys_given layout least prime alternates) h.0 k.0 h.1 k.1 in
    let same = one_keys k.0 a b first second (subst (HasKeys a) keys h.2) k.2 in
    let low = h.3 ∙ sym k.3 in
    let high = h.4 ∙ sym k.4 in
    λ j. record { least = low j; greatest = high j; keys = same j }

-- ---- files

one_place : (storage : List StorageEntry) (lengths : Option RecordLength) (a b : Option ℕ) → DependsOn storage lengths a → DependsOn storage lengths b → a ≡ b
one_place storage None a b h k = h ∙ sym k
one_place storage (Some (Fixed n)) a b h k = h ∙ sym k
one_place storage (Some (Varying lengths)) None b h k = absurd h
one_place storage (Some (Varying lengths)) (Some a) None h k = absurd k
one_place storage (Some (Varying lengths)) (Some a) (Some b) h k = sym h.0 ∙ k.0

one_file : (names : List (List ℕ)) (storage : List StorageEntry) (entry : FileControlEntry) (description : FileDescription) (a b : FileDesc) → IsFile names storage entry description a → IsFile names storage entry description b → a ≡ b
one_file names storage entry description a b first second =
    let layout = one_layout description.items a.layout b.layout first.layout second.layout in
    let least = same_Some a.schema.least b.schema.least (sym first.least ∙ (ap (λ (l : List Placed). least_length description.lengths (length_of l)) layout ∙ second.least)) in
    let clauses = entry.alternate_keys in
    let keys = subst (λ n. GivesSchema b.layout n entry.record_key clauses a.schema) least (subst (λ l. GivesSchema l a.schema.least entry.record_key clauses a.schema) layout (gives_keys a.layout entry.record_key clauses a.schema first.schema first.keys)) in
    let schema = one_schema b.layout b.schema.least entry.record_key clauses a.schema b.schema first.schema second.schema keys (gives_keys b.layout entry.record_key clauses b.schema second.schema second.keys) in
    let name = first.name ∙ sym second.name in
    let file = first.file_name ∙ sym second.file_name in
    let access = first.access ∙ sym second.access in
    let optional = first.optional ∙ sym second.optional in
    let entry_is = first.record_entry ∙ sym second.record_entry in
    let place = one_place storage description.lengths a.depends_on b.depends_on first.depends_on second.depends_on in
    λ j. record { name = name j; file = file j; access = access j; optional = optional j; entry = entry_is j; layout = layout j; schema = schema j; depends_on = place j }

one_files : (descriptions : List FileDescription) (storage : List StorageEntry) (names : List (List ℕ)) (entries : List FileControlEntry) (a b : List FileDesc) (after behind : List (List ℕ)) → AreFiles descriptions storage names entries a after → AreFiles descriptions storage names entries b behind → a ≡ b
one_files descriptions storage names [] a b after behind h k = h.0 ∙ sym k.0
one_files descriptions storage names (entry ∷ entries) [] b after behind h k = absurd h
one_files descriptions storage names (entry ∷ entries) (x ∷ a) [] after behind h k = absurd k
one_files descriptions storage names (entry ∷ entries) (x ∷ a) (y ∷ b) after behind h k =
    let same : k.0 ≡ h.0 = same_Some k.0 h.0 (sym k.1 ∙ h.1) in
    let file = one_file names storage entry h.0 x y h.2 (subst (λ (d : FileDescription). IsFile names storage entry d y) same k.2) in
    let rest = one_files descriptions storage (with_names names h.0.items) entries a b after behind h.3 (subst (λ (d : FileDescription). AreFiles descriptions storage (with_names names d.items) entries b behind) same k.3) in
    λ j. file j ∷ rest j

one_items : (names : List (List ℕ)) (storage : List StorageEntry) (a b : List LengthItem) → AreItems names storage a → AreItems names storage b → a ≡ b
one_items names [] a b h k = h ∙ sym k
one_items names (entry ∷ storage) [] b h k = absurd h
one_items names (entry ∷ storage) (x ∷ a) [] h k = absurd k
one_items names (entry ∷ storage) (x ∷ a) (y ∷ b) h k =
    let name = h.1 ∙ sym k.1 in
    let digits = one_count entry.picture x.digits y.digits h.2 k.2 in
    let rest = one_items (names ++ entry.name ∷ []) storage a b h.3 k.3 in
    λ j. record { name = name j; digits = digits j } ∷ rest j

-- ---- the whole

pub one_whole : (words : List Word) (a b : Description) → IsDescription words a → IsDescription words b → a ≡ b
one_whole words a b h k =
    let rest = drop a.words words in
    let same = described h.0 k.0 words rest (drop b.words words) (reads_complete h.0 words rest h.2 h.3) k.2 k.3 in
    let divisions = h.0 in
    let other = subst (λ (d : Divisions). Describe d b.files b.items) same.0 k.4 in
    let files = one_files divisions.descriptions divisions.storage [] divisions.entries a.files b.files h.4.0 other.0 h.4.1 other.1 in
    let names = one_after divisions.descriptions divisions.storage [] divisions.entries a.files b.files h.4.0 other.0 h.4.1 other.1 in
    let items = one_items h.4.0 divisions.storage a.items b.items h.4.2 (subst (λ ns. AreItems ns divisions.storage b.items) names other.2) in
    let count = same_count words a.words b.words h.1 k.1 (sym same.1) in
    λ j. record { files = files j; items = items j; words = count j }
