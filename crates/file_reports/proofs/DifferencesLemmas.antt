-- No line is told exactly where the schemas are the same.
use Rattle.std.proofs.Common.{◌≡◌, ℕ, ◌+◌, ◌==◌, ◌&&◌, Bool, true, false, List, [], ◌∷◌, ◌++◌, codes, if◌then◌else◌, refl, sym, ap, ◌∙◌}
use Rattle.std.specs.Cmp.Lexicographic.{pointwise}
use Rattle.record_layout.specs.declared.schema.KeyKind.{KeyKind}
use Rattle.record_layout.specs.declared.schema.KeyPart.{KeyPart}
use Rattle.record_layout.specs.Schema.{Schema, same_kind, same_part, same_schema}
use Rattle.file_reports.specs.Differences.{record_difference, number_difference, kind_difference, key_difference, key_differences, differences, is_none}

none_of_both : (a b : List ℕ) → is_none (a ++ b) ≡ (is_none a && is_none b)
none_of_both [] b = refl
none_of_both (byte ∷ a) b = refl

both : (a b c d : Bool) → a ≡ c → b ≡ d → (a && b) ≡ (c && d)
both a b c d p q = ap (λ (x : Bool). x && b) p ∙ ap (λ (x : Bool). c && x) q

grouped : (a b c : Bool) → ((a && b) && c) ≡ (a && (b && c))
grouped true b c = refl
grouped false b c = refl

none_if : (same : Bool) (lines : List ℕ) → is_none lines ≡ false → is_none (if same then [] else lines) ≡ same
none_if true lines some = refl
none_if false lines some = some

number_none : (k : ℕ) (name : List ℕ) (file deck : ℕ) → is_none (number_difference k name file deck) ≡ (file == deck)
number_none k name file deck = none_if (file == deck) _ refl

kind_none : (k : ℕ) (file deck : KeyKind) → is_none (kind_difference k file deck) ≡ same_kind file deck
kind_none k file deck = none_if (same_kind file deck) _ refl

key_none : (k : ℕ) (file deck : KeyPart) → is_none (key_difference k file deck) ≡ same_part file deck
key_none k file deck =
    none_of_both (number_difference k (codes " offset ") file.offset deck.offset) _
    ∙ both _ _ _ _ (number_none k (codes " offset ") file.offset deck.offset)
    (none_of_both (number_difference k (codes " length ") file.length deck.length) (kind_difference k file.kind deck.kind)
    ∙ both _ _ _ _ (number_none k (codes " length ") file.length deck.length) (kind_none k file.kind deck.kind))
    ∙ sym (grouped (file.offset == deck.offset) (file.length == deck.length) (same_kind file.kind deck.kind))

keys_none : (k : ℕ) (file deck : List KeyPart) → is_none (key_differences k file deck) ≡ pointwise same_part file deck
keys_none k [] [] = refl
keys_none k (part ∷ file) [] = refl
keys_none k [] (part ∷ deck) = refl
keys_none k (part ∷ file) (other ∷ deck) =
    none_of_both (key_difference k part other) (key_differences (k + 1) file deck)
    ∙ both _ _ _ _ (key_none k part other) (keys_none (k + 1) file deck)

pub none_where_same : (file deck : Schema) → is_none (differences file deck) ≡ same_schema file deck
none_where_same file deck =
    none_of_both (record_difference file deck) (key_differences 0 file.keys deck.keys)
    ∙ both _ _ _ _ (none_if ((file.least == deck.least) && (file.greatest == deck.greatest)) _ refl) (keys_none 0 file.keys deck.keys)
