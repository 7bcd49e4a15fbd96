-- The key of a list.
use Rattle.std.proofs.Common.{◌≡◌, ◌<◌, ℕ, List, [], ◌∷◌, length, Option, Some, None, Bor, refl, sym, ◌∙◌, arith}
use Rattle.std.specs.Prelude.{◌≢◌}
use Rattle.std.specs.Option.{IfSome}
use Rattle.clap.specs.Words.{Text as Word}
use Rattle.file_control.specs.Description.{FileDesc}
use Rattle.command_words.specs.Asks.{IsNumber}
use Rattle.command_support.specs.Conditions.{texts_of}
use Rattle.command_support.specs.AskedKey.{IsKeyNumber, IsNoKeyNumber, key_named, TellsUnknownKey, IsKeyMissing}
use Rattle.command_support.specs.declared.fault.CommandFault.{CommandFault}
use Rattle.command_support.specs.declared.fault.CommandFault.TheVariants.{NoSuchKey, Memory}

-- a word that is no number is that of no key
pub no_number : (word : Word) → ((n : ℕ) → IsNumber 8 word n → ⊥) → IsNoKeyNumber word
no_number word none = λ key is. none key is.0

-- a number past the last key is that of none
pub past_last : (word : Word) (n : ℕ) → IsNumber 8 word n → 8 < n → IsNoKeyNumber word
past_last word n is past = λ key other.
    let same : key ≡ n = other.0.2 ∙ sym is.2 in
    absurd (omega (arith, past, other.1, same))

-- words that are some, or none, have texts, or none
pub some_texts : (words : List (Bor (List ℕ))) → 0 < length words → texts_of words ≢ []
some_texts [] some none = absurd (omega (arith, some))
some_texts (word ∷ words) some none = absurd (cc)

pub no_texts : (words : List (Bor (List ℕ))) → length words ≡ 0 → texts_of words ≡ []
no_texts [] none = refl
no_texts (word ∷ words) none = absurd (omega (arith, none))

-- a key that is read of its word, where there are no conditions
pub numbered : (word : Word) (words : List (Bor (List ℕ))) (key : Option ℕ) → length words ≡ 0 → IfSome key (IsKeyNumber word) → IfSome key (λ number. IsKeyNumber word number × (texts_of words ≡ []))
numbered word words None none is = tt
numbered word words (Some number) none is = (is, no_texts words none)

-- what is told of a name that is of no key
pub key_missing : (file : FileDesc) (word : Word) (fault : CommandFault) → IsNoKeyNumber word → key_named file word ≡ None → TellsUnknownKey file word fault → IsKeyMissing file word fault
key_missing file word (NoSuchKey told) name none tells = (name, record { none = none; name_is = tells.0; file_is = tells.1 })
key_missing file word Memory name none tells = tt
key_missing file word fault name none tells = absurd tells
