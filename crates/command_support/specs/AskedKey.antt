-- The key of a list, by its number or by its name in a deck. All of this is ours.
use Rattle.std.specs.Prelude.{◌≡◌, ◌≢◌, ◌⊎◌, ℕ, ◌≤◌, List, [], Option, Some, None, option_and_then, ⊤}
use Rattle.std.specs.Prelude.{Result, IfOk, IfErr, string_bytes}
use Rattle.clap.specs.Words.{Text as Word}
use Rattle.record_layout.specs.Schema.{key_of_field}
use Rattle.file_control.specs.Description.{FileDesc}
use Rattle.command_words.specs.Asks.{FormText, IsNumber}
use Rattle.command_support.specs.Conditions.{item_with_name}
use Rattle.command_support.specs.DeckFile.{IsDeckAsked}
use Rattle.command_support.specs.declared.fault.CommandFault.{CommandFault}
use Rattle.command_support.specs.declared.fault.CommandFault.TheVariants.{NoSuchKey, LoneKeyName, Memory}
use Rattle.command_support.specs.declared.fault.UnknownKey.{UnknownKey}

-- the word is the number of a key, from 0 to 8
abbrev pub IsKeyNumber : Word → ℕ → Type 0
IsKeyNumber word key = IsNumber 8 word key × (key ≤ 8)

-- it is none, and so a name
abbrev pub IsNoKeyNumber : Word → Type 0
IsNoKeyNumber word = (key : ℕ) → IsKeyNumber word key → ⊥

-- the number of the key of a name in a file of a deck: the key that is the very bytes of the item of that
-- name, as READ and START have it
abbrev pub key_named : FileDesc → (name : Word) → Option ℕ
key_named file name = option_and_then (key_of_field file.schema) (item_with_name file.layout name)

-- the key that a word asks for in a file of a deck: the one of this number, or of this name
abbrev pub IsKeyIn : FileDesc → Word → (key : ℕ) → Type 0
IsKeyIn file word key =
    IsKeyNumber word key ⊎ (IsNoKeyNumber word × (key_named file word ≡ Some key))

-- a key and conditions ask for what only a deck tells: a name, or a condition
abbrev pub WantsDeck : (key : Word) → (conditions : List Word) → Type 0
WantsDeck key conditions = (conditions ≢ []) ⊎ IsNoKeyNumber key

-- the name is told that is of no key of a file of a deck
pub record IsUnknownKey (file : FileDesc) (name : Word) (told : UnknownKey) : Type 0 where
  pub none : key_named file name ≡ None
  pub name_is : string_bytes told.name ≡ name
  pub file_is : told.file.bytes ≡ file.name

-- so it is told; or memory was wanted
abbrev pub TellsUnknownKey : FileDesc → (name : Word) → CommandFault → Type 0
TellsUnknownKey file name (NoSuchKey told) =
    (string_bytes told.name ≡ name) × (told.file.bytes ≡ file.name)
TellsUnknownKey file name Memory = ⊤
TellsUnknownKey file name fault = ⊥

-- why a file of a deck has no key of a word
abbrev pub IsKeyMissing : FileDesc → Word → CommandFault → Type 0
IsKeyMissing file word (NoSuchKey told) = IsNoKeyNumber word × IsUnknownKey file word told
IsKeyMissing file word Memory = ⊤
IsKeyMissing file word fault = ⊥

-- the key that a word asks for was found in a file of a deck, or it has none
pub record FindsAskedKey (file : FileDesc) (word : Word) (result : Result ℕ CommandFault) : Type 0 where
  pub key : IfOk result (IsKeyIn file word)
  pub missing : IfErr result (IsKeyMissing file word)

-- why words ask for no key: it has a name, and there is no deck for it, or a file of the deck has no key of
-- that name
abbrev pub IsKeyRefused : FormText → (key : Word) → CommandFault → Type 0
IsKeyRefused form key LoneKeyName =
    IsNoKeyNumber key × (form.deck ≡ None) × (form.name ≡ None)
IsKeyRefused form key (NoSuchKey told) = IsDeckAsked form.deck form.name × IsNoKeyNumber key
    × ((file : FileDesc) × IsUnknownKey file key told)
IsKeyRefused form key fault = ⊥
