-- The encoding of a text that is listed or loaded, as a word asks for it. All of this is ours.
use Rattle.std.specs.Prelude.{◌≡◌, ◌≢◌, ◌⊎◌, ℕ, List, [], Option, Some, codes}
use Rattle.std.specs.Io.KnownBytes.{Appends}
use Rattle.clap.specs.Words.{Text as Word}
use Rattle.streams.specs.InUtf8.{in_utf_8}
use Rattle.streams.specs.InAscii.{in_ascii}
use Rattle.streams.specs.declared.backslashes.Backslashes.{Backslashes}
use Rattle.streams.specs.declared.backslashes.Backslashes.TheVariants.{One, Two}
use Rattle.command_line.specs.declared.encoding.Encoding.{Encoding}
use Rattle.command_line.specs.declared.encoding.Encoding.TheVariants.{Ascii, Utf8}

-- the word that asks for an encoding
abbrev pub encoding_word : Encoding → Word
encoding_word Ascii = codes "ascii"
encoding_word Utf8 = codes "utf-8"

-- the word asks for none
abbrev pub IsNoEncodingWord : Word → Type 0
IsNoEncodingWord word = (word ≢ codes "ascii") × (word ≢ codes "utf-8")

-- so many backslashes begin an escape in the form that a word asks for: in JSON two, in others one
abbrev pub AreBackslashesOf : (form : Word) → Backslashes → Type 0
AreBackslashesOf form One = form ≢ codes "json"
AreBackslashesOf form Two = form ≡ codes "json"

-- a text of which this is so, as of one that is alone in a writer, was written in UTF-8
pub record WritesInUtf8 (form : Word) (before behind : Option (List ℕ))
    (IsSo : (before behind : Option (List ℕ)) → Type 0) : Type 0 where
  pub text : List ℕ
  pub backslashes : Backslashes
  pub are : AreBackslashesOf form backslashes
  pub so : IsSo (Some []) (Some text)
  pub written : Appends before behind (in_utf_8 backslashes text)

-- this is so of what was written; where UTF-8 is asked for, of the text that was written in UTF-8
abbrev pub WritesIn : (encoding form : Word) → (before behind : Option (List ℕ))
    → (IsSo : (before behind : Option (List ℕ)) → Type 0) → Type 0
WritesIn encoding form before behind IsSo = ((encoding ≡ codes "ascii") × IsSo before behind)
    ⊎ ((encoding ≡ codes "utf-8") × WritesInUtf8 form before behind IsSo)

-- a text is that list in ASCII for which a text in UTF-8 stands, of which this is so
pub record ReadsInUtf8 (form : Word) (IsSo : List ℕ → Type 0) (text : List ℕ) : Type 0 where
  pub given : List ℕ
  pub backslashes : Backslashes
  pub are : AreBackslashesOf form backslashes
  pub so : IsSo given
  pub is : text ≡ in_ascii backslashes given

-- this is so of a text; where UTF-8 is asked for, of the text in UTF-8 that stands for it
abbrev pub IsTextIn : (encoding form : Word) → (IsSo : List ℕ → Type 0) → (text : List ℕ) → Type 0
IsTextIn encoding form IsSo text = ((encoding ≡ codes "ascii") × IsSo text)
    ⊎ ((encoding ≡ codes "utf-8") × ReadsInUtf8 form IsSo text)
