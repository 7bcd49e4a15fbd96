-- What is read of the input, and of the files that words name.
use Rattle.std.specs.Prelude.{◌≡◌, ◌≢◌, ◌⊎◌, ◌<◌, ℕ, ◌==◌, if◌then◌else◌, List, [], ◌∷◌, ◌++◌, take, length}
use Rattle.std.specs.Prelude.{Option, Some, None, option_map}
use Rattle.std.specs.Prelude.{Result, IfOk, IfErr, MatchResult, codes}
use Rattle.std.specs.Global.{Vec}
use Rattle.std.specs.Io.KnownBytes.{Appends}
use denote.Ref.{Bor}
use Rattle.std.specs.Option.{IfSome}
use Rattle.clap.specs.Words.{Text}
use Rattle.file_checker.specs.Sound.{asked_in}
use Rattle.system_files.specs.Front.{IsFrontRead, IsTextRead, EndsInLongLine}
use Rattle.folder_shelf.specs.Calls.{Call, taken, taken_shared}
use Rattle.folder_shelf.specs.Reading.{ByReads}
use Rattle.folder_shelf.specs.SystemState.{SystemState}
use Rattle.command_support.specs.Status.{status_of}
use Rattle.command_support.specs.declared.fault.CommandFault.{CommandFault}
use Rattle.command_support.specs.declared.fault.CommandFault.TheVariants.{Output}
use Rattle.command_support.specs.declared.outcome.Outcome.{Outcome}

-- the bytes are all of what a word names, or the first `most` of it: a hyphen is what the input had
-- left, and no call was made for it; any other word is a path, and the one call that was made gave
-- them of the file there
pub record IsFrontOfNamed (most : ℕ) (calls : List Call) (input : Option (List ℕ)) (word bytes : List ℕ)
    : Type 0 where
  pub of_input : word ≡ codes "-" → IsFrontRead most input bytes × (calls ≡ [])
  pub of_file : (word ≡ codes "-" → ⊥) → calls ≡ taken word most (Some bytes) ∷ []

-- a deck is read so, up to one byte more than the longest has
abbrev pub IsDeckNamed : List Call → Option (List ℕ) → (word bytes : List ℕ) → Type 0
IsDeckNamed calls input word bytes = IsFrontOfNamed 1048577 calls input word bytes

-- a deck was read so, if one is given, and otherwise no call was made
abbrev pub IsDeckReadBy : List Call → Option (List ℕ) → (deck : Option Text) → Type 0
IsDeckReadBy calls input None = calls ≡ []
IsDeckReadBy calls input (Some deck) = (bytes : List ℕ) × IsDeckNamed calls input deck bytes

-- no record has a line of so many bytes
abbrev pub longest_line : ℕ
longest_line = 1048576

-- a text is that of the file of a path: the one call that was made gave it, and asked for more
-- bytes than the file has, or it ends in the midst of a line that is too long for any record
abbrev pub IsTextTaken : List Call → (path text : List ℕ) → Type 0
IsTextTaken calls path text = (most : ℕ) × (calls ≡ taken path most (Some text) ∷ [])
    × ((length text < most) ⊎ EndsInLongLine longest_line text)

-- so the text that a word names: a hyphen is what the input had left, and any other word a path
pub record IsTextNamed (calls : List Call) (input : Option (List ℕ)) (word text : List ℕ) : Type 0 where
  pub of_input : word ≡ codes "-" → IsTextRead longest_line input text × (calls ≡ [])
  pub of_file : (word ≡ codes "-" → ⊥) → IsTextTaken calls word text

-- how many bytes of a file are asked for, by its first ones: those of the first page, and of the
-- others that it counts
abbrev pub asked_by : (first : List ℕ) → ℕ
asked_by first = if length first == 4096 then asked_in first else 4096

-- the calls by which these bytes of a file came, the newest in front: the first page alone, then as
-- many as it counts. Both begin alike
abbrev pub counted_calls : (path bytes : List ℕ) → List Call
counted_calls path bytes = taken_shared path (asked_by (take 4096 bytes)) (Some bytes)
    ∷ taken_shared path 4096 (Some (take 4096 bytes)) ∷ []

-- the calls by which no bytes of a file came: the first page did not, or those that it counts did
-- not, or they do not begin alike
abbrev pub IsUnreadBy : (path : List ℕ) → List Call → Type 0
IsUnreadBy path calls = (calls ≡ taken_shared path 4096 None ∷ [])
    ⊎ ((first : List ℕ) × (told : Option (List ℕ))
    × (calls ≡ taken_shared path (asked_by first) told ∷ taken_shared path 4096 (Some first) ∷ [])
    × IfSome told (λ bytes. take 4096 bytes ≢ first))

-- behind other calls one was made, which gave the first page of the file of a path, or all that it
-- has where that is less, and this is so of these bytes
abbrev pub OfFirstPage : (path : List ℕ) → (before calls : List Call) → (IsSo : List ℕ → Type 0) → Type 0
OfFirstPage path before calls IsSo = (bytes : List ℕ)
    × (calls ≡ taken_shared path 4096 (Some bytes) ∷ before) × IsSo bytes

-- so of the bytes that the first page counts
abbrev pub OfCountedFile : (path : List ℕ) → (before calls : List Call) → (IsSo : List ℕ → Type 0) → Type 0
OfCountedFile path before calls IsSo = (bytes : List ℕ)
    × (calls ≡ counted_calls path bytes ++ before) × IsSo bytes

-- this is so of the bytes of the deck that a word names
abbrev pub OfNamedDeck : List Call → Option (List ℕ) → (word : List ℕ) → (IsSo : List ℕ → Type 0) → Type 0
OfNamedDeck calls input word IsSo = (bytes : List ℕ) × IsDeckNamed calls input word bytes × IsSo bytes

-- a word that may be given
abbrev pub word_in : Option (Bor (List ℕ)) → Option (List ℕ)
word_in word = option_map (λ text. text.now) word

-- a system was asked by calls that only read, and by no others, and this is so of them
abbrev pub ReadBy : {S : Type 0} → (state : S → SystemState) → (old new : S) → (IsSo : List Call → Type 0) → Type 0
ReadBy state old new IsSo = ByReads IsSo (state old) (state new)

-- a value of which this is so; or the input, the output or memory failed
abbrev pub GivesSuch : {X : Type 0} → (IsSo : X → Type 0) → Result X CommandFault → Type 0
GivesSuch IsSo result = MatchResult result IsSo (λ fault. status_of fault ≡ 4)

-- so of what was done, by these calls
pub record DoesBy (IsSo : List Call → Outcome → Type 0) (result : Result Outcome CommandFault) (calls : List Call)
    : Type 0 where
  pub right : IfOk result (IsSo calls)
  pub fault : IfErr result (λ fault. status_of fault ≡ 4)

-- what a word names was read, or the first `most` bytes of it; and of the input nothing, unless the
-- word is a hyphen
pub record ReadsNamed
    {I : Type 0} (most : ℕ) (left : I → Option (List ℕ)) (word : List ℕ) (old new : I)
    (result : Result (Vec ℕ) CommandFault) (calls : List Call) : Type 0 where
  pub bytes : GivesSuch (λ bytes. IsFrontOfNamed most calls (left old) word bytes.items) result
  pub unread : (word ≡ codes "-" → ⊥) → new ≡ old

-- so of a deck
abbrev pub ReadsDeckNamed : {I : Type 0} → (left : I → Option (List ℕ)) → (word : List ℕ) → (old new : I)
    → Result (Vec ℕ) CommandFault → List Call → Type 0
ReadsDeckNamed left word old new result calls = ReadsNamed 1048577 left word old new result calls

-- so of a text
pub record ReadsTextNamed
    {I : Type 0} (left : I → Option (List ℕ)) (word : List ℕ) (old new : I)
    (result : Result (Vec ℕ) CommandFault) (calls : List Call) : Type 0 where
  pub text : GivesSuch (λ text. IsTextNamed calls (left old) word text.items) result
  pub unread : (word ≡ codes "-" → ⊥) → new ≡ old

-- the bytes came that the first page of the file of a path counts; or they did not
pub record ReadsCounted {E : Type 0} (path : List ℕ) (result : Result (Vec ℕ) E) (calls : List Call)
    : Type 0 where
  pub whole : IfOk result (λ bytes. calls ≡ counted_calls path bytes.items)
  pub unread : IfErr result (λ _. IsUnreadBy path calls)

-- a text was written, and that is what was done; or the output failed
pub record WritesWhole {W : Type 0} (text : List ℕ) (done : Outcome) (contents : W → Option (List ℕ))
    (old new : W) (result : Result Outcome CommandFault) : Type 0 where
  pub outcome : IfOk result (λ outcome. outcome ≡ done)
  pub written : IfOk result (λ _. Appends (contents old) (contents new) text)
  pub fault : IfErr result (λ fault. fault ≡ Output)
