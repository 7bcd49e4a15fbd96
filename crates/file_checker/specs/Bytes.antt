-- The pages of a file that were read into a list, one after another.
use Rattle.std.specs.Prelude.{◌≡◌, ℕ, ◌<◌, ◌≤◌, ◌+◌, ◌*◌, Bool, true, false, List, [], Option, Result}
use Rattle.std.specs.Prelude.{IfOk, IfErr, length, take, flat_map, slice_index_or}
use Rattle.std.specs.Option.{IfSome}
use Rattle.std.specs.Io.KnownBytes.{Consumes, IsAtEnd, Keeps}
use Rattle.pages.specs.Each.{Each}
use Rattle.page_store.specs.DeviceFile.{page_of_bytes}
use Rattle.file_checker.specs.declared.verdict.CheckFault.{CheckFault}
use Rattle.file_checker.specs.declared.verdict.CheckFault.TheVariants.{Input, Memory}

-- a reader has fewer bytes left than n
abbrev pub HasLess : ℕ → Option (List ℕ) → Type 0
HasLess n known = IfSome known (λ bytes. length bytes < n)

-- it had n bytes, which were read
pub record HasGiven (before after : Option (List ℕ)) (n : ℕ) : Type 0 where
  pub bytes : List ℕ
  pub given : Consumes before after bytes
  pub many : length bytes ≡ n

-- it had fewer than n bytes that were read
pub record HasGivenLess (before after : Option (List ℕ)) (n : ℕ) : Type 0 where
  pub bytes : List ℕ
  pub given : Consumes before after bytes
  pub few : length bytes < n

-- What a call leaves that is to read n bytes: they came, as it tells of them, or there were too few,
-- and no more are left; for want of input, fewer were read.
pub record ReadsOrEnds (n : ℕ) (Came : Option (List ℕ) → Option (List ℕ) → Type 0)
    (before after : Option (List ℕ)) (result : Result Bool CheckFault) : Type 0 where
  pub whole : IfOk result (λ whole. whole ≡ true → Came before after)
  pub short : IfOk result (λ whole. whole ≡ false → HasLess n before)
  pub end : IfOk result (λ whole. whole ≡ false → IsAtEnd after)
  pub input : IfErr result (λ fault. (fault ≡ Input) × HasGivenLess before after n)

-- a call that is to read a page
abbrev pub ReadsPageOrEnds : (page : List ℕ) → (before after : Option (List ℕ)) → Result Bool CheckFault
    → Type 0
ReadsPageOrEnds page before after result =
    ReadsOrEnds 4096 (λ old new. Consumes old new page) before after result

-- a call that is to read so many pages, which nobody keeps
abbrev pub SkipsOrEnds : (count : ℕ) → (before after : Option (List ℕ)) → Result Bool CheckFault → Type 0
SkipsOrEnds count before after result =
    ReadsOrEnds (4096 * count) (λ old new. HasGiven old new (4096 * count)) before after result

-- for want of input, nothing was read
abbrev pub KeepsOnInput : (before after : Option (List ℕ)) → CheckFault → Type 0
KeepsOnInput before after fault = (fault ≡ Input) × Keeps before after

-- a call that reads the bytes that came into the front of a part: none at the end
pub record TakesPart (before after : Option (List ℕ)) (old new : List ℕ)
    (result : Result ℕ CheckFault) : Type 0 where
  pub within : IfOk result (λ n. n ≤ length new)
  pub long : length new ≡ length old
  pub bytes : IfOk result (λ n. Consumes before after (take n new))
  pub end : IfOk result (λ n. n ≡ 0 → 0 < length old → IsAtEnd after)
  pub input : IfErr result (KeepsOnInput before after)

-- it had some whole pages, so many at most, that were read
pub record HasGivenPages (before after : Option (List ℕ)) (most : ℕ) : Type 0 where
  pub count : ℕ
  pub some : 1 ≤ count
  pub few : count ≤ most
  pub given : HasGiven before after (4096 * count)

-- Where the reading of so many pages ends without an answer, what was read: for want of input,
-- fewer bytes than they have; for want of memory, whole pages.
abbrev pub ReadingBreaksOff : Option (List ℕ) → Option (List ℕ) → ℕ → CheckFault → Type 0
ReadingBreaksOff before after count Input = HasGivenLess before after (4096 * count)
ReadingBreaksOff before after count Memory = HasGivenPages before after count

-- the bytes of pages, one page after another
abbrev pub bytes_of_pages : List (List ℕ) → List ℕ
bytes_of_pages list = flat_map (λ page. page) list

-- it had these pages, which were read
pub record AreRead (before after : Option (List ℕ)) (list : List (List ℕ)) : Type 0 where
  pub given : Consumes before after (bytes_of_pages list)
  pub whole : Each (λ page. length page ≡ 4096) list

-- where these pages are all that came before, this is so of what there was
abbrev pub WhereRead : Option (List ℕ) → List (List ℕ) → (Option (List ℕ) → Type 0) → Type 0
WhereRead after list fact = (known : Option (List ℕ)) → AreRead known after list → fact known

-- where the first list is of all pages that came before, the second is of all that came until now
abbrev pub ReadsOn : Option (List ℕ) → Option (List ℕ) → List (List ℕ) → List (List ℕ) → Type 0
ReadsOn before after list more = WhereRead before list (λ known. AreRead known after more)

-- a call that is to read pages behind those of a list until there are so many: they came
abbrev pub ComesWhole : (before after : Option (List ℕ)) → (old new : List (List ℕ)) → Result Bool CheckFault
    → Type 0
ComesWhole before after old new result =
    IfOk result (λ whole. whole ≡ true → ReadsOn before after old new)

-- or there were too few
abbrev pub FindsTooFew : (count : ℕ) → (before : Option (List ℕ)) → (old : List (List ℕ))
    → Result Bool CheckFault → Type 0
FindsTooFew count before old result =
    IfOk result (λ whole. whole ≡ false → WhereRead before old (HasLess (4096 * count)))

-- or it gave up
abbrev pub BreaksOffAt : (count : ℕ) → (before after : Option (List ℕ)) → (old : List (List ℕ))
    → Result Bool CheckFault → Type 0
BreaksOffAt count before after old result =
    IfErr result (λ fault. WhereRead before old (λ known. ReadingBreaksOff known after count fault))

-- these are the first pages of a file
pub record AreFirstPages (bytes : List ℕ) (list : List (List ℕ)) : Type 0 where
  pub enough : 4096 * length list ≤ length bytes
  pub each : (n : ℕ) → n < length list → page_of_bytes bytes n ≡ slice_index_or list n []

-- these are all whole pages of a file
pub record AreAllPages (bytes : List ℕ) (list : List (List ℕ)) : Type 0 where
  pub first : AreFirstPages bytes list
  pub all : length bytes < 4096 + 4096 * length list

-- these are so many of the first pages of a list
pub record AreFrontOf (list : List (List ℕ)) (count : ℕ) (front : List (List ℕ)) : Type 0 where
  pub front_is : front ≡ take count list
  pub enough : count ≤ length list
