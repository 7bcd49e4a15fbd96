-- The frames of the input. All of this is ours.
use Rattle.std.specs.Prelude.{◌≡◌, ℕ, ◌<◌, ◌≤◌, Bool, true, false, List, [], ◌++◌, length, take, Result, Ok}
use Rattle.std.specs.Prelude.{Err, IfOk, OnErr}
use Rattle.byteorder.specs.Endian.{big_bytes}
use Rattle.serve.specs.Answer.{framed}
use Rattle.streams.specs.Source.{Source, GivesBytes, HasEnded, HasFailed}
use Rattle.serve.specs.declared.input.Next.{Next}
use Rattle.serve.specs.declared.input.Next.TheVariants.{Frame, TooLong, End}
use Rattle.serve.specs.declared.input.InputFailed.{InputFailed}

-- fewer than n bytes were read
pub record GivesLess (n : ℕ) (before after : Source) : Type 0 where
  pub bytes : List ℕ
  pub read : GivesBytes before after bytes
  pub few : length bytes < n

-- bytes came, as many as there was room for at most, and none only at the end; or a read failed
pub record ReadsSome (before after : Source) (room room_after : List ℕ)
    (result : Result ℕ InputFailed) : Type 0 where
  pub within : IfOk result (λ n. n ≤ length room_after)
  pub as_long : length room_after ≡ length room
  pub bytes : IfOk result (λ n. GivesBytes before after (take n room_after))
  pub end : IfOk result (λ n. n ≡ 0 → 0 < length room → HasEnded after)
  pub kept : OnErr result (GivesBytes before after [])
  pub failed : OnErr result (HasFailed after)

-- as many bytes came as there was room for; or fewer, and then the end; or a read failed
pub record ReadsWhole (before after : Source) (room room_after : List ℕ)
    (result : Result Bool InputFailed) : Type 0 where
  pub as_long : length room_after ≡ length room
  pub whole : IfOk result (λ whole. whole ≡ true → GivesBytes before after room_after)
  pub short : IfOk result (λ whole. whole ≡ false → GivesLess (length room) before after)
  pub end : IfOk result (λ whole. whole ≡ false → HasEnded after)
  pub cut : OnErr result (GivesLess (length room) before after)
  pub failed : OnErr result (HasFailed after)

-- a whole frame stands at the front
abbrev pub BeginsWithFrame : List ℕ → Type 0
BeginsWithFrame bytes = (body : List ℕ) × (behind : List ℕ) × (bytes ≡ framed body ++ behind)

-- less than a frame: not two bytes, or a length and fewer bytes than it says
pub data IsCutFrame : List ℕ → Type 0 where
  NoLength : (bytes : List ℕ) → length bytes < 2 → IsCutFrame bytes
  NoBody : (size : ℕ) → (bytes : List ℕ) → size ≤ 8192 → length bytes < size
      → IsCutFrame (big_bytes 2 size ++ bytes)

-- what was read is less than a frame
abbrev pub FrameBreaksOff : (before after : Source) → Type 0
FrameBreaksOff before after = (bytes : List ℕ) × IsCutFrame bytes × GivesBytes before after bytes

-- what was read is a length past the limit
abbrev pub IsTooLongFrame : (before after : Source) → Type 0
IsTooLongFrame before after = (size : ℕ) × (8192 < size) × GivesBytes before after (big_bytes 2 size)

-- what came is what was read, with the body in the buffer
abbrev pub Came : (before after : Source) → (buffer : List ℕ) → Result Next InputFailed → Type 0
Came before after buffer (Ok (Frame size)) = (size ≤ 8192)
    × GivesBytes before after (framed (take size buffer))
Came before after buffer (Ok TooLong) = IsTooLongFrame before after
Came before after buffer (Ok End) = FrameBreaksOff before after × HasEnded after
Came before after buffer (Err failed) = FrameBreaksOff before after × HasFailed after
