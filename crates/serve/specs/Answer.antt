-- The frame of an answer, row for row of its table. All of this is ours.
use Rattle.std.specs.Prelude.{◌≡◌, ◌≤◌, ℕ, List, [], ◌∷◌, ◌++◌, drop, length}
use Rattle.byteorder.specs.Endian.{big_bytes}
use Rattle.io_state.specs.Status.{digits_of}
use Rattle.io_state.specs.declared.status.Status.{Status}
use Rattle.serve.specs.declared.answer.SessionAnswer.{SessionAnswer}
use Rattle.serve.specs.declared.answer.SessionAnswer.TheVariants.{Refused, Done, Performed}
use Rattle.serve.specs.declared.request_refusal.RequestRefusal.{RequestRefusal}
use Rattle.serve.specs.declared.request_refusal.RequestRefusal.TheVariants.{NoRequest, TooLong, Number, Description}
use Rattle.serve.specs.declared.request_refusal.RequestRefusal.TheVariants.{Name, Open, Memory, Key}

-- the number of a refusal
abbrev pub refusal_code : RequestRefusal → ℕ
refusal_code NoRequest = 1
refusal_code TooLong = 2
refusal_code Number = 3
refusal_code Description = 4
refusal_code Name = 5
refusal_code Open = 6
refusal_code Memory = 7
refusal_code Key = 8

-- what is told: that a request is refused, that a file was described or released, or what a verb
-- answered, with the record that it delivered (no bytes where it delivered none)
pub data Told : Type 0 where
  Refuses : (refusal : RequestRefusal) → Told
  Does : Told
  Tells : (status : Status) → (bytes : List ℕ) → Told

-- an answer without where its record lies in memory
abbrev pub told_of : SessionAnswer → Told
told_of (Refused refusal) = Refuses refusal
told_of Done = Does
told_of (Performed status bytes) = Tells status bytes.now

abbrev pub record_told : SessionAnswer → List ℕ
record_told (Refused refusal) = []
record_told Done = []
record_told (Performed status bytes) = bytes.now

abbrev pub answer_body : Told → List ℕ
answer_body (Refuses refusal) = 0 ∷ refusal_code refusal ∷ []
answer_body Does = 1 ∷ []
answer_body (Tells status bytes) = 2 ∷ digits_of status ++ bytes

-- a frame: the length of its body in two bytes, and the body
abbrev pub framed : List ℕ → List ℕ
framed body = big_bytes 2 (length body) ++ body

-- a room holds so many bytes at least, and those behind them are as they were
pub record KeepsBehind (count : ℕ) (room room_after : List ℕ) : Type 0 where
  pub within : count ≤ length room_after
  pub others : drop count room_after ≡ drop count room
