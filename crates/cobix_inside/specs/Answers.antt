-- What a question is answered, and what that means. All of this is ours.
use Rattle.std.specs.Prelude.{◌≡◌, ◌≢◌, ◌==◌, ◌-ℤ◌, ℕ, ℤ, pos, int_lt, Bool, List, ◌++◌, length, take}
use Rattle.std.specs.Prelude.{Option, Result, Ok, Err, if◌then◌else◌}
use Rattle.std.specs.Int.{w64, cast_signed}
use Rattle.std.specs.Io.KnownBytes.{Appends, Consumes}
use Rattle.std.specs.declared.io.Error.{Error}
use Rattle.std.specs.declared.io.ErrorKind.TheVariants.{WouldBlock}
use Rattle.std.specs.IoError.{error_kind}
use Rattle.std.specs.declared.fs.locks.TryLockError.{TryLockError}
use Rattle.byteorder.specs.Endian.{little_number}
use Rattle.cobix_inside.specs.Questions.{question_bytes}
use Rattle.cobix_inside.specs.declared.question.Question.{Question}

-- the number in 8 bytes, the lowest first, as two's complement
abbrev pub signed_number : List ℕ → ℤ
signed_number bytes = cast_signed w64 (little_number 8 bytes)

-- the next 8 bytes of a reader are this number
abbrev pub GivesNumber : (left left_after : Option (List ℕ)) → ℤ → Type 0
GivesNumber left left_after number =
    (bytes : List ℕ) × (length bytes ≡ 8) × Consumes left left_after bytes × (number ≡ signed_number bytes)

-- the error of the system that a number below 0 stands for; 5 where there is none so low
abbrev pub error_code : ℤ → ℤ
error_code number = if int_lt number (pos 0 -ℤ pos 2147483647) then pos 5 else pos 0 -ℤ number

-- a lock was had where no error came; it is another's where the call would have blocked
abbrev pub IsLockOutcome : Result ℕ Error → Result (Unit {0}) TryLockError → Type 0
IsLockOutcome (Ok n) result = result ≡ Ok tt
IsLockOutcome (Err error) result = (refusal : TryLockError) × (result ≡ Err refusal)
    × (error_kind error ≡ WouldBlock → refusal ≡ TryLockError.WouldBlock)
    × (error_kind error ≢ WouldBlock → refusal ≡ TryLockError.Error error)

-- a stream before a call and after it: the bytes that a reader has left, or that a writer holds
pub record Stream : Type 0 where
  pub before : Option (List ℕ)
  pub after : Option (List ℕ)

abbrev pub stream : {A : Type 0} → (bytes_of : A → Option (List ℕ)) → (old new : A) → Stream
stream bytes_of old new = record { before = bytes_of old; after = bytes_of new }

-- the bytes of the question were written, no more and no fewer, and these bytes were read
abbrev pub Asks : (input output : Stream) → Question → List ℕ → Type 0
Asks input output question answer =
    Appends output.before output.after (question_bytes question) × Consumes input.before input.after answer

-- the question was asked, and this number told
abbrev pub IsNumberTold : (input output : Stream) → Question → ℕ → Type 0
IsNumberTold input output question n = (answer : List ℕ) × (length answer ≡ 8)
    × Asks input output question answer × (signed_number answer ≡ pos n)

-- it was asked, and no error was told
abbrev pub IsDone : (input output : Stream) → Question → Type 0
IsDone input output question = (n : ℕ) × IsNumberTold input output question n

-- it was asked, and told is 1, or another number
abbrev pub IsYesTold : (input output : Stream) → Question → Bool → Type 0
IsYesTold input output question is_one =
    (n : ℕ) × IsNumberTold input output question n × (is_one ≡ (n == 1))

-- it was asked, and told are so many bytes, and these
abbrev pub IsToldBytes : (input output : Stream) → Question → List ℕ → Type 0
IsToldBytes input output question bytes = (number : List ℕ) × (length number ≡ 8)
    × Asks input output question (number ++ bytes) × (signed_number number ≡ pos (length bytes))

-- it was asked, and told is the front of these bytes, so many
abbrev pub FillsBy : (input output : Stream) → Question → List ℕ → ℕ → Type 0
FillsBy input output question bytes n = IsToldBytes input output question (take n bytes)
