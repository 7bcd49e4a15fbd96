-- A question as bytes, row for row of its table. All of this is ours.
use Rattle.std.specs.Prelude.{ℕ, List, [], ◌∷◌, ◌++◌, length, flat_map}
use Rattle.byteorder.specs.Endian.{little_bytes}
use Rattle.cobix_inside.specs.declared.question.Opening.{Opening}
use Rattle.cobix_inside.specs.declared.question.Opening.TheVariants.{ToRead, ToWrite, New}
use Rattle.cobix_inside.specs.declared.question.Question.{Question}
use Rattle.cobix_inside.specs.declared.question.Question.TheVariants.{Open, Close, Look, Measure, Read, Write}
use Rattle.cobix_inside.specs.declared.question.Question.TheVariants.{Sync, Share, Claim, Release, Names}

-- how a file is opened
abbrev pub opening_code : Opening → ℕ
opening_code ToRead = 0
opening_code ToWrite = 1
opening_code New = 2

-- what is asked, the file, where or how, and how many
abbrev pub question_numbers : Question → List ℕ
question_numbers (Open opening path) = 0 ∷ 0 ∷ opening_code opening ∷ length path.now ∷ []
question_numbers (Close file) = 1 ∷ file ∷ 0 ∷ 0 ∷ []
question_numbers (Look path) = 2 ∷ 0 ∷ 0 ∷ length path.now ∷ []
question_numbers (Measure file) = 3 ∷ file ∷ 0 ∷ 0 ∷ []
question_numbers (Read file at count) = 4 ∷ file ∷ at ∷ count ∷ []
question_numbers (Write file at bytes) = 5 ∷ file ∷ at ∷ length bytes.now ∷ []
question_numbers (Sync file) = 6 ∷ file ∷ 0 ∷ 0 ∷ []
question_numbers (Share file) = 7 ∷ file ∷ 0 ∷ 0 ∷ []
question_numbers (Claim file) = 8 ∷ file ∷ 0 ∷ 0 ∷ []
question_numbers (Release file) = 9 ∷ file ∷ 0 ∷ 0 ∷ []
question_numbers (Names file path) = 10 ∷ file ∷ 0 ∷ length path.now ∷ []

-- the path, or the bytes that are to be written
abbrev pub follows : Question → List ℕ
follows (Open opening path) = path.now
follows (Close file) = []
follows (Look path) = path.now
follows (Measure file) = []
follows (Read file at count) = []
follows (Write file at bytes) = bytes.now
follows (Sync file) = []
follows (Share file) = []
follows (Claim file) = []
follows (Release file) = []
follows (Names file path) = path.now

-- the whole question
abbrev pub question_bytes : Question → List ℕ
question_bytes question = flat_map (little_bytes 8) (question_numbers question) ++ follows question

-- that for as many bytes of a file, from a place on, as there are in a room
abbrev pub read_for : (file at : ℕ) → (room : List ℕ) → Question
read_for file at room = Read file at (length room)
