-- Requests that only read. All of this is ours.
use Rattle.std.specs.Prelude.{Bool, true, false, List, ℕ, Option, Some, None, IsTrue}
use Rattle.deck_runner.specs.Reads.{only_reads}
use Rattle.serve.specs.Request.{Asked, Describing, Performing, Releasing}
use Rattle.serve.specs.Reading.{request_in}

-- a request for a statement that only reads: READ, READ NEXT or START
abbrev pub asks_to_read : Option Asked → Bool
asks_to_read None = false
asks_to_read (Some (Describing d)) = false
asks_to_read (Some (Performing p)) = only_reads p.statement
asks_to_read (Some (Releasing number)) = false

-- the body is that of a request for one of these
abbrev pub AsksOnlyToRead : List ℕ → Type 0
AsksOnlyToRead body = IsTrue (asks_to_read (request_in body))
