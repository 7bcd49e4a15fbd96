-- What a look, or the opening of a file, leaves in a unit, and what is answered.
use Rattle.std.specs.Prelude.{Result, Ok, Err}
use Rattle.io_state.specs.declared.fault.Fault.{Fault}
use Rattle.indexed_file.specs.declared.answer.Seen.{Seen}
use Rattle.indexed_file.specs.declared.answer.Seen.TheVariants.{Absent, Unsound, Sound}
use Rattle.shelf_library.specs.declared.look.HeaderLook.{HeaderLook}
use Rattle.shelf_library.specs.declared.look.HeaderLook.TheVariants.{NoFile, Refused, Accepted}
use Rattle.shelf_library.specs.declared.shelf_file.ShelfFile.{ShelfFile}
use Rattle.shelf_library.specs.declared.held.Held.{Held}
use Rattle.shelf_library.specs.declared.held.Held.TheVariants.{Nothing, Looked, Opened}

abbrev pub held_by : HeaderLook → Held
held_by NoFile = Nothing
held_by Refused = Nothing
held_by (Accepted header) = Looked header

abbrev pub held_after : Result HeaderLook Fault → Held
held_after (Ok look) = held_by look
held_after (Err fault) = Nothing

abbrev pub seen_by : HeaderLook → Seen
seen_by NoFile = Absent
seen_by Refused = Unsound
seen_by (Accepted header) = Sound header.schema

abbrev pub seen_after : Result HeaderLook Fault → Result Seen Fault
seen_after (Ok look) = Ok (seen_by look)
seen_after (Err fault) = Err fault

abbrev pub held_open : Result ShelfFile Fault → Held
held_open (Ok file) = Opened file
held_open (Err fault) = Nothing

abbrev pub answer_open : Result ShelfFile Fault → Result (Unit {0}) Fault
answer_open (Ok file) = Ok tt
answer_open (Err fault) = Err fault
