use Rattle.std.proofs.Common.{◌≡◌, take}
use Rattle.io_state.proofs.file_name.text_name.Given as goal

-- the name so far is the text so far
abbrev pub invariant-loop-byte : goal.invariant-loop-byte
invariant-loop-byte l = l.name.bytes ≡ take l.byte-index l.text
