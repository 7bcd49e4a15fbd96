use Rattle.std.proofs.Common.{◌≡◌, ◌++◌, take, flat_map, string_bytes}
use Rattle.deck_listing.specs.Listing.{file_lines}
use Rattle.deck_listing.proofs.listing.add_files.Given as goal

abbrev pub invariant-loop-file : goal.invariant-loop-file
invariant-loop-file l = string_bytes l.text ≡ string_bytes l.fn.text ++ flat_map file_lines (take l.file-index l.files)
