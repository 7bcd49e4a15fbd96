use Rattle.std.proofs.Common.{◌≡◌, ◌++◌, ℕ, List, length}
use denote.Text.{Utf8}
use denote.Shadow.{shadow}
use Rattle.command_support.specs.Cuts.{between_commas, AreNumbers}
use Rattle.command_support.proofs.cuts.read_cuts.Given as goal

-- the texts that were read so far are these numbers, and the others are those of the rest
abbrev pub invariant-more : goal.invariant-more
invariant-more l = record {
  text : shadow (Utf8 l.rest);
  read : (done : List (List ℕ)) × (between_commas l.fn.text ≡ done ++ between_commas l.rest) × AreNumbers done l.cuts.items;
}

abbrev pub decreases-more : goal.decreases-more
decreases-more l = length l.rest
