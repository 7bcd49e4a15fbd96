use Rattle.std.proofs.Common.{[]}
use Rattle.deck_reader.proofs.LineLemmas.{lines_of_procedure}
use Rattle.deck_reader.proofs.division.each_has_its_line.Goals as goal

pub returns : goal.returns
returns c = λ names placed words s. lines_of_procedure names placed words [] s
