use Rattle.pages.proofs.PartLemmas.{parted}
use Rattle.pages.proofs.law.marks_part_the_pages.Goals as goal

pub returns : goal.returns
returns c = parted
