use Rattle.folder_shelf.proofs.DiskLemmas.{each_disk, each_way}
use Rattle.folder_shelf.proofs.laws.folder_laws.Goals as goal

pub returns-clause-steps : goal.returns-clause-steps
returns-clause-steps c = each_disk

pub returns-clause-disks : goal.returns-clause-disks
returns-clause-disks c = each_way
