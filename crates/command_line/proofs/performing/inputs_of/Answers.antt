use Rattle.command_line.proofs.InputLemmas.{inputs_given, inputs_no_folder, inputs_no_deck}
use Rattle.command_line.proofs.performing.inputs_of.Goals as goal

pub returns-in-Err-clause-reads : goal.returns-in-Err-clause-reads
returns-in-Err-clause-reads g c = inputs_no_deck _ _ _ _ _ _ _ c.in-Err.fault c.in-Err.ensures

pub returns-in-Ok-folder_at-clause-reads : goal.returns-in-Ok-folder_at-clause-reads
returns-in-Ok-folder_at-clause-reads g c = inputs_given _ _ _ _ _ _ _ _ c.in-Ok.bytes c.in-Ok-folder_at.folder c.in-Ok.ensures c.in-Ok-folder_at.ensures

pub returns-in-Err-folder_at-clause-reads : goal.returns-in-Err-folder_at-clause-reads
returns-in-Err-folder_at-clause-reads g c = inputs_no_folder _ _ _ _ _ _ _ _ c.in-Ok.bytes c.in-Err-folder_at.fault c.in-Ok.ensures c.in-Err-folder_at.ensures
