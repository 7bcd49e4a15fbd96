use Rattle.file_checker.proofs.ToldLemmas.{closed_is_told, sound_is_told}
use Rattle.file_checker.proofs.law.sound_files_are_told.Goals as goal

pub returns : goal.returns
returns c = record { sound = sound_is_told; closed = closed_is_told }
