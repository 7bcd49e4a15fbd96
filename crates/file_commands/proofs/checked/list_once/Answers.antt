use Rattle.std.proofs.Common.{inl, refl}
use Rattle.folder_shelf.proofs.ReadingLemmas.{by_none}
use Rattle.file_commands.proofs.checked.list_once.Goals as goal

pub returns-in-Err : goal.returns-in-Err
returns-in-Err g c = by_none _ (record { ends = λ _. inl refl; unlisted = λ _ _. refl })
