-- When a file may be changed.
use Rattle.std.specs.Prelude.{Bool, true, false, IsTrue, is_some, is_none}
use Rattle.system_files.specs.declared.kept_file.Lock.{Lock}
use Rattle.system_files.specs.declared.kept_file.Lock.TheVariants.{Nothing, Shared, Exclusive}
use Rattle.system_files.specs.declared.kept_file.KeptFile.{KeptFile}
use Rattle.system_files.specs.declared.kept_folder.KeptFolder.{KeptFolder}

-- a lock that no other run has too
abbrev pub is_exclusive : Lock → Bool
is_exclusive Nothing = false
is_exclusive (Shared seen) = false
is_exclusive Exclusive = true

-- this run alone reads and writes the file
abbrev pub is_held : {F : Type 0} → KeptFile F → Bool
is_held file = is_exclusive file.lock

-- the folder is open, and no sync of it failed
pub record IsOpenFolder {F : Type 0} (folder : KeptFolder F) : Type 0 where
  pub reached : IsTrue (is_some folder.file)
  pub sound : IsTrue (is_none folder.lost)
