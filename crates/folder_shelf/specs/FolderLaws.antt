-- What the files of a disk may be after calls and their answers, as steps from the one to the next:
-- what no code can read of a disk is any of these ways.
use Rattle.std.specs.Prelude.{◌≡◌, ℕ, Bool, true, List, [], ◌∷◌}
use Rattle.page_store.specs.DeviceFile.{DeviceFile}
use Rattle.folder_shelf.specs.Calls.{Call}
use Rattle.folder_shelf.specs.Replay.{Unseen, DiskFiles, after_system_call, replay}

-- a disk on which a file that could not be made is there, or is not, and a write that failed leaves
-- these bytes
abbrev pub disk_so : DiskFiles → Bool → List ℕ → Unseen
disk_so files came torn = record { first = files.file; came = λ earlier. came; torn = λ earlier. torn }

-- a call after these earlier ones, with its answer, may lead from the one to the other
pub record MayLeadTo (earlier : List Call) (call : Call) (before next : DiskFiles) : Type 0 where
  pub came : Bool
  pub torn : List ℕ
  pub is : next ≡ after_system_call (disk_so before came torn) earlier call before

-- these files, before the first call
abbrev pub files_at_first : (List ℕ → DeviceFile) → DiskFiles
files_at_first files = record { file = files; is_honest = true }

-- calls with their answers, the newest in front, may lead from the one to the other
abbrev pub MayEndIn : (List ℕ → DeviceFile) → List Call → DiskFiles → Type 0
MayEndIn first [] files = files ≡ files_at_first first
MayEndIn first (call ∷ earlier) files =
    (before : DiskFiles) × MayEndIn first earlier before × MayLeadTo earlier call before files

-- on each disk the calls end in what `replay` says
abbrev pub each_disk_goes_so : Type 0
each_disk_goes_so = (disk : Unseen) → (calls : List Call) → MayEndIn disk.first calls (replay disk calls)

-- and in whatever they may end, there is a disk of which `replay` says that
abbrev pub each_way_has_its_disk : Type 0
each_way_has_its_disk = (first : List ℕ → DeviceFile) → (calls : List Call) → (files : DiskFiles)
    → MayEndIn first calls files
    → (disk : Unseen) × (disk.first ≡ first) × (replay disk calls ≡ files)
