-- What the files of an honest disk hold after calls and their answers.
use Rattle.std.specs.Prelude.{ℕ, ◌+◌, ◌==◌, nat_le, Bool, true, false, not, ◌&&◌, ◌||◌, if◌then◌else◌, List}
use Rattle.std.specs.Prelude.{[], ◌∷◌, ◌++◌, length, take, drop, bytes_eq, Some, None, is_some}
use Rattle.page_store.specs.DeviceFile.{DeviceFile, created, wrote, synced, content}
use Rattle.page_store.specs.ShelfState.{ShelfState}
use Rattle.folder_shelf.specs.Calls.{Call, looked, made, measured, read, held, written, flushed, entered}
use Rattle.folder_shelf.specs.Calls.{asked_of_folder, taken, taken_shared, streams_held}
use Rattle.folder_shelf.specs.SystemState.{SystemState, file_path}

-- what no code can read of a disk
pub record Unseen : Type 0 where
  -- the file of each path at first
  pub first : List ℕ → DeviceFile
  -- after these calls, the newest in front, a file could not be made: whether it is there
  pub came : List Call → Bool
  -- after these calls a write failed: what it left in its range
  pub torn : List Call → List ℕ

-- the file of each path, and whether each answer was that of the files
pub record DiskFiles : Type 0 where
  pub file : List ℕ → DeviceFile
  pub is_honest : Bool

-- another file of this path
abbrev pub put_file : (List ℕ → DeviceFile) → List ℕ → DeviceFile → List ℕ → DeviceFile
put_file files path f other = if bytes_eq other path then f else files other

-- the last call had the file of this path held for changes
abbrev pub is_held_before : List ℕ → List Call → Bool
is_held_before path (held other true ∷ earlier) = bytes_eq path other
is_held_before path calls = false

-- a call after these earlier ones: what it leaves of its file, and whether its answer, if it has
-- one, was that of the file. Whether a file is held is up to the disk; one that is not may not be
-- written. A write of which not all bytes were taken leaves what the disk says.
abbrev pub after_system_call : Unseen → List Call → Call → DiskFiles → DiskFiles
after_system_call disk earlier (looked path None) m = m
after_system_call disk earlier (looked path (Some there)) m =
    let is_there = is_some (m.file path).seen in
    record m { is_honest = m.is_honest && (if there then is_there else not is_there) }
after_system_call disk earlier (made path ok) m =
    let f = m.file path in
    let seen = if ok || disk.came earlier then Some [] else f.seen in
    record {
      file = put_file m.file path (record { seen = seen; log = f.log ++ created ∷ [] });
      is_honest = m.is_honest && not (is_some f.seen);
    }
after_system_call disk earlier (measured path None) m = m
after_system_call disk earlier (measured path (Some size)) m =
    let f = m.file path in
    record m { is_honest = m.is_honest && (is_some f.seen && (size == length (content f))) }
after_system_call disk earlier (read path ok at bytes) m =
    let f = m.file path in
    let is_within = is_some f.seen && nat_le (at + length bytes) (length (content f)) in
    let are_these = bytes_eq bytes (take (length bytes) (drop at (content f))) in
    record m { is_honest = m.is_honest && (not ok || (is_within && are_these)) }
after_system_call disk earlier (held path ok) m = m
after_system_call disk earlier (written path at n bytes) m =
    let f = m.file path in
    let left = if n == length bytes then bytes else take (length bytes) (disk.torn earlier) in
    let now = take at (content f) ++ left ++ drop (at + length left) (content f) in
    let log = f.log ++ wrote at (length bytes) ∷ [] in
    record {
      file = put_file m.file path (record { seen = Some now; log = log });
      is_honest = m.is_honest
          && (is_held_before path earlier && (is_some f.seen && nat_le at (length (content f))));
    }
after_system_call disk earlier (flushed path ok) m =
    let f = m.file path in
    let log = f.log ++ synced (content f) ∷ [] in
    let now : DeviceFile = record { seen = Some (content f); log = log } in
    record {
      file = if ok then put_file m.file path now else m.file;
      is_honest = m.is_honest && is_some f.seen;
    }
-- ours: what is read of a file beside the units changes none, and is not held against them
after_system_call disk earlier (entered path) m = m
after_system_call disk earlier (asked_of_folder path told) m = m
after_system_call disk earlier (taken path most bytes) m = m
after_system_call disk earlier (taken_shared path most bytes) m = m
after_system_call disk earlier (streams_held done) m = m

-- the newest call is first
abbrev pub replay : Unseen → List Call → DiskFiles
replay disk [] = record { file = disk.first; is_honest = true }
replay disk (call ∷ earlier) = after_system_call disk earlier call (replay disk earlier)

-- what a folder of this path shows after these calls, with units of these names
abbrev pub folder_after : Unseen → (path : List ℕ) → (names : List (List ℕ)) → List Call
    → ShelfState
folder_after disk path names calls =
    let files = replay disk calls in
    record {
      names = names;
      file = λ name. files.file (file_path path name);
      is_honest = files.is_honest;
    }

-- what a shelf over a folder shows on a disk, by what is known of the system
abbrev pub folder_state : Unseen → SystemState → ShelfState
folder_state disk system = folder_after disk system.folder system.names system.calls
