-- What is asked of a system about its files and folders, and what it answers.
use Rattle.std.specs.Prelude.{ℕ, zero, suc, Bool, false, not, List, [], ◌∷◌, Option, Some, None, is_some}
use Rattle.std.specs.Prelude.{length, slice_index, ◌==◌, if◌then◌else◌}

pub data Call : Type 0 where
  -- it was looked whether a file of this path is there, and whether it was, if that was told
  looked : List ℕ → Option Bool → Call
  -- the file of this path was to be made, and whether it was
  made : List ℕ → Bool → Call
  -- its size was asked for, and what was told
  measured : List ℕ → Option ℕ → Call
  -- bytes of it were asked for: whether they came, from where, and the bytes
  read : List ℕ → Bool → ℕ → List ℕ → Call
  -- it was to be held for changes, and whether it was
  held : List ℕ → Bool → Call
  -- bytes were to be written into it: where, how many of them were taken, and the bytes
  written : List ℕ → ℕ → ℕ → List ℕ → Call
  -- it was to be synced, and whether it was
  flushed : List ℕ → Bool → Call
  -- units are files of the folder of this path from now on
  entered : List ℕ → Call
  -- it was asked whether this path is that of a folder, and whether it is, if that was told
  asked_of_folder : List ℕ → Option Bool → Call
  -- the first so many bytes of the file of this path were asked for, and all of those that it has,
  -- if they came
  taken : List ℕ → ℕ → Option (List ℕ) → Call
  -- the same, as long as no run changes the file
  taken_shared : List ℕ → ℕ → Option (List ℕ) → Call
  -- the numbers of those standard streams that are closed were to be taken, and whether they were
  streams_held : Bool → Call

-- the kinds of calls, as the code counts them
abbrev pub call : ℕ → ℕ → ℕ → (path bytes : List ℕ) → Call
call zero at n path bytes = looked path (if n == 1 then Some (at == 1) else None)
call (suc zero) at n path bytes = made path (n == 1)
call (suc (suc zero)) at n path bytes = measured path (if n == 1 then Some at else None)
call (suc (suc (suc zero))) at n path bytes = read path (n == 1) at bytes
call (suc (suc (suc (suc zero)))) at n path bytes = written path at n bytes
call (suc (suc (suc (suc (suc zero))))) at n path bytes = flushed path (n == 1)
call (suc (suc (suc (suc (suc (suc zero)))))) at n path bytes = held path (n == 1)
call (suc (suc (suc (suc (suc (suc (suc zero))))))) at n path bytes = entered path
call (suc (suc (suc (suc (suc (suc (suc (suc zero)))))))) at n path bytes =
    asked_of_folder path (if n == 1 then Some (at == 1) else None)
call (suc (suc (suc (suc (suc (suc (suc (suc (suc zero))))))))) at n path bytes =
    taken path at (if n == 1 then Some bytes else None)
call (suc (suc (suc (suc (suc (suc (suc (suc (suc (suc zero)))))))))) at n path bytes =
    taken_shared path at (if n == 1 then Some bytes else None)
call (suc (suc (suc (suc (suc (suc (suc (suc (suc (suc (suc more))))))))))) at n path bytes =
    streams_held (n == 1)

abbrev pub call_of : List ℕ → (path bytes : List ℕ) → Call
call_of numbers path bytes =
    call (slice_index numbers 0) (slice_index numbers 1) (slice_index numbers 2) path bytes
