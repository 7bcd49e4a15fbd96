-- A load of a new file that is built, and not written by WRITEs. All of this is ours.
use Rattle.std.specs.Prelude.{◌≡◌, ◌⊎◌, ◌<◌, ◌^◌, ℕ, ◌+◌, Bool, not, ◌&&◌, nat_lt, List, Option, Some, None, IsTrue, Result, Ok, Err, ⊤, []}
use Rattle.indexed_file.specs.World.{Absent}
use Rattle.io_state.specs.declared.fault.Fault.{Fault}
use Rattle.io_state.specs.declared.status.Status.{Status}
use Rattle.io_state.specs.declared.status.Status.TheVariants.{Successful, PermanentError}
use Rattle.file_building.specs.declared.built_end.FileBuilt.{FileBuilt}
use Rattle.file_building.specs.declared.built_end.FileBuilt.TheVariants.{Closed as BuiltClosed, Unclosed, OutOfOrder, Clash}
use Rattle.page_store.specs.Gate.{IsRefused}
use Rattle.page_store.specs.ShelfState.{ShelfState}
use Rattle.record_layout.specs.Schema.{Schema}
use Rattle.shelf_run.specs.Files.{reads_of}
use Rattle.record_text.specs.declared.form.Form.{Form}
use Rattle.record_text.specs.declared.mistake.LineMistake.{LineMistake}
use Rattle.record_text.specs.Header.{header_lines}
use Rattle.record_loading.specs.declared.end.LinesEnd.{LinesEnd}
use Rattle.record_loading.specs.declared.end.LinesEnd.TheVariants.{Loaded as LinesLoaded, NoRecord}
use Rattle.record_loading.specs.Loading.{Listing}
use Rattle.record_loading.specs.Loaded.{LeavesFile, EndsLoad, TellsLoadEnd, KeepsOtherNames, IsSafeLoad}
use Rattle.record_loading.specs.Passing.{LoadSource}
use Rattle.record_loading.specs.declared.rejected.RejectedLine.{RejectedLine}
use Rattle.record_loading.specs.declared.built_load.BuildTry.{BuildTry}
use Rattle.record_loading.specs.declared.built_load.BuildTry.TheVariants.{Unmade, Begun, Ended}
use Rattle.record_loading.specs.declared.end.Load.TheVariants.{New}
use Rattle.record_loading.specs.declared.end.LoadEnd.{LoadEnd}
use Rattle.record_loading.specs.declared.end.LoadEnd.TheVariants.{NotOpened, Opened}
use Rattle.record_loading.specs.declared.options.LoadOptions.{LoadOptions}
use Rattle.record_loading.specs.declared.shelf_end.ShelfEnd.{ShelfEnd}
use Rattle.record_loading.specs.declared.shelf_end.ShelfEnd.TheVariants.{IsThere, Loaded}
use Rattle.record_loading.specs.declared.shelf_end.ShelfFault.{ShelfFault}

-- a load with these options may be built: it ends at the first line that it cannot take, and memory for the
-- entries is granted
abbrev pub may_be_built : LoadOptions → Bool
may_be_built options = not options.keep_going && not options.replace && nat_lt 0 options.memory

-- lines ended so, of which so many gave a record, and of which the next has this mistake, if one was met
abbrev pub IsLinesEnd : Form → (skip records : ℕ) → Option LineMistake → LinesEnd → Type 0
IsLinesEnd form skip records None end = end ≡ LinesLoaded records 0 0
IsLinesEnd form skip records (Some mistake) end = header_lines form + skip + records + 1 < 2 ^ 64
    → end ≡ NoRecord (header_lines form + skip + records + 1) mistake

-- how many records a file has that was built, and what its closing is answered by
abbrev pub counted_of : Result FileBuilt Fault → Option (ℕ × Status)
counted_of (Ok (BuiltClosed records)) = Some (records, Successful)
counted_of (Ok (Unclosed records fault)) = Some (records, PermanentError)
counted_of (Ok OutOfOrder) = None
counted_of (Ok Clash) = None
counted_of (Err fault) = None

-- there is no file, or it is refused
abbrev pub IsNotMade : Option (List ℕ) → Type 0
IsNotMade c = (c ≡ None) ⊎ IsRefused c

-- the file was begun, and what is there of it is refused; or it was built, and a load of these lines ended so
abbrev pub EndsTry : Schema → Listing → (seen : Option (List ℕ)) → BuildTry → Type 0
EndsTry schema list seen Unmade = ⊤
EndsTry schema list seen Begun = IsNotMade seen
EndsTry schema list seen (Ended end) = LeavesFile schema New list Absent end seen

-- no file was changed
abbrev pub ChangesNoFile : (old new : ShelfState) → BuildTry → Type 0
ChangesNoFile old new Unmade = new.file ≡ old.file
ChangesNoFile old new Begun = ⊤
ChangesNoFile old new (Ended end) = ⊤

-- no name is attached where the load did not end
abbrev pub HasNoNameUnlessEnded : (names : List (List ℕ)) → BuildTry → Type 0
HasNoNameUnlessEnded names Unmade = names ≡ []
HasNoNameUnlessEnded names Begun = names ≡ []
HasNoNameUnlessEnded names (Ended end) = ⊤

-- what came of a try stays, where the name was taken from the shelf, or did not have to be; else the load
-- is told to have failed
abbrev pub IsDetached : (tried detached : BuildTry) → Type 0
IsDetached Unmade detached = (detached ≡ Unmade) ⊎ (detached ≡ Ended (NotOpened PermanentError))
IsDetached Begun detached = (detached ≡ Begun) ⊎ (detached ≡ Ended (NotOpened PermanentError))
IsDetached (Ended end) detached = detached ≡ Ended end

-- a try to build the file of a name, which should have none
pub record TriesToBuild (name : List ℕ) (schema : Schema) (list : Listing) (old new : ShelfState)
    (tried : BuildTry) : Type 0 where
  pub ends : IsTrue new.is_honest → reads_of old name ≡ None → EndsTry schema list (reads_of new name) tried
  pub unmade : ChangesNoFile old new tried
  pub others : KeepsOtherNames name old new
  pub safe : IsSafeLoad name old new

-- what is told of a load that began anew after a try that had begun the file: where OPEN was no success,
-- or memory was wanting before it, it is answered by 30, since the file is no more as it was
abbrev pub end_after_try : Result ShelfEnd ShelfFault → ShelfEnd
end_after_try (Ok IsThere) = IsThere
end_after_try (Ok (Loaded (NotOpened status))) = Loaded (NotOpened PermanentError)
end_after_try (Ok (Loaded (Opened lines closed))) = Loaded (Opened lines closed)
end_after_try (Err fault) = Loaded (NotOpened PermanentError)

-- a load into a file that a try had begun ended so, of lines of which some were told: as a load of a new
-- file does from each shelf on which the name had no file
abbrev pub EndsAgain : (name : List ℕ) → Schema → Listing → (then : ShelfState) → ShelfEnd → (new : ShelfState) → Type 0
EndsAgain name schema list then end new = (old : ShelfState) → (IsTrue new.is_honest → reads_of old name ≡ None)
    → (IsTrue new.is_honest → IsNotMade (reads_of then name)) → EndsLoad name schema New list old end new

-- so it ended, and what it keeps
pub record LoadsAgain {R : Type 0} (Tells : R → R → RejectedLine → List ℕ → Type 0) (log log_after : R)
    (name : List ℕ) (schema : Schema) (source : LoadSource) (then new : ShelfState) (end : ShelfEnd) : Type 0 where
  pub ends : TellsLoadEnd Tells log log_after
      (λ told. EndsAgain name schema (record { source = source; told = told })) then end new
  pub others : KeepsOtherNames name then new
  pub safe : IsSafeLoad name then new
