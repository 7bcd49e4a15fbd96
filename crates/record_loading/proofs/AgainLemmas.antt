-- A load that begins anew after a try to build its file.
use Rattle.std.proofs.Common.{◌≡◌, ℕ, true, false, List, [], ◌∷◌, Option, Some, None, Result, Ok, Err, IfOk, OnErr, inl, inr, refl, sym, ap, ◌∙◌, subst, true≢false}
use Rattle.std.specs.Prelude.{IsTrue, ⊤, ◌⊎◌}
use Rattle.indexed_file.specs.World.{Named, Absent, Closed, Unsound, named_in}
use Rattle.io_state.specs.Status.{is_successful}
use Rattle.io_state.specs.declared.modes.OpenMode.TheVariants.{Output}
use Rattle.io_state.specs.declared.statement.FileStatement.TheVariants.{Open}
use Rattle.io_state.specs.declared.status.Status.{Status}
use Rattle.io_state.specs.declared.status.Status.TheVariants.{PermanentError}
use Rattle.page_store.specs.DeviceFile.{DeviceFile}
use Rattle.page_store.specs.Gate.{IsRefused}
use Rattle.page_store.specs.ShelfState.{ShelfState}
use Rattle.page_store.proofs.MomentLemmas.{throughout_last, throughout_then}
use Rattle.record_layout.specs.Schema.{Schema}
use Rattle.shelf_library.specs.Crashes.{IsSoundImage}
use Rattle.shelf_library.specs.Named.{named_of}
use Rattle.shelf_library.proofs.RefusedLemmas.{refused_sound, refused_named}
use Rattle.shelf_run.specs.Files.{Represents, reads_of}
use Rattle.shelf_run.specs.ShelfRun.{LeavesFiles}
use Rattle.shelf_run.specs.Soundness.{files_of}
use Rattle.shelf_run.proofs.FilesLemmas.{represents_sound, named_is, sound_of}
use Rattle.verbs.specs.Connector.{FileState, Outcome, answers}
use Rattle.verbs.specs.Marred.{Step}
use Rattle.verbs.specs.Verbs.{perform}
use Rattle.record_loading.specs.BuiltLoad.{IsNotMade, EndsAgain, end_after_try}
use Rattle.record_loading.specs.declared.end.Load.TheVariants.{New}
use Rattle.record_loading.specs.declared.end.LoadEnd.{LoadEnd}
use Rattle.record_loading.specs.declared.end.LoadEnd.TheVariants.{NotOpened, Opened}
use Rattle.record_loading.specs.declared.rejected.RejectedLine.{RejectedLine}
use Rattle.record_loading.specs.declared.shelf_end.ShelfEnd.{ShelfEnd}
use Rattle.record_loading.specs.declared.shelf_end.ShelfEnd.TheVariants.{IsThere, Loaded}
use Rattle.record_loading.specs.declared.shelf_end.ShelfFault.{ShelfFault}
use Rattle.record_loading.specs.Loaded.{LeavesFile, EndsAnyhow, EndsLoad, TellsLoadEnd, LeavesLoaded, KeepsOtherNames, IsSafeLoad, file_at_first}
use Rattle.record_loading.specs.Loading.{Listing}
use Rattle.record_loading.specs.Passing.{LoadSource}
use Rattle.record_loading.specs.Told.{ToldLine}

-- ---- what a name stands for that has no closed file

abbrev pub IsUnmade : Named → Type 0
IsUnmade Absent = ⊤
IsUnmade Unsound = ⊤
IsUnmade (Closed schema file) = ⊥

pub refused_represents : (c : Option (List ℕ)) → IsRefused c → Represents c Unsound
refused_represents c refused = subst (λ (named : Named). Represents c named) (refused_named c refused) (represents_sound c (refused_sound c refused))

-- so does what is not made
pub unmade : (c : Option (List ℕ)) → IsNotMade c → (named : Named) × IsUnmade named × Represents c named
unmade c (inl none) = (Absent, tt, none)
unmade c (inr refused) = (Unsound, tt, refused_represents c refused)

-- ---- OPEN was no success

module _ (schema : Schema) (list : Listing) (untold : list.told ≡ []) (seen : Option (List ℕ)) where
  -- OPEN is answered by 30, and nothing is there, or a refused file
  pub not_opened : (named : Named) → IsUnmade named → Represents seen named → LeavesFile schema New list Absent (NotOpened PermanentError) seen
  not_opened Absent is represents = record {
    after = file_at_first Absent schema;
    loads = (refl, untold, inr (refl, record { status = refl; leaves = inl refl; memory = λ e. absurd (cc) }));
    of_schema = tt;
    represents = represents;
  }
  not_opened Unsound is represents = record {
    after = record (file_at_first Absent schema) { named = Unsound };
    loads = (refl, untold, inr (refl, record { status = refl; leaves = inr (refl, refl); memory = λ e. absurd (cc) }));
    of_schema = tt;
    represents = represents;
  }
  not_opened (Closed other file) is represents = absurd is

left_by : (schema : Schema) (named : Named) → IsUnmade named → (status : Status) (after : FileState) {Made : Type 0}
    → (answers status after ≡ answers status (file_at_first named schema)) ⊎ (Made × (answers status after ≡ answers status (record (file_at_first named schema) { named = Unsound }))) → IsUnmade after.named
left_by schema named is status after (inl same) = subst IsUnmade (sym (ap (λ (o : Outcome). o.next.named) same)) is
left_by schema named is status after (inr made) = subst IsUnmade (sym (ap (λ (o : Outcome). o.next.named) made.1)) tt

-- an OPEN OUTPUT that was no success leaves no closed file where there was none
left_unmade : (schema : Schema) (named : Named) → IsUnmade named → (status : Status) (after : FileState) → is_successful status ≡ false
    → Step (Open Output) 0 (file_at_first named schema) (answers status after) → IsUnmade after.named
left_unmade schema named is status after fails (inl should) = absurd (true≢false (ap (λ (o : Outcome). is_successful o.status) should ∙ fails))
left_unmade schema named is status after fails (inr mars) = left_by schema named is status after mars.1.leaves

-- a load of a new file, where the name stood for no closed one, is one where it stood for none
pub as_of_none : (schema : Schema) (list : Listing) (named : Named) → IsUnmade named → (end : LoadEnd) (seen : Option (List ℕ)) → LeavesFile schema New list named end seen
    → (again : LoadEnd) → end_after_try (Ok (Loaded end)) ≡ Loaded again → LeavesFile schema New list Absent again seen
as_of_none schema list named is (NotOpened status) seen leaves again same =
    let end : NotOpened PermanentError ≡ again = cc in
    subst (λ (e : LoadEnd). LeavesFile schema New list Absent e seen) end
    (not_opened schema list leaves.loads.1 seen leaves.after.named (left_unmade schema named is status leaves.after leaves.loads.0 leaves.loads.2) leaves.represents)
as_of_none schema list named is (Opened lines closed) seen leaves again same =
    let end : Opened lines closed ≡ again = cc in
    subst (λ (e : LoadEnd). LeavesFile schema New list Absent e seen) end
    (record {
      after = leaves.after;
      loads = record { opened = refl; written = leaves.loads.written; lines_are = leaves.loads.lines_are; close = leaves.loads.close };
      of_schema = tt;
      represents = leaves.represents;
    })

-- ---- one after another

module _ (name : List ℕ) (first then last : ShelfState) where
  pub others_then : KeepsOtherNames name first then → KeepsOtherNames name then last → KeepsOtherNames name first last
  others_then one two other apart = two other apart ∙ one other apart

  pub safe_then : IsSafeLoad name first then → IsSafeLoad name then last → IsSafeLoad name first last
  safe_then one two = record {
    honest = λ honest. one.honest (two.honest honest);
    sound = λ honest other sound. two.sound honest other (one.sound (two.honest honest) other sound);
    no_false_file = λ honest all other sound.
        let before = two.honest honest in
        let here = one.no_false_file before all in
        let now = throughout_last IsSoundImage (first.file name) (then.file name) (here name all) in
        throughout_then IsSoundImage (first.file other) (then.file other) (last.file other) (here other sound)
        (two.no_false_file honest now other (throughout_last IsSoundImage (first.file other) (then.file other) (here other sound)));
  }

-- ---- the load by WRITEs after a try

module _ (name : List ℕ) (schema : Schema) (then last : ShelfState) (sound : IsTrue last.is_honest → IsSoundImage (reads_of then name) → IsSoundImage (reads_of last name)) where
  -- it ended
  ends_again : (list : Listing) (end : ShelfEnd) → EndsAnyhow name schema New list then end last → EndsAgain name schema list then (end_after_try (Ok end)) last
  ends_again list IsThere is = absurd is
  ends_again list (Loaded (NotOpened status)) is = λ old absent begun honest.
      let was = unmade (reads_of then name) (begun honest) in record {
        absent = absent honest;
        leaves = as_of_none schema list was.0 was.1 (NotOpened status) (reads_of last name) (is honest was.0 was.2) (NotOpened PermanentError) refl;
      }
  ends_again list (Loaded (Opened lines closed)) is = λ old absent begun honest.
      let was = unmade (reads_of then name) (begun honest) in record {
        absent = absent honest;
        leaves = as_of_none schema list was.0 was.1 (Opened lines closed) (reads_of last name) (is honest was.0 was.2) (Opened lines closed) refl;
      }

  -- memory was wanting, and it changed nothing
  nothing_again : (list : Listing) → list.told ≡ [] → LeavesFiles then last → EndsAgain name schema list then (Loaded (NotOpened PermanentError)) last
  nothing_again list untold is = λ old absent begun honest.
      let was = unmade (reads_of then name) (begun honest) in
      let now = represents_sound (reads_of last name) (sound honest (sound_of (reads_of then name) was.0 was.2)) in
      let same : named_of (reads_of last name) ≡ was.0 = is.named name ∙ named_is (reads_of then name) was.0 was.2 in record {
        absent = absent honest;
        leaves = not_opened schema list untold (reads_of last name) was.0 was.1 (subst (λ (named : Named). Represents (reads_of last name) named) same now);
      }

  -- so, of what was told
  pub again : {R : Type 0} (Tells : R → R → RejectedLine → List ℕ → Type 0) (source : LoadSource) (log log_after : R) (result : Result ShelfEnd ShelfFault)
      → IfOk result (λ end. TellsLoadEnd Tells log log_after (λ told. EndsAnyhow name schema New (record { source = source; told = told })) then end last)
      → OnErr result (LeavesFiles then last) → OnErr result (log_after ≡ log)
      → TellsLoadEnd Tells log log_after (λ told. EndsAgain name schema (record { source = source; told = told })) then (end_after_try result) last
  again Tells source log log_after (Ok end) ends nothing untold = (ends.0, ends.1, ends_again (record { source = source; told = ends.0 }) end ends.2)
  again Tells source log log_after (Err fault) ends nothing untold = ([], untold, nothing_again (record { source = source; told = [] }) refl nothing)
