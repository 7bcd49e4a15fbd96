-- A file of a unit that was built, or was not.
use Rattle.std.proofs.Common.{◌≡◌, ◌<◌, ◌≤◌, ◌^◌, ℕ, ◌+◌, Bool, true, false, List, [], ◌∷◌, ◌++◌, length, Option, Some, None, inl, inr, refl, sym, ap, ◌∙◌, subst, arith, true≢false}
use Rattle.std.specs.Prelude.{IsTrue, bytes_eq, get_or, unwrap_or, ◌⊎◌, Result, Ok, Err, IfOk, IfErr}
use Rattle.std.proofs.lemmas.Slice.Eq.{bytes_eq-Decides}
use Rattle.indexed_file.specs.File.{File, empty_file}
use Rattle.indexed_file.specs.World.{Absent, Closed, Unsound}
use Rattle.indexed_file.proofs.TestLemmas.{either}
use Rattle.page_store.specs.DeviceFile.{DeviceFile}
use Rattle.page_store.specs.Gate.{IsRefused, SameOrRefused}
use Rattle.page_store.specs.Moments.{Throughout}
use Rattle.page_store.specs.ShelfState.{ShelfState, KeepsOthers, unit_file, unit_name, attached_as}
use Rattle.shelf_library.specs.FileOpening.{CountedShelf}
use Rattle.io_state.specs.declared.fault.Fault.{Fault}
use Rattle.io_state.specs.declared.status.Status.{Status}
use Rattle.file_building.specs.declared.built_end.FileBuilt.{FileBuilt}
use Rattle.file_building.specs.declared.built_end.FileBuilt.TheVariants.{Closed as BuiltClosed, Unclosed, OutOfOrder, Clash}
use Rattle.page_store.proofs.MomentLemmas.{throughout_none, throughout_weaker}
use Rattle.record_layout.specs.Schema.{Schema}
use Rattle.record_text.specs.declared.form.Form.{Form}
use Rattle.record_text.specs.declared.mistake.LineMistake.{LineMistake}
use Rattle.record_text.specs.Header.{header_lines}
use Rattle.record_text.specs.Lines.{form_header}
use Rattle.shelf_library.specs.Crashes.{IsSoundImage}
use Rattle.shelf_library.specs.Named.{named_of}
use Rattle.shelf_library.proofs.RefusedLemmas.{refused_sound}
use Rattle.shelf_run.specs.Soundness.{AllSound}
use Rattle.shelf_run.proofs.FilesLemmas.{sound_of}
use Rattle.file_building.specs.Written.{AreAccepted}
use Rattle.file_building.specs.BuiltUnit.{BuildsOnShelf, EndsBuilt, WhereAllTaken, IsBuiltWhole, IsBuiltUnclosed, file_of_records}
use Rattle.file_building.specs.NewFile.{IsClosedFor, IsOldOrWhole, ReadsOldOrWhole}
use Rattle.record_loading.specs.BuiltLoad.{IsNotMade, EndsTry, IsLinesEnd, TriesToBuild, ChangesNoFile, IsDetached, counted_of}
use Rattle.record_loading.specs.declared.built_load.BuildTry.{BuildTry}
use Rattle.record_loading.specs.declared.built_load.BuildTry.TheVariants.{Unmade, Begun, Ended}
use Rattle.record_loading.specs.declared.end.LinesEnd.{LinesEnd}
use Rattle.record_loading.specs.declared.end.LinesEnd.TheVariants.{Loaded, NoRecord}
use Rattle.record_loading.specs.declared.options.LoadOptions.{LoadOptions}
use Rattle.record_loading.specs.LineForm.{line_form}
use Rattle.record_loading.specs.LineRecords.{LineReading, HasReadLines, HasEndedLines, IsWrongIfMet}
use Rattle.record_loading.specs.Loaded.{LeavesFile, KeepsOtherNames, IsSafeLoad}
use Rattle.record_loading.specs.declared.end.Load.TheVariants.{New}
use Rattle.record_loading.specs.declared.end.LoadEnd.TheVariants.{NotOpened, Opened}
use Rattle.io_state.specs.declared.status.Status.TheVariants.{Successful, PermanentError}
use Rattle.shelf_run.specs.Files.{Represents}
use Rattle.record_loading.specs.Loading.{Listing, LinesLeave, listing_by}
use Rattle.record_loading.specs.Passing.{behind_lines}
use Rattle.record_loading.proofs.AgainLemmas.{refused_represents, unmade, not_opened, others_then, safe_then}
use Rattle.record_loading.proofs.SameLemmas.{others_same, safe_same}
use Rattle.record_loading.proofs.BuiltLoadLemmas.{new_file_of, file_then, area_then, all_loaded, wrong_ends, leaves_closed, leaves_unclosed}
use Rattle.record_loading.proofs.HeaderLemmas.{lines_before}
use Rattle.record_loading.proofs.LineRecordLemmas.{not_more_records}
use Rattle.record_loading.proofs.PassingLemmas.{lines_skipped}
use Rattle.record_loading.proofs.RisingWriteLemmas.{new_with}

-- ---- the shelf

module _ (schema : Schema) (old new : ShelfState) (others : KeepsOthers 0 old new) where
  abbrev pub tried : List ℕ
  tried = unit_name old 0

  pub same_file : unit_file new 0 ≡ new.file tried
  same_file = ap (λ (names : List (List ℕ)). new.file (get_or names 0 [])) others.names

  kept : (other : List ℕ) → bytes_eq tried other ≡ false → new.file other ≡ old.file other
  kept other apart = others.others other (λ same. true≢false (sym ((bytes_eq-Decides tried other).1 (sym same)) ∙ apart))

  pub others_kept : KeepsOtherNames tried old new
  others_kept other apart = ap (λ (file : DeviceFile). named_of file.seen) (kept other apart)

  image_sound : (file : File) → AllSound (old.file tried) → (c : Option (List ℕ)) → IsOldOrWhole (old.file tried) schema file c → IsSoundImage c
  image_sound file all c (inl (inl was)) = all c was
  image_sound file all c (inl (inr refused)) = refused_sound c refused
  image_sound file all c (inr closed) = sound_of c (Closed schema file) closed

  read_sound : (file : File) → ReadsOldOrWhole (old.file tried) (new.file tried) schema file → IsSoundImage (old.file tried).seen → IsSoundImage (new.file tried).seen
  read_sound file (inl (inl same)) sound = subst IsSoundImage (sym same) sound
  read_sound file (inl (inr refused)) sound = refused_sound (new.file tried).seen refused
  read_sound file (inr closed) sound = sound_of (new.file tried).seen (Closed schema file) closed

  pub safe_tried : (file : File) → (IsTrue new.is_honest → Throughout (IsOldOrWhole (unit_file old 0) schema file) (unit_file old 0) (unit_file new 0))
      → (IsTrue new.is_honest → ReadsOldOrWhole (unit_file old 0) (unit_file new 0) schema file) → IsSafeLoad tried old new
  safe_tried file images reads = record {
    honest = others.honest;
    sound = λ honest other.
        either (bytes_eq tried other) (IsSoundImage (old.file other).seen → IsSoundImage (new.file other).seen)
        (λ hit. subst (λ (name : List ℕ). IsSoundImage (old.file name).seen → IsSoundImage (new.file name).seen) ((bytes_eq-Decides tried other).0 hit)
        (read_sound file (subst (λ (f : DeviceFile). ReadsOldOrWhole (old.file tried) f schema file) same_file (reads honest))))
        (λ miss. λ sound. subst (λ (f : DeviceFile). IsSoundImage f.seen) (sym (kept other miss)) sound);
    no_false_file = λ honest all other.
        either (bytes_eq tried other) (AllSound (old.file other) → Throughout IsSoundImage (old.file other) (new.file other))
        (λ hit. subst (λ (name : List ℕ). AllSound (old.file name) → Throughout IsSoundImage (old.file name) (new.file name)) ((bytes_eq-Decides tried other).0 hit)
        (λ sound. throughout_weaker (IsOldOrWhole (old.file tried) schema file) IsSoundImage (old.file tried) (new.file tried) (image_sound file sound)
        (subst (λ (f : DeviceFile). Throughout (IsOldOrWhole (old.file tried) schema file) (old.file tried) f) same_file (images honest))))
        (λ miss. λ sound. throughout_none IsSoundImage (old.file other) (new.file other) (ap (λ (f : DeviceFile). f.log) (kept other miss)) sound);
  }

-- what gave up leaves no file, or a refused one
pub left_unmade_by : (old new : DeviceFile) → SameOrRefused old new → old.seen ≡ None → IsNotMade new.seen
left_unmade_by old new (inl same) none = inl (same ∙ none)
left_unmade_by old new (inr refused) none = inr refused

-- ---- the lines

module _ (schema : Schema) (form : Form) (text : List ℕ) (options : LoadOptions) (lines : List ℕ) (text_is : text ≡ form_header form ++ lines)
    (given : List (List ℕ)) (rest : List ℕ) where
  abbrev reading : Option LineMistake → LineReading
  reading mistake = record { schema = schema; form = line_form form options; given = given; rest = rest; mistake = mistake }

  abbrev list : Listing
  list = listing_by form text options []

  -- the number of a line that was met is one of 64 bits, as the length of the text is
  number_fits : (mistake : LineMistake) → HasReadLines (behind_lines options.skip lines) (reading (Some mistake)) → header_lines form + options.skip + length given + 1 ≤ length text
  number_fits mistake read =
      let some = read.wrong.some in
      let many = not_more_records schema (line_form form options) given (behind_lines options.skip lines) rest read.begins in
      let skipped = lines_skipped options.skip lines (omega (arith, some, many)) in
      let before = lines_before form text lines text_is in
      omega (arith, some, many, skipped, before)

  -- what the lines leave, where the file accepts all records
  lines_leave : (mistake : Option LineMistake) (read : HasReadLines (behind_lines options.skip lines) (reading mistake)) (count : ℕ) (end : LinesEnd) → count ≡ length given → options.keep_going ≡ false → length text < 2 ^ 64
      → HasEndedLines (reading mistake) → IsLinesEnd form options.skip count mistake end
      → (accepted : AreAccepted schema given empty_file) → LinesLeave schema list (new_file_of schema) end
      (new_with schema (file_then schema form text options lines text_is given rest read.begins accepted) (area_then schema form text options lines text_is given rest read.begins accepted))
  lines_leave None read count end many stops short ended is accepted =
      subst (λ (e : LinesEnd). LinesLeave schema list (new_file_of schema) e (new_with schema (file_then schema form text options lines text_is given rest read.begins accepted) (area_then schema form text options lines text_is given rest read.begins accepted))) (sym is)
      (all_loaded schema form text options lines text_is given rest read.begins accepted count many (ended refl))
  lines_leave (Some mistake) read count end many stops short ended is accepted =
      let fits = number_fits mistake read in
      let fit : header_lines form + options.skip + count + 1 < 2 ^ 64 = omega (arith, fits, many, short) in
      subst (λ (e : LinesEnd). LinesLeave schema list (new_file_of schema) e (new_with schema (file_then schema form text options lines text_is given rest read.begins accepted) (area_then schema form text options lines text_is given rest read.begins accepted))) (sym (is fit))
      (wrong_ends schema form text options lines text_is given rest read.begins accepted mistake count (header_lines form + options.skip + count + 1) many refl stops read.wrong)

  module _ (mistake : Option LineMistake) (read : HasReadLines (behind_lines options.skip lines) (reading mistake)) (stops : options.keep_going ≡ false) (short : length text < 2 ^ 64) (ended : HasEndedLines (reading mistake))
      (count : ℕ) (end : LinesEnd) (is : IsLinesEnd form options.skip count mistake end) (new : DeviceFile) where
    -- the file was closed
    pub ends_closed : IsBuiltWhole schema given count new → LeavesFile schema New list Absent (Opened end Successful) new.seen
    ends_closed whole = leaves_closed schema list end (file_of_records schema given) (area_then schema form text options lines text_is given rest read.begins whole.accepted) new.seen
        (lines_leave mistake read count end whole.count_is stops short ended is whole.accepted) whole.closed

    -- its closing failed
    pub ends_unclosed : IsBuiltUnclosed schema given count new → LeavesFile schema New list Absent (Opened end PermanentError) new.seen
    ends_unclosed part = leaves_unclosed schema list end (file_of_records schema given) (area_then schema form text options lines text_is given rest read.begins part.accepted) new.seen
        (lines_leave mistake read count end part.count_is stops short ended is part.accepted) (reads part.reads)
      where
        reads : IsRefused new.seen ⊎ IsClosedFor schema (file_of_records schema given) new.seen → Represents new.seen Unsound ⊎ Represents new.seen (Closed schema (file_of_records schema given))
        reads (inl refused) = inl (refused_represents new.seen refused)
        reads (inr closed) = inr closed

-- ---- a try

abbrev told_so : ℕ → Status → Option (ℕ × Status)
told_so count status = Some (count, status)

counts : (a b : ℕ) (s t : Status) → told_so a s ≡ told_so b t → a ≡ b
counts a b s t same = ap (λ (told : Option (ℕ × Status)). (unwrap_or told (0, Successful)).0) same

answers_so : (a b : ℕ) (s t : Status) → told_so a s ≡ told_so b t → s ≡ t
answers_so a b s t same = ap (λ (told : Option (ℕ × Status)). (unwrap_or told (0, Successful)).1) same

module _ (limit : ℕ) (schema : Schema) (form : Form) (text : List ℕ) (options : LoadOptions) (given : List (List ℕ)) (old new : CountedShelf) (built : Result FileBuilt Fault)
    (builds : BuildsOnShelf 0 limit schema given old new built) where
  abbrev shown_list : Listing
  shown_list = listing_by form text options []

  abbrev file_name : List ℕ
  file_name = tried schema old.shelf new.shelf builds.others

  moved : IsSafeLoad file_name old.shelf new.shelf
  moved = safe_tried schema old.shelf new.shelf builds.others (file_of_records schema given) builds.images builds.reads

  begun_seen : (result : Result FileBuilt Fault) → counted_of result ≡ None → (before after : DeviceFile) → IfOk result (EndsBuilt schema given before after) → IfErr result (λ fault. SameOrRefused before after) → before.seen ≡ None → IsNotMade after.seen
  begun_seen (Ok (BuiltClosed records)) lacks before after ends left none = absurd (cc)
  begun_seen (Ok (Unclosed records fault)) lacks before after ends left none = absurd (cc)
  begun_seen (Ok OutOfOrder) lacks before after ends left none = inr ends.1.reads
  begun_seen (Ok Clash) lacks before after ends left none = inr ends.1.reads
  begun_seen (Err fault) lacks before after ends left none = left_unmade_by before after left none

  -- the file was begun
  pub tried_begun : counted_of built ≡ None → TriesToBuild file_name schema shown_list old.shelf new.shelf Begun
  tried_begun lacks = record {
    ends = λ honest none. subst (λ (f : DeviceFile). IsNotMade f.seen) (same_file schema old.shelf new.shelf builds.others)
        (begun_seen built lacks (unit_file old.shelf 0) (unit_file new.shelf 0) (builds.ends honest) (builds.left honest) none);
    unmade = tt;
    others = others_kept schema old.shelf new.shelf builds.others;
    safe = moved;
  }

  module _ (lines : List ℕ) (text_is : text ≡ form_header form ++ lines) (rest : List ℕ) (mistake : Option LineMistake)
      (read : HasReadLines (behind_lines options.skip lines) (record { schema = schema; form = line_form form options; given = given; rest = rest; mistake = mistake }))
      (stops : options.keep_going ≡ false) (short : length text < 2 ^ 64) (end : LinesEnd) (count : ℕ) (is : IsLinesEnd form options.skip count mistake end) where
    ended_seen : (result : Result FileBuilt Fault) (status : Status) → counted_of result ≡ Some (count, status) → (before after : DeviceFile) → IfOk result (EndsBuilt schema given before after)
        → IfOk result (WhereAllTaken (mistake ≡ None → rest ≡ [])) → LeavesFile schema New shown_list Absent (Opened end status) after.seen
    ended_seen (Ok (BuiltClosed records)) status some before after ends taken =
        let n = counts records count Successful status some in
        let answered = answers_so records count Successful status some in
        subst (λ (s : Status). LeavesFile schema New shown_list Absent (Opened end s) after.seen) answered
        (ends_closed schema form text options lines text_is given rest mistake read stops short taken count end is after (subst (λ (c : ℕ). IsBuiltWhole schema given c after) n ends))
    ended_seen (Ok (Unclosed records fault)) status some before after ends taken =
        let n = counts records count PermanentError status some in
        let answered = answers_so records count PermanentError status some in
        subst (λ (s : Status). LeavesFile schema New shown_list Absent (Opened end s) after.seen) answered
        (ends_unclosed schema form text options lines text_is given rest mistake read stops short taken count end is after (subst (λ (c : ℕ). IsBuiltUnclosed schema given c after) n ends))
    ended_seen (Ok OutOfOrder) status some before after ends taken = absurd (cc)
    ended_seen (Ok Clash) status some before after ends taken = absurd (cc)
    ended_seen (Err fault) status some before after ends taken = absurd (cc)

    -- it was built
    pub tried_ended : (status : Status) → counted_of built ≡ Some (count, status) → IfOk built (WhereAllTaken (mistake ≡ None → rest ≡ [])) → TriesToBuild file_name schema shown_list old.shelf new.shelf (Ended (Opened end status))
    tried_ended status some taken = record {
      ends = λ honest none. subst (λ (f : DeviceFile). LeavesFile schema New shown_list Absent (Opened end status) f.seen) (same_file schema old.shelf new.shelf builds.others)
          (ended_seen built status some (unit_file old.shelf 0) (unit_file new.shelf 0) (builds.ends honest) taken);
      unmade = tt;
      others = others_kept schema old.shelf new.shelf builds.others;
      safe = moved;
    }

-- ---- of a name

-- the name was attached, and the file was tried to be built
pub of_name : (name : List ℕ) (schema : Schema) (list : Listing) (first begun then : ShelfState) (tried_so : BuildTry) → begun ≡ attached_as (name ∷ []) first
    → TriesToBuild (unit_name begun 0) schema list begun then tried_so → TriesToBuild name schema list first then tried_so
of_name name schema list first begun then tried_so attached tries =
    let is = subst (λ (s : ShelfState). TriesToBuild (unit_name s 0) schema list s then tried_so) attached tries in
    record { ends = is.ends; unmade = is.unmade; others = is.others; safe = record { honest = is.safe.honest; sound = is.safe.sound; no_false_file = is.safe.no_false_file } }

module _ (name : List ℕ) (schema : Schema) (list : Listing) (untold : list.told ≡ []) (first then last : ShelfState) (same : last.file ≡ then.file) (before : last.is_honest ≡ then.is_honest) where
  honest_then : IsTrue last.is_honest → IsTrue then.is_honest
  honest_then = subst (λ (h : Bool). IsTrue h → IsTrue then.is_honest) (sym before) (λ honest. honest)

  seen_same : (then.file name).seen ≡ (last.file name).seen
  seen_same = ap (λ (file : List ℕ → DeviceFile). (file name).seen) (sym same)

  changes : (t : BuildTry) → ChangesNoFile first then t → ChangesNoFile first last t
  changes Unmade is = same ∙ is
  changes Begun is = tt
  changes (Ended end) is = tt

  -- the name was taken from the shelf
  moved_on : (t : BuildTry) → TriesToBuild name schema list first then t → TriesToBuild name schema list first last t
  moved_on t is = record {
    ends = λ honest none. subst (λ (c : Option (List ℕ)). EndsTry schema list c t) seen_same (is.ends (honest_then honest) none);
    unmade = changes t is.unmade;
    others = others_then name first then last is.others (others_same then last same name);
    safe = safe_then name first then last is.safe (safe_same then last same honest_then name);
  }

  -- it was not
  failed_on : (t : BuildTry) → TriesToBuild name schema list first then t → (IsTrue then.is_honest → (first.file name).seen ≡ None → IsNotMade (then.file name).seen)
      → TriesToBuild name schema list first last (Ended (NotOpened PermanentError))
  failed_on t is begun = record {
    ends = λ honest none.
        let was = unmade (last.file name).seen (subst IsNotMade seen_same (begun (honest_then honest) none)) in
        not_opened schema list untold (last.file name).seen was.0 was.1 was.2;
    unmade = tt;
    others = others_then name first then last is.others (others_same then last same name);
    safe = safe_then name first then last is.safe (safe_same then last same honest_then name);
  }

  pub detached_so : (t : BuildTry) → TriesToBuild name schema list first then t → (result : BuildTry) → IsDetached t result → TriesToBuild name schema list first last result
  detached_so Unmade is result (inl e) = subst (λ (r : BuildTry). TriesToBuild name schema list first last r) (sym e) (moved_on Unmade is)
  detached_so Unmade is result (inr e) = subst (λ (r : BuildTry). TriesToBuild name schema list first last r) (sym e)
      (failed_on Unmade is (λ honest none. inl (ap (λ (file : List ℕ → DeviceFile). (file name).seen) is.unmade ∙ none)))
  detached_so Begun is result (inl e) = subst (λ (r : BuildTry). TriesToBuild name schema list first last r) (sym e) (moved_on Begun is)
  detached_so Begun is result (inr e) = subst (λ (r : BuildTry). TriesToBuild name schema list first last r) (sym e) (failed_on Begun is is.ends)
  detached_so (Ended end) is result e = subst (λ (r : BuildTry). TriesToBuild name schema list first last r) (sym e) (moved_on (Ended end) is)
