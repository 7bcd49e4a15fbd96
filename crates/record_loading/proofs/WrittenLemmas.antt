-- What the WRITE of the record of a line leaves.
use Rattle.std.proofs.Common.{◌≡◌, ℕ, Bool, true, false, not, List, ◌++◌, length, take, drop, Option, Some, None, cond, refl, sym, ap, ◌∙◌, subst, arith, true≢false}
use Rattle.std.specs.Prelude.{◌&&◌, IsTrue, bytes_eq, is_none}
use Rattle.std.specs.List.{list_any}
use Rattle.std.specs.Option.{option_map_or}
use Rattle.std.specs.Ordering.{is_gt}
use Rattle.std.proofs.lemmas.List.{length-take-le, take-append-drop}
use Rattle.io_state.specs.declared.status.Status.{Status}
use Rattle.io_state.specs.declared.status.Status.TheVariants.{Successful, Duplicate, OptionalAbsent, AtEnd, OutOfSequence, DuplicateKey, RecordNotFound, BoundaryViolation, PermanentError, FileAbsent, ClosedWithLock, AttributeConflict, AlreadyOpen, NotOpen, NoRecordRead, WrongLength, NoNextRecord, NotOpenForReading, NotOpenForWriting, NotOpenForUpdating, OutOfMemory, Damaged, ConnectorFailed}
use Rattle.io_state.specs.declared.statement.FileStatement.{FileStatement}
use Rattle.io_state.specs.declared.statement.FileStatement.TheVariants.{Write, Rewrite}
use Rattle.io_state.specs.Permission.{is_for_writing, is_for_updating, is_sequential}
use Rattle.io_state.specs.Rank.{value_cmp}
use Rattle.io_state.specs.Status.{is_successful}
use Rattle.record_layout.specs.Schema.{Schema, prime_of, has_duplicates}
use Rattle.indexed_file.specs.Change.{is_there, is_changed, clashes, added, replaced, others, row_of}
use Rattle.indexed_file.specs.Rank.{highest_of}
use Rattle.indexed_file.specs.Sound.{is_length}
use Rattle.indexed_file.specs.File.{Row}
use Rattle.verbs.specs.Connector.{Session, FileState, Outcome, answers, file_of, refused}
use Rattle.verbs.specs.Faults.{is_unclean}
use Rattle.verbs.specs.Marred.{Step}
use Rattle.verbs.specs.Verbs.{perform}
use Rattle.verbs.specs.Writing.{write_in, written_record, rewrite_in, rewritten, changed}
use Rattle.deck_runner.proofs.CleanLemmas.{clean_step}
use Rattle.record_loading.specs.declared.options.LoadOptions.{LoadOptions}
use Rattle.record_loading.specs.LineForm.{LineForm, BeginsWith, ReadsLineOf}
use Rattle.record_loading.specs.Passing.{Passing, CanBeRecord, with_record, write_of, rewrite_of, is_refused_for_keys, replaces_nothing, ends_lines}
use Rattle.record_loading.specs.Passing.{IsRecordWritten, IsRefusedForKeys, IsRefusal, IsRecordReplaced, IsNotReplaced, IsReplacingEnd}

-- ---- a step that was a success

success_is_clean : (statement : FileStatement) (status : Status) → is_successful status ≡ true → not (is_unclean statement status) ≡ true
success_is_clean statement Successful e = refl
success_is_clean statement Duplicate e = refl
success_is_clean statement OptionalAbsent e = refl
success_is_clean statement AtEnd e = absurd (cc)
success_is_clean statement OutOfSequence e = absurd (cc)
success_is_clean statement DuplicateKey e = absurd (cc)
success_is_clean statement RecordNotFound e = absurd (cc)
success_is_clean statement BoundaryViolation e = absurd (cc)
success_is_clean statement PermanentError e = absurd (cc)
success_is_clean statement FileAbsent e = absurd (cc)
success_is_clean statement ClosedWithLock e = absurd (cc)
success_is_clean statement AttributeConflict e = absurd (cc)
success_is_clean statement AlreadyOpen e = absurd (cc)
success_is_clean statement NotOpen e = absurd (cc)
success_is_clean statement NoRecordRead e = absurd (cc)
success_is_clean statement WrongLength e = absurd (cc)
success_is_clean statement NoNextRecord e = absurd (cc)
success_is_clean statement NotOpenForReading e = absurd (cc)
success_is_clean statement NotOpenForWriting e = absurd (cc)
success_is_clean statement NotOpenForUpdating e = absurd (cc)
success_is_clean statement OutOfMemory e = absurd (cc)
success_is_clean statement Damaged e = absurd (cc)
success_is_clean statement ConnectorFailed e = absurd (cc)

-- a step that was a success is what it should be
pub success_step : (statement : FileStatement) (n : ℕ) (s : FileState) (status : Status) (next : FileState)
    → is_successful status ≡ true → Step statement n s (answers status next) → perform statement n s ≡ answers status next
success_step statement n s status next success step = clean_step statement n s (answers status next) (success_is_clean statement status success) step

-- ---- a WRITE that is refused for its keys

keys_are_clean : (statement : FileStatement) (status : Status) → is_refused_for_keys status ≡ true → not (is_unclean statement status) ≡ true
keys_are_clean statement Successful e = absurd (cc)
keys_are_clean statement Duplicate e = absurd (cc)
keys_are_clean statement OptionalAbsent e = absurd (cc)
keys_are_clean statement AtEnd e = absurd (cc)
keys_are_clean statement OutOfSequence e = absurd (cc)
keys_are_clean statement DuplicateKey e = refl
keys_are_clean statement RecordNotFound e = absurd (cc)
keys_are_clean statement BoundaryViolation e = absurd (cc)
keys_are_clean statement PermanentError e = absurd (cc)
keys_are_clean statement FileAbsent e = absurd (cc)
keys_are_clean statement ClosedWithLock e = absurd (cc)
keys_are_clean statement AttributeConflict e = absurd (cc)
keys_are_clean statement AlreadyOpen e = absurd (cc)
keys_are_clean statement NotOpen e = absurd (cc)
keys_are_clean statement NoRecordRead e = absurd (cc)
keys_are_clean statement WrongLength e = absurd (cc)
keys_are_clean statement NoNextRecord e = absurd (cc)
keys_are_clean statement NotOpenForReading e = absurd (cc)
keys_are_clean statement NotOpenForWriting e = absurd (cc)
keys_are_clean statement NotOpenForUpdating e = absurd (cc)
keys_are_clean statement OutOfMemory e = absurd (cc)
keys_are_clean statement Damaged e = absurd (cc)
keys_are_clean statement ConnectorFailed e = absurd (cc)

-- a step that was refused for its keys is what it should be
keys_step : (statement : FileStatement) (n : ℕ) (s : FileState) (status : Status) (next : FileState)
    → is_refused_for_keys status ≡ true → Step statement n s (answers status next) → perform statement n s ≡ answers status next
keys_step statement n s status next keys step = clean_step statement n s (answers status next) (keys_are_clean statement status keys) step

-- ---- a REWRITE that replaced nothing

nothing_is_clean : (statement : FileStatement) (status : Status) → replaces_nothing status ≡ true → not (is_unclean statement status) ≡ true
nothing_is_clean statement Successful e = absurd (cc)
nothing_is_clean statement Duplicate e = absurd (cc)
nothing_is_clean statement OptionalAbsent e = absurd (cc)
nothing_is_clean statement AtEnd e = absurd (cc)
nothing_is_clean statement OutOfSequence e = absurd (cc)
nothing_is_clean statement DuplicateKey e = refl
nothing_is_clean statement RecordNotFound e = refl
nothing_is_clean statement BoundaryViolation e = absurd (cc)
nothing_is_clean statement PermanentError e = absurd (cc)
nothing_is_clean statement FileAbsent e = absurd (cc)
nothing_is_clean statement ClosedWithLock e = absurd (cc)
nothing_is_clean statement AttributeConflict e = absurd (cc)
nothing_is_clean statement AlreadyOpen e = absurd (cc)
nothing_is_clean statement NotOpen e = absurd (cc)
nothing_is_clean statement NoRecordRead e = absurd (cc)
nothing_is_clean statement WrongLength e = absurd (cc)
nothing_is_clean statement NoNextRecord e = absurd (cc)
nothing_is_clean statement NotOpenForReading e = absurd (cc)
nothing_is_clean statement NotOpenForWriting e = absurd (cc)
nothing_is_clean statement NotOpenForUpdating e = refl
nothing_is_clean statement OutOfMemory e = absurd (cc)
nothing_is_clean statement Damaged e = absurd (cc)
nothing_is_clean statement ConnectorFailed e = absurd (cc)

-- a step that replaced nothing is what it should be
nothing_step : (statement : FileStatement) (n : ℕ) (s : FileState) (status : Status) (next : FileState)
    → replaces_nothing status ≡ true → Step statement n s (answers status next) → perform statement n s ≡ answers status next
nothing_step statement n s status next nothing step = clean_step statement n s (answers status next) (nothing_is_clean statement status nothing) step

-- an outcome that is no change leaves the file, and what its name stands for
abbrev Stays : FileState → Outcome → Type 0
Stays s o = (o.next.file ≡ s.file) × (o.next.named ≡ s.named)

-- so it does where it replaced nothing
abbrev LeavesAll : FileState → Outcome → Type 0
LeavesAll s o = replaces_nothing o.status ≡ true → Stays s o

all_either : (test : Bool) (s : FileState) (x y : Outcome) → LeavesAll s x → LeavesAll s y → LeavesAll s (cond test x y)
all_either true s x y first second = first
all_either false s x y first second = second

refused_all : (status : Status) (s : FileState) (session : Session) → LeavesAll s (refused status s session)
refused_all status s session e = (refl, refl)

changes_all : (again : Bool) {A : Type 0} → replaces_nothing (cond again Duplicate Successful) ≡ true → A
changes_all true e = absurd (true≢false (sym e))
changes_all false e = absurd (true≢false (sym e))

rewritten_leaves : (bytes : List ℕ) (row : Option Row) (s : FileState) (session : Session) → LeavesAll s (rewritten bytes row s session)
rewritten_leaves bytes None s session = refused_all RecordNotFound s session
rewritten_leaves bytes (Some row) s session =
    let schema = s.connector.schema in
    let file = file_of s in
    let rows = others schema (prime_of schema bytes) file in
    let again = list_any (λ part. is_changed row.bytes bytes part && is_there part bytes rows) schema.keys in
    let stored = changed (cond again Duplicate Successful) (replaced schema bytes row file) s session in
    all_either (clashes schema bytes rows) s (refused DuplicateKey s session) stored (refused_all DuplicateKey s session) (λ e. changes_all again e)

rewrite_leaves : (n : ℕ) (s : FileState) (session : Option Session) → LeavesAll s (rewrite_in n s session)
rewrite_leaves n s None = λ e. (refl, refl)
rewrite_leaves n s (Some session) =
    let bytes = take n s.area in
    let sequential = is_sequential s.connector.access in
    let is_another = λ (prime : List ℕ). not (bytes_eq prime (prime_of s.connector.schema bytes)) in
    let row = row_of s.connector.schema (prime_of s.connector.schema bytes) (file_of s) in
    let last = rewritten bytes row s session in
    let fifth = cond (sequential && option_map_or is_another session.last_read false) (refused OutOfSequence s session) last in
    let fourth = cond (not (is_length s.connector.schema n)) (refused WrongLength s session) fifth in
    let third = cond (sequential && is_none session.last_read) (refused NoRecordRead s session) fourth in
    let second = cond (not (is_for_updating session.mode)) (refused NotOpenForUpdating s session) third in
    all_either session.failed s (refused ConnectorFailed s session) second (refused_all ConnectorFailed s session)
    (all_either (not (is_for_updating session.mode)) s (refused NotOpenForUpdating s session) third (refused_all NotOpenForUpdating s session)
    (all_either (sequential && is_none session.last_read) s (refused NoRecordRead s session) fourth (refused_all NoRecordRead s session)
    (all_either (not (is_length s.connector.schema n)) s (refused WrongLength s session) fifth (refused_all WrongLength s session)
    (all_either (sequential && option_map_or is_another session.last_read false) s (refused OutOfSequence s session) last (refused_all OutOfSequence s session)
    (rewritten_leaves bytes row s session)))))

-- ---- a WRITE that is refused for its keys leaves the file

-- what is refused for its keys leaves the file, and what its name stands for
abbrev Leaves : FileState → Outcome → Type 0
Leaves s o = is_refused_for_keys o.status ≡ true → (o.next.file ≡ s.file) × (o.next.named ≡ s.named)

leaves_either : (test : Bool) (s : FileState) (x y : Outcome) → Leaves s x → Leaves s y → Leaves s (cond test x y)
leaves_either true s x y first second = first
leaves_either false s x y first second = second

changes : (again : Bool) {A : Type 0} → is_refused_for_keys (cond again Duplicate Successful) ≡ true → A
changes true e = absurd (true≢false (sym e))
changes false e = absurd (true≢false (sym e))

refused_leaves : (status : Status) (s : FileState) (session : Session) → is_refused_for_keys status ≡ false → Leaves s (refused status s session)
refused_leaves status s session other e = absurd (true≢false (sym e ∙ other))

written_leaves : (bytes : List ℕ) (s : FileState) (session : Session) → Leaves s (written_record bytes s session)
written_leaves bytes s session =
    let schema = s.connector.schema in
    let rows = (file_of s).rows in
    let is_late = λ (highest : List ℕ). not (is_gt (value_cmp (prime_of schema bytes) highest)) in
    let again = list_any (λ part. has_duplicates part && is_there part bytes rows) schema.keys in
    let stored = changed (cond again Duplicate Successful) (added schema bytes (file_of s)) s session in
    leaves_either (is_sequential s.connector.access && option_map_or is_late (highest_of schema rows) false) s (refused OutOfSequence s session) (cond (clashes schema bytes rows) (refused DuplicateKey s session) stored)
    (refused_leaves OutOfSequence s session refl)
    (leaves_either (clashes schema bytes rows) s (refused DuplicateKey s session) stored (λ e. (refl, refl)) (λ e. changes again e))

write_leaves : (n : ℕ) (s : FileState) (session : Option Session) → Leaves s (write_in n s session)
write_leaves n s None = λ e. absurd (true≢false (sym e))
write_leaves n s (Some session) =
    let last = written_record (take n s.area) s session in
    let third = cond (not (is_length s.connector.schema n)) (refused WrongLength s session) last in
    let second = cond (not (is_for_writing s.connector.access session.mode)) (refused NotOpenForWriting s session) third in
    leaves_either session.failed s (refused ConnectorFailed s session) second (refused_leaves ConnectorFailed s session refl)
    (leaves_either (not (is_for_writing s.connector.access session.mode)) s (refused NotOpenForWriting s session) third (refused_leaves NotOpenForWriting s session refl)
    (leaves_either (not (is_length s.connector.schema n)) s (refused WrongLength s session) last (refused_leaves WrongLength s session refl)
    (written_leaves (take n s.area) s session)))

-- ---- a record

module _ (form : LineForm) (schema : Schema) (text : List ℕ) (s : FileState) (area : List ℕ) (n : ℕ) (behind : List ℕ) (same : length area ≡ length s.area) (reads : ReadsLineOf form text schema.least s.area area n behind) where
  length_read : length (take n area) ≡ n
  length_read = let within = reads.within in length-take-le n area (omega (arith, same, within))

  -- it stands in the beginning of the area
  area_is : take n area ++ drop (length (take n area)) s.area ≡ area
  area_is = ap (λ (m : ℕ). take n area ++ drop m s.area) length_read ∙ ap (λ (l : List ℕ). take n area ++ l) (sym reads.rest) ∙ take-append-drop n area

  state_is : with_record (take n area) s ≡ record s { area = area }
  state_is = ap (λ (l : List ℕ). record s { area = l }) area_is

  step_is : (outcome : Outcome) → Step Write n (record s { area = area }) outcome → Step Write (length (take n area)) (with_record (take n area) s) outcome
  step_is outcome step =
      subst (λ (m : ℕ). Step Write m (with_record (take n area) s) outcome) (sym length_read)
      (subst (λ (t : FileState). Step Write n t outcome) (sym state_is) step)

  can_be : length s.area ≡ schema.greatest → CanBeRecord schema (take n area)
  can_be whole =
      let within = reads.within in
      let long = reads.long in
      let is = length_read in
      record {
        are_bytes = reads.are_bytes;
        length_is = record { least = omega (arith, is, long); greatest = omega (arith, is, within, whole) };
      }

  begins_here : length s.area ≡ schema.greatest → BeginsWith form.pad form.form schema.greatest text (take n area) behind
  begins_here whole = subst (λ (m : ℕ). BeginsWith form.pad form.form m text (take n area) behind) whole reads.begins

  abbrev passing : FileState → Passing
  passing next = record { text = text; behind = behind; before = s; after = next }

  -- it was written
  pub written_here : (next : FileState) (status : Status) → length s.area ≡ schema.greatest → Step Write n (record s { area = area }) (answers status next) → is_successful status ≡ true
      → IsRecordWritten schema form (passing next)
  written_here next status whole step success =
      let bytes = take n area in
      let should : write_of bytes s ≡ answers status next = success_step Write (length bytes) (with_record bytes s) status next success (step_is (answers status next) step) in
      record {
        bytes = bytes;
        begins = begins_here whole;
        can_be = can_be whole;
        success = subst (λ (o : Outcome). IsTrue (is_successful o.status)) (sym should) success;
        file = sym (ap (λ (o : Outcome). o.next) should);
      }

  -- its WRITE was refused for its keys
  pub keys_here : (next : FileState) (status : Status) → length s.area ≡ schema.greatest → Step Write n (record s { area = area }) (answers status next) → is_refused_for_keys status ≡ true
      → IsRefusedForKeys schema form status (passing next)
  keys_here next status whole step keys =
      let bytes = take n area in
      let should : write_of bytes s ≡ answers status next = keys_step Write (length bytes) (with_record bytes s) status next keys (step_is (answers status next) step) in
      let stays = write_leaves (length bytes) (with_record bytes s) s.connector.session (subst (λ (o : Outcome). is_refused_for_keys o.status ≡ true) (sym should) keys) in
      record {
        bytes = bytes;
        begins = begins_here whole;
        can_be = can_be whole;
        status_is = sym (ap (λ (o : Outcome). o.status) should);
        of_keys = keys;
        file = sym (ap (λ (o : Outcome). o.next) should);
        same_file = sym (ap (λ (o : Outcome). o.next.file) should) ∙ stays.0;
        same_name = sym (ap (λ (o : Outcome). o.next.named) should) ∙ stays.1;
      }

  -- its WRITE was no success, and ends the lines
  pub refused_here : (next : FileState) (status : Status) (options : LoadOptions) → length s.area ≡ schema.greatest → Step Write n (record s { area = area }) (answers status next) → is_successful status ≡ false
      → ends_lines options status ≡ true → IsRefusal schema form options status (passing next)
  refused_here next status options whole step failed ends = record {
    bytes = take n area;
    begins = begins_here whole;
    can_be = can_be whole;
    step = step_is (answers status next) step;
    no_success = failed;
    ends = ends;
  }

  -- ---- behind a WRITE that was refused for its keys a REWRITE was answered

  module _ (between : FileState) (refused : Status) (whole : length s.area ≡ schema.greatest) (first : Step Write n (record s { area = area }) (answers refused between)) (keys : is_refused_for_keys refused ≡ true)
      (next : FileState) (status : Status) (second : Step Rewrite n between (answers status next)) where
    should_write : write_of (take n area) s ≡ answers refused between
    should_write = keys_step Write (length (take n area)) (with_record (take n area) s) refused between keys (step_is (answers refused between) first)

    should_keys : is_refused_for_keys (write_of (take n area) s).status ≡ true
    should_keys = ap (λ (o : Outcome). is_refused_for_keys o.status) should_write ∙ keys

    rewrite_step : Step Rewrite (length (take n area)) (write_of (take n area) s).next (answers status next)
    rewrite_step =
        subst (λ (m : ℕ). Step Rewrite m (write_of (take n area) s).next (answers status next)) (sym length_read)
        (subst (λ (o : Outcome). Step Rewrite n o.next (answers status next)) (sym should_write) second)

    -- it was a success
    pub replaced_here : is_successful status ≡ true → IsRecordReplaced schema form (passing next)
    replaced_here success =
        let bytes = take n area in
        let should : rewrite_of bytes s ≡ answers status next = success_step Rewrite (length bytes) (write_of bytes s).next status next success rewrite_step in
        record {
          bytes = bytes;
          begins = begins_here whole;
          can_be = can_be whole;
          of_keys = should_keys;
          success = subst (λ (o : Outcome). IsTrue (is_successful o.status)) (sym should) success;
          file = sym (ap (λ (o : Outcome). o.next) should);
        }

    -- it replaced nothing
    pub not_replaced_here : replaces_nothing status ≡ true → IsNotReplaced schema form refused (passing next)
    not_replaced_here nothing =
        let bytes = take n area in
        let should : rewrite_of bytes s ≡ answers status next = nothing_step Rewrite (length bytes) (write_of bytes s).next status next nothing rewrite_step in
        let left = write_leaves (length bytes) (with_record bytes s) s.connector.session should_keys in
        let stays = rewrite_leaves (length bytes) (write_of bytes s).next (write_of bytes s).next.connector.session (subst (λ (o : Outcome). replaces_nothing o.status ≡ true) (sym should) nothing) in
        record {
          bytes = bytes;
          begins = begins_here whole;
          can_be = can_be whole;
          status_is = sym (ap (λ (o : Outcome). o.status) should_write);
          of_keys = keys;
          nothing = subst (λ (o : Outcome). IsTrue (replaces_nothing o.status)) (sym should) nothing;
          file = sym (ap (λ (o : Outcome). o.next) should);
          same_file = sym (ap (λ (o : Outcome). o.next.file) should) ∙ stays.0 ∙ left.0;
          same_name = sym (ap (λ (o : Outcome). o.next.named) should) ∙ stays.1 ∙ left.1;
        }

    -- it was neither, and ends the lines
    pub not_replacing_here : (options : LoadOptions) → options.replace ≡ true → is_successful status ≡ false → replaces_nothing status ≡ false → IsReplacingEnd schema form options status (passing next)
    not_replacing_here options asked failed ends = record {
      asked = asked;
      bytes = take n area;
      begins = begins_here whole;
      can_be = can_be whole;
      of_keys = should_keys;
      step = rewrite_step;
      no_success = failed;
      ends = ends;
    }
