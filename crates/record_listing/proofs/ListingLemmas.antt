-- How a list ends.
use Rattle.std.proofs.Common.{◌≡◌, inr, ◌<◌, ℕ, true, false, List, [], length, Option, Result, Ok, Err, refl, sym, ap, ◌∙◌, append-nil}
use Rattle.std.specs.Prelude.{IsTrue, IfErr}
use Rattle.io_state.specs.declared.fault.Fault.{Fault}
use Rattle.io_state.specs.declared.fault.Fault.TheVariants.{Device, Memory as NoMemory, Full, Damage, Broken}
use Rattle.record_layout.specs.Schema.{Schema}
use Rattle.indexed_file.specs.declared.answer.Seen.TheVariants.{Sound, Unsound as SeenUnsound}
use Rattle.indexed_file.specs.File.{File}
use Rattle.indexed_file.specs.Sound.{is_file}
use Rattle.indexed_file.specs.World.{Named, Absent as NoFile, Closed, Unsound as Refused, name_at, holding_at, is_broken}
use Rattle.indexed_file.specs.Answers.{seen_of}
use Rattle.indexed_file.specs.Calls.{Keeps, MayAnswer, MayAnswerShut}
use Rattle.indexed_file.specs.Shown.{Shown}
use Rattle.record_listing.specs.declared.asked.Asked.{Asked}
use Rattle.record_listing.specs.declared.rows.RowsFault.{RowsFault}
use Rattle.record_listing.specs.declared.rows.RowsFault.TheVariants.{Library as GaveUp, Output as NotTaken}
use Rattle.record_text.specs.declared.form.Form.{Form}
use Rattle.record_listing.specs.Lines.{list_of}
use Rattle.record_listing.specs.Reading.{IsWritten, IsWrittenInPart, MayStop, OnlyReadsUnit, rows_asked}
use Rattle.record_listing.specs.Listing.{end_by, list_end_of, WritesFront, ListBreaksOff, EndsList, TellsWhy}
use Rattle.record_listing.proofs.ListedLemmas.{are_listed}
use Rattle.record_listing.proofs.WorldLemmas.{fault_later, fault_before, unbroken_fault}

-- what was found sound is closed
pub is_closed : (named : Named) (schema : Schema) → Sound schema ≡ seen_of named → (file : File) × (named ≡ Closed schema file)
is_closed NoFile schema is = absurd (cc)
is_closed Refused schema is = absurd (cc)
is_closed (Closed other file) schema is = let same : schema ≡ other = cc in (file, ap (λ (s : Schema). Closed s file) (sym same))

pub is_refused : (named : Named) → SeenUnsound ≡ seen_of named → named ≡ Refused
is_refused NoFile is = absurd (cc)
is_refused Refused is = refl
is_refused (Closed other file) is = absurd (cc)

module _ {S : Type 0} (shown : Shown S) (a b c : S) where
  -- why not all lines were written, after the file was closed
  pub stop_before : (written : Result Unit RowsFault) → Keeps shown b c → IfErr written (MayStop shown a b) → IfErr written (MayStop shown a c)
  stop_before (Ok done) keeps may = tt
  stop_before (Err (GaveUp fault)) keeps may = fault_before shown a b c fault keeps may
  stop_before (Err NotTaken) keeps may = tt

  -- why a file was not closed, that was only read before
  pub shut_after : (shut : Result Unit Fault) → 0 < length (shown.world a).units → OnlyReadsUnit shown a b → Keeps shown b c → is_broken (holding_at (shown.world a) 0) ≡ false
      → IfErr shut (MayAnswer shown 0 b c) → IfErr shut (MayAnswerShut shown 0 a c)
  shut_after (Ok done) some reads keeps unbroken may = tt
  shut_after (Err fault) some reads keeps unbroken may =
      fault_later shown a b c fault some reads.world.only reads.keeps keeps
      (unbroken_fault shown b c (is_broken (holding_at (shown.world b) 0)) fault (reads.world.state.broken ∙ unbroken) may)

module _ {S : Type 0} (shown : Shown S) (a c : S) where
  -- why a call gave up
  pub tells : (fault : Fault) → MayAnswerShut shown 0 a c fault → TellsWhy shown (name_at (shown.world a) 0) a c (end_by fault)
  tells Device may = may
  tells NoMemory may = tt
  tells Full may = absurd may
  tells Damage may = may.1
  tells Broken may = absurd (cc)

  module _ (honest : IsTrue (shown.is_honest c)) (truly : shown.IsShownTruly a (name_at (shown.world a) 0)) where
    -- a call that gave up breaks the list off
    pub ends_by : (form : Form) (asked : Asked) (named : Named) (before behind : Option (List ℕ)) (fault : Fault) → MayAnswerShut shown 0 a c fault → ListBreaksOff form asked named before behind → EndsList form asked named before behind (end_by fault)
    ends_by form asked named before behind Device may off = off
    ends_by form asked named before behind NoMemory may off = off
    ends_by form asked named before behind Full may off = off
    ends_by form asked named before behind Damage may off = absurd (may.1 honest truly)
    ends_by form asked named before behind Broken may off = off

    in_front : (form : Form) (schema : Schema) (file : File) (asked : Asked) (before behind : Option (List ℕ)) → asked.key < length schema.keys → is_file schema file ≡ true
        → IsWrittenInPart (list_of form (rows_asked schema file asked)) before behind → WritesFront form schema file asked before behind
    in_front form schema file asked before behind lt sound part =
        record { rows = rows_asked schema file asked; listed = are_listed schema file asked lt sound; front = part.front; rest = part.rest; text = part.text_is; written = part.appends }

    pub ends : (form : Form) (schema : Schema) (file : File) (asked : Asked) (before behind : Option (List ℕ)) (written : Result Unit RowsFault) (shut : Result Unit Fault) → asked.key < length schema.keys → is_file schema file ≡ true
        → IsWritten (list_of form (rows_asked schema file asked)) before behind written → IfErr written (MayStop shown a c) → IfErr shut (MayAnswerShut shown 0 a c) → EndsList form asked (Closed schema file) before behind (list_end_of written shut)
    ends form schema file asked before behind (Ok done) (Ok closed) lt sound appends may also = record { key = lt; rows = rows_asked schema file asked; listed = are_listed schema file asked lt sound; written = appends }
    ends form schema file asked before behind (Ok done) (Err fault) lt sound appends may also =
        ends_by form asked (Closed schema file) before behind fault also
        (inr (in_front form schema file asked before behind lt sound (record { front = list_of form (rows_asked schema file asked); rest = []; text_is = sym (append-nil (list_of form (rows_asked schema file asked))); appends = appends })))
    ends form schema file asked before behind (Err (GaveUp fault)) shut lt sound part may also = ends_by form asked (Closed schema file) before behind fault may (inr (in_front form schema file asked before behind lt sound part))
    ends form schema file asked before behind (Err NotTaken) shut lt sound part may also = inr (in_front form schema file asked before behind lt sound part)
