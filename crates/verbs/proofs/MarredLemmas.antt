-- What a marred step can answer.
use Rattle.std.proofs.Common.{◌≡◌, ◌⊎◌, ℕ, true, false, ◌&&◌, Option, Some, None, refl, ap, ◌∙◌, inl, inr, IsTrue}
use Rattle.io_state.specs.declared.status.Status.{Status}
use Rattle.io_state.specs.declared.status.Status.TheVariants.{Successful, Duplicate, OptionalAbsent, AtEnd, OutOfSequence, DuplicateKey, RecordNotFound, BoundaryViolation, PermanentError, FileAbsent, ClosedWithLock, AttributeConflict, AlreadyOpen, NotOpen, NoRecordRead, WrongLength, NoNextRecord, NotOpenForReading, NotOpenForWriting, NotOpenForUpdating, OutOfMemory, Damaged, ConnectorFailed}
use Rattle.io_state.specs.declared.statement.FileStatement.{FileStatement}
use Rattle.io_state.specs.declared.statement.FileStatement.TheVariants.{Open, Close, ReadNext, Read, Start, Write, Rewrite, Delete}
use Rattle.verbs.specs.Connector.{Session, FileState, Outcome}
use Rattle.verbs.specs.Faults.{is_device_or_memory, is_damaged, is_open_statement}
use Rattle.verbs.specs.Marred.{Mars, MarsRead, MarsChange, LacksRoom, Step}
use Rattle.verbs.specs.Verbs.{perform, reaches}
use Rattle.verbs.proofs.DueLemmas.{due}

-- 30, 90 or 24
abbrev IsMarredStatus : Status → Type 0
IsMarredStatus status = IsTrue (is_device_or_memory status) ⊎ (status ≡ BoundaryViolation)

read_marred : (s : FileState) (session : Option Session) (outcome : Outcome) → MarsRead s session outcome → IsMarredStatus outcome.status
read_marred s None outcome mars = absurd mars
read_marred s (Some session) outcome mars = inl mars.0

change_marred : (s : FileState) (session : Option Session) (outcome : Outcome) → MarsChange s session outcome → IsMarredStatus outcome.status
change_marred s None outcome mars = absurd mars
change_marred s (Some session) outcome mars = inl mars.0

room_marred : (should : Outcome) (s : FileState) (session : Option Session) (outcome : Outcome) → LacksRoom should s session outcome → IsMarredStatus outcome.status
room_marred should s None outcome lacks = absurd lacks
room_marred should s (Some session) outcome lacks = inr (ap (λ (o : Outcome). o.status) lacks.1)

store_marred : (should : Outcome) (s : FileState) (session : Option Session) (outcome : Outcome) → LacksRoom should s session outcome ⊎ MarsChange s session outcome → IsMarredStatus outcome.status
store_marred should s session outcome (inl lacks) = room_marred should s session outcome lacks
store_marred should s session outcome (inr mars) = change_marred s session outcome mars

pub marred_status : (statement : FileStatement) (should : Outcome) (s : FileState) (outcome : Outcome) → Mars statement should s outcome → IsMarredStatus outcome.status
marred_status (Open mode) should s outcome mars = inl mars.status
marred_status (Close lock) should s outcome mars = inl mars.0
marred_status ReadNext should s outcome mars = read_marred s s.connector.session outcome mars
marred_status (Read key) should s outcome mars = read_marred s s.connector.session outcome mars
marred_status (Start key length relation) should s outcome mars = read_marred s s.connector.session outcome mars
marred_status Write should s outcome mars = store_marred should s s.connector.session outcome mars
marred_status Rewrite should s outcome mars = store_marred should s s.connector.session outcome mars
marred_status Delete should s outcome mars = change_marred s s.connector.session outcome mars

-- it is not 91
whole : (status : Status) → is_damaged status ≡ true → is_device_or_memory status ≡ false
whole Damaged e = refl
whole Successful e = refl
whole Duplicate e = refl
whole OptionalAbsent e = refl
whole AtEnd e = refl
whole OutOfSequence e = refl
whole DuplicateKey e = refl
whole RecordNotFound e = refl
whole BoundaryViolation e = refl
whole PermanentError e = absurd (cc)
whole FileAbsent e = refl
whole ClosedWithLock e = refl
whole AttributeConflict e = refl
whole AlreadyOpen e = refl
whole NotOpen e = refl
whole NoRecordRead e = refl
whole WrongLength e = refl
whole NoNextRecord e = refl
whole NotOpenForReading e = refl
whole NotOpenForWriting e = refl
whole NotOpenForUpdating e = refl
whole OutOfMemory e = absurd (cc)
whole ConnectorFailed e = refl

not_damaged : (status : Status) → IsMarredStatus status → is_damaged status ≡ true → ⊥
not_damaged status (inl device) damaged = let no = whole status damaged in absurd (cc)
not_damaged status (inr full) damaged = let no = rw full at damaged in absurd (cc)

pub told_damage : (statement : FileStatement) (n : ℕ) (s : FileState) (outcome : Outcome) → Step statement n s outcome
    → IsTrue (is_damaged outcome.status) → IsTrue (is_open_statement statement && reaches statement n s)
told_damage statement n s outcome (inl is) damaged = (due statement n s).1.0 (ap (λ (o : Outcome). is_damaged o.status) is ∙ damaged)
told_damage statement n s outcome (inr marred) damaged = absurd (not_damaged outcome.status (marred_status statement (perform statement n s) s outcome marred.1) damaged)
