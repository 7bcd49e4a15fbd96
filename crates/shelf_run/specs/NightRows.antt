-- Which rows the files may have where runs follow one another and end in any way, or are stopped by
-- a crash. All of this is ours.
use Rattle.std.specs.Prelude.{◌≡◌, ◌⊎◌, ℕ, List, [], ◌∷◌, ◌++◌, get_or, All, IsTrue, Option, bytes_eq}
use Rattle.std.specs.Prelude.{if◌then◌else◌}
use Rattle.indexed_file.specs.Images.{Trace, untouched}
use Rattle.indexed_file.specs.World.{World, Named, named_in}
use Rattle.page_store.specs.Images.{Leaves}
use Rattle.page_store.specs.ShelfState.{ShelfState}
use Rattle.file_control.specs.Description.{file_names}
use Rattle.deck_reader.specs.declared.statement.Statement.{Statement}
use Rattle.deck_reader.specs.declared.statement.Statement.TheVariants.{Perform, Move, MoveLength}
use Rattle.deck_reader.specs.declared.statement.Statement.TheVariants.{StopRun}
use Rattle.deck_reader.specs.declared.deck.Deck.{Deck}
use Rattle.deck_reader.specs.Deck.{IsDeck}
use Rattle.deck_runner.specs.ExactRun.{run_before}
use Rattle.deck_runner.specs.Line.{Line}
use Rattle.deck_runner.specs.NoFalseFile.{Ledger, first_ledger, IsOfLedger, during, behind}
use Rattle.deck_runner.specs.Run.{Run}
use Rattle.deck_runner.specs.RunEnd.{TellsLines, ToldInPart}
use Rattle.deck_runner.specs.declared.run_end.RunEnd.{RunEnd}
use Rattle.deck_runner.specs.Steps.{IsStep, IsRunOf, IsRunInPart, closes_from}
use Rattle.deck_runner.specs.Stretches.{trace_by}
use Rattle.shelf_run.specs.AnyNights.{AnyNight, NightHasEnded, WasBrokenOff, CameToNothing, StartsAfter}
use Rattle.shelf_run.specs.Files.{reads_of, Represents}
use Rattle.shelf_run.specs.NightPoints.{HasEndedThrough}

-- ---- a run in which one name is watched

-- a point of a run by the definitions; what the images of a name may be, in the step before it and
-- from there on; and the lines that the run has had, before that step and from there on
pub record Watched : Type 0 where
  pub run : Run
  pub in_step : Ledger
  pub ledger : Ledger
  pub begun : List Line
  pub told : List Line

-- before the first statement the images are as at the start
abbrev pub watched_before : World → Deck → Watched
watched_before world deck = record {
  run = run_before world deck;
  in_step = first_ledger;
  ledger = first_ledger;
  begun = [];
  told = [];
}

-- the file name that a statement of the deck is about
abbrev pub name_of : Deck → Statement → List ℕ
name_of deck (Perform u statement) = get_or (file_names deck.files) u []
name_of deck (Move u field source) = []
name_of deck (MoveLength i source) = []
name_of deck StopRun = []

-- what a step may leave of the name
abbrev pub trace_at : Deck → List ℕ → Statement → Run → List Line → Trace
trace_at deck name statement run lines = if bytes_eq
    (name_of deck statement) name then trace_by statement run lines else untouched

-- a step: what the definitions answer and leave, or a fault has marred it; and what the images of
-- the name may be goes on by what it answered
pub record IsWatchedStep (deck : Deck) (name : List ℕ) (statement : Statement) (before : Watched)
    (lines : List Line) (after : Watched) : Type 0 where
  pub step : IsStep statement before.run lines after.run
  pub in_step : after.in_step ≡ during (trace_at deck name statement before.run lines) before.ledger
  pub ledger : after.ledger ≡ behind (trace_at deck name statement before.run lines) before.ledger
  pub begun : after.begun ≡ before.told
  pub told : after.told ≡ before.told ++ lines

-- a whole run of the deck from this world on, with its lines; and one that was broken off
abbrev pub RunsWatched : Deck → List ℕ → World → List Line → Watched → Type 0
RunsWatched deck name world = IsRunOf (IsWatchedStep deck name)
    (λ point. closes_from 0 point.run.files) deck.statements (watched_before world deck)

abbrev pub RunsWatchedInPart : Deck → List ℕ → World → List Line → Watched → Type 0
RunsWatchedInPart deck name world = IsRunInPart (IsWatchedStep deck name)
    (λ point. closes_from 0 point.run.files) deck.statements (watched_before world deck)

-- ---- what a night may leave

-- what each name may stand for
abbrev pub Allowed : Type 1
Allowed = List ℕ → Named → Type 0

-- the bytes are a deck, in a world in which each of its names stands for something that it may
-- stand for, and this is so of the two
abbrev pub FromAllowed : Allowed → List ℕ → (Deck → World → Type 0) → Type 0
FromAllowed may bytes P =
    (deck : Deck) × IsDeck bytes deck × (world : World)
    × All (λ name. may name (named_in world name)) (file_names deck.files) × P deck world

-- a run that came to its end has left this: a whole run, whose lines are those that were written
abbrev pub MayEndSo : Allowed → AnyNight → Allowed
MayEndSo may night name named = FromAllowed may night.bytes (λ deck world. (end : RunEnd)
    × TellsLines night.written night.written_after end (λ lines.
    (after : Watched) × RunsWatched deck name world lines after × IsOfLedger (may name) after.ledger named))

-- a run whose writer refused a line has left this
abbrev pub MayBreakOffSo : Allowed → AnyNight → Allowed
MayBreakOffSo may night name named = FromAllowed may night.bytes
    (λ deck world. ToldInPart night.written night.written_after (λ lines.
    (after : Watched) × RunsWatchedInPart deck name world lines after
    × IsOfLedger (may name) after.ledger named))

-- lines of which this is so were written in a night, all of them, or up to one that its writer refused
abbrev pub WasTold : AnyNight → (List Line → Type 0) → Type 0
WasTold night AreLines =
    ((end : RunEnd) × TellsLines night.written night.written_after end AreLines)
    ⊎ ToldInPart night.written night.written_after AreLines

-- a crash has left this: in some step of the run, which has the first lines of those that would
-- have been written; or it came before the first step
abbrev pub MayBeCutSo : Allowed → AnyNight → Allowed
MayBeCutSo may night name named = may name named
    ⊎ FromAllowed may night.bytes (λ deck world. WasTold night (λ all.
    (lines more : List Line) × (all ≡ lines ++ more) × (after : Watched)
    × RunsWatchedInPart deck name world lines after × IsOfLedger (may name) after.in_step named))

-- a crash behind these lines has left this: in a step that began behind them, or behind a step by
-- which they were there
abbrev pub IsLeftBehind : List Line → (Named → Type 0) → Watched → Named → Type 0
IsLeftBehind seen before after named =
    ((since : List Line) × (after.begun ≡ seen ++ since) × IsOfLedger before after.in_step named)
    ⊎ ((since : List Line) × (after.told ≡ seen ++ since) × IsOfLedger before after.ledger named)

abbrev pub MayBeCutBehind : List Line → Allowed → AnyNight → Allowed
MayBeCutBehind seen may night name named = FromAllowed may night.bytes (λ deck world. WasTold night (λ all.
    (lines more : List Line) × (all ≡ lines ++ more) × (after : Watched)
    × RunsWatchedInPart deck name world lines after × IsLeftBehind seen (may name) after named))

-- ---- nights

-- how a night ended: its run came to its end; its writer refused a line; nothing came of it; a
-- crash cut it; or a crash cut it behind these lines of the run, where the shelf was so
pub data Ending : Type 0 where
  Ended : Ending
  BrokenOff : Ending
  Nothing : Ending
  Cut : Ending
  CutBehind : (seen : List Line) → (shelf : ShelfState) → Ending

pub record EndedNight : Type 0 where
  pub night : AnyNight
  pub ending : Ending

-- a run promises this; of one that a crash has cut, what it would have come to
abbrev pub HasEnding : Ending → AnyNight → Type 0
HasEnding Ended night = NightHasEnded night
HasEnding BrokenOff night = WasBrokenOff night
HasEnding Nothing night = CameToNothing night
HasEnding Cut night = NightHasEnded night ⊎ (WasBrokenOff night ⊎ CameToNothing night)
HasEnding (CutBehind seen shelf) night = HasEndedThrough night seen shelf

-- its shelf has not lied, and no name was attached to it at the start
pub record IsEndedNight (one : EndedNight) : Type 0 where
  pub honest : IsTrue one.night.new.is_honest
  pub names : one.night.old.names ≡ []
  pub ends : HasEnding one.ending one.night

-- the shelf from which on a crash may have come before the next start: that of the start or of the
-- point, if it has cut the night, or else that of the end
abbrev pub crash_from : Ending → AnyNight → ShelfState
crash_from Ended night = night.new
crash_from BrokenOff night = night.new
crash_from Nothing night = night.new
crash_from Cut night = night.old
crash_from (CutBehind seen shelf) night = shelf

-- the nights follow one another, the first one after this stretch of time
abbrev pub FollowAsEnded : (old new : ShelfState) → List EndedNight → Type 0
FollowAsEnded old new [] = Unit {0}
FollowAsEnded old new (one ∷ nights) =
    StartsAfter old new one.night.old × IsEndedNight one
    × FollowAsEnded (crash_from one.ending one.night) one.night.new nights

-- what each name may stand for behind a night
abbrev pub allowed_behind : Ending → Allowed → AnyNight → Allowed
allowed_behind Ended may night = MayEndSo may night
allowed_behind BrokenOff may night = MayBreakOffSo may night
allowed_behind Nothing may night = may
allowed_behind Cut may night = MayBeCutSo may night
allowed_behind (CutBehind seen shelf) may night = MayBeCutBehind seen may night

-- ---- the law

-- whatever a crash may leave of the file represents what its name stands for in this world
abbrev pub IsIn : World → ShelfState → List ℕ → Type 0
IsIn world shelf name = (c : Option (List ℕ)) → Leaves (shelf.file name) c
    → Represents c (named_in world name)

-- each name stands for what it stands for there
abbrev pub as_in : World → Allowed
as_in world name named = named ≡ named_in world name

-- at the start of each night the file of each such name represents something that the name may
-- stand for, behind the nights before
abbrev pub StartAllowed : Allowed → (List ℕ → Type 0) → List EndedNight → Type 0
StartAllowed may IsSuch [] = Unit {0}
StartAllowed may IsSuch (one ∷ nights) =
    ((name : List ℕ) → IsSuch name → (named : Named) × Represents (reads_of one.night.old name) named
    × may name named)
    × StartAllowed (allowed_behind one.ending may one.night) IsSuch nights

-- the law: in nights that end in any way, or are cut by a crash at any moment, each file is, at
-- each start, one that the definitions allow behind the nights before, where the files of all their
-- decks represented this world at first
abbrev pub NightsByRows : Type 0
NightsByRows =
    (world : World) (first : ShelfState) (nights : List EndedNight) → FollowAsEnded first first nights
    → All (λ one. (deck : Deck) → IsDeck one.night.bytes deck
    → All (IsIn world first) (file_names deck.files)) nights
    → StartAllowed (as_in world) (IsIn world first) nights
