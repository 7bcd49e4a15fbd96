-- Nights that end in any way, or that a crash stops, by their rows.
use Rattle.std.proofs.Common.{◌≡◌, ◌⊎◌, ℕ, List, [], ◌∷◌, ◌++◌, All, IsTrue, inl, inr, refl, sym, subst}
use Rattle.std.proofs.lemmas.List.Elements.{All-head, All-tail, All-weaker}
use Rattle.indexed_file.specs.World.{World, Named, named_in}
use Rattle.indexed_file.proofs.ImageLemmas.{each_now}
use Rattle.page_store.specs.ShelfState.{ShelfState}
use Rattle.file_control.specs.Description.{file_names}
use Rattle.deck_reader.specs.declared.deck.Deck.{Deck}
use Rattle.deck_reader.specs.Deck.{IsDeck}
use Rattle.deck_runner.specs.ExactRun.{run_before}
use Rattle.deck_runner.specs.Beginning.{IsAttached}
use Rattle.deck_runner.specs.Line.{Line}
use Rattle.deck_runner.specs.NoFalseFile.{Judged, first_ledger, IsOfLedger, AreWithinLedgers, RunsWhole, RunsInPart}
use Rattle.deck_runner.proofs.FalseFileRuns.{begun_stands}
use Rattle.shelf_library.specs.Crashes.{moments_on}
use Rattle.shelf_library.specs.MomentLaws.{joins, ends}
use Rattle.shelf_library.specs.State.{LibraryState}
use Rattle.shelf_library.specs.declared.held.Held.{Held}
use Rattle.shelf_run.specs.AnyNights.{AnyNight, NightHasEnded, WasBrokenOff, CameToNothing}
use Rattle.shelf_run.specs.Soundness.{files_of}
use Rattle.shelf_run.specs.Files.{reads_of, Represents}
use Rattle.shelf_run.specs.NightRows.{Allowed, MayEndSo, MayBreakOffSo, WasTold, MayBeCutSo, MayBeCutBehind, Ending, Ended, BrokenOff, Nothing, Cut, CutBehind, EndedNight, HasEnding, crash_from, FollowAsEnded, allowed_behind, IsIn, as_in, StartAllowed, NightsByRows}
use Rattle.shelf_run.specs.NightPoints.{RunsThrough, HasEndedThrough}
use Rattle.shelf_run.specs.ShelfRun.{shown_of_state, over_shelf}
use Rattle.shelf_run.proofs.FilesLemmas.{named_is, sound_of, shown_truly, world_at_first}
use Rattle.shelf_run.proofs.NightRowLemmas.{Covers, cover_weaker, cover_found, cover_now, first_mark, watched, LeftInRun, LeftBehind, cover_through, stand_at_point, cover_stands, cover_run, cover_broken_off, run_watched, broken_off_watched}

-- what a read gives of the name at the start of a night represents something that it may stand for
abbrev pub ReadsAllowed : Allowed → ShelfState → List ℕ → Type 0
ReadsAllowed may shelf name = (named : Named) × Represents (reads_of shelf name) named × may name named

-- ---- one night

module _ (may : Allowed) (night : AnyNight) (honest : IsTrue night.new.is_honest) (none : night.old.names ≡ []) where
  -- the library at the start
  abbrev start : LibraryState
  start = over_shelf night.limit night.frames night.old [] night.faults

  first_world : shown_of_state.world start ≡ files_of night.old
  first_world = world_at_first night.old none

  module _ (deck : Deck) (is_deck : IsDeck night.bytes deck) (reads : All (ReadsAllowed may night.old) (file_names deck.files)) where
    allowed : All (λ name. may name (named_in (shown_of_state.world start) name)) (file_names deck.files)
    allowed =
        subst (λ (world : World). All (λ name. may name (named_in world name)) (file_names deck.files)) (sym first_world)
        (All-weaker (ReadsAllowed may night.old) (λ name. may name (named_in (files_of night.old) name))
        (λ name is. subst (λ (named : Named). may name named) (sym (named_is (reads_of night.old name) is.0 is.1)) is.2)
        (file_names deck.files) reads)

    truly : All (shown_of_state.IsShownTruly start) (file_names deck.files)
    truly =
        All-weaker (ReadsAllowed may night.old) (shown_of_state.IsShownTruly start)
        (λ name is. shown_truly night.old name none (sound_of (reads_of night.old name) is.0 is.1))
        (file_names deck.files) reads

    module _ (held : List Held) (name : List ℕ) (now : Covers (may name) night.old night.old name) where
      abbrev end : LibraryState
      end = over_shelf night.limit night.frames night.new held night.faults_after

      abbrev begins : LibraryState → Judged LibraryState
      begins begun = record { point = record { run = run_before (shown_of_state.world start) deck; library = begun }; ledger = λ other. first_ledger }

      -- a crash in the run, of which these lines would have been told
      module _ (lines : List Line) (told : (AreLines : List Line → Type 0) → AreLines lines → WasTold night AreLines) where
        abbrev LeftOf : LibraryState → List Line → Named → Type 0
        LeftOf begun = LeftInRun start deck name (may name) now deck.statements (watched start deck name first_mark (begins begun))

        cut_so : (begun : LibraryState) (named : Named) → LeftOf begun lines named → MayBeCutSo may night name named
        cut_so begun named left = inr (deck, is_deck, shown_of_state.world start, allowed, told (λ all. LeftOf begun all named) left)

        attached : (begun : LibraryState) → IsAttached shown_of_state start begun deck → Covers (MayBeCutSo may night name) night.old begun.shelf name
        attached begun is = cover_weaker _ (MayBeCutSo may night name) night.old begun.shelf name (λ named was. inl (now.1 named was)) ((is.images name).within now.0)

        pub cut_whole : RunsWhole shown_of_state start end deck lines → Covers (MayBeCutSo may night name) night.old night.new name
        cut_whole runs =
            let is = runs.stretches honest truly in
            let ran = cover_run start deck name (may name) now (MayBeCutSo may night name) night.old deck.statements (begins is.0) lines is.1 first_mark is.2.names
            (cut_so is.0) is.3 (attached is.0 is.2) in
            subst (λ (library : LibraryState). Covers (MayBeCutSo may night name) night.old library.shelf name) is.4 ran

        pub cut_in_part : RunsInPart shown_of_state start end deck lines → Covers (MayBeCutSo may night name) night.old night.new name
        cut_in_part runs =
            let is = runs.stretches honest truly in
            let ran = cover_broken_off start deck name (may name) now (MayBeCutSo may night name) night.old deck.statements (begins is.0) lines is.1 first_mark is.2.names
            (cut_so is.0) is.3 (attached is.0 is.2) in
            subst (λ (library : LibraryState). Covers (MayBeCutSo may night name) night.old library.shelf name) is.4 ran

        -- behind a point of it
        pub cut_behind : (seen : List Line) (shelf : ShelfState) → RunsThrough seen shelf start end deck lines → Covers (MayBeCutBehind seen may night name) shelf night.new name
        cut_behind seen shelf runs =
            let P = MayBeCutBehind seen may night name in
            let is = runs.stretches honest truly in
            let through = is.3 in
            let point : Judged LibraryState = through.0 in
            let later : List Line = through.1 in
            let LeftHere : List Line → Named → Type 0 = LeftBehind start deck name (may name) now seen deck.statements (watched start deck name first_mark (begins is.0)) in
            let gives : (named : Named) → LeftHere (seen ++ later) named → P named =
            λ named left. (deck, is_deck, shown_of_state.world start, allowed, told (λ all. LeftHere all named) (subst (λ (all : List Line). LeftHere all named) (sym through.3) left)) in
            let first : AreWithinLedgers shown_of_state start (begins is.0) =
            λ other was. begun_stands shown_of_state (λ first last. ends first.shelf last.shelf) start is.0 other (is.2.images other) (was refl) in
            let stands = stand_at_point start deck.statements (begins is.0) seen point later is.1 through.4 first in
            let ran = cover_through start deck name (may name) now P deck.statements (begins is.0) seen point later is.1 is.2.names gives (stands name) through.4 in
            let to_end : Covers P point.point.library.shelf night.new name =
            subst (λ (library : LibraryState). Covers P point.point.library.shelf library.shelf name) is.4 ran in
            subst (λ (from : ShelfState). Covers P from night.new name) through.2 to_end

      -- the end of the run
      at_end : (P : Named → Type 0) (after : Judged LibraryState) → after.point.library ≡ end → AreWithinLedgers shown_of_state start after
          → ((named : Named) → IsOfLedger (may name) (after.ledger name) named → P named) → Covers P night.new night.new name
      at_end P after same stands gives =
          subst (λ (library : LibraryState). Covers P library.shelf library.shelf name) same
          (cover_stands start deck name (may name) now P (after.ledger name) after.point.library after.point.library gives (stands name))

  pub ended : (name : List ℕ) → NightHasEnded night → ((deck : Deck) → IsDeck night.bytes deck → All (ReadsAllowed may night.old) (file_names deck.files))
      → Covers (may name) night.old night.old name → Covers (MayEndSo may night name) night.new night.new name
  ended name has reads now =
      let run = has.1 in
      let deck : Deck = run.0 in
      let told = run.3 in
      let held = told.3.held in
      let of_deck = reads deck run.1 in
      let is = told.3.run.stretches honest (truly deck run.1 of_deck) in
      let begun = begins deck run.1 of_deck held name now is.0 in
      let ran = run_watched start deck name deck.statements begun told.0 is.1 first_mark is.2.names is.3 in
      at_end deck run.1 of_deck held name now (MayEndSo may night name) is.1 is.4 is.5
      (λ named of. (deck, run.1, shown_of_state.world start, allowed deck run.1 of_deck, (has.0, (told.0, told.1, told.2, (watched start deck name ran.0 is.1, ran.1, of)))))

  pub broke_off : (name : List ℕ) → WasBrokenOff night → ((deck : Deck) → IsDeck night.bytes deck → All (ReadsAllowed may night.old) (file_names deck.files))
      → Covers (may name) night.old night.old name → Covers (MayBreakOffSo may night name) night.new night.new name
  broke_off name run reads now =
      let deck : Deck = run.0 in
      let told = run.3 in
      let lines = told.0 ++ told.1 ∷ told.2 in
      let held = told.9.held in
      let of_deck = reads deck run.1 in
      let is = told.9.run.stretches honest (truly deck run.1 of_deck) in
      let begun = begins deck run.1 of_deck held name now is.0 in
      let ran = broken_off_watched start deck name deck.statements begun lines is.1 first_mark is.2.names is.3 in
      at_end deck run.1 of_deck held name now (MayBreakOffSo may night name) is.1 is.4 is.5
      (λ named of. (
        deck,
        run.1,
        shown_of_state.world start,
        allowed deck run.1 of_deck,
        (told.0, told.1, told.2, told.3, told.4, told.5, told.6, told.7, told.8, (watched start deck name ran.0 is.1, ran.1, of)),
      ))

  -- nothing came of it
  pub stayed : (name : List ℕ) → CameToNothing night → Covers (may name) night.old night.old name → Covers (may name) night.old night.new name
  stayed name leaves now = cover_weaker _ (may name) night.old night.new name now.1 ((leaves.images honest name).within now.0)

  pub was_cut : (name : List ℕ) → NightHasEnded night ⊎ (WasBrokenOff night ⊎ CameToNothing night)
      → ((deck : Deck) → IsDeck night.bytes deck → All (ReadsAllowed may night.old) (file_names deck.files))
      → Covers (may name) night.old night.old name → Covers (MayBeCutSo may night name) night.old night.new name
  was_cut name (inl has) reads now =
      let run = has.1 in
      let told = run.3 in
      cut_whole run.0 run.1 (reads run.0 run.1) told.3.held name now told.0 (λ AreLines are. inl (has.0, (told.0, told.1, told.2, are))) told.3.run
  was_cut name (inr (inl run)) reads now =
      let told = run.3 in
      cut_in_part run.0 run.1 (reads run.0 run.1) told.9.held name now (told.0 ++ told.1 ∷ told.2)
      (λ AreLines are. inr (told.0, told.1, told.2, told.3, told.4, told.5, told.6, told.7, told.8, are)) told.9.run
  was_cut name (inr (inr leaves)) reads now =
      cover_weaker (may name) (MayBeCutSo may night name) night.old night.new name (λ named is. inl is) (stayed name leaves now)

  pub was_cut_behind : (seen : List Line) (shelf : ShelfState) (name : List ℕ) → HasEndedThrough night seen shelf
      → ((deck : Deck) → IsDeck night.bytes deck → All (ReadsAllowed may night.old) (file_names deck.files))
      → Covers (may name) night.old night.old name → Covers (MayBeCutBehind seen may night name) shelf night.new name
  was_cut_behind seen shelf name has reads now =
      let run = has.1 in
      let told = run.3 in
      cut_behind run.0 run.1 (reads run.0 run.1) told.3.held name now told.0 (λ AreLines are. inl (has.0, (told.0, told.1, told.2, are))) seen shelf told.3.run

  -- however it ended
  pub behind_night : (ending : Ending) (name : List ℕ) → HasEnding ending night
      → ((deck : Deck) → IsDeck night.bytes deck → All (ReadsAllowed may night.old) (file_names deck.files))
      → Covers (may name) night.old night.old name → Covers (allowed_behind ending may night name) (crash_from ending night) night.new name
  behind_night Ended name has reads now = ended name has reads now
  behind_night BrokenOff name has reads now = broke_off name has reads now
  behind_night Nothing name has reads now = each_now moments_on joins ends (may name) night.old night.new name (stayed name has now)
  behind_night Cut name has reads now = was_cut name has reads now
  behind_night (CutBehind seen shelf) name has reads now = was_cut_behind seen shelf name has reads now

-- ---- all nights

module _ (world : World) (first : ShelfState) where
  abbrev OfDecks : EndedNight → Type 0
  OfDecks one = (deck : Deck) → IsDeck one.night.bytes deck → All (IsIn world first) (file_names deck.files)

  all_nights : (may : Allowed) (old new : ShelfState) (nights : List EndedNight) → ((name : List ℕ) → IsIn world first name → Covers (may name) old new name)
      → FollowAsEnded old new nights → All OfDecks nights → StartAllowed may (IsIn world first) nights
  all_nights may old new [] covers follow decks = tt
  all_nights may old new (one ∷ nights) covers follow decks =
      let night = one.night in
      let starts = follow.0 in
      let is = follow.1 in
      let reads : (name : List ℕ) → IsIn world first name → ReadsAllowed may night.old name =
      λ name such. cover_found (may name) old new name (covers name such) (reads_of night.old name) (starts.found name (reads_of night.old name) (starts.reads name)) in
      let now : (name : List ℕ) → IsIn world first name → Covers (may name) night.old night.old name =
      λ name such. cover_now (may name) night.old name (λ c leaves. cover_found (may name) old new name (covers name such) c (starts.found name c leaves)) in
      let own : OfDecks one = All-head OfDecks one nights decks in
      let of_deck : (deck : Deck) → IsDeck night.bytes deck → All (ReadsAllowed may night.old) (file_names deck.files) =
      λ deck it. All-weaker (IsIn world first) (ReadsAllowed may night.old) reads (file_names deck.files) (own deck it) in
      let went : (name : List ℕ) → IsIn world first name → Covers (allowed_behind one.ending may night name) (crash_from one.ending night) night.new name =
      λ name such. behind_night may night is.honest is.names one.ending name is.ends of_deck (now name such) in
      (reads, all_nights (allowed_behind one.ending may night) (crash_from one.ending night) night.new nights went follow.2 (All-tail OfDecks one nights decks))

  at_first : (name : List ℕ) → IsIn world first name → Covers (as_in world name) first first name
  at_first name such = cover_now (as_in world name) first name (λ c leaves. (named_in world name, such c leaves, refl))

  pub by_rows : (nights : List EndedNight) → FollowAsEnded first first nights → All OfDecks nights → StartAllowed (as_in world) (IsIn world first) nights
  by_rows nights = all_nights (as_in world) first first nights at_first

pub nights_by_rows : NightsByRows
nights_by_rows world first nights = by_rows world first nights
