-- MOVE, which no fault mars.
use Rattle.std.proofs.Common.{◌≡◌, ℕ, ◌+◌, true, List, [], length, slice_get, slice_set, Some, refl, sym, ap, ◌∙◌, arith}
use Rattle.record_layout.specs.declared.item.Field.{Field}
use Rattle.record_layout.specs.declared.area.Source.{Source}
use Rattle.record_layout.specs.Picture.{number}
use Rattle.record_layout.specs.Area.{moved, fitted}
use Rattle.indexed_file.specs.World.{World}
use Rattle.deck_reader.specs.declared.statement.Statement.TheVariants.{Move, MoveLength}
use Rattle.deck_runner.specs.Run.{RunFile, LengthValue}
use Rattle.deck_runner.specs.Steps.{IsStep}
use Rattle.verbs.specs.Held.{state_of}
use Rattle.deck_runner.specs.declared.running_deck.RunningDeck.{RunningDeck}
use Rattle.deck_runner.specs.Running.{Running, schema_of, run_file, run_files, run_of}
use Rattle.deck_runner.specs.State.{state, IsSafeIn, GoesOn}
use Rattle.deck_runner.specs.Stretches.{IsStretch, HasCauses, ShowsRun, name_by, trace_by}
use Rattle.indexed_file.specs.Images.{untouched}
use Rattle.indexed_file.proofs.ImageLemmas.{goes_none}
use Rattle.indexed_file.specs.Shown.{Shown}
use Rattle.deck_reader.specs.declared.statement.Statement.{Statement}
use Rattle.deck_runner.specs.Line.{Line}
use Rattle.deck_runner.specs.Run.{Run}
use Rattle.deck_runner.proofs.FrameLemmas.{change_is_set, run_get, run_set}
use Rattle.deck_runner.proofs.RunLaws.{change_alike}
use Rattle.deck_runner.proofs.StateLemmas.{keeps_same}
use Rattle.deck_runner.proofs.VerbLemmas.{safe_after, trusted_after, schemas_after, names_after}

-- ---- what goes on

module _ {S : Type 0} (library : Shown S) (lib : S) (deck left : RunningDeck) where
  -- a MOVE to an item of a file
  pub goes_by_move : (u : ℕ) (file next : Running) (bytes : List ℕ) → left.files.items ≡ slice_set deck.files.items u next → left.items.items ≡ deck.items.items → next ≡ record file { area = bytes }
      → IsSafeIn library (state lib deck) → slice_get deck.files.items u ≡ Some file → GoesOn library (state lib deck) (state lib left)
  goes_by_move u file next bytes set same is safe get =
      let files = deck.files.items in
      let world = library.world lib in
      let fits = safe.fits u file get in
      let name : next.name ≡ file.name = ap (λ (f : Running). f.name) is in
      let depends : next.depends_on ≡ file.depends_on = ap (λ (f : Running). f.depends_on) is in
      let held : next.held ≡ file.held = ap (λ (f : Running). f.held) is in
      record {
        keeps = keeps_same library lib;
        safe = rw (set, same) (safe_after world world u files file next (length deck.items.items) (length deck.items.items) safe get (λ v other. refl) refl (rw held fits) depends refl);
        names = rw set (names_after files u file next get name);
        schemas = rw set (schemas_after files u file next get (ap (λ (f : Running). schema_of f) is));
        items = rw same refl;
        units = refl;
        elsewhere = refl;
        trusted = λ h trusted.
            rw set (trusted_after (library.IsShownTruly lib) (library.IsShownTruly lib) world world u files next trusted (λ v other. refl) (λ v. refl) (rw held (trusted.standing u file get)) (λ name t. t));
      }

  -- a MOVE to a length item, and STOP RUN
  pub goes_on_alike : left.files.items ≡ deck.files.items → length left.items.items ≡ length deck.items.items → IsSafeIn library (state lib deck) → GoesOn library (state lib deck) (state lib left)
  goes_on_alike files items safe = record {
    keeps = keeps_same library lib;
    safe = rw (files, items) safe;
    names = rw files refl;
    schemas = rw files refl;
    items = items;
    units = refl;
    elsewhere = refl;
    trusted = λ h trusted. rw files trusted;
  }

-- ---- the steps

-- a step that asks nothing of the library
pub still : {S : Type 0} (library : Shown S) (statement : Statement) (lib : S) (run next : Run) (lines : List Line) → name_by (library.world lib) statement ≡ [] → trace_by statement run lines ≡ untouched
    → HasCauses library statement run lines lib lib
    → ShowsRun library (record { run = run; library = lib }) → ShowsRun library (record { run = next; library = lib })
    → IsStep statement run lines next → IsStretch library statement (record { run = run; library = lib }) lines (record { run = next; library = lib })
still library statement lib run next lines name trace causes shows shows_after step = record {
  step = step;
  shows = shows;
  shows_after = shows_after;
  keeps = keeps_same library lib;
  causes = causes;
  names = refl;
  images = rw (name, trace) (goes_none library.moments lib []);
}

pub move_step : (world : World) (files : List Running) (items : List LengthValue) (u : ℕ) (file : Running) (field : Field) (source : Source (List ℕ))
    → slice_get files u ≡ Some file
    → IsStep (Move u field source) (run_of world files items) [] (run_of world (slice_set files u (record file { area = moved field source file.area })) items)
move_step world files items u file field source get =
    let next : Running = record file { area = moved field source file.area } in
    let place : 0 + u ≡ u = omega arith in
    let here : slice_get (run_files world 0 files) u ≡ Some (run_file world u file) = rw place at (run_get world 0 u files file get) in
    let changed = rw place at (run_set world world 0 u files file next get (λ v other. refl) refl refl) in
    let alike = change_alike u (λ (f : RunFile). let x : RunFile = record f { state = state_of next.held world u next.area } in x) (λ f. record f { state = record f.state { area = moved field source f.state.area } }) (run_files world 0 files) (run_file world u file) here refl in
    (refl, (λ i. record { files = (changed ∙ alike) i; items = items }))

pub length_step : (world : World) (files : List Running) (items : List LengthValue) (i : ℕ) (item : LengthValue) (source : Source (List ℕ))
    → slice_get items i ≡ Some item
    → IsStep (MoveLength i source) (run_of world files items) [] (run_of world files (slice_set items i (record item { value = number (fitted true item.digits source) })))
length_step world files items i item source get =
    (refl, ap (λ (l : List LengthValue). run_of world files l) (sym (change_is_set items i (λ x. record x { value = number (fitted true x.digits source) }) item get)))
