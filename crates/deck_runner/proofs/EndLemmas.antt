-- What a run leaves of the names of a library.
use Rattle.std.proofs.Common.{◌≡◌, ◌≤◌, ℕ, suc, ◌+◌, true, false, List, [], ◌∷◌, length, map, drop, slice_index_or, refl, sym, ap, ◌∙◌, subst, arith, bytes_eq}
use Rattle.std.specs.List.{list_any, IsDistinct, AllByRecursion}
use Rattle.std.proofs.lemmas.List.{drop_more, drop_all, length-map}
use Rattle.std.proofs.lemmas.Slice.Eq.{bytes_eq-Decides}
use Rattle.indexed_file.specs.World.{World, FileUnit, Named, Absent, Shut, name_in}
use Rattle.indexed_file.specs.Shown.{Shown}
use Rattle.deck_runner.specs.Stretches.{Point}
use Rattle.indexed_file.proofs.TestLemmas.{either}
use Rattle.file_control.specs.Description.{file_names}
use Rattle.record_layout.specs.Schema.{Schema}
use Rattle.deck_reader.specs.declared.deck.Deck.{Deck}
use Rattle.deck_reader.specs.CanBeRun.{CanBeRun}
use Rattle.deck_runner.specs.Line.{Line}
use Rattle.deck_runner.specs.Run.{RunFile, LengthValue, Run}
use Rattle.deck_runner.specs.Running.{Running, schema_of, unit_names, run_files, run_of}
use Rattle.deck_runner.specs.declared.running_deck.RunningDeck.{RunningDeck}
use Rattle.deck_runner.specs.State.{state, run_in, GoesOn, AreLinesOf, Leads}
use Rattle.deck_runner.specs.Beginning.{WorldIsLeft, SameElsewhere, SameNames, IsUntouched, IsBegun, DeckLeads, program_names}
use Rattle.deck_runner.proofs.StateLemmas.{lines_within}

-- ---- what names stand for

-- a name that no unit has
not_among : (units : List FileUnit) (elsewhere : List ℕ → Named) (name : List ℕ) → list_any (λ other. bytes_eq other name) (map (λ (unit : FileUnit). unit.name) units) ≡ false
    → name_in units elsewhere name ≡ elsewhere name
not_among [] elsewhere name none = refl
not_among (unit ∷ units) elsewhere name none =
    either (bytes_eq unit.name name) (name_in (unit ∷ units) elsewhere name ≡ elsewhere name)
    (λ same. let e = rw same at none in absurd (cc))
    (λ unlike. rw unlike (not_among units elsewhere name (rw unlike at none)))

-- names that a unit has not are those of the units behind it
behind : (unit : FileUnit) (units : List FileUnit) (elsewhere : List ℕ → Named) (names : List (List ℕ)) → AllByRecursion (λ y. bytes_eq unit.name y ≡ false) names
    → map (name_in (unit ∷ units) elsewhere) names ≡ map (name_in units elsewhere) names
behind unit units elsewhere [] all = refl
behind unit units elsewhere (name ∷ names) all =
    rw (all.0) (ap (λ (rest : List Named). name_in units elsewhere name ∷ rest) (behind unit units elsewhere names all.1))

-- where no two units have one name, each name stands for what its unit says
each_name : (units : List FileUnit) (elsewhere : List ℕ → Named) → IsDistinct bytes_eq (map (λ (unit : FileUnit). unit.name) units)
    → map (name_in units elsewhere) (map (λ (unit : FileUnit). unit.name) units) ≡ map (λ (unit : FileUnit). unit.named) units
unfolding IsDistinct
each_name [] elsewhere distinct = refl
each_name (unit ∷ units) elsewhere distinct =
    let own : bytes_eq unit.name unit.name ≡ true = (bytes_eq-Decides unit.name unit.name).1 refl in
    rw own (ap (λ (rest : List Named). unit.named ∷ rest)
    (behind unit units elsewhere (map (λ (u : FileUnit). u.name) units) distinct.0 ∙ each_name units elsewhere distinct.1))

-- the names of the files of a run stand for what their units say
files_named : (world : World) (w : ℕ) (files : List Running) → w + length files ≡ length world.units
    → map (λ (file : RunFile). file.state.named) (run_files world w files) ≡ map (λ (unit : FileUnit). unit.named) (drop w world.units)
files_named world w [] many = rw (drop_all w world.units (omega arith)) refl
files_named world w (file ∷ files) many =
    let unit : FileUnit = slice_index_or world.units w (record { name = []; named = Absent; holding = Shut }) in
    let next : w + 1 ≡ suc w = omega arith in
    rw (drop_more world.units w (record { name = []; named = Absent; holding = Shut }) (omega arith), next)
    (ap (λ (rest : List Named). unit.named ∷ rest) (files_named world (suc w) files (omega arith)))

-- ---- what is left

leaves : (world : World) (deck : Deck) (files : List Running) (items : List LengthValue) → unit_names world ≡ file_names deck.files → IsDistinct bytes_eq (file_names deck.files) → length files ≡ length deck.files
    → WorldIsLeft world deck (run_of world files items)
leaves world deck files items units distinct many =
    let units_many : length (unit_names world) ≡ length deck.files = ap (λ (l : List (List ℕ)). length l) units ∙ length-map deck.files (λ file. file.file) in
    let units_are : length (unit_names world) ≡ length world.units = length-map world.units (λ unit. unit.name) in
    let as_many : 0 + length files ≡ length world.units = omega arith in
    rw (← units) (each_name world.units world.elsewhere (rw units distinct) ∙ sym (files_named world 0 files as_many))

same_elsewhere : (old between new : World) (deck : Deck) → unit_names between ≡ file_names deck.files → unit_names new ≡ unit_names between → new.elsewhere ≡ between.elsewhere → SameNames old between
    → SameElsewhere deck old new
same_elsewhere old between new deck units same elsewhere named name none =
    not_among new.units new.elsewhere name (rw (same, units) none)
    ∙ (ap (λ (f : List ℕ → Named). f name) elsewhere
    ∙ (sym (not_among between.units between.elsewhere name (rw units none)) ∙ named name))

module _ {S : Type 0} (library : Shown S) (old between new : S) (deck : Deck) (before after : RunningDeck) where
  pub leads : CanBeRun deck → IsBegun library old between deck before → IsUntouched library old between → library.fault_count old ≤ library.fault_count between
      → GoesOn library (state between before) (state new after) → (AreSuch : Point S → List Line → Point S → Type 0) (lines : List Line) → Leads library (state between before) (state new after) AreSuch lines
      → DeckLeads library old new deck AreSuch lines
  leads runs begun untouched rising goes AreSuch lines p = record {
    steps = λ honest shown.
        let next = run_in library (state new after) in
        let many : length after.files.items ≡ length before.files.items = sym (length-map after.files.items schema_of) ∙ ap (λ (l : List Schema). length l) goes.schemas ∙ length-map before.files.items schema_of in (
          between,
          next,
          record { keeps = begun.keeps; names = begun.units; images = untouched.images (goes.keeps.honest honest) },
          subst (λ (first : Run). AreSuch (record { run = first; library = between }) lines (record { run = next; library = new })) begun.run (p.steps honest (begun.trusted (goes.keeps.honest honest) shown)),
          leaves (library.world new) deck after.files.items after.items.items (goes.units ∙ begun.units) runs.described.distinct (many ∙ begun.many),
        );
    lines_are =
        lines_within library (program_names deck) between new old new rising (omega arith) lines
        (subst (λ (names : List (List ℕ)). AreLinesOf library names between new lines) begun.names p.lines_are);
  }

  pub elsewhere_same : IsBegun library old between deck before → GoesOn library (state between before) (state new after) → IsUntouched library old between
      → SameElsewhere deck (library.world old) (library.world new)
  elsewhere_same begun goes untouched =
      same_elsewhere (library.world old) (library.world between) (library.world new) deck begun.units goes.units goes.elsewhere untouched.named
