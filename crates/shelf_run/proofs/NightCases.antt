-- Three worked nights: the first one makes a file, the second one meets another name alone, and the third one reads the file. And a night that
-- changes the file, and is cut, or meets a fault.
use Rattle.std.specs.Prelude.{◌≡◌, ℕ, Bool, true, false, List, [], ◌∷◌, ◌++◌, map, codes, flat_map, Option, Some, None, option_map, refl}
use Rattle.indexed_file.specs.World.{World, Named, Unsound, named_in}
use Rattle.io_state.specs.declared.modes.Access.TheVariants.{Sequential, Dynamic}
use Rattle.io_state.specs.declared.modes.OpenMode.TheVariants.{Input, Output, InputOutput}
use Rattle.io_state.specs.declared.statement.FileStatement.TheVariants.{Open, Close, ReadNext, Write}
use Rattle.io_state.specs.declared.status.Status.TheVariants.{PermanentError}
use Rattle.record_layout.specs.declared.schema.KeyKind.TheVariants.{Prime}
use Rattle.record_layout.specs.Layout.{Placed}
use Rattle.record_layout.specs.declared.area.Source.TheVariants.{Text, Digits}
use Rattle.file_control.specs.Description.{FileDesc}
use Rattle.deck_reader.specs.declared.statement.Statement.{Statement}
use Rattle.verbs.specs.Connector.{Session}
use Rattle.deck_reader.specs.declared.deck.Deck.{Deck}
use Rattle.deck_runner.proofs.Customers.{cust_id, cust_name}
use Rattle.deck_runner.proofs.Decks.{key, schema, on, on_file, move}
use Rattle.deck_runner.specs.NoFalseFile.{Ledger, during, behind}
use Rattle.deck_runner.specs.Run.{RunFile, Run, after_statement}
use Rattle.deck_runner.proofs.RunLaws.{lines_of}
use Rattle.deck_runner.specs.Line.{Line}
use Rattle.shelf_run.specs.Histories.{no_files, transcripts}
use Rattle.shelf_run.specs.NightRows.{Watched, watched_before, trace_at}
use Rattle.shelf_run.specs.ExactRun.{world_after}

abbrev layout : List Placed
layout =
    record { name = Some (codes "CUST-REC"); field = record { offset = 0; length = 10; numeric = false } }
    ∷ record { name = Some (codes "CUST-ID"); field = cust_id }
    ∷ record { name = Some (codes "CUST-NAME"); field = cust_name }
    ∷ []

-- a file of this name in the deck, and this one in the folder
abbrev file : List ℕ → List ℕ → FileDesc
file name place = record {
  name = name;
  file = place;
  access = Sequential;
  optional = false;
  entry = Some (codes "CUST-REC");
  layout = layout;
  schema = schema 10 10 (key 0 4 Prime ∷ []);
  depends_on = None;
}

abbrev first_night : Deck
first_night = record {
  files = file (codes "CUST") (codes "cust.dat") ∷ [];
  items = [];
  statements = on (Open Output) ∷ move cust_id (Digits (codes "1")) ∷ move cust_name (Text (codes "SMITH")) ∷ on Write ∷ [];
  places = record { lines = []; paragraphs = [] };
}

abbrev second_night : Deck
second_night = record { files = file (codes "STOCK") (codes "stock.dat") ∷ []; items = []; statements = on (Open Input) ∷ []; places = record { lines = []; paragraphs = [] } }

abbrev third_night : Deck
third_night = record {
  files = file (codes "STOCK") (codes "stock.dat") ∷ file (codes "OLD") (codes "cust.dat") ∷ [];
  items = [];
  statements = on_file 1 (Open Input) ∷ on_file 1 ReadNext ∷ on_file 1 ReadNext ∷ [];
  places = record { lines = []; paragraphs = [] };
}

abbrev lines : List (List ℕ) → List ℕ
lines = flat_map (λ line. line ++ 10 ∷ [])

three_nights :
    transcripts no_files (first_night ∷ second_night ∷ third_night ∷ [])
    ≡ lines (codes "OPEN OUTPUT CUST 00" ∷ codes "WRITE CUST 00" ∷ codes "CLOSE CUST 00" ∷ [])
    ∷ lines (codes "OPEN INPUT STOCK 35" ∷ [])
    ∷ lines (codes "OPEN INPUT OLD 00" ∷ codes "READ NEXT OLD 00 [0001SMITH ]" ∷ codes "READ NEXT OLD 10" ∷ codes "CLOSE OLD 00" ∷ [])
    ∷ []
three_nights = refl

-- ---- a night that is cut

-- a statement with these lines, which leaves this, where the name of the file is watched
abbrev watched_step : Deck → Statement → List Line → Run → Watched → Watched
watched_step deck statement lines next point =
    let trace = trace_at deck (codes "cust.dat") statement point.run lines in
    record { run = next; in_step = during trace point.ledger; ledger = behind trace point.ledger; begun = point.told; told = point.told ++ lines }

-- statements as the definitions perform them
abbrev watched_steps : Deck → List Statement → Watched → Watched
watched_steps deck [] point = point
watched_steps deck (statement ∷ rest) point =
    watched_steps deck rest (watched_step deck statement (lines_of statement point.run) (after_statement statement point.run) point)

-- what it may be: as at the start or not, and these
abbrev ledger_with : Bool → List Named → Ledger
ledger_with at_start may = record { as_at_start = at_start; may = may }

abbrev changes : List Statement
changes = on (Open InputOutput) ∷ move cust_id (Digits (codes "2")) ∷ move cust_name (Text (codes "JONES")) ∷ on Write ∷ []

abbrev change_night : Deck
change_night = record { files = record (file (codes "CUST") (codes "cust.dat")) { access = Dynamic } ∷ []; items = []; statements = changes; places = record { lines = []; paragraphs = [] } }

abbrev first_world : World
first_world = world_after no_files first_night

abbrev first_file : Named
first_file = named_in first_world (codes "cust.dat")

abbrev changed_file : Named
changed_file = named_in (world_after first_world change_night) (codes "cust.dat")

-- cut at the OPEN: as at the start
cut_at_open : (watched_steps change_night (on (Open InputOutput) ∷ []) (watched_before first_world change_night)).in_step ≡ ledger_with true []
cut_at_open = refl

-- cut in the WRITE: as at the OPEN, or refused
cut_in_write : (watched_steps change_night changes (watched_before first_world change_night)).in_step ≡ ledger_with true (Unsound ∷ [])
cut_in_write = refl

-- cut in the CLOSE: as at the OPEN, refused, or with the new row
cut_in_close : (watched_steps change_night (changes ++ on (Close false) ∷ []) (watched_before first_world change_night)).in_step
    ≡ ledger_with true (Unsound ∷ changed_file ∷ Unsound ∷ [])
cut_in_close = refl

-- cut behind it, in a statement that changes nothing: with the new row, and nothing else
cut_behind_close : (watched_steps change_night (changes ++ on (Close false) ∷ on (Open Input) ∷ []) (watched_before first_world change_night)).in_step
    ≡ ledger_with false (changed_file ∷ [])
cut_behind_close = refl

-- ---- a night with a fault

-- the connector of each file has failed
abbrev failed_file : RunFile → RunFile
failed_file one =
    let connector = one.state.connector in
    let session : Option Session = option_map (λ (s : Session). record s { failed = true; last_read = None }) connector.session in
    record one { state = record one.state { connector = record connector { session = session } } }

abbrev failed_run : Run → Run
failed_run run = record run { files = map failed_file run.files }

abbrev write_30 : Line
write_30 = record { statement = Write; name = codes "CUST"; status = PermanentError; delivered = None }

-- the WRITE answers 30, and the CLOSE writes nothing: as at the OPEN, or refused
behind_30 :
    let before = watched_steps change_night (on (Open InputOutput) ∷ []) (watched_before first_world change_night) in
    (watched_steps change_night (on (Close false) ∷ []) (watched_step change_night (on Write) (write_30 ∷ []) (failed_run before.run) before)).ledger
    ≡ ledger_with true (Unsound ∷ [])
behind_30 = refl
