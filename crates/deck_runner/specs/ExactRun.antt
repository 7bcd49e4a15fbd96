-- A run as the definitions say it: what it begins with, and that it went so. All of this is ours.
use Rattle.std.specs.Prelude.{false, map, None, ◌≡◌, ℕ, not, List, length, flat_map, Option}
use Rattle.record_layout.specs.Area.{blank_area}
use Rattle.record_layout.specs.Layout.{length_of}
use Rattle.indexed_file.specs.World.{World, named_in}
use Rattle.file_control.specs.Description.{FileDesc, file_names}
use Rattle.deck_reader.specs.declared.deck.Deck.{Deck}
use Rattle.deck_runner.specs.Run.{RunFile, Run, lines_of_run, after_run}
use Rattle.std.specs.List.{list_all}
use Rattle.std.specs.Io.KnownBytes.{Appends}
use Rattle.verbs.specs.Faults.{is_unclean}
use Rattle.deck_runner.specs.declared.run_end.RunEnd.{RunEnd}
use Rattle.deck_runner.specs.Line.{Line, transcript_line}

-- a file of a deck: its connector is closed and not locked, its file name stands for what it stands
-- for in the library, and its record area has zeros in each numeric item, and spaces elsewhere
abbrev pub file_before : World → FileDesc → RunFile
file_before world file = record {
  name = file.name;
  depends_on = file.depends_on;
  state = record {
    connector = record {
      access = file.access;
      optional = file.optional;
      schema = file.schema;
      locked = false;
      session = None;
    };
    named = named_in world file.file;
    file = None;
    area = blank_area (length_of file.layout) file.layout;
  };
}

-- the files and the length items of a deck: the value of each item is 0
abbrev pub run_before : World → Deck → Run
run_before world deck = record {
  files = map (file_before world) deck.files;
  items = map (λ item. record { digits = item.digits; value = 0 }) deck.items;
}

-- the transcript of the definitions was written, it was told whether no fault stands in any line of
-- it and how many lines there are, and each file name stands for what the definitions leave
pub record RunsExactly (written written_after : Option (List ℕ)) (world world_after : World) (end : RunEnd)
    (deck : Deck) : Type 0 where
  pub transcript_is : Appends written written_after
      (flat_map transcript_line (lines_of_run deck.statements (run_before world deck)))
  pub end_is : end ≡ (let lines = lines_of_run deck.statements (run_before world deck) in
      let is_clean = λ (line : Line). not (is_unclean line.statement line.status) in
      record { clean = list_all is_clean lines; lines = length lines })
  pub leaves : map (named_in world_after) (file_names deck.files)
      ≡ map (λ file. file.state.named) (after_run deck.statements (run_before world deck)).files
