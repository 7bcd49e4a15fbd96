-- The command line of the program: its subcommands, and the arguments of each. All of this is ours,
-- in the words of `clap`.
use Rattle.std.specs.Prelude.{ℕ, [], ◌∷◌, Some, true, false, codes}
use Rattle.clap.specs.Words.{App, Shape, Rule, Text, new_rule}
use Rattle.clap.specs.Simple.{new_shape}
use Rattle.clap.specs.Lexer.{usize_max}
use Rattle.clap.specs.declared.builder.action.ArgAction.TheVariants.{SetTrue, Append}
use Rattle.clap.specs.declared.builder.value_parser.ValueParser.TheVariants.{Unsigned}

-- a word that has to be given
abbrev pub word_rule : Text → Rule
word_rule name = record (new_rule name) { value_names = 1; required = true }

-- an option that has to be given
abbrev pub option_rule : Text → Rule
option_rule name = record (word_rule name) { long = Some name }

-- words of which at least one has to be given
abbrev pub words_rule : Text → Rule
words_rule name = record (word_rule name) {
  range = Some
      (record { start_inclusive = 1; end_inclusive = usize_max });
}

-- an option that is a text
abbrev pub text_rule : Text → Rule
text_rule name = record (new_rule name) { long = Some name; value_names = 1 }

-- an option that is a text, and this one where it is not given
abbrev pub usual_rule : Text → Text → Rule
usual_rule name usual = record (text_rule name) { defaults = usual ∷ [] }

-- the option `--file`, beside a word `file`
abbrev pub name_rule : Rule
name_rule = record (text_rule (codes "name")) { long = Some (codes "file") }

-- an option without a value
abbrev pub flag_rule : Text → Rule
flag_rule name = record (new_rule name) { long = Some name; action = Some SetTrue }

-- an option that is a number within these bounds
abbrev pub number_rule : Text → ℕ → ℕ → Text → Rule
number_rule name least most usual = record (new_rule name) {
  long = Some name;
  value_names = 1;
  defaults = usual ∷ [];
  parser = Some (Unsigned least most);
}

-- `[--pages N]`
abbrev pub pages_rule : Rule
pages_rule = number_rule (codes "pages") 16 4294967295 (codes "1048576")

-- `[--frames N]`, and so many where it is not given
abbrev pub frames_rule : Text → Rule
frames_rule usual = number_rule (codes "frames") 1 4096 usual

-- `[--wait SECONDS]`
abbrev pub wait_rule : Rule
wait_rule = number_rule (codes "wait") 0 86400 (codes "0")

-- `run DECK --folder DIR [--pages N] [--frames N] [--strict] [--wait SECONDS]`
abbrev pub run_shape : Shape
run_shape = record (new_shape (codes "run")) {
  rules = word_rule (codes "deck") ∷ option_rule (codes "folder")
      ∷ pages_rule
      ∷ frames_rule (codes "64") ∷ flag_rule (codes "strict") ∷ wait_rule ∷ [];
}

-- `check FILE.. [--quiet] [--wait SECONDS]`
abbrev pub check_shape : Shape
check_shape = record (new_shape (codes "check")) {
  rules = words_rule (codes "file") ∷ flag_rule
      (codes "quiet") ∷ wait_rule ∷ [];
}

-- `serve --folder DIR [--pages N] [--frames N] [--wait SECONDS]`
abbrev pub serve_shape : Shape
serve_shape = record (new_shape (codes "serve")) {
  rules = option_rule (codes "folder")
      ∷ pages_rule
      ∷ frames_rule (codes "1024") ∷ wait_rule ∷ [];
}

-- `schema FILE [--deck DECK --file NAME]`
abbrev pub schema_shape : Shape
schema_shape = record (new_shape (codes "schema")) {
  rules = word_rule (codes "file") ∷ text_rule
      (codes "deck") ∷ name_rule ∷ [];
}

-- `explain KIND NUMBER`
abbrev pub explain_shape : Shape
explain_shape = record (new_shape (codes "explain")) {
  rules = word_rule (codes "kind") ∷ word_rule
      (codes "number") ∷ [];
}

-- `deck DECK`
abbrev pub deck_shape : Shape
deck_shape = record (new_shape (codes "deck")) { rules = word_rule (codes "deck") ∷ [] }

-- how many lines of a text a load skips
abbrev pub skip_rule : Rule
skip_rule = number_rule (codes "skip") 0 18446744073709551615 (codes "0")

-- `[--first N]`
abbrev pub first_rule : Rule
first_rule = number_rule (codes "first") 0 18446744073709551615 (codes "18446744073709551615")

-- `[--where ITEM=VALUE]`, which may be given several times
abbrev pub where_rule : Rule
where_rule = record (text_rule (codes "where")) { action = Some Append }

-- `[--key N]`
abbrev pub key_rule : Rule
key_rule = number_rule (codes "key") 0 8 (codes "0")

-- `[--key KEY]`, a number or a name
abbrev pub key_word_rule : Rule
key_word_rule = usual_rule (codes "key") (codes "0")

-- `[--memory MIB]`
abbrev pub memory_rule : Rule
memory_rule = number_rule (codes "memory") 0 65536 (codes "256")

-- `[--encoding ENCODING]`
abbrev pub encoding_rule : Rule
encoding_rule = usual_rule (codes "encoding") (codes "ascii")

-- `list FILE [--key KEY] [--from V] [--to V] [--first N] [--where ITEM=VALUE].. [--as FORM]
-- [--encoding ENCODING] [--cut N,N..] [--deck DECK --file NAME] [--checked] [--quiet]
-- [--wait SECONDS]`
abbrev pub list_shape : Shape
list_shape = record (new_shape (codes "list")) {
  rules = word_rule (codes "file") ∷ key_word_rule ∷ text_rule
      (codes "from") ∷ text_rule (codes "to")
      ∷ first_rule ∷ where_rule ∷ usual_rule (codes "as") (codes "text") ∷ encoding_rule ∷ text_rule
      (codes "cut") ∷ text_rule (codes "deck") ∷ name_rule ∷ flag_rule (codes "checked")
      ∷ flag_rule (codes "quiet") ∷ wait_rule ∷ [];
}

-- `cobol DECK [--fixed]`
abbrev pub cobol_shape : Shape
cobol_shape = record (new_shape (codes "cobol")) {
  rules = word_rule (codes "deck") ∷ flag_rule
      (codes "fixed") ∷ [];
}

-- `load DECK --folder DIR --file NAME TEXT [--as FORM] [--encoding ENCODING] [--into] [--skip N]
-- [--keep-going] [--rejects FILE] [--replace] [--pad] [--sort] [--memory MIB] [--pages N]
-- [--frames N] [--quiet]`
abbrev pub load_shape : Shape
load_shape = record (new_shape (codes "load")) {
  rules = word_rule (codes "deck") ∷ option_rule (codes "folder") ∷ option_rule (codes "file") ∷ word_rule
      (codes "text") ∷ usual_rule (codes "as") (codes "text") ∷ encoding_rule
      ∷ flag_rule (codes "into")
      ∷ skip_rule ∷ flag_rule (codes "keep-going") ∷ text_rule (codes "rejects") ∷ flag_rule
      (codes "replace")
      ∷ flag_rule (codes "pad") ∷ flag_rule (codes "sort") ∷ memory_rule
      ∷ pages_rule
      ∷ frames_rule (codes "64") ∷ flag_rule (codes "quiet") ∷ [];
}

-- `stat FILE`
abbrev pub stat_shape : Shape
stat_shape = record (new_shape (codes "stat")) { rules = word_rule (codes "file") ∷ [] }

-- `salvage FILE [--as FORM] [--encoding ENCODING] [--places] [--deck DECK --file NAME]`
abbrev pub salvage_shape : Shape
salvage_shape = record (new_shape (codes "salvage")) {
  rules = word_rule (codes "file") ∷ usual_rule (codes "as") (codes "text") ∷ encoding_rule ∷ flag_rule
      (codes "places") ∷ text_rule (codes "deck") ∷ name_rule ∷ [];
}

-- `copy FILE NEW [--key N] [--pages N] [--frames N]`
abbrev pub copy_shape : Shape
copy_shape = record (new_shape (codes "copy")) {
  rules = word_rule (codes "file") ∷ word_rule (codes "new") ∷ key_rule ∷ pages_rule ∷ frames_rule (codes "64") ∷ [];
}

-- the program with its version, and before its subcommands
abbrev pub versioned_shape : Shape
versioned_shape = record (new_shape (codes "cobix")) { has_version = true }

abbrev pub program_shape : Shape
program_shape = record versioned_shape { subcommand_required = true }

-- to run and check
abbrev pub runs_app : App
runs_app = record {
  top = record program_shape { is_leaf = false };
  subs = run_shape ∷ check_shape ∷ [];
}

-- and to serve, or to tell the schema of a file
abbrev pub schemas_app : App
schemas_app = record {
  top = record program_shape { is_leaf = false };
  subs = run_shape ∷ check_shape ∷ serve_shape ∷ schema_shape ∷ [];
}

-- and to explain a number, or to list a deck
abbrev pub lists_app : App
lists_app = record {
  top = record program_shape { is_leaf = false };
  subs = run_shape ∷ check_shape ∷ serve_shape ∷ schema_shape ∷ explain_shape ∷ deck_shape ∷ [];
}

-- and to list records, or to write a deck in COBOL
abbrev pub records_app : App
records_app = record {
  top = record program_shape { is_leaf = false };
  subs = run_shape ∷ check_shape ∷ serve_shape ∷ schema_shape ∷ explain_shape ∷ deck_shape ∷ list_shape ∷
      cobol_shape ∷ [];
}

-- and to load records, or to count what a file has
abbrev pub loads_app : App
loads_app = record {
  top = record program_shape { is_leaf = false };
  subs = run_shape ∷ check_shape ∷ serve_shape ∷ schema_shape ∷ explain_shape ∷ deck_shape ∷ list_shape ∷
      cobol_shape ∷ load_shape ∷ stat_shape ∷ [];
}

-- and to salvage the records of a file
abbrev pub salvages_app : App
salvages_app = record {
  top = record program_shape { is_leaf = false };
  subs = run_shape ∷ check_shape ∷ serve_shape ∷ schema_shape ∷ explain_shape ∷ deck_shape ∷ list_shape ∷
      cobol_shape ∷ load_shape ∷ stat_shape ∷ salvage_shape ∷ [];
}

-- one of these, to copy a file, or help or the version
abbrev pub program_app : App
program_app = record {
  top = record program_shape { is_leaf = false };
  subs = run_shape ∷ check_shape ∷ serve_shape ∷ schema_shape ∷ explain_shape ∷ deck_shape ∷ list_shape ∷
      cobol_shape ∷ load_shape ∷ stat_shape ∷ salvage_shape ∷ copy_shape ∷ [];
}
