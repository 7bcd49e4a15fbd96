-- What the arguments and the commands are that the program makes for `clap`.
use Rattle.std.specs.Prelude.{◌≡◌, [], false, codes}
use Rattle.clap.specs.Words.{App, Shape, Rule, Text, app_of, rule_of, with_rule}
use Rattle.clap.specs.declared.builder.arg.Arg.{Arg}
use Rattle.clap.specs.declared.builder.command.Command.{Command}
use Rattle.clap.specs.declared.builder.command.Command.TheViews.{out-Command}
use Rattle.command_words.specs.CommandLine.{word_rule, option_rule, text_rule, usual_rule, name_rule}
use Rattle.command_words.specs.CommandLine.{flag_rule, number_rule, pages_rule, frames_rule, wait_rule, skip_rule}
use Rattle.command_words.specs.CommandLine.{key_word_rule, memory_rule, encoding_rule}

-- an argument of this rule, for its own command alone
abbrev pub HasRule : Rule → Arg → Type 0
HasRule rule arg = (rule_of arg ≡ rule) × (arg.global ≡ false)

-- no argument of the command is also for its subcommands
abbrev pub IsLocal : Command → Type 0
IsLocal command = (out-Command command).has_globals ≡ false

-- a command with these subcommands and rules, without such an argument
pub record IsApp (app : App) (command : Command) : Type 0 where
  pub shape : app_of command ≡ app
  pub local : IsLocal command

-- so, without subcommands
abbrev pub HasShape : Shape → Command → Type 0
HasShape shape command = IsApp (record { top = shape; subs = [] }) command

-- a command with a deck and a folder
abbrev pub with_files : App → App
with_files app = with_rule (with_rule app (word_rule (codes "deck"))) (option_rule (codes "folder"))

-- with limits, of which this is the number of frames where none is given
abbrev pub with_limits : Text → App → App
with_limits frames app = with_rule (with_rule app pages_rule) (frames_rule frames)

-- with the option by which it shows no progress
abbrev pub with_quiet : App → App
with_quiet app = with_rule app (flag_rule (codes "quiet"))

-- with the option by which it checks the file first
abbrev pub with_checked : App → App
with_checked app = with_rule app (flag_rule (codes "checked"))

-- with the option by which it waits for locks
abbrev pub with_wait : App → App
with_wait app = with_rule app wait_rule

-- with a deck, and a file of it
abbrev pub with_deck : App → App
with_deck app = with_rule (with_rule app (text_rule (codes "deck"))) name_rule

-- with the first and the last value of a list
abbrev pub with_values : App → App
with_values app = with_rule (with_rule app (text_rule (codes "from"))) (text_rule (codes "to"))

-- with the bounds of a list
abbrev pub with_bounds : App → App
with_bounds app = with_values (with_rule app key_word_rule)

-- with a kind of form, and an encoding
abbrev pub with_kind : App → App
with_kind app = with_rule (with_rule app (usual_rule (codes "as") (codes "text"))) encoding_rule

-- with the form of a list
abbrev pub with_form : App → App
with_form app = with_deck (with_rule (with_kind app) (text_rule (codes "cut")))

-- with the file of a load, and its text
abbrev pub with_file_words : App → App
with_file_words app = with_rule (with_rule app (option_rule (codes "file"))) (word_rule (codes "text"))

-- with its options too
abbrev pub with_text : App → App
with_text app = with_rule (with_kind (with_file_words app)) (flag_rule (codes "into"))

-- with the options by which it skips lines, keeps going, and writes those that are rejected
abbrev pub with_rejects : App → App
with_rejects app =
    with_rule (with_rule (with_rule app skip_rule) (flag_rule (codes "keep-going")))
    (text_rule (codes "rejects"))

-- and replaces records, fills up values, sorts lines, and takes so much memory
abbrev pub with_line_options : App → App
with_line_options app =
    with_rule (with_rule (with_rule (with_rule (with_rejects app) (flag_rule (codes "replace")))
    (flag_rule (codes "pad"))) (flag_rule (codes "sort"))) memory_rule

-- with the form of a salvage
abbrev pub with_salvage_form : App → App
with_salvage_form app = with_rule (with_kind app) (flag_rule (codes "places"))
