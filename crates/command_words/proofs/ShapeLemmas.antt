-- What each argument and each subcommand makes of the program.
use Rattle.std.proofs.Common.{◌≡◌, ◌∙◌, false, ap, ap₂, Result, IfOk}
use Rattle.std.specs.Prelude.{◌||◌}
use Rattle.std.proofs.lemmas.Result.{IfOk-weaker}
use Rattle.clap.specs.Simple.{app_of_fields}
use Rattle.clap.specs.Words.{AddsArg, AddsSubcommand, App, Rule, Shape, with_rule, with_subcommand}
use Rattle.clap.specs.declared.builder.arg.Arg.{Arg}
use Rattle.clap.specs.declared.builder.command.Command.{Command}
use Rattle.clap.specs.declared.builder.command.Command.TheOpen.{Command-F}
use Rattle.clap.specs.declared.builder.command.Command.TheViews.{out-Command}
use Rattle.command_words.specs.Commands.{HasRule, HasShape, IsApp}

-- with an argument more
pub with_arg : {app : App} {rule : Rule} {old new : Command} {arg : Arg} → AddsArg old arg new → IsApp app old → HasRule rule arg → IsApp (with_rule app rule) new
with_arg added is has = record {
  shape = added.shape has.1 ∙ ap₂ with_rule is.shape has.0;
  local = added.globals ∙ ap₂ ◌||◌ is.local has.1;
}

pub last_arg : {E : Type 0} {app : App} {rule : Rule} (old : Command) (arg : Arg) (new : Result Command E) → IfOk new (AddsArg old arg) → IsApp app old → HasRule rule arg
    → IfOk new (IsApp (with_rule app rule))
last_arg old arg new added is has = IfOk-weaker new _ _ (λ command it. with_arg it is has) added

-- with a subcommand more
pub with_command : {app : App} {shape : Shape} {old sub new : Command} → AddsSubcommand old sub new → IsApp app old → HasShape shape sub → IsApp (with_subcommand app shape) new
with_command added is sub = record {
  shape = added.shape sub.local ∙ ap₂ with_subcommand is.shape (ap (λ (a : App). a.top) sub.shape);
  local = added.globals ∙ ap₂ ◌||◌ is.local sub.local;
}

-- a command whose fields are these
pub with_fields : {app : App} (new : Command) (fields : Command-F Command) → out-Command new ≡ fields → app_of_fields fields ≡ app
    → fields.has_globals ≡ false → IsApp app new
with_fields new fields is shape local = record {
  shape = ap app_of_fields is ∙ shape;
  local = ap (λ (f : Command-F Command). f.has_globals) is ∙ local;
}
