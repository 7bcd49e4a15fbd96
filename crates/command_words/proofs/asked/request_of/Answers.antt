use Rattle.std.proofs.Common.{◌≡◌, ℕ, Bool, List, None}
use Rattle.std.proofs.lemmas.Result.{IfOk-weaker}
use Rattle.clap.specs.Words.{subcommand_rows_of}
use Rattle.command_words.specs.Asks.{IsCheck, IsNone}
use Rattle.command_words.proofs.asked.request_of.Goals as goal

pub returns-in-Ok-None-clause-none : goal.returns-in-Ok-None-clause-none
returns-in-Ok-None-clause-none c =
    let met = subcommand_rows_of c.args.matches.now in
    IfOk-weaker c.check_of.result (λ found. found ≡ None → (files : List (List ℕ)) (quiet : Bool) → IsCheck met files quiet → ⊥) (λ found. found ≡ None → IsNone met)
    (λ found no_check none. record {
      no_run_or_list = c.run_or_list_of.ensures.none c.in_default.is;
      no_records = c.records_of.ensures.none c.in_default-records_of.is;
      no_list = c.in-Ok-None.ensures.none c.in-Ok-None.field-0-is;
      no_check = no_check none;
    })
    c.check_of.ensures.none
