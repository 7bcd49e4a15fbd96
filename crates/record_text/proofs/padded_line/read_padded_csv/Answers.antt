use Rattle.record_text.specs.declared.quoted.Quoting.TheVariants.{Doubled}
use Rattle.record_text.proofs.PaddedLineLemmas.{no_csv, no_csv_end, csv_said, lacks_ending}
use Rattle.record_text.proofs.padded_line.read_padded_csv.Goals as goal

pub returns-in-Err-clause-none : goal.returns-in-Err-clause-none
returns-in-Err-clause-none c = no_csv c.args.columns.now c.args.text.now c.in-Err.ensures.none

pub returns-in-Ok-passed_ending-clause-read : goal.returns-in-Ok-passed_ending-clause-read
returns-in-Ok-passed_ending-clause-read c =
    csv_said c.args.columns.now c.args.text.now c.read_padded_values.new.area c.in-Ok.ending.now c.in-Ok.ensures.read c.in-Ok-passed_ending.behind.now c.in-Ok-passed_ending.ensures.passed

pub returns-in-Err-passed_ending-clause-none : goal.returns-in-Err-passed_ending-clause-none
returns-in-Err-passed_ending-clause-none c =
    no_csv_end c.args.columns.now c.args.text.now c.read_padded_values.new.area c.in-Ok.ending.now c.in-Ok.ensures.read c.in-Err-passed_ending.char c.in-Err-passed_ending.ensures.lacks

pub returns-in-Err-passed_ending-clause-mistake : goal.returns-in-Err-passed_ending-clause-mistake
returns-in-Err-passed_ending-clause-mistake c =
    lacks_ending Doubled c.args.columns.now c.args.text.now 13 10 c.read_padded_values.new.area c.in-Ok.ending.now c.in-Ok.ensures.read c.in-Err-passed_ending.char c.in-Err-passed_ending.ensures.lacks
