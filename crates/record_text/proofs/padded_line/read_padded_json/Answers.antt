use Rattle.std.proofs.Common.{inr}
use Rattle.record_text.specs.declared.quoted.Quoting.TheVariants.{Escaped}
use Rattle.record_text.proofs.PaddedLineLemmas.{no_json, no_json_end, json_said, lacks_ending}
use Rattle.record_text.proofs.padded_line.read_padded_json.Goals as goal

pub returns-in-Err-clause-none : goal.returns-in-Err-clause-none
returns-in-Err-clause-none c = no_json c.args.columns.now c.args.text.now c.in-Some.opened.now c.in-Some.ensures.some c.in-Err.ensures.none

pub returns-in-Ok-passed_ending-clause-read : goal.returns-in-Ok-passed_ending-clause-read
returns-in-Ok-passed_ending-clause-read c =
    json_said c.args.columns.now c.args.text.now c.in-Some.opened.now c.in-Some.ensures.some c.read_padded_values.new.area c.in-Ok.ending.now c.in-Ok.ensures.read c.in-Ok-passed_ending.behind.now
    c.in-Ok-passed_ending.ensures.passed

pub returns-in-Err-passed_ending-clause-none : goal.returns-in-Err-passed_ending-clause-none
returns-in-Err-passed_ending-clause-none c =
    no_json_end c.args.columns.now c.args.text.now c.in-Some.opened.now c.in-Some.ensures.some c.read_padded_values.new.area c.in-Ok.ending.now c.in-Ok.ensures.read c.in-Err-passed_ending.char
    c.in-Err-passed_ending.ensures.lacks

pub returns-in-Err-passed_ending-clause-mistake : goal.returns-in-Err-passed_ending-clause-mistake
returns-in-Err-passed_ending-clause-mistake c = inr (
  c.in-Some.opened.now,
  c.in-Some.ensures.some,
  lacks_ending Escaped c.args.columns.now c.in-Some.opened.now 125 10 c.read_padded_values.new.area c.in-Ok.ending.now c.in-Ok.ensures.read c.in-Err-passed_ending.char c.in-Err-passed_ending.ensures.lacks,
)
