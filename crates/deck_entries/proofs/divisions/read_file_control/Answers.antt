use Rattle.std.proofs.Common.{◌≡◌, List, [], Some, refl}
use Rattle.std.specs.Prelude.{codes, Option}
use Rattle.std.proofs.lemmas.Result.{err_from_is_err_and}
use Rattle.deck_parser.specs.Rule.{Rule, each_behind}
use Rattle.deck_parser.specs.Notation.{the, period, ◌▸◌}
use Rattle.deck_parser.specs.Reading.{Refuses, TellsStop}
use Rattle.deck_parser.specs.Word.{Word}
use Rattle.deck_parser.specs.declared.fault.ParseRefusal.{ParseRefusal}
use Rattle.deck_parser.specs.declared.fault.ParseRefusal.TheVariants.{Memory, Fault}
use Rattle.deck_entries.specs.FileControlEntry.{FileControlEntry}
use Rattle.deck_entries.specs.Divisions.{division_heading, identification_division, more_entry, file_control_paragraph}
use Rattle.deck_entries.proofs.divisions.read_file_control.Goals as goal

-- ---- one rule after another

-- the words are refused, where the rule stops
abbrev AreRefused : {A : Type 0} → Rule A → List Word → ParseRefusal → Type 0
AreRefused p words refusal = Refuses (p.reads words) refusal × TellsStop (p.stops words) refusal

first_refused : {A B : Type 0} (p : Rule A) (q : Rule B) (words : List Word) (refusal : ParseRefusal) → AreRefused p words refusal → AreRefused (p ▸ q) words refusal
first_refused p q words Memory r = (tt, tt)
first_refused p q words (Fault line place cause) r = rw (r.0) (refl, r.1)

second_refused : {A B : Type 0} (p : Rule A) (q : Rule B) (words : List Word) (x : A) (middle : List Word) (refusal : ParseRefusal) → p.reads words ≡ Some (x, middle) → AreRefused q middle refusal → AreRefused (p ▸ q) words refusal
second_refused p q words x middle Memory e r = (tt, tt)
second_refused p q words x middle (Fault line place cause) e r = rw e (rw (r.0) refl, r.1)

-- ---- the paragraph, from each rule on

abbrev entries : Rule (List FileControlEntry)
entries = each_behind more_entry []

abbrev from_period : Rule (List FileControlEntry)
from_period = period ▸ entries

abbrev from_file_control : Rule (List FileControlEntry)
from_file_control = the (codes "FILE-CONTROL") ▸ from_period

abbrev input_output : Rule (Unit {0})
input_output = division_heading (codes "INPUT-OUTPUT") (codes "SECTION")

abbrev from_input_output : Rule (List FileControlEntry)
from_input_output = input_output ▸ from_file_control

abbrev environment : Rule (Unit {0})
environment = division_heading (codes "ENVIRONMENT") (codes "DIVISION")

abbrev from_environment : Rule (List FileControlEntry)
from_environment = environment ▸ from_input_output

refused_behind : (words : List Word) (there : Option (Unit {0})) (middle : List Word) (refusal : ParseRefusal) → identification_division.reads words ≡ Some (there, middle) → AreRefused from_environment middle refusal → AreRefused file_control_paragraph words refusal
unfolding file_control_paragraph
refused_behind words there middle refusal e r = second_refused identification_division from_environment words there middle refusal e r

pub returns-in_err-heading : goal.returns-in_err-heading
returns-in_err-heading c =
    let p = err_from_is_err_and c.from_residual-in_err-heading.result c.from_residual-in_err-heading.ensures.1 in
    rw (p.1, p.2) (refused_behind c.args.parser.now _ c.may_identification.new.parser c.in_err-heading.field-0.0 c.in_ok-may_identification.ensures.reads
    (first_refused environment from_input_output c.may_identification.new.parser c.in_err-heading.field-0.0 c.in_err-heading.ensures))

pub returns-in_err-heading-2 : goal.returns-in_err-heading-2
returns-in_err-heading-2 c =
    let p = err_from_is_err_and c.from_residual-in_err-heading-2.result c.from_residual-in_err-heading-2.ensures.1 in
    let refusal = c.in_err-heading-2.field-0.0 in
    rw (p.1, p.2) (refused_behind c.args.parser.now _ c.may_identification.new.parser refusal c.in_ok-may_identification.ensures.reads
    (second_refused environment from_input_output c.may_identification.new.parser _ c.heading.new.parser refusal c.in_ok-heading.ensures.0
    (first_refused input_output from_file_control c.heading.new.parser refusal c.in_err-heading-2.ensures)))

pub returns-in_err-expect : goal.returns-in_err-expect
returns-in_err-expect c =
    let p = err_from_is_err_and c.from_residual-in_err-expect.result c.from_residual-in_err-expect.ensures.1 in
    let refusal = c.in_err-expect.field-0.0 in
    rw (p.1, p.2) (refused_behind c.args.parser.now _ c.may_identification.new.parser refusal c.in_ok-may_identification.ensures.reads
    (second_refused environment from_input_output c.may_identification.new.parser _ c.heading.new.parser refusal c.in_ok-heading.ensures.0
    (second_refused input_output from_file_control c.heading.new.parser _ c.heading-2.new.parser refusal c.in_ok-heading-2.ensures.0
    (first_refused (the (codes "FILE-CONTROL")) from_period c.heading-2.new.parser refusal (c.in_err-expect.ensures.reads, c.in_err-expect.ensures.stops)))))

pub returns-in_err-period : goal.returns-in_err-period
returns-in_err-period c =
    let p = err_from_is_err_and c.from_residual-in_err-period.result c.from_residual-in_err-period.ensures.1 in
    let refusal = c.in_err-period.field-0.0 in
    rw (p.1, p.2) (refused_behind c.args.parser.now _ c.may_identification.new.parser refusal c.in_ok-may_identification.ensures.reads
    (second_refused environment from_input_output c.may_identification.new.parser _ c.heading.new.parser refusal c.in_ok-heading.ensures.0
    (second_refused input_output from_file_control c.heading.new.parser _ c.heading-2.new.parser refusal c.in_ok-heading-2.ensures.0
    (second_refused (the (codes "FILE-CONTROL")) from_period c.heading-2.new.parser _ c.expect.new.self refusal c.in_ok-expect.ensures.reads
    (first_refused period entries c.expect.new.self refusal (c.in_err-period.ensures.reads, c.in_err-period.ensures.stops))))))

pub returns-in_err-read : goal.returns-in_err-read
returns-in_err-read c =
    let p = err_from_is_err_and c.from_residual-in_err-read.result c.from_residual-in_err-read.ensures.1 in
    let refusal = c.in_err-read.field-0.0 in
    rw (p.1, p.2) (refused_behind c.args.parser.now _ c.may_identification.new.parser refusal c.in_ok-may_identification.ensures.reads
    (second_refused environment from_input_output c.may_identification.new.parser _ c.heading.new.parser refusal c.in_ok-heading.ensures.0
    (second_refused input_output from_file_control c.heading.new.parser _ c.heading-2.new.parser refusal c.in_ok-heading-2.ensures.0
    (second_refused (the (codes "FILE-CONTROL")) from_period c.heading-2.new.parser _ c.expect.new.self refusal c.in_ok-expect.ensures.reads
    (second_refused period entries c.expect.new.self _ c.period.new.self refusal c.in_ok-period.ensures.reads c.in_err-read.ensures)))))
