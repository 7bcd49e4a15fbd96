use Rattle.std.proofs.Common.{List, subst}
use Rattle.std.specs.Prelude.{codes}
use Rattle.clap.specs.Words.{Row, found_of, rows_of}
use Rattle.command_words.specs.Asks.{IsSalvageForm}
use Rattle.command_words.proofs.MetLemmas.{no_text, same_rows, some_not_none, text_read}
use Rattle.command_words.proofs.FlagLemmas.{GivenFlag, flag_read, no_flag}
use Rattle.command_words.proofs.asked.salvage_of.Goals as goal

pub returns-in_err-salvage-clause-none : goal.returns-in_err-salvage-clause-none
returns-in_err-salvage-clause-none c = λ none file form places salvage. c.met.ensures.none c.in_err-salvage.was salvage.rows salvage.is

pub returns-in_err-file-clause-none : goal.returns-in_err-file-clause-none
returns-in_err-file-clause-none c =
    λ none file form places salvage.
    let f = found_of c.in_ok-salvage.salvage.now in
    no_text f (codes "file") c.get_str.result c.get_str.ensures c.in_err-file.was salvage.rows (same_rows c.in_ok-salvage.ensures.some salvage.is) file salvage.file_given

pub returns-in_err-form-clause-none : goal.returns-in_err-form-clause-none
returns-in_err-form-clause-none c =
    λ none file form places salvage.
    c.salvage_form_of.ensures.none c.in_err-form.was form
    (subst (λ (rows : List Row). IsSalvageForm rows form) (same_rows c.in_ok-salvage.ensures.some salvage.is) salvage.form_is)

pub returns-in_err-places-clause-none : goal.returns-in_err-places-clause-none
returns-in_err-places-clause-none c =
    λ none file form places salvage.
    let f = found_of c.in_ok-salvage.salvage.now in
    no_flag f (codes "places") c.get_one.result c.get_one.ensures.value c.in_err-places.was places
    (subst (λ (rows : List Row). GivenFlag rows (codes "places") places) (same_rows c.in_ok-salvage.ensures.some salvage.is)
    (salvage.places_text, salvage.places_given, salvage.places_is))

pub returns-clause-some : goal.returns-clause-some
returns-clause-some c =
    let f = found_of c.in_ok-salvage.salvage.now in
    let places = flag_read f (codes "places") c.get_one.result c.get_one.ensures.none c.get_one.ensures.value c.in_ok-places.places c.in_ok-places.was in
    record {
      rows = rows_of f;
      is = c.in_ok-salvage.ensures.some;
      file_given = text_read f (codes "file") _ c.in_ok-file.ensures;
      form_is = c.in_ok-form.ensures.some;
      places_text = places.0;
      places_given = places.1;
      places_is = places.2;
    }

pub returns-clause-none : goal.returns-clause-none
returns-clause-none c = λ none file form places salvage. some_not_none none
