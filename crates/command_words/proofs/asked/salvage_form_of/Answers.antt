use Rattle.std.proofs.Common.{refl}
use Rattle.std.specs.Prelude.{codes}
use Rattle.clap.specs.Words.{found_of, rows_of}
use Rattle.command_words.proofs.MetLemmas.{no_text, some_not_none, text_read}
use Rattle.command_words.proofs.asked.salvage_form_of.Goals as goal

pub returns-in_err-written-clause-none : goal.returns-in_err-written-clause-none
returns-in_err-written-clause-none c =
    λ none form given.
    let f = found_of c.args.salvage.now in
    no_text f (codes "as") c.get_str.result c.get_str.ensures c.in_err-written.was (rows_of f) refl form.kind given.kind_given

pub returns-in_err-encoding-clause-none : goal.returns-in_err-encoding-clause-none
returns-in_err-encoding-clause-none c =
    λ none form given.
    let f = found_of c.args.salvage.now in
    no_text f (codes "encoding") c.get_str-2.result c.get_str-2.ensures c.in_err-encoding.was (rows_of f) refl form.encoding given.encoding_given

pub returns-clause-some : goal.returns-clause-some
returns-clause-some c =
    let f = found_of c.args.salvage.now in
    record {
      kind_given = text_read f (codes "as") _ c.in_ok-written.ensures;
      encoding_given = text_read f (codes "encoding") _ c.in_ok-encoding.ensures;
      cut_is = refl;
      deck_is = text_read f (codes "deck") _ c.get_str-3.ensures;
      name_is = text_read f (codes "name") _ c.get_str-4.ensures;
    }

pub returns-clause-none : goal.returns-clause-none
returns-clause-none c = λ none form given. some_not_none none
