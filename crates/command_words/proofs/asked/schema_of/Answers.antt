use Rattle.std.specs.Prelude.{codes}
use Rattle.clap.specs.Words.{found_of, rows_of}
use Rattle.command_words.proofs.MetLemmas.{no_text, same_rows, some_not_none, text_read}
use Rattle.command_words.proofs.asked.schema_of.Goals as goal

pub returns-in_err-schema-clause-none : goal.returns-in_err-schema-clause-none
returns-in_err-schema-clause-none c = λ none file deck name schema. c.met.ensures.none c.in_err-schema.was schema.rows schema.is

pub returns-in_err-file-clause-none : goal.returns-in_err-file-clause-none
returns-in_err-file-clause-none c =
    λ none file deck name schema.
    let f = found_of c.in_ok-schema.schema.now in
    no_text f (codes "file") c.get_str.result c.get_str.ensures c.in_err-file.was schema.rows (same_rows c.in_ok-schema.ensures.some schema.is) file schema.file_given

pub returns-clause-some : goal.returns-clause-some
returns-clause-some c =
    let f = found_of c.in_ok-schema.schema.now in
    record {
      rows = rows_of f;
      is = c.in_ok-schema.ensures.some;
      file_given = text_read f (codes "file") _ c.in_ok-file.ensures;
      deck_is = text_read f (codes "deck") _ c.get_str-2.ensures;
      name_is = text_read f (codes "name") _ c.get_str-3.ensures;
    }

pub returns-clause-none : goal.returns-clause-none
returns-clause-none c = λ none file deck name schema. some_not_none none
