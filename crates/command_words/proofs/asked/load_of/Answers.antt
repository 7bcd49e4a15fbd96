use Rattle.std.proofs.Common.{List, subst}
use Rattle.std.specs.Prelude.{codes}
use Rattle.clap.specs.Words.{Row, found_of, rows_of}
use Rattle.command_words.specs.Asks.{AreLimits, AreLineOptions, IsQuietRequest}
use Rattle.command_words.proofs.MetLemmas.{no_text, same_rows, some_not_none, text_read}
use Rattle.command_words.proofs.FlagLemmas.{GivenFlag, flag_read, no_flag}
use Rattle.command_words.proofs.asked.load_of.Goals as goal

pub returns-in_err-load-clause-none : goal.returns-in_err-load-clause-none
returns-in_err-load-clause-none c =
    λ none deck folder file text form encoding into pages frames lines rejects quiet load.
    c.met.ensures.none c.in_err-load.was load.rows load.is

pub returns-in_err-deck-clause-none : goal.returns-in_err-deck-clause-none
returns-in_err-deck-clause-none c =
    λ none deck folder file text form encoding into pages frames lines rejects quiet load.
    let f = found_of c.in_ok-load.load.now in
    no_text f (codes "deck") c.get_str.result c.get_str.ensures c.in_err-deck.was load.rows (same_rows c.in_ok-load.ensures.some load.is) deck load.deck_given

pub returns-in_err-folder-clause-none : goal.returns-in_err-folder-clause-none
returns-in_err-folder-clause-none c =
    λ none deck folder file text form encoding into pages frames lines rejects quiet load.
    let f = found_of c.in_ok-load.load.now in
    no_text f (codes "folder") c.get_str-2.result c.get_str-2.ensures c.in_err-folder.was load.rows (same_rows c.in_ok-load.ensures.some load.is) folder load.folder_given

pub returns-in_err-file-clause-none : goal.returns-in_err-file-clause-none
returns-in_err-file-clause-none c =
    λ none deck folder file text form encoding into pages frames lines rejects quiet load.
    let f = found_of c.in_ok-load.load.now in
    no_text f (codes "file") c.get_str-3.result c.get_str-3.ensures c.in_err-file.was load.rows (same_rows c.in_ok-load.ensures.some load.is) file load.file_given

pub returns-in_err-text-clause-none : goal.returns-in_err-text-clause-none
returns-in_err-text-clause-none c =
    λ none deck folder file text form encoding into pages frames lines rejects quiet load.
    let f = found_of c.in_ok-load.load.now in
    no_text f (codes "text") c.get_str-4.result c.get_str-4.ensures c.in_err-text.was load.rows (same_rows c.in_ok-load.ensures.some load.is) text load.text_given

pub returns-in_err-form-clause-none : goal.returns-in_err-form-clause-none
returns-in_err-form-clause-none c =
    λ none deck folder file text form encoding into pages frames lines rejects quiet load.
    let f = found_of c.in_ok-load.load.now in
    no_text f (codes "as") c.get_str-5.result c.get_str-5.ensures c.in_err-form.was load.rows (same_rows c.in_ok-load.ensures.some load.is) form load.form_given

pub returns-in_err-encoding-clause-none : goal.returns-in_err-encoding-clause-none
returns-in_err-encoding-clause-none c =
    λ none deck folder file text form encoding into pages frames lines rejects quiet load.
    let f = found_of c.in_ok-load.load.now in
    no_text f (codes "encoding") c.get_str-6.result c.get_str-6.ensures c.in_err-encoding.was load.rows (same_rows c.in_ok-load.ensures.some load.is) encoding load.encoding_given

pub returns-in_err-into-clause-none : goal.returns-in_err-into-clause-none
returns-in_err-into-clause-none c =
    λ none deck folder file text form encoding into pages frames lines rejects quiet load.
    let f = found_of c.in_ok-load.load.now in
    no_flag f (codes "into") c.get_one.result c.get_one.ensures.value c.in_err-into.was into
    (subst (λ (rows : List Row). GivenFlag rows (codes "into") into) (same_rows c.in_ok-load.ensures.some load.is)
    (load.into_text, load.into_given, load.into_is))

pub returns-in_err-limits-clause-none : goal.returns-in_err-limits-clause-none
returns-in_err-limits-clause-none c =
    λ none deck folder file text form encoding into pages frames lines rejects quiet load.
    c.limits_of.ensures.none c.in_err-limits.was pages frames
    (subst (λ (rows : List Row). AreLimits rows pages frames) (same_rows c.in_ok-load.ensures.some load.is) load.limits)

pub returns-in_err-lines-clause-none : goal.returns-in_err-lines-clause-none
returns-in_err-lines-clause-none c =
    λ none deck folder file text form encoding into pages frames lines rejects quiet load.
    c.line_options_of.ensures.none c.in_err-lines.was lines
    (subst (λ (rows : List Row). AreLineOptions rows lines) (same_rows c.in_ok-load.ensures.some load.is) load.lines_are)

pub returns-in_err-quiet-clause-none : goal.returns-in_err-quiet-clause-none
returns-in_err-quiet-clause-none c =
    λ none deck folder file text form encoding into pages frames lines rejects quiet load.
    c.quiet_of.ensures.none c.in_err-quiet.was quiet
    (subst (λ (rows : List Row). IsQuietRequest rows quiet) (same_rows c.in_ok-load.ensures.some load.is) load.quiet_is)

pub returns-clause-some : goal.returns-clause-some
returns-clause-some c =
    let f = found_of c.in_ok-load.load.now in
    let into = flag_read f (codes "into") c.get_one.result c.get_one.ensures.none c.get_one.ensures.value c.in_ok-into.into c.in_ok-into.was in
    record {
      rows = rows_of f;
      is = c.in_ok-load.ensures.some;
      deck_given = text_read f (codes "deck") _ c.in_ok-deck.ensures;
      folder_given = text_read f (codes "folder") _ c.in_ok-folder.ensures;
      file_given = text_read f (codes "file") _ c.in_ok-file.ensures;
      text_given = text_read f (codes "text") _ c.in_ok-text.ensures;
      form_given = text_read f (codes "as") _ c.in_ok-form.ensures;
      encoding_given = text_read f (codes "encoding") _ c.in_ok-encoding.ensures;
      into_text = into.0;
      into_given = into.1;
      into_is = into.2;
      limits = c.in_ok-limits.ensures.some;
      lines_are = c.in_ok-lines.ensures.some;
      rejects_are = text_read f (codes "rejects") _ c.get_str-7.ensures;
      quiet_is = c.in_ok-quiet.ensures.some;
    }

pub returns-clause-none : goal.returns-clause-none
returns-clause-none c = λ none deck folder file text form encoding into pages frames lines rejects quiet load. some_not_none none
