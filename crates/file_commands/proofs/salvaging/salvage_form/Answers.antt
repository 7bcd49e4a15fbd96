use Rattle.std.proofs.Common.{rules, ◌≡◌}
use Rattle.std.specs.Prelude.{◌≢◌, codes}
use Rattle.folder_shelf.proofs.ReadingLemmas.{by_same}
use Rattle.command_words.specs.Asks.{form_text}
use Rattle.file_commands.proofs.SalvageLemmas.{other_given, text_given, text_refused}
use Rattle.file_commands.proofs.salvaging.salvage_form.Goals as goal

pub returns-then-ne : goal.returns-then-ne
returns-then-ne g c =
    let other : (form_text c.args.asked).kind ≢ codes "text" = search rules in
    by_same _ _ c.form_of.ensures (λ calls came. other_given (g.I.Read.remaining c.args.input.now) c.args.asked c.form_of.result calls other came)

pub returns-in-Ok : goal.returns-in-Ok
returns-in-Ok g c =
    let text : (form_text c.args.asked).kind ≡ codes "text" = search rules in
    by_same _ _ c.in-Ok.ensures (λ calls came. text_given (g.I.Read.remaining c.args.input.now) (form_text c.args.asked) c.in-Ok.schema calls text came.schema)

pub returns-in-Err : goal.returns-in-Err
returns-in-Err g c =
    let text : (form_text c.args.asked).kind ≡ codes "text" = search rules in
    by_same _ _ c.in-Err.ensures (λ calls came. text_refused (g.I.Read.remaining c.args.input.now) (form_text c.args.asked) c.in-Err.fault calls text came.fault)
