use Rattle.std.proofs.Common.{rules, ◌≡◌, ℕ, List, string_bytes, subst}
use Rattle.std.specs.Io.KnownBytes.{Appends}
use Rattle.cobol_program.specs.declared.form.SourceForm.{SourceForm}
use Rattle.file_commands.specs.Listed.{form_of, IsDeckRefused, IsInCobol}
use Rattle.folder_shelf.proofs.ReadingLemmas.{by_same}
use Rattle.file_commands.proofs.ListLemmas.{if_ok, deck_not_read, deck_refused, deck_told}
use Rattle.file_commands.proofs.cobol.write_cobol.Goals as goal

pub returns-in-Err : goal.returns-in-Err
returns-in-Err g c = by_same _ _ c.in-Err.ensures (λ calls read. deck_not_read c.in-Err.fault read.bytes)

pub returns-in-Err-program_of : goal.returns-in-Err-program_of
returns-in-Err-program_of g c =
    by_same _ _ c.in-Ok.ensures
    (λ calls read. deck_refused c.in-Ok.bytes.items read.bytes c.in-Err-program_of.fault
    (λ why is. subst (λ (bytes : List ℕ). IsDeckRefused bytes why) c.as_slice.ensures.value (c.in-Err-program_of.ensures.refused why is))
    c.in-Err-program_of.ensures.fault)

pub returns : goal.returns
returns g c =
    let text = string_bytes c.in-Ok-program_of.text in
    let same : c.deref.result.now ≡ text = search rules in
    let in_form = subst (λ (form : SourceForm). IsInCobol c.as_slice.result.now form text) c.form_of.ensures c.in-Ok-program_of.ensures.text in
    let in_cobol = subst (λ (bytes : List ℕ). IsInCobol bytes (form_of c.args.fixed) text) c.as_slice.ensures.value in_form in
    by_same _ _ c.in-Ok.ensures
    (λ calls read. deck_told c.write_text.result c.write_text.ensures.outcome
    (if_ok c.write_text.result
    (λ appends. (
      c.in-Ok.bytes.items,
      read.bytes,
      (text, in_cobol, subst (λ (t : List ℕ). Appends (g.W.Write.contents c.args.out.now) (g.W.Write.contents c.write_text.new.out) t) same appends),
    ))
    c.write_text.ensures.written)
    c.write_text.ensures.fault)
