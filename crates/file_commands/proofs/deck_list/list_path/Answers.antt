use Rattle.std.proofs.Common.{rules, ◌≡◌, ℕ, List, string_bytes, subst}
use Rattle.std.specs.Io.KnownBytes.{Appends}
use Rattle.deck_listing.specs.Listing.{Lists}
use Rattle.file_commands.specs.Listed.{IsDeckRefused}
use Rattle.folder_shelf.proofs.ReadingLemmas.{by_same}
use Rattle.file_commands.proofs.ListLemmas.{if_ok, deck_not_read, deck_refused, deck_told}
use Rattle.file_commands.proofs.deck_list.list_path.Goals as goal

pub returns-in-Err : goal.returns-in-Err
returns-in-Err g c = by_same _ _ c.in-Err.ensures (λ calls read. deck_not_read c.in-Err.fault read.bytes)

pub returns-in-Err-list : goal.returns-in-Err-list
returns-in-Err-list g c =
    by_same _ _ c.in-Ok.ensures
    (λ calls read. deck_refused c.in-Ok.bytes.items read.bytes c.in-Err-list.fault
    (λ why is. subst (λ (bytes : List ℕ). IsDeckRefused bytes why) c.as_slice.ensures.value (c.in-Err-list.ensures.refused why is))
    c.in-Err-list.ensures.fault)

pub returns : goal.returns
returns g c =
    let text = string_bytes c.in-Ok-list.text in
    let same : c.deref.result.now ≡ text = search rules in
    let listed = subst (λ (bytes : List ℕ). Lists bytes text) c.as_slice.ensures.value c.in-Ok-list.ensures.text in
    by_same _ _ c.in-Ok.ensures
    (λ calls read. deck_told c.write_text.result c.write_text.ensures.outcome
    (if_ok c.write_text.result
    (λ appends. (
      c.in-Ok.bytes.items,
      read.bytes,
      (text, listed, subst (λ (t : List ℕ). Appends (g.W.Write.contents c.args.out.now) (g.W.Write.contents c.write_text.new.out) t) same appends),
    ))
    c.write_text.ensures.written)
    c.write_text.ensures.fault)
