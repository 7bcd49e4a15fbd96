use Rattle.std.proofs.Common.{List, ◌++◌, ap, inl, inr, refl}
use Rattle.folder_shelf.specs.Calls.{Call}
use Rattle.folder_shelf.proofs.ReadingLemmas.{by_none, by_same, by_both}
use Rattle.command_words.specs.Asks.{form_text}
use Rattle.command_support.proofs.FormLemmas.{form_not_read}
use Rattle.file_commands.proofs.by_index.read_start.Goals as goal

pub returns-in-Err : goal.returns-in-Err
returns-in-Err g c = by_none _ (record { start = tt; fault = inl c.in-Err.ensures.fault })

pub returns-in-Err-form_and_conditions : goal.returns-in-Err-form_and_conditions
returns-in-Err-form_and_conditions g c = by_same _ _ c.in-Err-form_and_conditions.ensures (λ calls came. record { start = tt; fault = inr came.refused })

pub returns-in-Ok-read_first_page : goal.returns-in-Ok-read_first_page
returns-in-Ok-read_first_page g c =
    by_both _ _ _ c.in-Ok-form_and_conditions.ensures c.in-Ok-read_first_page.ensures (λ calls later came read. record {
      start = record { deck = calls; told = c.in-Ok-form_and_conditions.formed; asked = c.asked_by-asked.ensures; is_form = came.form; form_is = refl; are = ap (λ (l : List Call). l ++ calls) read };
      fault = tt;
    })

pub returns-in-Err-read_first_page : goal.returns-in-Err-read_first_page
returns-in-Err-read_first_page g c =
    by_both _ _ _ c.in-Ok-form_and_conditions.ensures c.in-Err-read_first_page.ensures (λ calls later came four. record {
      start = tt;
      fault = inr (inl (form_not_read (form_text c.args.form) c.in-Err-read_first_page.fault four));
    })
