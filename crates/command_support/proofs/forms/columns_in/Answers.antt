use Rattle.std.proofs.Common.{rules, sym, subst}
use Rattle.folder_shelf.proofs.ReadingLemmas.{by_same}
use Rattle.command_support.specs.DeckFile.{IsDeckFault}
use Rattle.command_support.proofs.forms.columns_in.Goals as goal

pub returns-in-Err : goal.returns-in-Err
returns-in-Err g c = by_same _ _ c.in-Err.ensures (λ calls came. record { right = tt; fault = came.fault })

pub returns-in-Err-file_in : goal.returns-in-Err-file_in
returns-in-Err-file_in g c = by_same _ _ c.in-Ok.ensures (λ calls came. record { right = tt; fault = subst IsDeckFault (sym c.in-Err-file_in.ensures.fault) tt })

pub returns-in-Ok-item_columns : goal.returns-in-Ok-item_columns
returns-in-Ok-item_columns g c =
    by_same _ _ c.in-Ok.ensures (λ calls came. record {
      right = (
        c.in-Ok-file_in.file.now,
        record { bytes = came.right.0; is_read = came.right.1; deck = c.in-Ok.deck; is_deck = came.right.2; named = c.in-Ok-file_in.ensures.file },
        search rules,
        search rules,
      );
      fault = tt;
    })

pub returns : goal.returns
returns g c = by_same _ _ c.in-Ok.ensures (λ calls came. record { right = tt; fault = tt })
