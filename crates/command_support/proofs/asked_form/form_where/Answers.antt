use Rattle.std.proofs.Common.{rules, inl, inr, map, sym, subst}
use Rattle.record_layout.specs.Layout.{item_of}
use Rattle.folder_shelf.proofs.ReadingLemmas.{by_same}
use Rattle.command_support.specs.DeckFile.{IsDeckFault}
use Rattle.command_support.proofs.AskedFormLemmas.{form_made}
use Rattle.command_support.proofs.asked_form.form_where.Goals as goal

pub returns-in-Err : goal.returns-in-Err
returns-in-Err g c = by_same _ _ c.in-Err.ensures (λ calls came. record { right = tt; fault = inl came.fault })

pub returns-in-Err-file_in : goal.returns-in-Err-file_in
returns-in-Err-file_in g c = by_same _ _ c.in-Ok.ensures (λ calls came. record { right = tt; fault = inl (subst IsDeckFault (sym c.in-Err-file_in.ensures.fault) tt) })

pub returns-in-Err-key_in : goal.returns-in-Err-key_in
returns-in-Err-key_in g c = by_same _ _ c.in-Ok.ensures (λ calls came. record { right = tt; fault = inr (inl (c.in-Ok-file_in.file.now, c.in-Err-key_in.ensures.missing)) })

pub returns-in-Err-conditions_of : goal.returns-in-Err-conditions_of
returns-in-Err-conditions_of g c =
    by_same _ _ c.in-Ok.ensures (λ calls came. record { right = tt; fault = inr (inr (map item_of c.items.result.now, c.in-Err-conditions_of.ensures.refused)) })

pub returns-in-Ok-form_by : goal.returns-in-Ok-form_by
returns-in-Ok-form_by g c =
    by_same _ _ c.in-Ok.ensures (λ calls came. record {
      right = form_made calls (g.I.Read.remaining c.args.input.now) c.args.deck.now c.args.name.now _ _ c.in-Ok-file_in.file.now
          (record { bytes = came.right.0; is_read = came.right.1; deck = c.in-Ok.deck; is_deck = came.right.2; named = c.in-Ok-file_in.ensures.file })
          c.items.result.now (search rules) (search rules) (search rules) c.in-Ok-key_in.ensures.key c.in-Ok-conditions_of.ensures.right;
      fault = tt;
    })

pub returns : goal.returns
returns g c = by_same _ _ c.in-Ok.ensures (λ calls came. record { right = tt; fault = inl (subst IsDeckFault (sym c.in-Err-form_by.ensures.fault) tt) })
