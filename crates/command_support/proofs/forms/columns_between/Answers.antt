use Rattle.std.proofs.Common.{◌≡◌, ℕ, List, false, Err, inl, refl, sym, ap, ◌∙◌}
use Rattle.record_text.specs.Parts.{do_rise}
use Rattle.command_support.specs.Cuts.{between_commas}
use Rattle.command_support.proofs.CutLemmas.{one_reading}
use Rattle.command_support.proofs.forms.columns_between.Goals as goal

pub returns-in-Err-Order : goal.returns-in-Err-Order
returns-in-Err-Order c =
    record {
      cuts = tt;
      none = λ is cuts are rise.
          let falls : do_rise 0 c.as_slice.result.now ≡ false = c.cut_columns.ensures.order (c.in-Err-Order.is ∙ ap Err c.in-Err-Order.field-0-is) in
          let same = one_reading (between_commas c.args.text.now) cuts c.in-Ok.cuts.items are c.in-Ok.ensures.cuts ∙ sym c.as_slice.ensures.value in
          let never = sym rise ∙ ap (λ (l : List ℕ). do_rise 0 l) same ∙ falls in
          absurd (cc);
      fault = inl refl;
    }
