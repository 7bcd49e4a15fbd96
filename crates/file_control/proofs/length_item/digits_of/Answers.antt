use Rattle.std.proofs.Common.{◌≡◌, ◌∙◌, sym, ap, inl, inr, arith}
use Rattle.std.proofs.lemmas.Bool.{false≢true}
use Rattle.std.specs.Prelude.{Result, Err}
use Rattle.record_layout.specs.declared.fault.LayoutFault.{LayoutFault}
use Rattle.record_layout.specs.declared.picture.Picture.{Picture}
use Rattle.record_layout.proofs.PictureLemmas.{kind_of}
use Rattle.file_control.proofs.length_item.digits_of.Goals as goal

failed : (f g : LayoutFault) → f ≡ g → ◌≡◌ {A = Result Picture LayoutFault} (Err f) (Err g)
failed f g e = ap (λ (f : LayoutFault). Err f) e

pub returns-in_default-clause-none : goal.returns-in_default-clause-none
returns-in_default-clause-none c = λ digits h.
    false≢true (sym c.if-picture.false ∙ (ap (λ (p : Picture). p.numeric) (c.one_picture.ensures c.args.picture.now c.in-Ok.picture h.0 c.in-Ok.ensures.good h.1) ∙ h.2))

pub returns-in_default-2-clause-none : goal.returns-in_default-2-clause-none
returns-in_default-2-clause-none c = λ digits h.
    elim c.in_default.ensures.only [
      | inl e ↦
          let long = c.in_default.ensures.too_long (failed _ _ e) in
          false≢true (kind_of _ _ _ long.1 ∙ (sym (kind_of _ _ _ h.1.means) ∙ h.2))
      | inr e ↦
          let bad = c.in_default.ensures.bad (failed _ _ e) h.0.numeric h.0.length h.1.means in
          omega (arith, bad.1, h.1.digits h.2)
    ]
