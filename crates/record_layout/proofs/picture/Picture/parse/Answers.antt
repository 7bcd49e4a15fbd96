use Rattle.std.proofs.Common.{◌<◌, ◌∙◌, subst}
use Rattle.record_layout.proofs.PictureLemmas.{of_this_kind, one_size, above_18}
use Rattle.record_layout.proofs.picture.Picture.parse.Goals as goal

pub returns-in_default-clause-bad : goal.returns-in_default-clause-bad
returns-in_default-clause-bad c = λ _ k n m.
    let o = of_this_kind k c.begins_numeric-numeric.result c.args.text.now n c.begins_numeric-numeric.ensures m in
    absurd (c.in_default.ensures.none n o.1)

pub returns-then-n-gt18-clause-bad : goal.returns-then-n-gt18-clause-bad
returns-then-n-gt18-clause-bad c = λ _ k n m.
    let o = of_this_kind k c.begins_numeric-numeric.result c.args.text.now n c.begins_numeric-numeric.ensures m in
    let s = c.in-Some.ensures.some in
    (o.0 ∙ c.if-numeric.true, subst (λ v. 18 < v) (one_size c.begins_numeric-numeric.result c.args.text.now s.0 n s.1 o.1) (above_18 s.0 (subst (λ v. 18 < v) s.2 c.if-n-gt18.true)))
