use Rattle.std.proofs.Common.{◌≡◌, ◌∙◌, sym, subst}
use Rattle.record_layout.specs.Picture.{Means}
use Rattle.record_layout.proofs.PictureLemmas.{kind_of, one_size}
use Rattle.record_layout.proofs.picture.one_picture.Goals as goal

pub returns : goal.returns
returns c = λ text a b first second.
    let same : a.numeric ≡ b.numeric = kind_of a.numeric text a.length first.means ∙ sym (kind_of b.numeric text b.length second.means) in
    let moved = subst (λ numeric. Means numeric text a.length) same first.means in
    let length : a.length ≡ b.length = one_size b.numeric text a.length b.length moved second.means in
    λ i. record { numeric = same i; length = length i }
