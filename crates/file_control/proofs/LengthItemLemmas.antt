-- Pictures of digits.
use Rattle.std.proofs.Common.{◌≡◌, ℕ, true, List, sym, subst, ◌∙◌}
use Rattle.record_layout.specs.Picture.{Means}
use Rattle.record_layout.proofs.PictureLemmas.{one_size}
use Rattle.file_control.specs.Description.{HasDigits}

-- a picture has one number of digits
pub one_count : (text : List ℕ) (m n : ℕ) → HasDigits text m → HasDigits text n → m ≡ n
one_count text m n a b =
    sym a.3 ∙ (one_size true text a.0.length b.0.length (subst (λ k. Means k text a.0.length) a.2 a.1.means) (subst (λ k. Means k text b.0.length) b.2 b.1.means) ∙ b.3)
