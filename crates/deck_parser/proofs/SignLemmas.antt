-- Which texts are signs.
use Rattle.std.proofs.Common.{◌≡◌, ℕ, Bool, true, false, List, Some, None, sym, ap, ◌∙◌, subst}
use Rattle.std.specs.Prelude.{codes}
use Rattle.std.specs.Str.{bytes_eq}
use Rattle.std.proofs.lemmas.Slice.Eq.{bytes_eq-Decides}
use Rattle.deck_parser.specs.Front.{sign_in}

-- what a text is compared with by a call
pub compared : (text other compared_with : List ℕ) (answer : Bool) → compared_with ≡ other → answer ≡ bytes_eq text compared_with → (v : Bool) → answer ≡ v → bytes_eq text other ≡ v
compared text other compared_with answer same e v is = ap (bytes_eq text) (sym same) ∙ (sym e ∙ is)

pub sign_found : (text sign : List ℕ) → sign_in sign ≡ Some sign → bytes_eq text sign ≡ true → Some sign ≡ sign_in text
sign_found text sign is e = subst (λ (t : List ℕ). Some sign ≡ sign_in t) (sym ((bytes_eq-Decides text sign).0 e)) (sym is)

pub no_sign : (text : List ℕ) → bytes_eq text (codes "=") ≡ false → bytes_eq text (codes ">") ≡ false → bytes_eq text (codes ">=") ≡ false → bytes_eq text (codes "<") ≡ false → None ≡ sign_in text
no_sign text equal greater greater_or_equal less = rw (equal, greater, greater_or_equal, less)
