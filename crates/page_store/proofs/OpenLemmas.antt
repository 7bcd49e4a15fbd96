-- An open gate stays open through quiet steps, so that at each moment each image is refused.
use Rattle.std.proofs.Common.{◌≡◌, ◌∙◌, ◌==◌, sym, subst, ℕ, List, [], ◌∷◌, Option, Some, None, inl, inr, arith}
use Rattle.std.proofs.lemmas.Bool.{cases_Bool, eqb-false}
use Rattle.page_store.specs.DeviceFile.{DeviceFile, content}
use Rattle.page_store.specs.Images.{IsSettled}
use Rattle.page_store.specs.Moments.{Throughout, Begins, BeginsBefore, Quiet}
use Rattle.page_store.proofs.MomentLemmas.{throughout_weaker, throughout_last}
use Rattle.page_store.specs.Gate.{IsClosed, IsOpen, AllOpen, IsRefused, AllRefused, opened_gate, Opens}

begins_open : (c d : Option (List ℕ)) → Begins c d → IsOpen d → IsOpen c
begins_open c None b h = absurd h
begins_open None (Some d) b h = absurd b
begins_open (Some []) (Some d) b h = λ closed. closed
begins_open (Some (x ∷ c)) (Some []) b h = absurd b
begins_open (Some (x ∷ c)) (Some (y ∷ d)) b h = λ closed. h (sym b ∙ closed)

pub quiet_open : (f g : DeviceFile) → AllOpen f → Quiet f g → Throughout IsOpen f g
quiet_open f g all quiet = throughout_weaker (BeginsBefore f) IsOpen f g (λ c b. begins_open c b.0 b.2 (all b.0 b.1)) quiet

pub open_kept : (f g : DeviceFile) → AllOpen f → Quiet f g → AllOpen g
open_kept f g all quiet = throughout_last IsOpen f g (quiet_open f g all quiet)

pub refused_open : (c : Option (List ℕ)) → IsOpen c → IsRefused c
refused_open None h = absurd h
refused_open (Some c) h = inr h

pub all_refused : (f : DeviceFile) → AllOpen f → AllRefused f
all_refused f all c may = refused_open c (all c may)

-- a settled file with an open gate
pub settled_open : (f : DeviceFile) → IsSettled f → ¬ (IsClosed (content f)) → AllOpen f
settled_open f settled shut c may = subst IsOpen (sym (settled c may)) shut

not_closed : (bytes : List ℕ) → IsClosed (opened_gate bytes) → ⊥
not_closed [] closed = let e : ◌≡◌ {A = ℕ} 68 67 = closed in absurd (omega arith)
not_closed (x ∷ bytes) closed = elim (cases_Bool (x == 67)) [
  | inl hit ↦ let e : ◌≡◌ {A = ℕ} 68 67 = rw hit at closed in absurd (omega arith)
  | inr miss ↦ let e : x ≡ 67 = rw miss at closed in eqb-false x 67 miss e
]

-- a gate that was opened is open on the disk
pub opened_open : (f g : DeviceFile) → Opens f g → AllOpen g
opened_open f g opens = settled_open g opens.settled (λ closed. not_closed (content f) (subst IsClosed opens.bytes closed))
