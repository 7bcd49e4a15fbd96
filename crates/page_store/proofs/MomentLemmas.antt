-- How runs of calls go on from one another.
use Rattle.std.proofs.Common.{◌≡◌, ℕ, List, [], ◌∷◌, ◌++◌, Option, Some, None, refl, sym, ◌∙◌, ap, subst}
use Rattle.std.proofs.lemmas.List.{append-nil, append_assoc}
use Rattle.page_store.specs.DeviceFile.{FileStep, DeviceFile}
use Rattle.page_store.specs.Images.{Durable, nothing, after_step, durable_from, durable, MayLeave, Leaves}
use Rattle.page_store.proofs.ImageLemmas.{durable_from-append, durable_push}
use Rattle.page_store.specs.Moments.{AtEachMoment, Throughout, Begins, Quiet}

abbrev Claim : Type 1
Claim = Option (List ℕ) → Type 0

here : (P : Claim) (d : Durable) (more : List FileStep) → AtEachMoment P d more → (c : Option (List ℕ)) → MayLeave d c → P c
here P d [] m = m
here P d (s ∷ more) m = m.0

moments_last : (P : Claim) (d : Durable) (more : List FileStep) → AtEachMoment P d more → (c : Option (List ℕ)) → MayLeave (durable_from d more) c → P c
moments_last P d [] m = m
moments_last P d (s ∷ more) m = moments_last P (after_step d s) more m.1

moments_append : (P : Claim) (d : Durable) (xs ys : List FileStep) → AtEachMoment P d xs → AtEachMoment P (durable_from d xs) ys → AtEachMoment P d (xs ++ ys)
moments_append P d [] ys m n = n
moments_append P d (x ∷ xs) ys m n = (m.0, moments_append P (after_step d x) xs ys m.1 n)

moments_weaker : (P Q : Claim) (d : Durable) (more : List FileStep) → ((c : Option (List ℕ)) → P c → Q c) → AtEachMoment P d more → AtEachMoment Q d more
moments_weaker P Q d [] f m = λ c may. f c (m c may)
moments_weaker P Q d (s ∷ more) f m = (λ c may. f c (m.0 c may), moments_weaker P Q (after_step d s) more f m.1)

-- nothing was done
pub throughout_none : (P : Claim) (f g : DeviceFile) → g.log ≡ f.log → ((c : Option (List ℕ)) → Leaves f c → P c) → Throughout P f g
throughout_none P f g same now = record { more = []; goes_on = same ∙ sym (append-nil f.log); each = now }

-- one thing was done
pub throughout_one : (P : Claim) (f g : DeviceFile) (s : FileStep) → g.log ≡ f.log ++ s ∷ [] → ((c : Option (List ℕ)) → Leaves f c → P c) → ((c : Option (List ℕ)) → Leaves g c → P c) → Throughout P f g
throughout_one P f g s same now then = record {
  more = s ∷ [];
  goes_on = same;
  each = (now, λ c may. then c (subst (λ (d : Durable). MayLeave d c) (sym (ap durable same ∙ durable_push f.log s)) may));
}

pub throughout_weaker : (P Q : Claim) (f g : DeviceFile) → ((c : Option (List ℕ)) → P c → Q c) → Throughout P f g → Throughout Q f g
throughout_weaker P Q f g w t = record { more = t.more; goes_on = t.goes_on; each = moments_weaker P Q _ t.more w t.each }

durable_of : (f g : DeviceFile) (more : List FileStep) → g.log ≡ f.log ++ more → durable g.log ≡ durable_from (durable f.log) more
durable_of f g more same = ap durable same ∙ durable_from-append nothing f.log more

-- at the end
pub throughout_last : (P : Claim) (f g : DeviceFile) → Throughout P f g → (c : Option (List ℕ)) → Leaves g c → P c
throughout_last P f g t c may = moments_last P _ t.more t.each c (subst (λ (d : Durable). MayLeave d c) (durable_of f g t.more t.goes_on) may)

-- at the start
pub throughout_first : (P : Claim) (f g : DeviceFile) → Throughout P f g → (c : Option (List ℕ)) → Leaves f c → P c
throughout_first P f g t = here P _ t.more t.each

-- one run after another
pub throughout_then : (P : Claim) (f g h : DeviceFile) → Throughout P f g → Throughout P g h → Throughout P f h
throughout_then P f g h t u = record {
  more = t.more ++ u.more;
  goes_on = u.goes_on ∙ ap (λ (l : List FileStep). l ++ u.more) t.goes_on ∙ append_assoc f.log t.more u.more;
  each = moments_append P _ t.more u.more t.each (subst (λ (d : Durable). AtEachMoment P d u.more) (durable_of f g t.more t.goes_on) u.each);
}

pub begins_self : (c : Option (List ℕ)) → Begins c c
begins_self None = refl
begins_self (Some []) = tt
begins_self (Some (x ∷ c)) = refl

pub begins_then : (c d e : Option (List ℕ)) → Begins c d → Begins d e → Begins c e
begins_then c d None b b' = begins_none c d b b'
  where
    begins_none : (c d : Option (List ℕ)) → Begins c d → d ≡ None → c ≡ None
    begins_none c None b e = b
    begins_none c (Some d) b e = absurd (cc)
begins_then c None (Some e) b b' = absurd b'
begins_then None (Some d) (Some e) b b' = absurd b
begins_then (Some []) (Some d) (Some e) b b' = tt
begins_then (Some (x ∷ c)) (Some []) (Some e) b b' = absurd b
begins_then (Some (x ∷ c)) (Some (y ∷ d)) (Some []) b b' = absurd b'
begins_then (Some (x ∷ c)) (Some (y ∷ d)) (Some (z ∷ e)) b b' = b ∙ b'

-- Doing nothing is quiet.
pub quiet_none : (f g : DeviceFile) → g.log ≡ f.log → Quiet f g
quiet_none f g same = throughout_none _ f g same (λ c may. (c, may, begins_self c))

-- Two quiet steps in a row are quiet.
pub quiet_then : (f g h : DeviceFile) → Quiet f g → Quiet g h → Quiet f h
quiet_then f g h q r =
    throughout_then _ f g h q (throughout_weaker _ _ g h (λ c b. let e = throughout_last _ f g q b.0 b.1 in (e.0, e.1, begins_then c b.0 e.0 b.2 e.2)) r)
