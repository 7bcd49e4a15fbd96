-- What a value set in an entry, and an entry put at a place, are to a look-up.
use Rattle.std.proofs.Common.{zero, suc, ◌≡◌, ◌≢◌, ◌⊎◌, inl, inr, ℕ, List, [], ◌∷◌, Option, Some, None, IsSome, false, slice_get, option_map, nat_eq, refl, sym, ◌∙◌, ap, subst, if◌then◌else◌}
use Rattle.std.specs.Cmp.{nat_eq_equiv}
use Rattle.std.specs.List.{IsDistinct, AllByRecursion}
use Rattle.std.specs.Map.{keys_of, lookup, set_value}
use Rattle.std.proofs.lemmas.Bool.{cases_Bool, eqb-true, ne_eqb, cond-true, cond-false}
use Rattle.std.proofs.lemmas.Map.{lookup-set_value}
use Rattle.std.proofs.lemmas.Map.Keys.{IsDistinct-head, IsDistinct-tail}
use Rattle.page_cache.specs.HeldFrames.{Frame, put_at}

value_at : (n k : ℕ) (es : List (ℕ × Frame)) (w : Frame) → IsSome (lookup (nat_eq n) es) → lookup (nat_eq k) (set_value (nat_eq n) es w) ≡ (if nat_eq n k then Some w else lookup (nat_eq k) es)
value_at n k es w there = lookup-set_value nat_eq_equiv (nat_eq n) (nat_eq_equiv.congr n) k w es there

-- a value set in an entry
pub value_here : (n : ℕ) (es : List (ℕ × Frame)) (w : Frame) → IsSome (lookup (nat_eq n) es) → lookup (nat_eq n) (set_value (nat_eq n) es w) ≡ Some w
value_here n es w there = value_at n n es w there ∙ cond-true (nat_eq n n) (Some w) _ (nat_eq_equiv.refl n)

pub value_apart : (n k : ℕ) (es : List (ℕ × Frame)) (w : Frame) → IsSome (lookup (nat_eq n) es) → k ≢ n → lookup (nat_eq k) (set_value (nat_eq n) es w) ≡ lookup (nat_eq k) es
value_apart n k es w there differs = value_at n k es w there ∙ cond-false (nat_eq n k) (Some w) _ (ne_eqb n k (λ e. differs (sym e)))

-- an entry put at a place: its page, which was absent
pub put_found : (n : ℕ) (frame : Frame) (es : List (ℕ × Frame)) (p : ℕ) → lookup (nat_eq n) es ≡ None → lookup (nat_eq n) (put_at p (n, frame) es) ≡ Some frame
put_found n frame [] p none = rw (nat_eq_equiv.refl n) refl
put_found n frame (e ∷ es) zero none = rw (nat_eq_equiv.refl n) refl
put_found n frame (e ∷ es) (suc p) none = elim (cases_Bool (nat_eq n e.0)) [
  | inl hit ↦ let clash = rw hit at none in absurd (cc)
  | inr miss ↦ rw miss (put_found n frame es p (rw miss at none))
]

-- the page that was there is gone
abbrev Gone : ℕ → ℕ × Frame → List (ℕ × Frame) → ℕ → Type 0
Gone k entry es p = (lookup (nat_eq k) (put_at p entry es) ≡ None) × ((other : Frame) × (slice_get es p ≡ Some (k, other)) × (lookup (nat_eq k) es ≡ Some other))

none_apart : (k : ℕ) (es : List (ℕ × Frame)) → AllByRecursion (λ y. nat_eq k y ≡ false) (keys_of es) → lookup (nat_eq k) es ≡ None
none_apart k [] apart = refl
none_apart k (e ∷ es) apart = rw apart.0 (none_apart k es apart.1)

-- every other page: its frame stays, or it stood at the place and is gone
pub put_apart : (k n : ℕ) (frame : Frame) (es : List (ℕ × Frame)) (p : ℕ) → k ≢ n → IsDistinct nat_eq (keys_of es) → (lookup (nat_eq k) (put_at p (n, frame) es) ≡ lookup (nat_eq k) es) ⊎ Gone k (n, frame) es p
put_apart k n frame [] p differs distinct = inl (rw (ne_eqb k n differs) refl)
put_apart k n frame (e ∷ es) zero differs distinct = elim (cases_Bool (nat_eq k e.0)) [
  | inl hit ↦
      let same = eqb-true k e.0 hit in
      let apart = subst (λ m. AllByRecursion (λ y. nat_eq m y ≡ false) (keys_of es)) (sym same) (IsDistinct-head nat_eq e.0 (keys_of es) distinct) in
      inr (rw (ne_eqb k n differs) (none_apart k es apart), (e.1, ap (λ m. Some (m, e.1)) (sym same), rw hit refl))
  | inr miss ↦ inl (rw (ne_eqb k n differs, miss) refl)
]
put_apart k n frame (e ∷ es) (suc p) differs distinct = elim (cases_Bool (nat_eq k e.0)) [
  | inl hit ↦ inl (rw hit refl)
  | inr miss ↦ elim (put_apart k n frame es p differs (IsDistinct-tail nat_eq e.0 (keys_of es) distinct)) [
    | inl same ↦ inl (rw miss same)
    | inr gone ↦ inr (rw miss gone.0, (gone.1.0, gone.1.1, rw miss gone.1.2))
  ]
]

-- a page whose bytes are there is held
pub there_from : (n : ℕ) (es : List (ℕ × Frame)) (page : List ℕ) → option_map (λ (frame : Frame). frame.page) (lookup (nat_eq n) es) ≡ Some page → IsSome (lookup (nat_eq n) es)
there_from n es page is = go (lookup (nat_eq n) es) is
  where
    go : (o : Option Frame) → option_map (λ (frame : Frame). frame.page) o ≡ Some page → IsSome o
    go None is = absurd (cc)
    go (Some frame) is = refl
