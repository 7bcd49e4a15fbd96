-- What the last call on a file in memory says of a crash.
use Rattle.std.proofs.Common.{suc, refl, add-zero, if◌then◌else◌, ◌≡◌, ◌⊎◌, inl, inr, ℕ, ◌+◌, ◌-◌, ◌≤◌, ◌<◌, List, [], ◌∷◌, ◌++◌, Some, false, leb, ltb, ◌&&◌, ◌||◌, length, take, get_or, sym, ap, ◌∙◌, arith, Vec, Global}
use Rattle.std.proofs.lemmas.List.{take_more, take_all, map_push, length-take-le}
use Rattle.memory_shelf.specs.CrashImages.{filled_by_ranges}
use Rattle.page_store.specs.Images.{Durable, durable, after_step, covered}
use Rattle.memory_shelf.specs.Events.{steps, step_of}
use Rattle.page_store.proofs.ImageLemmas.{durable_push}
use Rattle.memory_shelf.specs.declared.event.Event.{Event}
use Rattle.memory_shelf.specs.declared.event.Event.TheVariants.{Created, Wrote, Synced}

module _ (log : List Event) (e : Event) (some : 1 ≤ length log) (last : e ≡ get_or log (length log - 1) e) where
  abbrev pub earlier : List Event
  earlier = take (length log - 1) log

  whole : log ≡ earlier ++ e ∷ []
  whole =
      let n = length log - 1 in
      let all : n + 1 ≡ length log = omega arith in
      sym (take_all (length log) log (omega arith)) ∙ ap (λ (m : ℕ). take m log) (sym all) ∙ take_more log n e (omega arith) ∙ ap (λ (x : Event). earlier ++ x ∷ []) (sym last)

  then_last : durable (steps log) ≡ after_step (durable (steps earlier)) (step_of e)
  then_last = ap (λ (l : List Event). durable (steps l)) whole ∙ ap durable (map_push step_of earlier e) ∙ durable_push (steps earlier) (step_of e)

  pub touched_wrote : (at n byte : ℕ) → e ≡ Wrote at n → covered (durable (steps log)).ranges byte ≡ ((leb at byte && ltb byte (at + n)) || covered (durable (steps earlier)).ranges byte)
  touched_wrote at n byte is = ap (λ (d : Durable). covered d.ranges byte) (then_last ∙ ap (λ (x : Event). after_step (durable (steps earlier)) (step_of x)) is)

  pub touched_other : (byte : ℕ) → (e ≡ Created) ⊎ ((v : Vec ℕ Global) × (e ≡ Synced v)) → covered (durable (steps log)).ranges byte ≡ false
  touched_other byte (inl is) = ap (λ (d : Durable). covered d.ranges byte) (then_last ∙ ap (λ (x : Event). after_step (durable (steps earlier)) (step_of x)) is)
  touched_other byte (inr is) = ap (λ (d : Durable). covered d.ranges byte) (then_last ∙ ap (λ (x : Event). after_step (durable (steps earlier)) (step_of x)) is.1)

  pub base_synced : (v : Vec ℕ Global) → e ≡ Synced v → (durable (steps log)).base ≡ Some v.items
  base_synced v is = ap (λ (d : Durable). d.base) (then_last ∙ ap (λ (x : Event). after_step (durable (steps earlier)) (step_of x)) is)

  pub base_other : (e ≡ Created) ⊎ ((at : ℕ) × (n : ℕ) × (e ≡ Wrote at n)) → (durable (steps log)).base ≡ (durable (steps earlier)).base
  base_other (inl is) = ap (λ (d : Durable). d.base) (then_last ∙ ap (λ (x : Event). after_step (durable (steps earlier)) (step_of x)) is)
  base_other (inr is) = ap (λ (d : Durable). d.base) (then_last ∙ ap (λ (x : Event). after_step (durable (steps earlier)) (step_of x)) is.2)

filled_push : (byte : ℕ) (rs : List (ℕ × ℕ)) (k : ℕ) (xs : List ℕ) (y : ℕ) → filled_by_ranges byte rs k (xs ++ y ∷ []) ≡ filled_by_ranges byte rs k xs ++ (if covered rs (k + length xs) then byte else y) ∷ []
filled_push byte rs k [] y = let here : k + 0 ≡ k = add-zero k in rw here refl
filled_push byte rs k (x ∷ xs) y =
    let next : k + 1 + length xs ≡ k + suc (length xs) = omega arith in
    ap (λ (l : List ℕ). (if covered rs k then byte else x) ∷ l) (filled_push byte rs (k + 1) xs y ∙ ap (λ (n : ℕ). filled_by_ranges byte rs (k + 1) xs ++ (if covered rs n then byte else y) ∷ []) next)

-- one more byte is chosen
pub filled_more : (byte : ℕ) (rs : List (ℕ × ℕ)) (xs : List ℕ) (i new : ℕ) (bytes after : List ℕ) → i < length xs → bytes ≡ filled_by_ranges byte rs 0 (take i xs) → after ≡ bytes ++ new ∷ [] → new ≡ (if covered rs i then byte else get_or xs i 0)
    → after ≡ filled_by_ranges byte rs 0 (take (i + 1) xs)
filled_more byte rs xs i new bytes after within is pushed chosen =
    let at : 0 + length (take i xs) ≡ i = omega (arith, length-take-le i xs (omega arith)) in
    pushed ∙ ap (λ (l : List ℕ). l ++ new ∷ []) is ∙ ap (λ (n : ℕ). filled_by_ranges byte rs 0 (take i xs) ++ n ∷ []) (chosen ∙ ap (λ (n : ℕ). if covered rs n then byte else get_or xs i 0) (sym at))
    ∙ sym (ap (filled_by_ranges byte rs 0) (take_more xs i 0 within) ∙ filled_push byte rs 0 (take i xs) (get_or xs i 0))
