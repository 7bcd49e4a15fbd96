-- As many of the first bytes as there are, but no more than a value has.
use Rattle.std.proofs.Common.{◌≡◌, ℕ, ◌-◌, ◌≤◌, ◌++◌, List, length, take, ap, sym, ◌∙◌, arith, Result, Ok, Err, OnOk, IsOk, ◌+◌, length-take}
use Rattle.std.specs.Prelude.{replicate, min}
use Rattle.std.proofs.lemmas.List.{take_all}
use Rattle.key_index.proofs.OrderLemmas.{by_order}
use Rattle.key_index.proofs.keys.greatest_key.Goals as goal

-- no more bytes are taken than there are
taken : (n : ℕ) (xs : List ℕ) → take (min (length xs) n) xs ≡ take n xs
taken n xs =
    by_order (length xs) n (take (min (length xs) n) xs ≡ take n xs)
    (λ h. whole (omega arith)) (λ e. whole (omega arith)) (λ h. ap (λ (m : ℕ). take m xs) (omega arith))
  where
    whole : length xs ≤ n → take (min (length xs) n) xs ≡ take n xs
    whole h = take_all (min (length xs) n) xs (omega arith) ∙ sym (take_all n xs h)

held : {T E : Type 0} (r : Result T E) (P : Type 0) → OnOk r P → IsOk r → P
held (Ok x) P h ok = h
held (Err e) P h ok = cc

pub returns : goal.returns
returns c =
    let start = c.args.start.now in
    let w = c.args.width in
    let long = c.args.long in
    let r = c.try_extend_from_slice.result in
    let e : take c.min.result start ≡ take w start = ap (λ (n : ℕ). take n start) c.min.ensures ∙ taken w start in
    let none : length c.new-key.result.items ≡ 0 = ap length c.new-key.ensures in
    let few : length (take c.min.result start) ≤ 258 = omega (arith, length-take c.min.result start) in
    let fits : length c.new-key.result.items + length (take c.min.result start) ≤ 258 → IsOk r = c.try_extend_from_slice.ensures.variant.1 in
    let ok : OnOk r (c.try_extend_from_slice.new.self.items ≡ c.new-key.result.items ++ take c.min.result start) = c.try_extend_from_slice.ensures.ok in
    let first : c.try_extend_from_slice.new.self.items ≡ take c.min.result start = held r _ ok (fits (omega arith)) ∙ ap (λ (l : List ℕ). l ++ take c.min.result start) c.new-key.ensures in
    c.fill.ensures ∙ ap (λ (l : List ℕ). l ++ replicate (long - length (take c.min.result start)) 255) first
    ∙ ap (λ (l : List ℕ). l ++ replicate (long - length l) 255) e
