-- What is taken of the greatest bytes are as many of them.
use Rattle.std.proofs.Common.{◌≡◌, ℕ, ◌+◌, ◌≤◌, ◌++◌, List, length, take, replicate, ap, ◌∙◌, arith, Result, Ok, Err, OnOk, IsOk}
use Rattle.std.proofs.lemmas.List.{take-replicate, length-replicate}
use Rattle.key_index.proofs.keys.fill.Goals as goal

held : {T E : Type 0} (r : Result T E) (P : Type 0) → OnOk r P → IsOk r → P
held (Ok x) P h ok = h
held (Err e) P h ok = cc

pub returns : goal.returns
returns c =
    let n = c.args.count in
    let old = c.args.key.now.items in
    let r = c.try_extend_from_slice.result in
    let e : take n (replicate 258 255) ≡ replicate n 255 = take-replicate n 258 255 (omega arith) in
    let size : length (take n (replicate 258 255)) ≡ n = ap length e ∙ length-replicate n 255 in
    let fits : length old + length (take n (replicate 258 255)) ≤ 258 → IsOk r = c.try_extend_from_slice.ensures.variant.1 in
    let ok : OnOk r (c.try_extend_from_slice.new.self.items ≡ old ++ take n (replicate 258 255)) = c.try_extend_from_slice.ensures.ok in
    held r _ ok (fits (omega arith)) ∙ ap (λ (l : List ℕ). old ++ l) e
