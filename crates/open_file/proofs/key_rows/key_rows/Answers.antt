use Rattle.std.proofs.Common.{◌≡◌, ℕ, ◌+◌, ◌<◌, ◌≤◌, ◌++◌, List, length, length-append, min, drop, sym, ap, ◌∙◌, arith, Result, Ok, Err, OnOk, IsOk}
use Rattle.std.proofs.lemmas.List.{append-nil}
use Rattle.open_file.proofs.KeyRowLemmas.{key_rows_bytes, write_more, length-row, rows_end}
use Rattle.open_file.proofs.key_rows.key_rows.Goals as goal

held : {T E : Type 0} (r : Result T E) (P : Type 0) → OnOk r P → IsOk r → P
held (Ok x) P h ok = h
held (Err e) P h ok = cc

pub loop-k-preserved : goal.loop-k-preserved
loop-k-preserved c =
    let k = c.loop-k.k in
    let rows = c.loop-k.rows.items in
    let size : length c.row.result ≡ 16 = ap length c.row.ensures ∙ length-row _ _ in
    let fits : length rows + length c.row.result ≤ 144 → IsOk c.try_extend_from_slice.result = c.try_extend_from_slice.ensures.variant.1 in
    let ok : IsOk c.try_extend_from_slice.result = fits (omega arith) in
    let grown : c.try_extend_from_slice.new.self.items ≡ rows ++ c.row.result = held _ _ c.try_extend_from_slice.ensures.ok ok in
    let keys = c.args.keys.now in
    let trees = c.args.trees.now in
    let both : k < min (length keys) (length trees) = omega (arith, c.min-k-end.ensures, c.loop-k-test.true) in (
      ap (λ (r : List ℕ). r ++ key_rows_bytes (drop (k + 1) keys) (drop (k + 1) trees)) (grown ∙ ap (λ (r : List ℕ). rows ++ r) c.row.ensures)
          ∙ write_more keys trees k _ _ rows (omega arith) (omega arith) ∙ c.loop-k.invariant.0,
      ap length grown ∙ omega (arith, length-append rows c.row.result, size, c.loop-k.invariant.1),
    )

pub returns : goal.returns
returns c =
    let none = rows_end c.loop-k.k c.args.keys.now c.args.trees.now (omega (arith, c.min-k-end.ensures)) in
    sym (append-nil c.loop-k.rows.items) ∙ ap (λ r. c.loop-k.rows.items ++ r) (sym none) ∙ c.loop-k.invariant.0
