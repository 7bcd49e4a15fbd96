use Rattle.std.proofs.Common.{◌≤◌, ◌++◌, length, take-append-drop, sym, ◌∙◌, arith}
use Rattle.std.proofs.lemmas.Bool.{leb-true}
use Rattle.serve.proofs.InputLemmas.{begins_with_frame}
use Rattle.serve.proofs.frame.has_frame.Goals as goal

pub returns : goal.returns
returns c = λ whole.
    let room : c.from.result ≤ length c.split_at.result.1.now = leb-true c.from.result (length c.split_at.result.1.now) whole in
    let front = c.split_at.ensures.front in
    let back = c.split_at.ensures.back in
    begins_with_frame c.args.bytes.now c.split_at.result.0.now c.split_at.result.1.now c.length_of.result
    (sym (take-append-drop 2 c.args.bytes.now) ∙ (λ i. sym front i ++ sym back i)) c.length_of.ensures (omega (arith, room, c.from.ensures))
