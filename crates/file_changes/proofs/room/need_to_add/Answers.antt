use Rattle.std.proofs.Common.{◌≤◌, ◌<◌, List, length, ap, ◌∙◌, arith, rules}
use Rattle.std.specs.Prelude.{slice_index_or}
use Rattle.key_index.specs.declared.alt_index.AltIndex.{AltIndex}
use Rattle.open_file.specs.Fields.{alternates_of, prime_index_of}
use Rattle.file_changes.proofs.LevelLemmas.{levels_dropped, levels_past, need_in}
use Rattle.file_changes.proofs.room.need_to_add.Goals as goal

pub loop-index-preserved : goal.loop-index-preserved
loop-index-preserved c =
    let indexes = alternates_of c.args.opened.now in
    let i = c.loop-index.index-index in
    let lt : i < length indexes = (let l = ap length c.alternates-index-items.ensures.value in omega (arith, l, c.loop-index-test.true)) in
    let is = c.index-item.is ∙ ap (λ (xs : List AltIndex). slice_index_or xs i c.index-item.result) c.alternates-index-items.ensures.value in
    let left = levels_dropped indexes i c.index-item.result lt is in
    (omega (arith, c.from-in-loop-index.ensures, c.height.ensures, left, c.loop-index.invariant.0), search rules)

pub returns : goal.returns
returns c =
    let l = ap length c.alternates-index-items.ensures.value in
    let past : length (alternates_of c.args.opened.now) ≤ c.loop-index.index-index = omega (arith, l, c.loop-index-test.false) in
    omega (arith, c.loop-index.invariant.0, levels_past (alternates_of c.args.opened.now) c.loop-index.index-index past, need_in (prime_index_of c.args.opened.now) (alternates_of c.args.opened.now))
