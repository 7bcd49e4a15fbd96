use Rattle.std.proofs.Common.{◌≡◌, ℕ, ◌+◌, ◌<◌, Bool, true, false, not, length, arith}
use Rattle.std.specs.Prelude.{if◌then◌else◌}
use Rattle.std.proofs.lemmas.Grind.{common_steps}
use Rattle.key_index.specs.Standing.{alt_height}
use Rattle.open_file.specs.Fields.{alternates_of, file_schema}
use Rattle.file_changes.specs.Replacing.{stays}
use Rattle.open_file.proofs.PartsLemmas.{found_at}
use Rattle.file_changes.proofs.ChangedLemmas.{need_step}
use Rattle.file_changes.proofs.LevelLemmas.{index_is}
use Rattle.file_changes.proofs.changed.need_to_change.Goals as goal
use Rattle.file_changes.proofs.changed.need_to_change.Goals.{then-differs, else-differs}

moves : (b moved : Bool) (need : ℕ) → moved ≡ not b → moved ≡ true → (if b then 0 else need) ≡ need
moves b moved need is yes' = grind (arith, common_steps)

rests : (b moved : Bool) (need : ℕ) → moved ≡ not b → moved ≡ false → (if b then 0 else need) ≡ 0
rests b moved need is no' = grind (arith, common_steps)

pub loop-j-preserved : goal.loop-j-preserved
loop-j-preserved c =
    let u = c.args.opened.now in
    let j = c.loop-j.j in
    let old = c.args.old.now in
    let new = c.args.new.now in
    let lt : j < length (alternates_of u) = omega (arith, c.loop-j-test.true, c.alternate_count-j-end.ensures.value) in
    elim c.if-differs.branch [
      | then-differs w ↦
          let is = index_is (alternates_of u) j w.alternate.result (rw (w.from.ensures, c.number_of-k.ensures) at w.alternate.ensures) in
          let step = need_step (file_schema u) old new (alternates_of u) j w.alternate.result c.requires.shaped.keys lt is in
          let here = moves (stays (file_schema u) old new j) c.differs.result (alt_height w.alternate.result + 1) (rw c.number_of-k.ensures at c.differs.ensures) w.if-differs.true in
          record { so_far = omega (arith, w.need-is, w.from-then-differs.ensures, w.height.ensures, step, here, c.loop-j.invariant.so_far); small = omega (arith, w.need-is, w.from-then-differs.ensures, w.height.ensures, w.alternate.result.tree.low, c.loop-j.invariant.small) }
      | else-differs w ↦
          let index = found_at (alternates_of u) j lt in
          let step = need_step (file_schema u) old new (alternates_of u) j index.0 c.requires.shaped.keys lt index.1 in
          let here = rests (stays (file_schema u) old new j) c.differs.result (alt_height index.0 + 1) (rw c.number_of-k.ensures at c.differs.ensures) w.if-differs.false in
          record { so_far = omega (arith, w.need-is, step, here, c.loop-j.invariant.so_far); small = omega (arith, w.need-is, c.loop-j.invariant.small) }
    ]
