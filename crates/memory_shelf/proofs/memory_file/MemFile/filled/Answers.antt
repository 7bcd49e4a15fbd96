use Rattle.std.proofs.Common.{rules, ◌≡◌, ◌∙◌, ◌++◌, ◌∷◌, [], List, ℕ, Bool, if◌then◌else◌, get_or, ap}
use Rattle.page_store.specs.Images.{durable, covered}
use Rattle.memory_shelf.specs.Events.{steps}
use Rattle.memory_shelf.specs.declared.event.Event.{Event}
use Rattle.memory_shelf.proofs.CrashLemmas.{filled_more}
use Rattle.memory_shelf.proofs.memory_file.MemFile.filled.Goals as goal
use Rattle.memory_shelf.proofs.memory_file.MemFile.filled.Goals.{then-is_touched, else-is_touched}

chosen : (b : Bool) (r : Bool) (byte old : ℕ) → b ≡ r → (if b then byte else old) ≡ (if r then byte else old)
chosen b r byte old same = ap (λ (v : Bool). if v then byte else old) same

pub loop-i-preserved : goal.loop-i-preserved
loop-i-preserved c =
    let old = get_or c.deref-old-items.result.now c.loop-i.i 0 in
    let rs = (durable (steps c.args.self.now.log.items)).ranges in
    let pushed : c.push.new.self.items ≡ c.loop-i.bytes.items ++ c.if-is_touched.new ∷ [] = search rules in
    let touched = c.is_touched.ensures ∙ ap (λ (log : List Event). covered (durable (steps log)).ranges c.loop-i.i) c.deref.ensures.value in
    let new : c.if-is_touched.new ≡ (if c.is_touched.result then c.args.byte else old) =
    elim c.if-is_touched.branch [ then-is_touched w ↦ rw w.if-is_touched.true w.new-is | else-is_touched w ↦ rw w.if-is_touched.false w.new-is ] in
    filled_more c.args.byte rs c.deref-old-items.result.now c.loop-i.i c.if-is_touched.new c.loop-i.bytes.items c.push.new.self.items c.loop-i-test.true c.loop-i.invariant pushed (new ∙ chosen c.is_touched.result (covered rs c.loop-i.i) c.args.byte old touched)
