use Rattle.std.proofs.Common.{◌∙◌, ◌+◌, true, false, subst, sym, refl, List, ℕ, Bor}
use Rattle.file_checker.proofs.StampLemmas.{IsBehind, behind_none, eight_behind, behind_many, behind_one, stamp_many, stamp_one, within_front, front_part, all_walked, rest_from}
use Rattle.file_checker.proofs.stamps.stamp_at.Goals.{then-has_duplicates, else-has_duplicates}
use Rattle.file_checker.proofs.stamps.stamp_at.Goals as goal

pub loop-part-init : goal.loop-part-init
loop-part-init c = behind_none c.args.parts.now c.args.bytes.now c.args.i c.requires.long

pub slice_bounds-rest-count : goal.slice_bounds-rest-count
slice_bounds-rest-count c =
    let k = c.loop-part.part-index in
    eight_behind c.args.parts.now c.args.bytes.now c.args.i k _ c.loop-part.rest.now (within_front c.args.parts.now c.args.i k c.loop-part-test.true) c.loop-part.invariant
    (front_part c.args.parts.now c.args.i k _ true c.loop-part-test.true (sym c.has_duplicates.ensures ∙ c.if-has_duplicates.true))

pub loop-part-preserved : goal.loop-part-preserved
loop-part-preserved c =
    let k = c.loop-part.part-index in
    let within = within_front c.args.parts.now c.args.i k c.loop-part-test.true in
    elim c.if-has_duplicates.branch [
      | then-has_duplicates w ↦
          subst (λ (rest : Bor (List ℕ)). IsBehind c.args.parts.now c.args.bytes.now c.args.i (k + 1) rest.now) (sym w.rest-is)
          (subst (λ (rest : List ℕ). IsBehind c.args.parts.now c.args.bytes.now c.args.i (k + 1) rest) (sym (rest_from 8 c.loop-part.rest.now))
          (behind_many c.args.parts.now c.args.bytes.now c.args.i k _ c.loop-part.rest.now within c.loop-part.invariant (front_part c.args.parts.now c.args.i k _ true c.loop-part-test.true (sym c.has_duplicates.ensures ∙ w.if-has_duplicates.true))))
      | else-has_duplicates w ↦
          subst (λ (rest : Bor (List ℕ)). IsBehind c.args.parts.now c.args.bytes.now c.args.i (k + 1) rest.now) (sym w.rest-is)
          (behind_one c.args.parts.now c.args.bytes.now c.args.i k _ c.loop-part.rest.now within c.loop-part.invariant (front_part c.args.parts.now c.args.i k _ false c.loop-part-test.true (sym c.has_duplicates.ensures ∙ w.if-has_duplicates.false)))
    ]

pub read_u64-requires : goal.read_u64-requires
read_u64-requires c =
    let all = all_walked c.args.parts.now c.args.bytes.now c.args.i c.loop-part.part-index c.loop-part.rest.now c.requires.part c.loop-part-test.false c.loop-part.auto.part-index-end c.loop-part.invariant in
    eight_behind c.args.parts.now c.args.bytes.now c.args.i c.args.i _ c.loop-part.rest.now c.requires.part all (sym c.has_duplicates-2.ensures ∙ c.if-has_duplicates-2.true)

pub returns-then-has_duplicates-2 : goal.returns-then-has_duplicates-2
returns-then-has_duplicates-2 c =
    let all = all_walked c.args.parts.now c.args.bytes.now c.args.i c.loop-part.part-index c.loop-part.rest.now c.requires.part c.loop-part-test.false c.loop-part.auto.part-index-end c.loop-part.invariant in
    c.read_u64.ensures ∙ stamp_many c.args.parts.now c.args.bytes.now c.args.i c.args.i _ c.loop-part.rest.now c.requires.part all refl (sym c.has_duplicates-2.ensures ∙ c.if-has_duplicates-2.true)

pub returns-else-has_duplicates-2 : goal.returns-else-has_duplicates-2
returns-else-has_duplicates-2 c =
    let all = all_walked c.args.parts.now c.args.bytes.now c.args.i c.loop-part.part-index c.loop-part.rest.now c.requires.part c.loop-part-test.false c.loop-part.auto.part-index-end c.loop-part.invariant in
    stamp_one c.args.parts.now c.args.bytes.now c.args.i c.args.i _ c.loop-part.rest.now c.requires.part all refl (sym c.has_duplicates-2.ensures ∙ c.if-has_duplicates-2.false)
