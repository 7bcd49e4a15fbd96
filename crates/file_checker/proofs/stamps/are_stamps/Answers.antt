use Rattle.std.proofs.Common.{◌+◌, ◌<◌, ◌≤◌, subst, sym, ◌∙◌, List, ℕ, Bor, refl, arith}
use Rattle.std.specs.Prelude.{IsTrue}
use Rattle.byteorder.specs.Endian.{big_number}
use Rattle.file_checker.specs.Leading.{are_stamps_off}
use Rattle.file_checker.proofs.StampLemmas.{FitFront, eight_more, front_many, front_one, front_all, rest_from, stamp_here}
use Rattle.file_checker.proofs.stamps.are_stamps.Goals.{then-has_duplicates+else-stamp-lt1+else-next-stamp, else-has_duplicates, then-stamp-lt1-via-then-stamp-lt1, then-stamp-lt1-via-else-stamp-lt1+then-next-stamp}
use Rattle.file_checker.proofs.stamps.are_stamps.Goals as goal

pub loop-part-init : goal.loop-part-init
loop-part-init c = record { long = c.requires; front = λ h. h; back = λ h. h }

pub read_u64-stamp-requires : goal.read_u64-stamp-requires
read_u64-stamp-requires c =
    eight_more c.args.next c.args.parts.now c.args.bytes.now c.loop-part.part-index _ c.loop-part.rest.now c.loop-part-test.true c.loop-part.invariant (sym c.has_duplicates.ensures ∙ c.if-has_duplicates.true)

pub slice_bounds-rest-count : goal.slice_bounds-rest-count
slice_bounds-rest-count c =
    eight_more c.args.next c.args.parts.now c.args.bytes.now c.loop-part.part-index _ c.loop-part.rest.now c.loop-part-test.true c.loop-part.invariant (sym c.has_duplicates.ensures ∙ c.if-has_duplicates.true)

pub loop-part-preserved : goal.loop-part-preserved
loop-part-preserved c = elim c.if-has_duplicates.branch [
  | then-has_duplicates+else-stamp-lt1+else-next-stamp w ↦
      let number = w.read_u64-stamp.ensures in
      subst (λ (rest : Bor (List ℕ)). FitFront c.args.next c.args.parts.now c.args.bytes.now (c.loop-part.part-index + 1) rest.now) (sym w.rest-is)
      (subst (λ (rest : List ℕ). FitFront c.args.next c.args.parts.now c.args.bytes.now (c.loop-part.part-index + 1) rest) (sym (rest_from 8 c.loop-part.rest.now))
      (front_many c.args.next c.args.parts.now c.args.bytes.now c.loop-part.part-index _ c.loop-part.rest.now c.loop-part-test.true c.loop-part.invariant (sym c.has_duplicates.ensures ∙ w.if-has_duplicates.true)
      (subst (λ (s : ℕ). 1 ≤ s) number w.if-stamp-lt1.false) (subst (λ (s : ℕ). s < c.args.next) number w.if-next-stamp.false)))
  | else-has_duplicates w ↦
      subst (λ (rest : Bor (List ℕ)). FitFront c.args.next c.args.parts.now c.args.bytes.now (c.loop-part.part-index + 1) rest.now) (sym w.rest-is)
      (front_one c.args.next c.args.parts.now c.args.bytes.now c.loop-part.part-index _ c.loop-part.rest.now c.loop-part-test.true c.loop-part.invariant (sym c.has_duplicates.ensures ∙ w.if-has_duplicates.false))
]

pub returns-then-stamp-lt1 : goal.returns-then-stamp-lt1
returns-then-stamp-lt1 c =
    let number = c.read_u64-stamp.ensures in
    let within : IsTrue (are_stamps_off c.args.parts.now c.args.next c.args.bytes.now) → (1 ≤ big_number 8 c.loop-part.rest.now) × (big_number 8 c.loop-part.rest.now < c.args.next) =
    λ fit. stamp_here c.args.next c.args.parts.now c.args.bytes.now c.loop-part.part-index _ c.loop-part.rest.now c.loop-part-test.true c.loop-part.invariant
    (sym c.has_duplicates.ensures ∙ c.if-has_duplicates.true) fit in
    elim c.then-stamp-lt1.branch [
      | then-stamp-lt1-via-then-stamp-lt1 w ↦ ((λ no. cc), (λ fit. let both = within fit in let low = both.0 in let less = w.if-stamp-lt1.true in absurd (omega (arith, number, low, less))))
      | then-stamp-lt1-via-else-stamp-lt1+then-next-stamp w ↦ ((λ no. cc), (λ fit. let both = within fit in let high = both.1 in let past = w.if-next-stamp.true in absurd (omega (arith, number, high, past))))
    ]

pub returns : goal.returns
returns c = (
  (λ yes. front_all c.args.next c.args.parts.now c.args.bytes.now c.loop-part.part-index c.loop-part.rest.now c.loop-part-test.false c.loop-part.invariant),
  (λ fit. refl),
)
