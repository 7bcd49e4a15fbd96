-- What one more byte adds to the lines by which files answered 30.
use Rattle.std.proofs.Common.{◌≡◌, ℕ, ◌+◌, ◌-◌, ◌==◌, List, [], ◌∷◌, ◌++◌, length, drop, take, min, refl, ap, sym, ◌∙◌, subst, cond, suc, ◌<◌, get_or, add-one, drop-cons, append_assoc, arith, length-append}
use Rattle.std.specs.Prelude.{codes}
use Rattle.std.specs.List.{sum_by}
use Rattle.std.proofs.Math.Logic.{∥∥₁_map}
use Rattle.std.proofs.Math.Seq.{take-append_seam, take-length}
use Rattle.std.proofs.lemmas.List.{take-append-drop, append-nil}
use Rattle.std.proofs.lemmas.List.Elements.{All-weaker, All-push}
use Rattle.std.proofs.lemmas.List.Sums.{sum_by-append}
use Rattle.streams.specs.declared.fault_lines.FaultLine.{FaultLine}
use Rattle.streams.specs.LinesIn.{IsWithinLine}
use Rattle.streams.specs.FaultLines.{lines_in, line_number, IsFaultLine, EndIn, AreFaultLines}

-- the bytes of a front and these end in these
pub ends : (front last : List ℕ) → EndIn (front ++ last) last
ends front last =
    let many : length (front ++ last) - length last ≡ length front = omega (arith, length-append front last) in
    ap (λ n. take n (front ++ last) ++ last) many ∙ ap (λ r. r ++ last) (take-append_seam front last)

pub ends_more : (bytes last more : List ℕ) → EndIn bytes last → EndIn (bytes ++ more) (last ++ more)
ends_more bytes last more h =
    let front = take (length bytes - length last) bytes in
    let whole : front ++ (last ++ more) ≡ bytes ++ more = sym (append_assoc front last more) ∙ ap (λ r. r ++ more) h in
    subst (λ b. EndIn b (last ++ more)) whole (ends front (last ++ more))

-- LF behind the bytes
pub count_lf : (bytes : List ℕ) → lines_in (bytes ++ 10 ∷ []) ≡ line_number bytes
count_lf bytes = ap (λ n. min n 18446744073709551615) (sum_by-append (λ (b : ℕ). cond (b == 10) 1 0) bytes (10 ∷ []))

-- bytes of one line behind them
pub count_within : (bytes more : List ℕ) → IsWithinLine more → lines_in (bytes ++ more) ≡ lines_in bytes
count_within bytes more within =
    let f : ℕ → ℕ = λ b. cond (b == 10) 1 0 in
    let sum : sum_by f (bytes ++ more) ≡ sum_by f bytes + sum_by f more = sum_by-append f bytes more in
    let none : sum_by f more ≡ 0 = within in
    let same : sum_by f (bytes ++ more) ≡ sum_by f bytes = omega (arith, sum, none) in
    ap (λ n. min n 18446744073709551615) same

-- the number of the line that is being written
pub number_is : (bytes : List ℕ) (lines number : ℕ) → number ≡ min (lines + 1) 18446744073709551615 → lines ≡ lines_in bytes → number ≡ line_number bytes
number_is bytes lines number next counted = omega (arith, next, counted)

minus_zero : (n : ℕ) → n - 0 ≡ n
minus_zero n = omega arith

-- the bytes end in no bytes
pub ends_empty : (bytes : List ℕ) → EndIn bytes []
ends_empty bytes = ap (λ n. take n bytes ++ []) (minus_zero (length bytes)) ∙ append-nil (take (length bytes) bytes) ∙ take-length bytes

-- what the bytes end in may be parted
ends_by : (bytes line front tail : List ℕ) → EndIn bytes line → line ≡ front ++ tail → bytes ≡ (take (length bytes - length line) bytes ++ front) ++ tail
ends_by bytes line front tail h is =
    let before = take (length bytes - length line) bytes in
    sym h ∙ ap (λ r. before ++ r) is ∙ sym (append_assoc before front tail)

-- where the line that the bytes end in ends in a name and 30, LF makes it such a line
pub fault_now : (bytes line name front : List ℕ) (number : ℕ) → EndIn bytes line → line ≡ front ++ 32 ∷ (name ++ codes " 30") → number ≡ line_number bytes → IsFaultLine (bytes ++ 10 ∷ []) name number
fault_now bytes line name front number h is numbered = record {
  before = bytes;
  back = [];
  is = refl;
  front = take (length bytes - length line) bytes ++ front;
  ends = ends_by bytes line front (32 ∷ (name ++ codes " 30")) h is;
  numbered = numbered;
}

-- so for what is noted of it
pub fault_first : (bytes line slice : List ℕ) (number : ℕ) (first : FaultLine) → EndIn bytes line → slice ≡ line → number ≡ line_number bytes
    → (first.number ≡ number) × ((front : List ℕ) × (slice ≡ front ++ 32 ∷ (first.name.items ++ codes " 30"))) → IsFaultLine (bytes ++ 10 ∷ []) first.name.items first.number
fault_first bytes line slice number first h same numbered is = fault_now bytes line first.name.items is.1.0 first.number h (sym same ∙ is.1.1) (is.0 ∙ numbered)

-- the name behind the last space
pub named : (line front : List ℕ) (at : ℕ) → line ≡ front ++ codes " 30" → at < length front → get_or front at 0 ≡ 32 → line ≡ take at front ++ 32 ∷ (drop (at + 1) front ++ codes " 30")
named line front at is within space =
    let tail = drop (at + 1) front in
    let rest : drop at front ≡ 32 ∷ tail = rw (add-one) (drop-cons front at 0 within ∙ ap (λ s. s ∷ drop (suc at) front) space) in
    let whole : front ≡ take at front ++ 32 ∷ tail = sym (take-append-drop at front) ∙ ap (λ r. take at front ++ r) rest in
    is ∙ ap (λ r. r ++ codes " 30") whole ∙ append_assoc (take at front) (32 ∷ tail) (codes " 30")

-- it stays one where more bytes follow
fault_more : (bytes more name : List ℕ) (number : ℕ) → IsFaultLine bytes name number → IsFaultLine (bytes ++ more) name number
fault_more bytes more name number h = record {
  before = h.before;
  back = h.back ++ more;
  is = ap (λ r. r ++ more) h.is ∙ append_assoc h.before (10 ∷ h.back) more;
  front = h.front;
  ends = h.ends;
  numbered = h.numbered;
}

pub faults_more : (bytes more : List ℕ) (firsts : List FaultLine) → AreFaultLines bytes firsts → AreFaultLines (bytes ++ more) firsts
faults_more bytes more firsts = All-weaker (λ (first : FaultLine). ∥ IsFaultLine bytes first.name.items first.number ∥₁) (λ (first : FaultLine). ∥ IsFaultLine (bytes ++ more) first.name.items first.number ∥₁) (λ first h. ∥∥₁_map h (fault_more bytes more first.name.items first.number)) firsts

pub faults_push : (bytes : List ℕ) (firsts : List FaultLine) (first : FaultLine) → AreFaultLines bytes firsts → IsFaultLine bytes first.name.items first.number → AreFaultLines bytes (firsts ++ first ∷ [])
faults_push bytes firsts first h is = All-push (λ (first : FaultLine). ∥ IsFaultLine bytes first.name.items first.number ∥₁) firsts first h ∣ is ∣₁
