-- Lines are passed over, and told.
use Rattle.std.proofs.Common.{◌≡◌, ◌<◌, ◌≤◌, ℕ, zero, suc, ◌+◌, ◌-◌, ◌==◌, Bool, true, false, List, [], ◌∷◌, ◌++◌, length, cond, refl, sym, ap, ◌∙◌, subst, arith}
use Rattle.io_state.specs.declared.status.Status.{Status}
use Rattle.record_layout.specs.Schema.{Schema}
use Rattle.record_text.specs.declared.form.Form.{Form}
use Rattle.record_text.specs.Lines.{line_in}
use Rattle.record_loading.specs.declared.rejected.RejectedLine.{RejectedLine}
use Rattle.record_loading.specs.declared.rejected.RejectReason.{RejectReason}
use Rattle.record_loading.specs.declared.rejected.RejectReason.TheVariants.{Refused, NoRecord}
use Rattle.record_loading.specs.LineForm.{LineForm, BeginsWith}
use Rattle.record_loading.specs.Passing.{Passing, IsRefusedLine, IsRejected, behind_line, behind_lines}
use Rattle.record_loading.specs.Told.{ToldLine, AreToldRejected}

-- ---- what is behind lines

pub no_line : (count : ℕ) → behind_lines count [] ≡ []
no_line zero = refl
no_line (suc count) = no_line count

pub one_line : (count : ℕ) (text : List ℕ) → 0 < count → behind_lines count text ≡ behind_lines (count - 1) (behind_line text)
one_line zero text some = absurd (omega (arith, some))
one_line (suc count) text some = let e : suc count - 1 ≡ count = omega arith in rw e refl

pub line_ends : (byte : ℕ) (behind : List ℕ) → byte ≡ 10 → behind_line (byte ∷ behind) ≡ behind
line_ends byte behind is = rw is refl

pub line_goes : (byte : ℕ) (behind : List ℕ) → (byte ≡ 10 → ⊥) → behind_line (byte ∷ behind) ≡ behind_line behind
line_goes byte behind other = grind (arith, other)

-- what is behind a line is no longer than what is behind its first byte
behind_first : (byte : ℕ) (text : List ℕ) → length (behind_line text) ≤ length text → (test : Bool) → length (cond test text (behind_line text)) ≤ length text
behind_first byte text shorter true = omega arith
behind_first byte text shorter false = shorter

not_longer : (text : List ℕ) → length (behind_line text) ≤ length text
not_longer [] = omega arith
not_longer (byte ∷ text) = let more = behind_first byte text (not_longer text) (byte == 10) in omega (arith, more)

-- a line has some bytes
pub behind_shorter : (text : List ℕ) → 0 < length text → length (behind_line text) < length text
behind_shorter [] some = absurd (omega (arith, some))
behind_shorter (byte ∷ text) some = let more = behind_first byte text (not_longer text) (byte == 10) in omega (arith, more)

-- where something is left behind lines, the text has so many
pub lines_skipped : (count : ℕ) (text : List ℕ) → 0 < length (behind_lines count text) → count + length (behind_lines count text) ≤ length text
lines_skipped zero text some = omega arith
lines_skipped (suc count) [] some = let none = ap (λ (l : List ℕ). length l) (no_line count) in absurd (omega (arith, some, none))
lines_skipped (suc count) (byte ∷ text) some =
    let more = lines_skipped count (behind_line (byte ∷ text)) some in
    let fewer = behind_first byte text (not_longer text) (byte == 10) in
    omega (arith, more, fewer)

pub nothing_left : (text : List ℕ) → (0 < length text → ⊥) → text ≡ []
nothing_left [] none = refl
nothing_left (byte ∷ text) none = absurd (none (omega arith))

pub empty_is : (text : List ℕ) → length text ≡ 0 → text ≡ []
empty_is [] is = refl
empty_is (byte ∷ text) is = absurd (omega (arith, is))

-- ---- the bytes of a line

first_front : (byte : ℕ) (text : List ℕ) → ((front : List ℕ) × (text ≡ front ++ behind_line text)) → (test : Bool) → (front : List ℕ) × (byte ∷ text ≡ front ++ cond test text (behind_line text))
first_front byte text later true = (byte ∷ [], refl)
first_front byte text later false = (byte ∷ later.0, ap (λ (l : List ℕ). byte ∷ l) later.1)

-- what is behind a line is behind some bytes
pub line_front : (text : List ℕ) → (front : List ℕ) × (text ≡ front ++ behind_line text)
line_front [] = ([], refl)
line_front (byte ∷ text) = first_front byte text (line_front text) (byte == 10)

-- so is what is behind the line of a record
pub begins_front : (pad : Bool) (form : Form) (greatest : ℕ) (text bytes behind : List ℕ) → BeginsWith pad form greatest text bytes behind → (front : List ℕ) × (text ≡ front ++ behind)
begins_front false form greatest text bytes behind is = (line_in form bytes, is)
begins_front true form greatest text bytes behind is = (is.0, is.1)

refused_front : (replace : Bool) (schema : Schema) (form : LineForm) (status : Status) (line : Passing) → IsRefusedLine replace schema form status line → (front : List ℕ) × (line.text ≡ front ++ line.behind)
refused_front false schema form status line is = begins_front form.pad form.form schema.greatest line.text is.bytes line.behind is.begins
refused_front true schema form status line is = begins_front form.pad form.form schema.greatest line.text is.bytes line.behind is.begins

-- and what is behind a line that was rejected
pub rejected_front : (schema : Schema) (form : LineForm) (replace : Bool) (reason : RejectReason) (line : Passing) → IsRejected schema form replace reason line → (front : List ℕ) × (line.text ≡ front ++ line.behind)
rejected_front schema form replace (Refused status) line is = refused_front replace schema form status line is
rejected_front schema form replace (NoRecord mistake) line is =
    let front = line_front line.text in
    (front.0, front.1 ∙ ap (λ (l : List ℕ). front.0 ++ l) (sym is.behind))

-- ---- what is told

pub told_one_more : {R : Type 0} (Tells : R → R → RejectedLine → List ℕ → Type 0) (lines : List ToldLine) (line : ToldLine) (old now new : R)
    → AreToldRejected Tells lines old now → Tells now new line.rejected line.bytes → AreToldRejected Tells (lines ++ (line ∷ [])) old new
told_one_more {R} Tells [] line old now new told tells = (new, subst (λ (log : R). Tells log new line.rejected line.bytes) told tells, refl)
told_one_more Tells (first ∷ lines) line old now new told tells = (told.0, told.1, told_one_more Tells lines line told.0 now new told.2 tells)
