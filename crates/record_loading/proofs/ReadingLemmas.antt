-- A line that was read, exactly or with its values filled up.
use Rattle.std.proofs.Common.{◌≡◌, ◌≤◌, ℕ, Bool, true, false, List, length, take, sym, ◌∙◌, subst, arith}
use Rattle.std.specs.Prelude.{Result, Ok, Err, IfOk}
use Rattle.std.proofs.lemmas.List.{take_all, drop_all}
use Rattle.record_text.specs.declared.form.Form.{Form}
use Rattle.record_text.specs.declared.line_reading.RecordLine.{RecordLine}
use Rattle.record_text.specs.declared.mistake.LineMistake.{LineMistake}
use Rattle.record_text.specs.ReadLine.{AreBytes, ReadsRecord, ReadsRecordUpTo}
use Rattle.record_text.specs.Padded.{SaysPadded, ReadsPadded}
use Rattle.record_loading.specs.declared.options.LoadOptions.{LoadOptions}
use Rattle.record_loading.specs.LineForm.{line_form, BeginsWith, ReadsLineOf, ReadsLineUpTo}

module _ (form : Form) (options : LoadOptions) (text : List ℕ) (least : ℕ) (area area_now : List ℕ) where
  exact_line : options.pad ≡ false → (n : ℕ) (behind : List ℕ) → ReadsRecord form text least area area_now n behind → ReadsLineOf (line_form form options) text least area area_now n behind
  exact_line unasked n behind read = record {
    long = read.long;
    within = read.line.within;
    are_bytes = read.line.bytes;
    begins = subst (λ (pad : Bool). BeginsWith pad form (length area) text (take n area_now) behind) (sym unasked) read.line.line;
    rest = read.line.rest;
  }

  pub exact_read : options.pad ≡ false → (result : Result RecordLine LineMistake) → IfOk result (ReadsRecordUpTo form text least area area_now) → IfOk result (ReadsLineUpTo (line_form form options) text least area area_now)
  exact_read unasked (Ok line) read = exact_line unasked line.length line.behind.now read
  exact_read unasked (Err mistake) read = tt

  module _ (same : length area_now ≡ length area) (ordered : least ≤ length area) where
    padded_line : options.pad ≡ true → (n : ℕ) (behind : List ℕ) → n ≡ length area_now → ReadsPadded form text area_now behind → ReadsLineOf (line_form form options) text least area area_now n behind
    padded_line asked n behind whole read = record {
      long = omega (arith, whole, same, ordered);
      within = omega (arith, whole, same);
      are_bytes = subst AreBytes (sym all) read.are_bytes;
      begins = subst (λ (pad : Bool). BeginsWith pad form (length area) text (take n area_now) behind) (sym asked)
          (subst (λ (l : List ℕ). BeginsWith true form (length area) text l behind) (sym all)
          (read.line, read.text_is, subst (λ (m : ℕ). SaysPadded form m read.line area_now) same read.says));
      rest = drop_all n area_now (omega (arith, whole)) ∙ sym (drop_all n area (omega (arith, whole, same)));
    }
      where
        all : take n area_now ≡ area_now
        all = take_all n area_now (omega (arith, whole))

    pub padded_read : options.pad ≡ true → (result : Result RecordLine LineMistake) → IfOk result (λ line. ReadsPadded form text area_now line.behind.now) → IfOk result (λ line. line.length ≡ length area_now)
        → IfOk result (ReadsLineUpTo (line_form form options) text least area area_now)
    padded_read asked (Ok line) read whole = padded_line asked line.length line.behind.now whole read
    padded_read asked (Err mistake) read whole = tt
