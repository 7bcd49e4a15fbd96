-- The parts of a load follow one another.
use Rattle.std.proofs.Common.{◌≡◌, ◌<◌, ℕ, Bool, true, false, not, ◌&&◌, ◌||◌, inl, inr, List, [], ◌∷◌, length, slice_set, slice_index_or, refl, sym, subst, ◌∙◌, arith, true≢false}
use denote.Ref.{Bor}
use Rattle.io_state.specs.declared.status.Status.{Status}
use Rattle.io_state.specs.declared.statement.FileStatement.{FileStatement}
use Rattle.io_state.specs.declared.statement.FileStatement.TheVariants.{Write, Rewrite}
use Rattle.io_state.specs.Status.{is_successful}
use Rattle.indexed_file.specs.World.{World, FileUnit, Absent, Shut, OnlyAt}
use Rattle.indexed_file.specs.Calls.{Keeps}
use Rattle.indexed_file.specs.Moments.{JoinsStretches, EndsNow}
use Rattle.indexed_file.specs.Shown.{Shown}
use Rattle.verbs.specs.declared.answer.Answer.{Answer}
use Rattle.verbs.specs.Connector.{answers}
use Rattle.verbs.specs.Marred.{Step}
use Rattle.verbs.specs.Held.{Held, silent}
use Rattle.verbs.specs.Fits.{Fits}
use Rattle.verbs.specs.Performed.{FileInMemory, IsPerformed, Trusted, in_memory, state_in}
use Rattle.verbs.proofs.WorldLemmas.{only_twice}
use Rattle.record_text.specs.declared.form.Form.{Form}
use Rattle.record_listing.proofs.WorldLemmas.{keeps_self, keeps_both, still_true}
use Rattle.record_text.specs.declared.mistake.LineMistake.{LineMistake}
use Rattle.record_loading.specs.declared.options.LoadOptions.{LoadOptions}
use Rattle.record_loading.specs.declared.rejected.RejectReason.TheVariants.{Refused, NoRecord}
use Rattle.record_loading.specs.declared.writing.PassedLine.TheVariants.{Written, Replaced, Rejected, Stopped}
use Rattle.record_loading.specs.declared.writing.PassedLine.{PassedLine}
use Rattle.record_loading.specs.Going.{LoadGoesOn, PassesLineOf, passing_in}
use Rattle.record_loading.specs.declared.rejected.RejectReason.{RejectReason}
use Rattle.record_loading.specs.Passing.{IsRecordReplaced, IsNotReplaced, IsRefusedLine, IsRejected, IsEnd, behind_line, is_refused_for_keys, ends_lines}
use Rattle.record_loading.specs.Replacing.{IsPassedBy}
use Rattle.record_loading.specs.LineForm.{LineForm, line_form, ReadsLineOf, BeginsWithNone, HasMistake}
use Rattle.record_loading.proofs.HeaderLemmas.{shorter}
use Rattle.record_loading.proofs.PassingLemmas.{behind_shorter}
use Rattle.record_loading.proofs.RealLemmas.{real_goes, real_both}
use Rattle.record_loading.proofs.WrittenLemmas.{written_here, keys_here, refused_here, replaced_here, not_replaced_here, not_replacing_here}

abbrev no_unit : FileUnit
no_unit = record { name = []; named = Absent; holding = Shut }

set_self : (units : List FileUnit) → units ≡ slice_set units 0 (record { name = (slice_index_or units 0 no_unit).name; named = (slice_index_or units 0 no_unit).named; holding = (slice_index_or units 0 no_unit).holding })
set_self [] = refl
set_self (unit ∷ units) = refl

only_self : (w : World) → OnlyAt 0 w w
only_self w = λ i. record { units = set_self w.units i; elsewhere = w.elsewhere }

both_true : (first second : Bool) → not (first && second) ≡ false → (first ≡ true) × (second ≡ true)
both_true true true e = (refl, refl)
both_true true false e = absurd (true≢false e)
both_true false second e = absurd (true≢false e)

-- a WRITE that is no success and does not end the lines was refused for its keys
pub refused_keys : (options : LoadOptions) (status : Status) → ends_lines options status ≡ false → is_refused_for_keys status ≡ true
refused_keys options status goes_on = (both_true (options.keep_going || options.replace) (is_refused_for_keys status) goes_on).1

-- one of two is true, and it is not the other
other_true : (first other : Bool) → (first || other) ≡ true → other ≡ false → first ≡ true
other_true true other e none = refl
other_true false other e none = absurd (true≢false (sym e ∙ none))

module _ {S : Type 0} (shown : Shown S) where
  pub goes_self : (held : Held) (library : S) → Fits held (shown.world library) 0 → LoadGoesOn shown (in_memory held library []) (in_memory held library [])
  goes_self held library fits = record {
    fits = fits;
    schema = refl;
    only = only_self (shown.world library);
    keeps = keeps_self shown library;
    standing = λ honest truly standing. standing;
    real = λ honest truly standing name first. first;
  }

  -- a statement that was performed
  pub goes_performed : (statement : FileStatement) (n : ℕ) (before : FileInMemory S) (answer : Answer) (after : FileInMemory S) → IsPerformed shown 0 statement n before answer after
      → LoadGoesOn shown (in_memory before.held before.library []) (in_memory after.held after.library [])
  goes_performed statement n before answer after does = record {
    fits = does.fits;
    schema = does.schema;
    only = does.only;
    keeps = does.keeps;
    standing = does.standing;
    real = λ honest truly standing. real_goes shown _ _ before.library after.library (does.images honest truly standing);
  }

  module _ (a b c : FileInMemory S) (some : 0 < length (shown.world a.library).units) (first : LoadGoesOn shown a b) where
    -- what is to be believed of a later part
    pub trusted : (fact : Type 0) → Keeps shown b.library c.library → Trusted shown 0 b c fact → Trusted shown 0 a c fact
    trusted fact keeps believed honest truly standing =
        let before = keeps.honest honest in
        believed honest (still_true shown a.library b.library some first.only first.keeps before truly) (first.standing before truly standing)

    pub goes_both : JoinsStretches shown.moments → EndsNow shown.moments → LoadGoesOn shown b c → LoadGoesOn shown a c
    goes_both joins ends second = record {
      fits = second.fits;
      schema = second.schema ∙ first.schema;
      only = only_twice 0 (shown.world a.library) (shown.world b.library) (shown.world c.library) some first.only second.only;
      keeps = keeps_both shown a.library b.library c.library first.keeps second.keeps;
      standing = trusted _ second.keeps second.standing;
      real = λ honest truly standing.
          real_both shown joins ends a.library b.library c.library (first.real (second.keeps.honest honest) truly standing) (trusted _ second.keeps second.real honest truly standing);
    }

-- ---- a line

module _ {S : Type 0} (shown : Shown S) (options : LoadOptions) (form : Form) (text : List ℕ) (held : Held) (library : S) (area area_now : List ℕ) where
  abbrev lines : LineForm
  lines = line_form form options

  abbrev now : FileInMemory S
  now = in_memory held library area

  -- no record was read, and nothing was done
  module _ (same : length area_now ≡ length area) (fits : Fits held (shown.world library) 0) (none : BeginsWithNone options.pad form text held.connector.schema.least (length area))
      (mistake : LineMistake) (is_wrong : HasMistake options.pad form text held.connector.schema.least (length area) mistake)
      (whole : length area ≡ held.connector.schema.greatest) (some : 0 < length text) where
    none_of : BeginsWithNone options.pad form text held.connector.schema.least held.connector.schema.greatest
    none_of = subst (λ (greatest : ℕ). BeginsWithNone options.pad form text held.connector.schema.least greatest) whole none

    wrong_of : HasMistake options.pad form text held.connector.schema.least held.connector.schema.greatest mistake
    wrong_of = subst (λ (greatest : ℕ). HasMistake options.pad form text held.connector.schema.least greatest mistake) whole is_wrong

    pub nothing_passed : (behind : Bor (List ℕ)) → behind.now ≡ behind_line text → options.keep_going ≡ true → PassesLineOf shown options form text now (in_memory held library area_now) (Rejected (NoRecord mistake) behind)
    nothing_passed behind is going = record {
      goes = goes_self shown held library fits;
      shorter = subst (λ (l : List ℕ). length l < length text) (sym is) (behind_shorter text some);
      line = λ honest truly standing. (going, record { some = some; none = none_of; wrong = wrong_of; behind = is; area = area_now; area_length = same; file = refl });
    }

    pub nothing_ends : options.keep_going ≡ false → PassesLineOf shown options form text now (in_memory held library area_now) (Stopped (NoRecord mistake))
    nothing_ends stays = record {
      goes = goes_self shown held library fits;
      shorter = tt;
      line = λ honest truly standing. (area, [], record { some = some; none = none_of; wrong = wrong_of; ends = stays; file = refl });
    }

  -- a record was read, and WRITE was answered so
  module _ (held_after : Held) (later : S) (n : ℕ) (status : Status) (behind : Bor (List ℕ)) (does : IsPerformed shown 0 Write n (in_memory held library area_now) (silent status) (in_memory held_after later area_now))
      (reads : ReadsLineOf lines text held.connector.schema.least area area_now n behind.now) (whole : length area ≡ held.connector.schema.greatest) (same : length area_now ≡ length area) where
    goes : LoadGoesOn shown (in_memory held library []) (in_memory held_after later [])
    goes = goes_performed shown Write n (in_memory held library area_now) (silent status) (in_memory held_after later area_now) does

    fewer : length behind.now < length text
    fewer = let some = shorter lines text held.connector.schema.least area area_now n behind.now reads in omega (arith, some)

    pub line_written : is_successful status ≡ true → PassesLineOf shown options form text now (in_memory held_after later area_now) (Written behind)
    line_written success = record {
      goes = goes;
      shorter = fewer;
      line = λ honest truly standing.
          written_here lines held.connector.schema text (state_in shown 0 now) area_now n behind.now same reads (state_in shown 0 (in_memory held_after later area_now)) status whole (does.step honest truly standing) success;
    }

    pub line_rejected : ends_lines options status ≡ false → options.replace ≡ false → PassesLineOf shown options form text now (in_memory held_after later area_now) (Rejected (Refused status) behind)
    line_rejected goes_on none =
        let both = both_true (options.keep_going || options.replace) (is_refused_for_keys status) goes_on in
        record {
          goes = goes;
          shorter = fewer;
          line = λ honest truly standing.
              let refused = keys_here lines held.connector.schema text (state_in shown 0 now) area_now n behind.now same reads (state_in shown 0 (in_memory held_after later area_now)) status whole (does.step honest truly standing) both.1 in (
                other_true options.keep_going options.replace both.0 none,
                subst (λ (replace : Bool). IsRefusedLine replace held.connector.schema lines status (passing_in shown text behind.now now (in_memory held_after later area_now) area_now)) (sym none) refused,
              );
        }

    pub line_ends : is_successful status ≡ false → ends_lines options status ≡ true → PassesLineOf shown options form text now (in_memory held_after later area_now) (Stopped (Refused status))
    line_ends failed ends = record {
      goes = goes;
      shorter = tt;
      line = λ honest truly standing. (
        area_now,
        behind.now,
        inl (refused_here lines held.connector.schema text (state_in shown 0 now) area_now n behind.now same reads (state_in shown 0 (in_memory held_after later area_now)) status options whole (does.step honest truly standing) failed ends),
      );
    }

    -- behind a WRITE that was refused for its keys REWRITE was answered so
    module _ (joins : JoinsStretches shown.moments) (ends : EndsNow shown.moments) (some : 0 < length (shown.world library).units) (asked : options.replace ≡ true) (keys : is_refused_for_keys status ≡ true)
        (held_last : Held) (last : S) (again : Status) (rewrites : IsPerformed shown 0 Rewrite n (in_memory held_after later area_now) (silent again) (in_memory held_last last area_now)) where
      abbrev final : FileInMemory S
      final = in_memory held_last last area_now

      goes_rewrite : LoadGoesOn shown (in_memory held_after later []) (in_memory held_last last [])
      goes_rewrite = goes_performed shown Rewrite n (in_memory held_after later area_now) (silent again) final rewrites

      goes_twice : LoadGoesOn shown (in_memory held library []) (in_memory held_last last [])
      goes_twice = goes_both shown (in_memory held library []) (in_memory held_after later []) (in_memory held_last last []) some goes joins ends goes_rewrite

      -- what is to be believed of both
      both_steps : (fact : Type 0)
          → (Step Write n (state_in shown 0 (in_memory held library area_now)) (answers status (state_in shown 0 (in_memory held_after later area_now))) → Step Rewrite n (state_in shown 0 (in_memory held_after later area_now)) (answers again (state_in shown 0 final)) → fact)
          → Trusted shown 0 (in_memory held library []) (in_memory held_last last []) fact
      both_steps fact so honest truly standing =
          so (does.step (goes_rewrite.keeps.honest honest) truly standing)
          (trusted shown (in_memory held library []) (in_memory held_after later []) (in_memory held_last last []) some goes _ goes_rewrite.keeps rewrites.step honest truly standing)

      pub line_replaces : (passed : PassedLine) → IsPassedBy options status behind.now again passed → PassesLineOf shown options form text now final passed
      line_replaces (Written left) is = absurd is
      line_replaces (Replaced left) is = record {
        goes = goes_twice;
        shorter = subst (λ (l : List ℕ). length l < length text) (sym is.0) fewer;
        line = both_steps _ (λ first second. (
          asked,
          subst (λ (l : List ℕ). IsRecordReplaced held.connector.schema lines (passing_in shown text l now final area_now)) (sym is.0)
              (replaced_here lines held.connector.schema text (state_in shown 0 now) area_now n behind.now same reads (state_in shown 0 (in_memory held_after later area_now)) status whole first keys (state_in shown 0 final) again second is.1),
        ));
      }
      line_replaces (Rejected reason left) is = record {
        goes = goes_twice;
        shorter = subst (λ (l : List ℕ). length l < length text) (sym is.0) fewer;
        line = both_steps _ (λ first second. (
          is.3,
          subst (λ (r : RejectReason). IsRejected held.connector.schema lines options.replace r (passing_in shown text left.now now final area_now)) (sym is.1)
              (subst (λ (replace : Bool). IsRefusedLine replace held.connector.schema lines status (passing_in shown text left.now now final area_now)) (sym asked)
              (subst (λ (l : List ℕ). IsNotReplaced held.connector.schema lines status (passing_in shown text l now final area_now)) (sym is.0)
              (not_replaced_here lines held.connector.schema text (state_in shown 0 now) area_now n behind.now same reads (state_in shown 0 (in_memory held_after later area_now)) status whole first keys (state_in shown 0 final) again second is.2))),
        ));
      }
      line_replaces (Stopped reason) (inl is) = record {
        goes = goes_twice;
        shorter = tt;
        line = both_steps _ (λ first second. (
          area_now,
          behind.now,
          subst (λ (r : RejectReason). IsEnd held.connector.schema lines options r (passing_in shown text behind.now now final area_now)) (sym is.0)
              (inr (inl (record {
                asked = asked;
                refused = not_replaced_here lines held.connector.schema text (state_in shown 0 now) area_now n behind.now same reads (state_in shown 0 (in_memory held_after later area_now)) status whole first keys (state_in shown 0 final) again second is.1;
                ends = is.2;
              }))),
        ));
      }
      line_replaces (Stopped reason) (inr is) = record {
        goes = goes_twice;
        shorter = tt;
        line = both_steps _ (λ first second. (
          area_now,
          behind.now,
          subst (λ (r : RejectReason). IsEnd held.connector.schema lines options r (passing_in shown text behind.now now final area_now)) (sym is.0)
              (inr (inr (not_replacing_here lines held.connector.schema text (state_in shown 0 now) area_now n behind.now same reads (state_in shown 0 (in_memory held_after later area_now)) status whole first keys (state_in shown 0 final) again second options asked is.1 is.2))),
        ));
      }
