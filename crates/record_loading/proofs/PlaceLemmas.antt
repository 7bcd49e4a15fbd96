-- A load goes on from one line to the next one.
use Rattle.std.proofs.Common.{◌≡◌, ◌<◌, ◌≤◌, ℕ, ◌+◌, List, [], ◌∷◌, ◌++◌, length, refl, sym, ap, ◌∙◌, subst, arith, length-append}
use denote.Ref.{Bor}
use Rattle.indexed_file.specs.Moments.{JoinsStretches, EndsNow}
use Rattle.indexed_file.specs.Shown.{Shown}
use Rattle.record_layout.specs.Schema.{Schema}
use Rattle.verbs.specs.Fits.{Fits}
use Rattle.verbs.specs.Performed.{FileInMemory, Trusted, in_memory, state_in}
use Rattle.record_text.specs.Lines.{form_header}
use Rattle.record_text.specs.Header.{header_lines}
use Rattle.record_text.specs.Whole.{IsWholeForm}
use Rattle.record_loading.specs.declared.end.LinesEnd.TheVariants.{Loaded}
use Rattle.record_loading.specs.declared.rejected.RejectReason.{RejectReason}
use Rattle.record_loading.specs.declared.rejected.RejectedLine.{RejectedLine}
use Rattle.record_loading.specs.declared.writing.PassedLine.TheVariants.{Written, Replaced, Rejected, Stopped}
use Rattle.record_loading.specs.Told.{ToldLine, AreToldRejected, TellsRejected}
use Rattle.record_loading.specs.Passing.{LoadSource, Place, IsRecordWritten, IsRecordReplaced, IsRejected, IsEnd, behind_lines, number_of_line, lines_form, told_line, lines_end}
use Rattle.record_loading.specs.Loading.{IsPassedUpTo, LinesLeave}
use Rattle.record_loading.specs.Going.{TakesLines, LoadGoesOn, PassesLineOf, WritesListing}
use Rattle.record_loading.proofs.GoingLemmas.{goes_self, goes_both, trusted}
use Rattle.record_loading.proofs.HeaderLemmas.{lines_before}
use Rattle.record_loading.proofs.PassingLemmas.{told_one_more, rejected_front, lines_skipped, nothing_left}
use Rattle.record_loading.proofs.PassedLemmas.{none_passed, one_written, one_replaced, one_rejected, ended_at}

-- a place between two lines, of a file in memory
abbrev pub place_in : {S : Type 0} → Shown S → (rest : List ℕ) → (records replaced : ℕ) → List ToldLine → FileInMemory S → Place
place_in shown rest records replaced told file = record { rest = rest; records = records; replaced = replaced; told = told; file = state_in shown 0 file }

-- the first lines were passed
pub record ArePassedSoFar {S R : Type 0} (shown : Shown S) (Tells : R → R → RejectedLine → List ℕ → Type 0) (source : LoadSource) (begun now : FileInMemory S) (log log_now : R) (records replaced rejected : ℕ) (rest : List ℕ) : Type 0 where
  pub told : List ToldLine
  pub tells : AreToldRejected Tells told log log_now
  pub many : rejected ≡ length told
  pub few : 0 < length rest → header_lines source.form + source.options.skip + records + replaced + rejected + length rest ≤ length source.text
  pub goes : LoadGoesOn shown (in_memory begun.held begun.library []) (in_memory now.held now.library [])
  pub so_far : Trusted shown 0 (in_memory begun.held begun.library []) (in_memory now.held now.library [])
      (IsPassedUpTo begun.held.connector.schema source (state_in shown 0 begun) (place_in shown rest records replaced told now))

module _ {S R : Type 0} (shown : Shown S) (Tells : R → R → RejectedLine → List ℕ → Type 0) (source : LoadSource) (begun : FileInMemory S) (log : R) where
  -- none was passed but those that are skipped
  pub begins : (lines rest : List ℕ) → source.text ≡ form_header source.form ++ lines → rest ≡ behind_lines source.options.skip lines → Fits begun.held (shown.world begun.library) 0
      → ArePassedSoFar shown Tells source begun begun log log 0 0 0 rest
  begins lines rest is skipped fits = record {
    told = [];
    tells = refl;
    many = refl;
    few = λ some.
        let long = lines_before source.form source.text lines is in
        let left = lines_skipped source.options.skip lines (subst (λ (l : List ℕ). 0 < length l) skipped some) in
        let same = ap (λ (l : List ℕ). length l) skipped in
        omega (arith, long, left, same);
    goes = goes_self shown begun.held begun.library fits;
    so_far = λ honest truly standing.
        subst (λ (l : List ℕ). IsPassedUpTo begun.held.connector.schema source (state_in shown 0 begun) (place_in shown l 0 0 [] begun)) (sym skipped)
        (none_passed begun.held.connector.schema source (state_in shown 0 begun) lines is);
  }

  -- the same, by what a step leaves
  pub left_so : (now : FileInMemory S) (log_now log_left : R) (records records_left replaced replaced_left rejected rejected_left : ℕ) (rest rest_left : List ℕ)
      → log_left ≡ log_now → records_left ≡ records → replaced_left ≡ replaced → rejected_left ≡ rejected → rest_left ≡ rest
      → ArePassedSoFar shown Tells source begun now log log_now records replaced rejected rest → ArePassedSoFar shown Tells source begun now log log_left records_left replaced_left rejected_left rest_left
  left_so now log_now log_left records records_left replaced replaced_left rejected rejected_left rest rest_left log_is records_is replaced_is rejected_is rest_is is =
      subst (λ (at : R). ArePassedSoFar shown Tells source begun now log at records_left replaced_left rejected_left rest_left) (sym log_is)
      (subst (λ (n : ℕ). ArePassedSoFar shown Tells source begun now log log_now n replaced_left rejected_left rest_left) (sym records_is)
      (subst (λ (n : ℕ). ArePassedSoFar shown Tells source begun now log log_now records n rejected_left rest_left) (sym replaced_is)
      (subst (λ (n : ℕ). ArePassedSoFar shown Tells source begun now log log_now records replaced n rest_left) (sym rejected_is)
      (subst (λ (l : List ℕ). ArePassedSoFar shown Tells source begun now log log_now records replaced rejected l) (sym rest_is) is))))

  module _ (now : FileInMemory S) (log_now : R) (records replaced rejected : ℕ) (rest : List ℕ) (is : ArePassedSoFar shown Tells source begun now log log_now records replaced rejected rest) where
    -- the records of the file that is open now can be written as those at first could be
    pub takes : (shortest : ℕ) → TakesLines shown source.form shortest begun → length now.area ≡ length begun.area → TakesLines shown source.form shortest now
    takes shortest at_first same = record {
      fits = is.goes.fits;
      ordered = subst (λ (n : ℕ). shortest ≤ n) (sym same) at_first.ordered;
      least = at_first.least ∙ ap (λ (s : Schema). s.least) (sym is.goes.schema);
      room = record {
        length_is = same ∙ at_first.room.length_is ∙ ap (λ (s : Schema). s.greatest) (sym is.goes.schema);
        whole = subst (λ (n : ℕ). IsWholeForm source.form n) (sym same) at_first.room.whole;
      };
      short = subst (λ (n : ℕ). n ≤ 4000) (sym same) at_first.short;
    }

    module _ (joins : JoinsStretches shown.moments) (ends : EndsNow shown.moments) (fits : Fits begun.held (shown.world begun.library) 0) (after : FileInMemory S) where
      goes_on : LoadGoesOn shown (in_memory now.held now.library []) (in_memory after.held after.library []) → LoadGoesOn shown (in_memory begun.held begun.library []) (in_memory after.held after.library [])
      goes_on goes = goes_both shown (in_memory begun.held begun.library []) (in_memory now.held now.library []) (in_memory after.held after.library []) fits.attached is.goes joins ends goes

      -- what is to be believed of what was done behind that
      later : (fact : Type 0) → LoadGoesOn shown (in_memory now.held now.library []) (in_memory after.held after.library []) → Trusted shown 0 (in_memory now.held now.library []) (in_memory after.held after.library []) fact
          → Trusted shown 0 (in_memory begun.held begun.library []) (in_memory after.held after.library []) fact
      later fact goes believed = trusted shown (in_memory begun.held begun.library []) (in_memory now.held now.library []) (in_memory after.held after.library []) fits.attached is.goes fact goes.keeps believed

      -- one record more was written
      pub more_written : (behind : Bor (List ℕ)) → 0 < length rest → PassesLineOf shown source.options source.form rest now after (Written behind)
          → ArePassedSoFar shown Tells source begun after log log_now (records + 1) replaced rejected behind.now
      more_written behind some line = record {
        told = is.told;
        tells = is.tells;
        many = is.many;
        few = λ left. (let few = is.few some in let fewer = line.shorter in omega (arith, few, fewer));
        goes = goes_on line.goes;
        so_far = λ honest truly standing.
            one_written begun.held.connector.schema source (state_in shown 0 begun) (place_in shown rest records replaced is.told now) (place_in shown behind.now (records + 1) replaced is.told after)
            (is.so_far (line.goes.keeps.honest honest) truly standing)
            (subst (λ (schema : Schema). IsRecordWritten schema (lines_form source) (record { text = rest; behind = behind.now; before = state_in shown 0 now; after = state_in shown 0 after })) is.goes.schema
            (later _ line.goes line.line honest truly standing)) refl refl refl;
      }

      -- one record more replaced another one
      pub more_replaced : (behind : Bor (List ℕ)) → 0 < length rest → PassesLineOf shown source.options source.form rest now after (Replaced behind)
          → ArePassedSoFar shown Tells source begun after log log_now records (replaced + 1) rejected behind.now
      more_replaced behind some line = record {
        told = is.told;
        tells = is.tells;
        many = is.many;
        few = λ left. (let few = is.few some in let fewer = line.shorter in omega (arith, few, fewer));
        goes = goes_on line.goes;
        so_far = λ honest truly standing.
            let known = later _ line.goes line.line honest truly standing in
            one_replaced begun.held.connector.schema source (state_in shown 0 begun) (place_in shown rest records replaced is.told now) (place_in shown behind.now records (replaced + 1) is.told after)
            (is.so_far (line.goes.keeps.honest honest) truly standing) known.0
            (subst (λ (schema : Schema). IsRecordReplaced schema (lines_form source) (record { text = rest; behind = behind.now; before = state_in shown 0 now; after = state_in shown 0 after })) is.goes.schema known.1) refl refl refl;
      }

      -- one line more was rejected, and told
      pub more_rejected : (reason : RejectReason) (behind : Bor (List ℕ)) (bytes : List ℕ) (log_after : R) (number : ℕ) → number ≡ header_lines source.form + source.options.skip + records + replaced + rejected + 1
          → Tells log_now log_after (record { line = number; reason = reason }) bytes → ((front : List ℕ) → rest ≡ front ++ behind.now → bytes ≡ front) → 0 < length rest → PassesLineOf shown source.options source.form rest now after (Rejected reason behind)
          → ArePassedSoFar shown Tells source begun after log log_after records replaced (rejected + 1) behind.now
      more_rejected reason behind bytes log_after number number_is tells cut some line =
          let at : number ≡ number_of_line source (place_in shown rest records replaced is.told now) = number_is ∙ ap (λ (n : ℕ). header_lines source.form + source.options.skip + records + replaced + n + 1) is.many in
          record {
            told = is.told ++ (told_line number reason bytes ∷ []);
            tells = told_one_more Tells is.told (told_line number reason bytes) log log_now log_after is.tells tells;
            many = (let many = is.many in let one = length-append is.told (told_line number reason bytes ∷ []) in omega (arith, many, one));
            few = λ left. (let few = is.few some in let fewer = line.shorter in omega (arith, few, fewer));
            goes = goes_on line.goes;
            so_far = λ honest truly standing.
                let known = later _ line.goes line.line honest truly standing in
                let passed : IsRejected now.held.connector.schema (lines_form source) source.options.replace reason (record { text = rest; behind = behind.now; before = state_in shown 0 now; after = state_in shown 0 after }) = known.1 in
                let front = rejected_front now.held.connector.schema (lines_form source) source.options.replace reason _ passed in
                one_rejected begun.held.connector.schema source (state_in shown 0 begun) (place_in shown rest records replaced is.told now) (place_in shown behind.now records replaced (is.told ++ (told_line number reason bytes ∷ [])) after)
                (is.so_far (line.goes.keeps.honest honest) truly standing) reason bytes known.0
                (subst (λ (schema : Schema). IsRejected schema (lines_form source) source.options.replace reason (record { text = rest; behind = behind.now; before = state_in shown 0 now; after = state_in shown 0 after })) is.goes.schema passed)
                (front.1 ∙ ap (λ (l : List ℕ). l ++ behind.now) (sym (cut front.0 front.1))) refl refl (ap (λ (n : ℕ). is.told ++ (told_line n reason bytes ∷ [])) at);
          }

      -- the next line ends the lines
      pub stops : (reason : RejectReason) (number : ℕ) → number ≡ header_lines source.form + source.options.skip + records + replaced + rejected + 1
          → PassesLineOf shown source.options source.form rest now after (Stopped reason)
          → TellsRejected Tells log log_now (λ told. WritesListing shown (record { source = source; told = told }) begun (in_memory after.held after.library []) (lines_end number reason))
      stops reason number number_is line =
          let at : number ≡ number_of_line source (place_in shown rest records replaced is.told now) = number_is ∙ ap (λ (n : ℕ). header_lines source.form + source.options.skip + records + replaced + n + 1) is.many in (
            is.told,
            is.tells,
            record {
              goes = goes_on line.goes;
              lines = λ honest truly standing.
                  let known = later _ line.goes line.line honest truly standing in (
                    known.0,
                    subst (λ (n : ℕ). LinesLeave begun.held.connector.schema (record { source = source; told = is.told }) (state_in shown 0 begun) (lines_end n reason) (state_in shown 0 (in_memory after.held after.library known.0))) (sym at)
                        (ended_at begun.held.connector.schema (record { source = source; told = is.told }) (state_in shown 0 begun) (place_in shown rest records replaced is.told now) known.1 (state_in shown 0 (in_memory after.held after.library known.0)) reason
                        (is.so_far (line.goes.keeps.honest honest) truly standing) refl
                        (subst (λ (schema : Schema). IsEnd schema (lines_form source) source.options reason (record { text = rest; behind = known.1; before = state_in shown 0 now; after = state_in shown 0 (in_memory after.held after.library known.0) })) is.goes.schema known.2)),
                  );
            },
          )

    -- no line is left
    pub all_passed : (0 < length rest → ⊥) → TellsRejected Tells log log_now (λ told. WritesListing shown (record { source = source; told = told }) begun (in_memory now.held now.library []) (Loaded records replaced rejected))
    all_passed none = (
      is.told,
      is.tells,
      record {
        goes = is.goes;
        lines = λ honest truly standing. (
          now.area,
          record {
            passed = subst (λ (l : List ℕ). IsPassedUpTo begun.held.connector.schema source (state_in shown 0 begun) (place_in shown l records replaced is.told now)) (nothing_left rest none) (is.so_far honest truly standing);
            rejected_is = is.many;
          },
        );
      },
    )
