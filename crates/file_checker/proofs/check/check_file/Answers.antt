use Rattle.std.proofs.Common.{◌≡◌, List, ℕ, Option, Some, inl, refl, subst}
use Rattle.std.specs.Io.KnownBytes.{Consumes}
use Rattle.pages.specs.declared.fault_place.FaultPlace.TheVariants.{File as TheFile}
use Rattle.file_checker.specs.Sound.{IsReadFor, IsShort, IsUnsoundAt}
use Rattle.file_checker.specs.Bytes.{HasLess}
use Rattle.file_checker.specs.declared.verdict.Reason.TheVariants.{Short}
use Rattle.file_checker.specs.declared.verdict.Verdict.TheVariants.{Unsound}
use Rattle.file_checker.proofs.SoundLemmas.{of_known, unsound_by_length}
use Rattle.file_checker.proofs.check.check_file.Goals as goal

pub returns-then-not-branch : goal.returns-then-not-branch
returns-then-not-branch g c =
    let known = g.R.Read.remaining c.args.reader.now in
    let few = c.in_ok-read_page.ensures.short c.if-not-branch.true in
    record {
      right = of_known known (λ bytes. IsUnsoundAt TheFile bytes Short)
          (λ bytes is. let short : IsShort bytes = inl (subst (HasLess 4096) is few) in ((refl, short), unsound_by_length bytes short));
      read = of_known known (λ bytes. IsReadFor bytes (g.R.Read.remaining c.read_page.new.reader) (Unsound Short TheFile))
          (λ bytes is. record { whole = λ other. absurd (other refl); short = λ same. c.in_ok-read_page.ensures.end c.if-not-branch.true });
      fault = of_known known _ (λ bytes is. tt);
    }

pub returns-in_ok-refusal-in-None : goal.returns-in_ok-refusal-in-None
returns-in_ok-refusal-in-None g c =
    let known = g.R.Read.remaining c.args.reader.now in
    let first = c.in_ok-read_page.ensures.whole c.if-not-branch.false in
    let came = λ (bytes : List ℕ) (is : known ≡ Some bytes).
    subst (λ (known : Option (List ℕ)). Consumes known (g.R.Read.remaining c.read_page.new.reader) c.read_page.new.page) is first in
    record {
      right = of_known known (λ bytes. IsUnsoundAt TheFile bytes c.in_ok-refusal-in-None.field-0) (λ bytes is. c.in_ok-refusal-in-None.ensures.right bytes (came bytes is));
      read = of_known known (λ bytes. IsReadFor bytes (g.R.Read.remaining c.refusal.new.reader) (Unsound c.in_ok-refusal-in-None.field-0 TheFile))
          (λ bytes is. c.in_ok-refusal-in-None.ensures.read bytes (came bytes is));
      fault = of_known known _ (λ bytes is. tt);
    }
