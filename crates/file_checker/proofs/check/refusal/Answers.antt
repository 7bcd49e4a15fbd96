use Rattle.std.proofs.Common.{◌*◌, ℕ, refl, ap, sym, subst, ◌∙◌}
use Rattle.file_checker.specs.Bytes.{HasLess, HasGiven, HasGivenLess}
use Rattle.file_checker.specs.Sound.{CheckGivesUp}
use Rattle.file_checker.proofs.SoundLemmas.{no_verdict, is_short, is_long, no_header, first_byte, first_is, read_whole, read_less}
use Rattle.open_file.specs.FirstPageReading.{header_in}
use Rattle.file_checker.proofs.check.refusal.Goals as goal

pub returns-then-not-branch : goal.returns-then-not-branch
returns-then-not-branch g c = record {
  right = λ bytes came.
      is_short bytes c.args.first.now (g.R.Read.remaining c.args.reader.now) (g.R.Read.remaining c.skip_pages.new.reader) c.read_u32-pages.result came c.told-first c.read_u32-pages.ensures
      (subst (λ (n : ℕ). HasLess (4096 * n) (g.R.Read.remaining c.args.reader.now)) c.saturating_sub.ensures (c.in_ok-skip_pages.ensures.short c.if-not-branch.true));
  read = λ bytes came. record { whole = λ other. absurd (other refl); short = λ is. c.in_ok-skip_pages.ensures.end c.if-not-branch.true };
  fault = λ bytes came. tt;
}

pub returns-then-first-ne-CLOSED : goal.returns-then-first-ne-CLOSED
returns-then-first-ne-CLOSED g c =
    let given = subst (λ (n : ℕ). HasGiven (g.R.Read.remaining c.args.reader.now) (g.R.Read.remaining c.skip_pages.new.reader) (4096 * n)) c.saturating_sub.ensures (c.in_ok-skip_pages.ensures.whole c.if-not-branch.false) in
    record {
      right = λ bytes came. (
        (
          refl,
          is_long bytes c.args.first.now (g.R.Read.remaining c.args.reader.now) (g.R.Read.remaining c.skip_pages.new.reader) c.read_u32-pages.result came c.told-first c.read_u32-pages.ensures given,
          (λ closed. c.if-first-ne-CLOSED.true (sym (first_byte bytes c.args.first.now (g.R.Read.remaining c.args.reader.now) came c.told-first) ∙ closed)),
        ),
        no_header bytes c.args.first.now (g.R.Read.remaining c.args.reader.now) (g.R.Read.remaining c.skip_pages.new.reader) c.read_u32-pages.result came c.told-first c.read_u32-pages.ensures c.requires,
      );
      read = λ bytes came. record {
        whole = λ other. read_whole bytes c.args.first.now (g.R.Read.remaining c.args.reader.now) (g.R.Read.remaining c.skip_pages.new.reader) c.read_u32-pages.result came c.told-first c.read_u32-pages.ensures given;
        short = λ is. cc is;
      };
      fault = λ bytes came. tt;
    }

pub returns : goal.returns
returns g c =
    let given = subst (λ (n : ℕ). HasGiven (g.R.Read.remaining c.args.reader.now) (g.R.Read.remaining c.skip_pages.new.reader) (4096 * n)) c.saturating_sub.ensures (c.in_ok-skip_pages.ensures.whole c.if-not-branch.false) in
    record {
      right = λ bytes came. (
        (
          refl,
          is_long bytes c.args.first.now (g.R.Read.remaining c.args.reader.now) (g.R.Read.remaining c.skip_pages.new.reader) c.read_u32-pages.result came c.told-first c.read_u32-pages.ensures given,
          first_byte bytes c.args.first.now (g.R.Read.remaining c.args.reader.now) came c.told-first ∙ c.if-first-ne-CLOSED.false,
          ap header_in (first_is bytes c.args.first.now (g.R.Read.remaining c.args.reader.now) came c.told-first) ∙ c.requires,
        ),
        no_header bytes c.args.first.now (g.R.Read.remaining c.args.reader.now) (g.R.Read.remaining c.skip_pages.new.reader) c.read_u32-pages.result came c.told-first c.read_u32-pages.ensures c.requires,
      );
      read = λ bytes came. record {
        whole = λ other. read_whole bytes c.args.first.now (g.R.Read.remaining c.args.reader.now) (g.R.Read.remaining c.skip_pages.new.reader) c.read_u32-pages.result came c.told-first c.read_u32-pages.ensures given;
        short = λ is. cc is;
      };
      fault = λ bytes came. tt;
    }

pub returns-in_err-skip_pages : goal.returns-in_err-skip_pages
returns-in_err-skip_pages g c =
    let end = g.R.Read.remaining c.skip_pages.new.reader in
    no_verdict c.from_residual.result _ c.from_residual.ensures.1 (λ bytes came.
    subst (CheckGivesUp bytes end) (sym c.in_err-skip_pages.ensures.input.0)
    (read_less bytes c.args.first.now (g.R.Read.remaining c.args.reader.now) end c.read_u32-pages.result came c.told-first c.read_u32-pages.ensures
    (subst (λ (n : ℕ). HasGivenLess (g.R.Read.remaining c.args.reader.now) end (4096 * n)) c.saturating_sub.ensures c.in_err-skip_pages.ensures.input.1)))
