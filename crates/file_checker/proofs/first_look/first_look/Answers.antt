use Rattle.std.proofs.Common.{◌≡◌, ◌≤◌, ◌<◌, ◌*◌, ℕ, List, length, inr, refl, sym, ap, subst, ◌∙◌, arith}
use Rattle.open_file.specs.FirstPage.{IsFirstPage}
use Rattle.open_file.specs.FirstPageReading.{header_in, number_in}
use Rattle.file_checker.specs.Sound.{IsLong, IsShort, counted_in}
use Rattle.file_checker.proofs.SoundLemmas.{counted_is, unsound_by_header, unsound_by_length}
use Rattle.file_checker.proofs.HeldLemmas.{first_of_page}
use Rattle.file_checker.proofs.first_look.first_look.Goals as goal

pub returns-then-size-from-clause-look : goal.returns-then-size-from-clause-look
returns-then-size-from-clause-look c = λ bytes many first.
    let counted : counted_in bytes ≡ c.read_u32-pages.result = ap (λ (page : List ℕ). number_in page 12 4) first ∙ sym c.read_u32-pages.ensures in
    let short : IsShort bytes = inr (subst (λ (n : ℕ). length bytes < 4096 * n) (sym counted) (omega (arith, many))) in
    ((refl, short), unsound_by_length bytes short)

pub returns-in-Some-clause-look : goal.returns-in-Some-clause-look
returns-in-Some-clause-look c = λ bytes many first.
    let counted : counted_in bytes ≡ c.read_u32-pages.result = ap (λ (page : List ℕ). number_in page 12 4) first ∙ sym c.read_u32-pages.ensures in
    let is = c.in-Some.ensures.accepted in
    let header = c.in-Some.header in
    let pages : header.pages ≡ c.read_u32-pages.result = sym (counted_is bytes c.args.first.now header first is) ∙ counted in
    record { first = subst (IsFirstPage header) (sym first) is; whole = omega (arith, many, pages) }

pub returns-then-first-ne-CLOSED-clause-look : goal.returns-then-first-ne-CLOSED-clause-look
returns-then-first-ne-CLOSED-clause-look c = λ bytes many first.
    let counted : counted_in bytes ≡ c.read_u32-pages.result = ap (λ (page : List ℕ). number_in page 12 4) first ∙ sym c.read_u32-pages.ensures in
    let enough : 4096 ≤ length bytes = (let some = c.requires in omega (arith, many, some)) in
    let long : IsLong bytes = record { first = enough; counted = subst (λ (n : ℕ). 4096 * n ≤ length bytes) (sym counted) (omega (arith, many)) } in (
      (refl, long, λ closed. c.if-first-ne-CLOSED.true (sym (first_of_page bytes c.args.first.now first) ∙ closed)),
      unsound_by_header bytes (ap header_in first ∙ sym c.in-None.ensures.header),
    )

pub returns-else-first-ne-CLOSED-clause-look : goal.returns-else-first-ne-CLOSED-clause-look
returns-else-first-ne-CLOSED-clause-look c = λ bytes many first.
    let counted : counted_in bytes ≡ c.read_u32-pages.result = ap (λ (page : List ℕ). number_in page 12 4) first ∙ sym c.read_u32-pages.ensures in
    let enough : 4096 ≤ length bytes = (let some = c.requires in omega (arith, many, some)) in
    let long : IsLong bytes = record { first = enough; counted = subst (λ (n : ℕ). 4096 * n ≤ length bytes) (sym counted) (omega (arith, many)) } in (
      (refl, long, first_of_page bytes c.args.first.now first ∙ c.if-first-ne-CLOSED.false, ap header_in first ∙ sym c.in-None.ensures.header),
      unsound_by_header bytes (ap header_in first ∙ sym c.in-None.ensures.header),
    )
