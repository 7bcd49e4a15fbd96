use Rattle.std.proofs.Common.{◌≡◌, ◌≤◌, ◌<◌, ◌*◌, ℕ, List, length, inr, refl, sym, ap, subst, ◌∙◌, arith}
use Rattle.open_file.specs.FirstPageReading.{header_in, number_in}
use Rattle.file_checker.specs.Sound.{IsLong, IsShort, counted_in}
use Rattle.file_checker.proofs.SoundLemmas.{unsound_by_header, unsound_by_length}
use Rattle.file_checker.proofs.HeldLemmas.{first_of_page}
use Rattle.file_checker.proofs.held_bytes.refusal.Goals as goal

pub returns-then-bytes-pages : goal.returns-then-bytes-pages
returns-then-bytes-pages c =
    let bytes = c.args.bytes.now in
    let counted : counted_in bytes ≡ c.read_u32-pages.result = ap (λ (page : List ℕ). number_in page 12 4) c.requires.first ∙ sym c.read_u32-pages.ensures in
    let short : IsShort bytes = inr (subst (λ (n : ℕ). length bytes < 4096 * n) (sym counted) (omega arith)) in
    ((refl, short), unsound_by_length bytes short)

pub returns-then-first-ne-CLOSED : goal.returns-then-first-ne-CLOSED
returns-then-first-ne-CLOSED c =
    let bytes = c.args.bytes.now in
    let counted : counted_in bytes ≡ c.read_u32-pages.result = ap (λ (page : List ℕ). number_in page 12 4) c.requires.first ∙ sym c.read_u32-pages.ensures in
    let long : IsLong bytes = record { first = c.requires.long; counted = subst (λ (n : ℕ). 4096 * n ≤ length bytes) (sym counted) (omega arith) } in (
      (refl, long, λ closed. c.if-first-ne-CLOSED.true (sym (first_of_page bytes c.args.first.now c.requires.first) ∙ closed)),
      unsound_by_header bytes (ap header_in c.requires.first ∙ c.requires.none),
    )

pub returns : goal.returns
returns c =
    let bytes = c.args.bytes.now in
    let counted : counted_in bytes ≡ c.read_u32-pages.result = ap (λ (page : List ℕ). number_in page 12 4) c.requires.first ∙ sym c.read_u32-pages.ensures in
    let long : IsLong bytes = record { first = c.requires.long; counted = subst (λ (n : ℕ). 4096 * n ≤ length bytes) (sym counted) (omega arith) } in (
      (refl, long, first_of_page bytes c.args.first.now c.requires.first ∙ c.if-first-ne-CLOSED.false, ap header_in c.requires.first ∙ c.requires.none),
      unsound_by_header bytes (ap header_in c.requires.first ∙ c.requires.none),
    )
