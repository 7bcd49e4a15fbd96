-- The verdict that is right of a sound file.
use Rattle.std.proofs.Common.{◌≡◌, ℕ, List, length, Some, refl, ap, sym, ◌∙◌}
use Rattle.open_file.specs.declared.first_page.Header.{Header}
use Rattle.file_checker.specs.declared.verdict.Verdict.TheVariants.{Sound, Unsound}
use Rattle.file_checker.specs.Laws.{ClosedIsToldSound, SoundIsTold}
use Rattle.file_checker.specs.Sound.{IsSound}
use Rattle.file_checker.proofs.SoundLemmas.{header_is}

-- it has as many records and pages as its header tells
by_header : (bytes : List ℕ) (records pages : ℕ) (s : IsSound bytes records pages) → (records ≡ s.header.records) × (pages ≡ s.header.pages)
by_header bytes records pages s = (sym s.records_are ∙ sym s.stands.pages.records, sym s.pages_are)

pub sound_is_told : SoundIsTold
sound_is_told bytes records pages (Sound many counted) s told =
    let both : Some told.header ≡ Some s.header = sym (header_is bytes many counted told) ∙ header_is bytes records pages s in
    let same : told.header ≡ s.header = cc in
    let a = by_header bytes many counted told in
    let b = by_header bytes records pages s in
    let first : many ≡ records = a.0 ∙ ap (λ (h : Header). h.records) same ∙ sym b.0 in
    let second : counted ≡ pages = a.1 ∙ ap (λ (h : Header). h.pages) same ∙ sym b.1 in
    λ i. Sound (first i) (second i)
sound_is_told bytes records pages (Unsound reason place) s told = absurd (told.1 records pages s)

pub closed_is_told : ClosedIsToldSound
closed_is_told schema file bytes verdict closed told =
    let s : IsSound bytes (length file.rows) closed.header.pages = record {
      header = closed.header;
      accepted = closed.accepted;
      pages_are = refl;
      file = file;
      stands = closed.stands;
      records_are = refl;
    } in
    (closed.header.pages, sound_is_told bytes (length file.rows) closed.header.pages verdict s told)
