use Rattle.std.proofs.Common.{rules, ◌≡◌, ◌++◌, ◌∷◌, sym, ◌∙◌, refl}
use Rattle.deck_runner.specs.Line.{shown_byte}
use Rattle.record_text.proofs.QuotedLemmas.{no_escaped, no_backslash}
use Rattle.record_text.proofs.quoted.first_escaped.Goals as goal

pub returns-in_err-first : goal.returns-in_err-first
returns-in_err-first c =
    let behind = c.in-Some.behind.now in
    let text : c.args.text.now ≡ 92 ∷ behind = c.in-Some.ensures.some in
    record {
      byte = search rules;
      shown = search rules;
      none = λ _.
          no_escaped c.args.text.now (c.is_pair.ensures.no c.if-is_pair.false)
          (λ byte rest is_byte other plain is. let both : 92 ∷ behind ≡ byte ∷ rest = sym text ∙ is in let same : byte ≡ 92 = cc in no_backslash byte plain same)
          (λ byte rest is_byte coded is.
          let both : 92 ∷ behind ≡ 92 ∷ (shown_byte byte ++ rest) = sym text ∙ is in
          let same : behind ≡ shown_byte byte ++ rest = cc in
          c.in_err-first.ensures.none refl byte rest is_byte same);
    }
