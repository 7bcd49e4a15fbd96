use Rattle.std.proofs.Common.{rules, List, ℕ, ◌++◌, ◌∷◌, sym, ap, ◌∙◌, refl}
use Rattle.record_text.proofs.QuotedLemmas.{no_escaped, shown_plain}
use Rattle.record_text.proofs.quoted.first_itself.Goals as goal

-- a text that does not begin with a backslash begins with a byte that stands as itself, or with none
pub returns-in_err-first : goal.returns-in_err-first
returns-in_err-first c = record {
  byte = search rules;
  shown = search rules;
  none = λ _.
      no_escaped c.args.text.now (λ rest is. c.requires (34 ∷ rest) is)
      (λ byte rest is_byte other plain is. c.in_err-first.ensures.none refl byte rest is_byte (is ∙ ap (λ (l : List ℕ). l ++ rest) (sym (shown_plain byte plain))))
      (λ byte rest is_byte coded is. c.requires _ is);
}
