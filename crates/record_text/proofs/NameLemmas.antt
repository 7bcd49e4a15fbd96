-- Bytes of a name, as they stand in JSON, are passed by one after another.
use Rattle.std.proofs.Common.{◌≡◌, ◌≢◌, ℕ, suc, Fits, w8, get_or, arith, List, ◌∷◌, ◌++◌, sym, ap, ◌∙◌, append_assoc}
use Rattle.record_text.specs.declared.quoted.Quoting.TheVariants.{Escaped}
use Rattle.std.proofs.lemmas.List.{append_cancel_left}
use Rattle.record_text.specs.Quoted.{quoted_byte, inside, behind_label, BeginsWithNoByte}
use Rattle.record_text.proofs.QuotedLemmas.{quoted_apart}

pub behind_one : (a : ℕ) (x y : List ℕ) → a ∷ x ≡ a ∷ y → x ≡ y
behind_one a x y e = cc

-- the text that is left begins with the bytes that are left where the text begins with the bytes
pub record ArePassed (text bytes rest left : List ℕ) : Type 0 where
  pub to : (behind : List ℕ) → rest ≡ inside Escaped left ++ behind → text ≡ inside Escaped bytes ++ behind
  pub from : (behind : List ℕ) → text ≡ inside Escaped bytes ++ behind → rest ≡ inside Escaped left ++ behind
  pub fits : (i : ℕ) → Fits w8 (get_or left i 0)

module _ (text bytes rest : List ℕ) (byte : ℕ) (after : List ℕ) (passed : ArePassed text bytes rest (byte ∷ after)) where
  left_at : (behind : List ℕ) → text ≡ inside Escaped bytes ++ behind → rest ≡ quoted_byte Escaped byte ++ (inside Escaped after ++ behind)
  left_at behind is = passed.from behind is ∙ append_assoc (quoted_byte Escaped byte) (inside Escaped after) behind

  pub none_here : BeginsWithNoByte Escaped rest → (behind : List ℕ) → text ≡ inside Escaped bytes ++ behind → ⊥
  none_here none behind is =
      let fits : Fits w8 byte = passed.fits 0 in
      none byte (inside Escaped after ++ behind) (omega (arith, fits)) (left_at behind is)

  module _ (first : ℕ) (more : List ℕ) (at : rest ≡ quoted_byte Escaped first ++ more) where
    pub another_here : first ≢ byte → (behind : List ℕ) → text ≡ inside Escaped bytes ++ behind → ⊥
    another_here other behind is = other (quoted_apart Escaped first byte more (inside Escaped after ++ behind) (sym at ∙ left_at behind is)).0

    pub one_passed : first ≡ byte → ArePassed text bytes more after
    one_passed same = record {
      to = λ behind is.
          passed.to behind (at ∙ ap (λ (l : List ℕ). quoted_byte Escaped first ++ l) is ∙ ap (λ (b : ℕ). quoted_byte Escaped b ++ (inside Escaped after ++ behind)) same
          ∙ sym (append_assoc (quoted_byte Escaped byte) (inside Escaped after) behind));
      from = λ behind is. (quoted_apart Escaped first byte more (inside Escaped after ++ behind) (sym at ∙ left_at behind is)).1;
      fits = λ i. passed.fits (suc i);
    }

-- a name in quotes, and a colon
module _ (text opened named name : List ℕ) (first : text ≡ 34 ∷ opened) where
  pub behind_quote : (behind : List ℕ) → text ≡ behind_label Escaped name behind → opened ≡ inside Escaped name ++ (34 ∷ 58 ∷ behind)
  behind_quote behind is =
      let both : 34 ∷ opened ≡ 34 ∷ (inside Escaped name ++ (34 ∷ 58 ∷ behind)) = sym first ∙ is in
      cc

  pub behind_name : opened ≡ inside Escaped name ++ named → (behind : List ℕ) → text ≡ behind_label Escaped name behind → named ≡ 34 ∷ 58 ∷ behind
  behind_name second behind is = append_cancel_left (inside Escaped name) named (34 ∷ 58 ∷ behind) (sym second ∙ behind_quote behind is)

  pub label_is : opened ≡ inside Escaped name ++ named → (behind : List ℕ) → named ≡ 34 ∷ 58 ∷ behind → text ≡ behind_label Escaped name behind
  label_is second behind third = first ∙ ap (λ (l : List ℕ). 34 ∷ l) (second ∙ ap (λ (l : List ℕ). inside Escaped name ++ l) third)
