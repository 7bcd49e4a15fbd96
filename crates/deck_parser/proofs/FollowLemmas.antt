-- What a rule reads that depends on the value of the rule before it is what it spells.
use Rattle.std.proofs.Common.{◌≡◌, ◌<◌, Bool, true, false, ◌&&◌, ◌||◌, ◌⊎◌, cond, List, ◌++◌, length, Some, sym, ap, ◌∙◌, inl, inr, subst, arith}
use Rattle.deck_parser.specs.Word.{Word}
use Rattle.deck_parser.specs.Class.{Class, begins, all_apart}
use Rattle.deck_parser.specs.Rule.{Rule}
use Rattle.deck_parser.proofs.TestLemmas.{both_true, or_true, bind_some}
use Rattle.deck_parser.proofs.ClassLemmas.{begins_apart, begins-append, neither_begins}
use Rattle.deck_parser.proofs.RuleLemmas.{Lawful}
use Rattle.deck_parser.specs.Following.{followed}

-- the rules look ahead in the same way
pub record AreAlike {B : Type 0} (r s : Rule B) : Type 0 where
  pub starts : r.starts ≡ s.starts
  pub goes_on : r.goes_on ≡ s.goes_on
  pub may_be_empty : r.may_be_empty ≡ s.may_be_empty
  pub is_fit : r.is_fit ≡ s.is_fit

cond_append : (b : Bool) (later earlier : List Class) (words : List Word) → begins (cond b (later ++ earlier) later) words ≡ false → (begins later words ≡ false) × (b ≡ true → begins earlier words ≡ false)
cond_append true later earlier words e = let p = neither_begins later earlier words e in (p.0, λ _. p.1)
cond_append false later earlier words e = (e, λ q. absurd (cc))

starts_first : (b : Bool) (a c : List Class) (words : List Word) → begins a words ≡ true → begins (cond b (a ++ c) a) words ≡ true
starts_first true a c words e = begins-append a c words ∙ ap (λ v. v || begins c words) e
starts_first false a c words e = e

module _ {A B : Type 0} (sample : A) (p : Rule A) (q : A → Rule B) (lawful_p : Lawful p) (lawful_q : (x : A) → Lawful (q x)) (alike : (x : A) → AreAlike (q x) (q sample)) where
  followed_sound : (z : B) (words rest : List Word) → (followed sample p q).reads words ≡ Some (z, rest) → (followed sample p q).Spells z words rest
  followed_sound z words rest e =
      let a = bind_some (λ a. (q a.0).reads a.1) (p.reads words) (z, rest) e in
      (a.0.0, a.0.1, lawful_p.sound a.0.0 words a.0.1 a.1, (lawful_q a.0.0).sound z a.0.1 rest a.2)

  -- where the second rule begins, or where it is empty
  followed_second : (q sample).is_fit ≡ true → (x : A) (z : B) (words rest : List Word) → (q x).Spells z words rest → ((begins (q sample).starts words ≡ true) × (length rest < length words)) ⊎ (((q sample).may_be_empty ≡ true) × (words ≡ rest))
  followed_second fit x z words rest s =
      elim ((lawful_q x).first ((alike x).is_fit ∙ fit) z words rest s) [
        | inl h ↦ inl (subst (λ starts. begins starts words ≡ true) (alike x).starts h.0, h.1)
        | inr h ↦ inr (sym (alike x).may_be_empty ∙ h.0, h.1)
      ]

  followed_complete : (followed sample p q).is_fit ≡ true → (z : B) (words rest : List Word) → (followed sample p q).Spells z words rest → begins (followed sample p q).goes_on rest ≡ false → (followed sample p q).reads words ≡ Some (z, rest)
  followed_complete fit z words rest s no_more =
      let fit_p = both_true p.is_fit ((q sample).is_fit && all_apart (q sample).starts p.goes_on) fit in
      let fit_q = both_true (q sample).is_fit (all_apart (q sample).starts p.goes_on) fit_p.1 in
      let x = s.0 in
      let middle = s.1 in
      let no_next = cond_append (q sample).may_be_empty (q sample).goes_on p.goes_on rest no_more in
      let stops : begins p.goes_on middle ≡ false =
      elim (followed_second fit_q.0 x z middle rest s.3) [
        | inl h ↦ begins_apart (q sample).starts p.goes_on middle fit_q.1 h.0
        | inr h ↦ subst (λ ws. begins p.goes_on ws ≡ false) (sym h.1) (no_next.1 h.0)
      ] in
      let front = lawful_p.complete fit_p.0 x words middle s.2 stops in
      let back = (lawful_q x).complete ((alike x).is_fit ∙ fit_q.0) z middle rest s.3 (subst (λ classes. begins classes rest ≡ false) (sym (alike x).goes_on) no_next.0) in
      rw front back

  followed_first : (followed sample p q).is_fit ≡ true → (z : B) (words rest : List Word) → (followed sample p q).Spells z words rest → ((begins (followed sample p q).starts words ≡ true) × (length rest < length words)) ⊎ (((followed sample p q).may_be_empty ≡ true) × (words ≡ rest))
  followed_first fit z words rest s =
      let fit_p = both_true p.is_fit ((q sample).is_fit && all_apart (q sample).starts p.goes_on) fit in
      let fit_q = both_true (q sample).is_fit (all_apart (q sample).starts p.goes_on) fit_p.1 in
      let back = followed_second fit_q.0 s.0 z s.1 rest s.3 in
      elim (lawful_p.first fit_p.0 s.0 words s.1 s.2) [
        | inl h ↦ inl (starts_first p.may_be_empty p.starts (q sample).starts words h.0, elim back [ inl k ↦ omega (arith, h.1, k.1) | inr k ↦ subst (λ ws. length ws < length words) k.1 h.1 ])
        | inr h ↦ elim back [
          | inl k ↦ inl (
            rw (h.0) (begins-append p.starts (q sample).starts words ∙ ap (λ v. begins p.starts words || v) (ap (begins (q sample).starts) h.1 ∙ k.0) ∙ or_true (begins p.starts words)),
            subst (λ ws. length rest < length ws) (sym h.1) k.1,
          )
          | inr k ↦ inr (rw (h.0, k.0), h.1 ∙ k.1)
        ]
      ]

  pub lawful_followed : Lawful (followed sample p q)
  lawful_followed = record { sound = followed_sound; complete = followed_complete; first = followed_first }
