-- A rule that gives its line is read as it is spelled.
use Rattle.std.proofs.Common.{◌≡◌, ℕ, List, Some, sym, ap, ◌∙◌, subst}
use Rattle.deck_parser.specs.Rule.{Rule}
use Rattle.deck_parser.specs.Word.{first_line}
use Rattle.deck_parser.specs.Word.{Word}
use Rattle.deck_parser.proofs.RuleLemmas.{Lawful}
use Rattle.deck_parser.proofs.RestLemmas.{LeavesRest}
use Rattle.deck_parser.proofs.TestLemmas.{map_some}
use Rattle.deck_parser.specs.Located.{with_line}

module _ {A : Type 0} (p : Rule A) (lawful_p : Lawful p) where
  line_sound : (x : ℕ × A) (words rest : List Word) → (with_line p).reads words ≡ Some (x, rest) → (with_line p).Spells x words rest
  line_sound x words rest e =
      let a = map_some {B = (ℕ × A) × List Word} (λ a. ((first_line words, a.0), a.1)) (p.reads words) (x, rest) e in (
        sym (ap (λ r. r.0.0) a.2),
        subst (λ (y : A). p.Spells y words rest) (ap (λ r. r.0.1) a.2)
            (lawful_p.sound a.0.0 words rest (a.1 ∙ ap (λ (r : List Word). Some (a.0.0, r)) (ap (λ r. r.1) a.2))),
      )

  pub lawful_with_line : Lawful (with_line p)
  lawful_with_line = record {
    sound = line_sound;
    complete = λ fit x words rest s no. rw (lawful_p.complete fit x.1 words rest s.1 no, s.0);
    first = λ fit x words rest s. lawful_p.first fit x.1 words rest s.1;
  }

pub rest_with_line : {A : Type 0} (p : Rule A) → LeavesRest p → LeavesRest (with_line p)
rest_with_line p h = record { ends = λ x words rest s. h.ends x.1 words rest s.1 }
