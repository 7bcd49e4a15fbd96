-- Which of two rules is read.
use Rattle.std.proofs.Common.{◌≡◌, true, false, List, refl, sym, subst, ◌∙◌}
use Rattle.std.specs.Prelude.{Result, IfErr}
use Rattle.deck_parser.specs.Class.{begins}
use Rattle.deck_parser.specs.Rule.{Rule, Stop}
use Rattle.deck_parser.specs.Notation.{◌∣◌}
use Rattle.deck_parser.specs.Reading.{Reads, ReadsRule, TellsStop}
use Rattle.deck_parser.specs.Word.{Word}
use Rattle.deck_parser.specs.declared.fault.ParseRefusal.{ParseRefusal}

-- both rules read the words in the same way
abbrev pub Alike : {A : Type 0} → Rule A → Rule A → List Word → Type 0
Alike p q words = (p.reads words ≡ q.reads words) × (p.stops words ≡ q.stops words)

-- the words begin the first rule, which is read
pub first : {A : Type 0} (p q : Rule A) (words : List Word) → begins p.starts words ≡ true → Alike (p ∣ q) p words
first p q words is = (rw is refl, rw is refl)

-- they do not, and the second one is read
pub other : {A : Type 0} (p q : Rule A) (words : List Word) → begins p.starts words ≡ false → Alike (p ∣ q) q words
other p q words is = (rw is refl, rw is refl)

-- as the second rule reads them, which reads them as the third one does
pub chained : {R S : Type 0} {x y z : R} {s t u : S} → (x ≡ y) × (s ≡ t) → (y ≡ z) × (t ≡ u) → (x ≡ z) × (s ≡ u)
chained a b = (a.0 ∙ b.0, a.1 ∙ b.1)

-- what is read by a rule is what is read by one that is alike
pub alike : {A : Type 0} (p q : Rule A) (words : List Word) (result : Result A ParseRefusal) (rest : List Word) → Alike p q words → ReadsRule q words result rest → ReadsRule p words result rest
alike p q words result rest same reads =
    (subst (λ read. Reads read result rest) (sym same.0) reads.0, subst (λ (stop : Stop). IfErr result (TellsStop stop)) (sym same.1) reads.1)
