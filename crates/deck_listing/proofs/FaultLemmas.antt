-- One fault more is told, or none; and faults that are the same.
use Rattle.std.proofs.Common.{◌≡◌, ◌≤◌, ◌<◌, ◌+◌, ℕ, List, [], ◌∷◌, ◌++◌, length, All, nat_eq, true, ◌&&◌, refl, arith, length-append}
use Rattle.std.proofs.lemmas.Bool.{and_parts}
use Rattle.std.proofs.lemmas.Bool.Decides.{nat_tests}
use Rattle.deck_parser.specs.Fault.{fault_of}
use Rattle.deck_parser.specs.declared.fault.DeckFault.{DeckFault}
use Rattle.std.proofs.lemmas.List.Elements.{All-push}
use Rattle.deck_listing.specs.Told.{TellsOf, AreFurther}
use Rattle.deck_listing.specs.declared.diagnosis.Diagnosis.{Diagnosis}

pub one_more : (deck : List ℕ) (told : List Diagnosis) (one : Diagnosis) {more : List Diagnosis} → more ≡ told ++ one ∷ []
    → All (TellsOf deck) told → TellsOf deck one → length told < 19 → All (TellsOf deck) more × (length more ≤ 19)
one_more deck told one same all tells few = rw same (All-push (TellsOf deck) told one all tells, omega (arith, length-append told (one ∷ []), few))

pub none_further : (deck : List ℕ) {further : List Diagnosis} → further ≡ [] → AreFurther deck further
none_further deck same = rw same (record {
  tell = λ k d lt. absurd (omega (arith, lt));
  few = omega arith;
  rising = λ i j d le lt. absurd (omega (arith, lt));
})

pub same_fault : (a b : DeckFault) → (nat_eq a.line b.line && nat_eq a.code b.code) ≡ true → b ≡ a
same_fault a b is =
    let parts = and_parts (nat_eq a.line b.line) (nat_eq a.code b.code) is in
    let at_line = parts.0 in
    let of_code = parts.1 in
    let line : b.line ≡ a.line = grind (arith, nat_tests) in
    let code : b.code ≡ a.code = grind (arith, nat_tests) in
    let same : fault_of b.line b.code ≡ fault_of a.line a.code = rw (line, code) refl in
    same
