-- An entry behind earlier ones is one of eight, and none of those has its file name.
use Rattle.std.proofs.Common.{◌≡◌, ℕ, ◌<◌, Bool, true, false, not, ◌&&◌, cond, List, length, Option, Some, None, refl, sym, ap, subst, ◌∙◌, arith}
use Rattle.std.specs.Prelude.{nat_le}
use Rattle.std.proofs.lemmas.Bool.Decides.{nat_tests}
use Rattle.std.proofs.lemmas.Option.{same_Some}
use Rattle.io_state.specs.FileName.{is_file_name}
use Rattle.deck_entries.specs.FileControlEntry.{FileControlEntry}
use Rattle.deck_parser.specs.Word.{Word}
use Rattle.deck_entries.specs.FileControlEntry.{is_assigned, select_word, new_file_name, select_behind}

-- a word that is taken where there is room for one more
has_room : (full : Bool) (u : Unit {0}) → ◌≡◌ {A = Option (Unit {0})} (cond full None (Some tt)) (Some u) → full ≡ false
has_room true u e = absurd (cc)
has_room false u e = refl

less : (n : ℕ) → nat_le 8 n ≡ false → n < 8
less n e = grind (arith, nat_tests)

-- a text that is taken where a name is one and is not assigned is not assigned
not_taken : (a b : Bool) (x y : List ℕ) → cond (a && not b) (Some x) None ≡ Some y → (b ≡ false) × (x ≡ y)
not_taken true false x y e = (refl, same_Some x y e)
not_taken true true x y e = absurd (cc)
not_taken false b x y e = absurd (cc)

pub record IsBehind (earlier : List FileControlEntry) (entry : FileControlEntry) : Type 0 where
  pub room : length earlier < 8
  pub apart : is_assigned earlier entry.file_name ≡ false

pub is_behind : (earlier : List FileControlEntry) (entry : FileControlEntry) (words rest : List Word) → (select_behind earlier).Spells entry words rest → IsBehind earlier entry
unfolding select_behind select_word new_file_name
is_behind earlier entry words rest s =
    let first = s.2.1 in
    let second = first.5 in
    let third = second.5 in
    let fourth = third.5 in
    let text = fourth.4.5 in
    let name : s.0.1.1.1.0 ≡ text.1 = ap (λ parts. parts.1.1.0) (first.3 ∙ second.3) ∙ (ap (λ parts. parts.1.0) third.3 ∙ (ap (λ parts. parts.0) fourth.3 ∙ (fourth.4.3 ∙ text.3))) in
    let taken = not_taken (is_file_name text.5.0) (is_assigned earlier text.5.0) text.5.0 text.1 text.5.1 in
    record {
      room = less (length earlier) (has_room (nat_le 8 (length earlier)) first.0 first.4.1);
      apart = subst (λ name. is_assigned earlier name ≡ false) (taken.1 ∙ (sym name ∙ ap (λ (entry : FileControlEntry). entry.file_name) (same_Some _ entry s.1))) taken.0;
    }
