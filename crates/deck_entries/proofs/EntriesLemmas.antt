-- The file control entries of a deck: eight at most, and no two of one file name.
use Rattle.std.proofs.Common.{◌≡◌, ◌≤◌, ℕ, false, List, [], ◌∷◌, ◌++◌, length, map, refl, sym, subst, ◌∙◌, arith}
use Rattle.std.specs.Str.{bytes_eq}
use Rattle.std.specs.List.{list_any, IsDistinct}
use Rattle.std.proofs.lemmas.Cmp.{nat_list_eq_equiv}
use Rattle.std.proofs.lemmas.List.{length-append, map-append}
use Rattle.std.proofs.lemmas.Map.Keys.{IsDistinct-push}
use Rattle.std.proofs.lemmas.Option.{same_Some}
use Rattle.deck_entries.specs.FileControlEntry.{FileControlEntry}
use Rattle.deck_parser.specs.Word.{Word}
use Rattle.deck_parser.specs.Rule.{each_behind}
use Rattle.deck_entries.specs.FileControlEntry.{is_assigned}
use Rattle.deck_parser.proofs.TestLemmas.{neither_true}
use Rattle.deck_entries.proofs.BehindLemmas.{is_behind}
use Rattle.deck_parser.proofs.TurnLemmas.{kept_by_turns}
use Rattle.deck_entries.specs.Divisions.{more_entry, file_control_paragraph}

abbrev pub assigned : List FileControlEntry → List (List ℕ)
assigned entries = map (λ entry. entry.file_name) entries

pub record AreEntries (entries : List FileControlEntry) : Type 0 where
  pub few : length entries ≤ 8
  pub distinct : IsDistinct bytes_eq (assigned entries)

not_assigned : (name : List ℕ) (earlier : List FileControlEntry) → is_assigned earlier name ≡ false → list_any (bytes_eq name) (assigned earlier) ≡ false
not_assigned name [] e = refl
not_assigned name (entry ∷ earlier) e =
    let n = neither_true (bytes_eq entry.file_name name) (is_assigned earlier name) e in
    rw (nat_list_eq_equiv.symm name entry.file_name, n.0) (not_assigned name earlier n.1)

one_more : (earlier all : List FileControlEntry) (words rest : List Word) → AreEntries earlier → (more_entry earlier).Spells all words rest → AreEntries all
unfolding more_entry
one_more earlier all words rest are s =
    let entry = s.0 in
    let behind = is_behind earlier entry words rest s.2 in
    let names : assigned (earlier ++ entry ∷ []) ≡ assigned earlier ++ entry.file_name ∷ [] = map-append (λ (entry : FileControlEntry). entry.file_name) earlier (entry ∷ []) in
    subst AreEntries (same_Some (earlier ++ entry ∷ []) all s.1) (record {
      few = omega (arith, behind.room, length-append earlier (entry ∷ []));
      distinct = subst (IsDistinct bytes_eq) (sym names) (IsDistinct-push nat_list_eq_equiv (assigned earlier) entry.file_name are.distinct (not_assigned entry.file_name earlier behind.apart));
    })

no_entries : AreEntries []
unfolding IsDistinct
no_entries = record { few = omega arith; distinct = tt }

all_entries : (all : List FileControlEntry) (words rest : List Word) → (each_behind more_entry []).Spells all words rest → AreEntries all
all_entries all words rest s = kept_by_turns AreEntries more_entry one_more [] (s.0 ∷ s.1) all words rest no_entries s.2

pub are_entries : (all : List FileControlEntry) (words rest : List Word) → file_control_paragraph.Spells all words rest → AreEntries all
unfolding file_control_paragraph more_entry
are_entries all words rest s =
    let division = s.5 in
    let section = division.5 in
    let control = section.5 in
    let point = control.5 in
    subst AreEntries (sym (s.3 ∙ (division.3 ∙ (section.3 ∙ (control.3 ∙ point.3))))) (all_entries point.1 point.2 rest point.5)
