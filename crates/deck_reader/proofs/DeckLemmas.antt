-- What words that spell a deck determine.
use Rattle.std.proofs.Common.{◌≡◌, ℕ, List, [], sym, ◌∙◌, ap, subst}
use Rattle.std.specs.Prelude.{drop}
use Rattle.deck_parser.specs.OneReading.{Determines}
use Rattle.deck_parser.specs.Word.{Word}
use Rattle.file_control.specs.declared.description.Description.{Description}
use Rattle.file_control.specs.Description.{FileDesc, LengthItem}
use Rattle.file_control.specs.Whole.{IsDescription}
use Rattle.file_control.specs.Described.{AreDescribed}
use Rattle.deck_reader.specs.declared.placed.PlacedStatements.{PlacedStatements}
use Rattle.deck_reader.specs.Names.{Names, names_of}
use Rattle.deck_reader.specs.Procedure.{procedure, IsProcedure}
use Rattle.deck_reader.specs.OnlyAllowed.{HaveOnlyAllowed}
use Rattle.deck_reader.specs.declared.deck.Deck.{Deck}
use Rattle.deck_reader.specs.Deck.{Spells}
use Rattle.deck_reader.specs.CanBeRun.{CanBeRun}

-- what the words behind a description spell, with the names of these files and items
abbrev pub SpellsBehind : List Word → PlacedStatements → List FileDesc → List LengthItem → ℕ → Type 0
SpellsBehind words statements files items count = (procedure (names_of files items)).Spells statements (drop count words) []

-- a deck's statements, with their places
abbrev pub placed_in : Deck → PlacedStatements
placed_in deck = record { statements = deck.statements; places = deck.places }

-- the procedure stands behind the description that the deck's files and items are from
pub behind_description : (words : List Word) (deck : Deck) (s : Spells words deck) → SpellsBehind words (placed_in deck) s.0.files s.0.items s.0.words
behind_description words deck s =
    subst (λ items. SpellsBehind words (placed_in deck) s.0.files items s.0.words) s.3
    (subst (λ files. SpellsBehind words (placed_in deck) files deck.items s.0.words) s.2 s.4)

module _ (one_description : Determines IsDescription) where
  -- behind the description no procedure stands, so the words spell no deck
  pub no_deck : (words : List Word) (description : Description) → IsDescription words description → ((statements : PlacedStatements) → SpellsBehind words statements description.files description.items description.words → ⊥) → (deck : Deck) → Spells words deck → ⊥
  no_deck words description is none deck s =
      none (placed_in deck) (subst (λ (d : Description). SpellsBehind words (placed_in deck) d.files d.items d.words) (one_description words s.0 description s.1 is) (behind_description words deck s))

  pub one_spelling : ((names : Names) → Determines (IsProcedure names)) → (words : List Word) (a b : Deck) → Spells words a → Spells words b → a ≡ b
  one_spelling one_procedure words a b s t =
      let same = one_description words t.0 s.0 t.1 s.1 in
      let files = s.2 ∙ sym (t.2 ∙ ap (λ (d : Description). d.files) same) in
      let items = s.3 ∙ sym (t.3 ∙ ap (λ (d : Description). d.items) same) in
      let other = subst (λ (d : Description). SpellsBehind words (placed_in b) d.files d.items d.words) same (behind_description words b t) in
      let placed = one_procedure (names_of s.0.files s.0.items) (drop s.0.words words) (placed_in a) (placed_in b) (behind_description words a s) other in
      λ j. record { files = files j; items = items j; statements = (placed j).statements; places = (placed j).places }

-- a deck's files and items are those of a description, and its statements are allowed
pub can_be_run : ((words : List Word) (description : Description) → IsDescription words description → AreDescribed description.files description.items) → HaveOnlyAllowed → (words : List Word) (deck : Deck) → Spells words deck → CanBeRun deck
can_be_run are_described only_allowed words deck s =
    let of_files = subst (λ files. AreDescribed files s.0.items) (sym s.2) (are_described words s.0 s.1) in
    let described = subst (λ items. AreDescribed deck.files items) (sym s.3) of_files in
    record { described = described; allowed = only_allowed (names_of deck.files deck.items) (placed_in deck) (drop s.0.words words) described s.4 }
