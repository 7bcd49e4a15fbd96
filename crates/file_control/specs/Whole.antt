-- The whole description of a deck, as its words spell it.
-- ANSI X3.23-1985, Nucleus module, environment and data divisions. That the description ends before
-- the word PROCEDURE is ours.
use Rattle.std.specs.Prelude.{◌≡◌, ◌≤◌, ℕ, true, List, [], ◌∷◌, length, drop, codes}
use Rattle.deck_parser.specs.Class.{this, begins}
use Rattle.deck_parser.specs.Word.{Word}
use Rattle.file_control.specs.declared.description.Description.{Description}
use Rattle.deck_entries.specs.declared.divisions.Divisions.{Divisions}
use Rattle.deck_entries.specs.Divisions.{SpellsDivisions}
use Rattle.file_control.specs.Description.{FileDesc, LengthItem, AreFiles, AreItems}

-- the divisions describe these files and items
abbrev pub Describe : Divisions → List FileDesc → List LengthItem → Type 0
Describe divisions files items =
    (names : List (List ℕ)) × AreFiles divisions.descriptions divisions.storage [] divisions.entries files
    names
    × AreItems names divisions.storage items

-- the words up to the word PROCEDURE, so many of them, are divisions that describe these files and
-- items: the files of the entries, and behind their data names the items
abbrev pub IsDescription : List Word → Description → Type 0
IsDescription words description =
    (divisions : Divisions) × (description.words ≤ length words)
    × SpellsDivisions divisions words (drop description.words words)
    × (begins (this (codes "PROCEDURE") ∷ []) (drop description.words words) ≡ true)
    × ((names : List (List ℕ)) × AreFiles divisions.descriptions divisions.storage [] divisions.entries
    description.files names × AreItems names divisions.storage description.items)
