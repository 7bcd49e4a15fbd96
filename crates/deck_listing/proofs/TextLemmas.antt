-- The front of a text is a front of it.
use Rattle.std.proofs.Common.{◌≡◌, ℕ, List, take, drop, sym}
use Rattle.std.proofs.lemmas.List.{take-append-drop}
use Rattle.deck_listing.specs.Text.{IsFrontOf}

pub front : (text : List ℕ) (at : ℕ) {part : List ℕ} → part ≡ take at text → IsFrontOf text part
front text at same = (drop at text, rw same (sym (take-append-drop at text)))
