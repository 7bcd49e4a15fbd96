-- Texts that are written in parts.
use Rattle.std.proofs.Common.{◌≡◌, ◌<◌, inl, inr, ℕ, List, [], ◌++◌, length, take, drop, Option, refl, sym, ap, ◌∙◌, append_assoc, append-nil, take-append-drop, subst, length-append, arith}
use Rattle.std.specs.Io.KnownBytes.{Appends}
use Rattle.std.proofs.KnownBytes.{Appends-nil, Appends-trans}
use Rattle.streams.specs.Output.{AppendsFront, AddsText, HoldsText}

-- what stands before the rest of the text is written
abbrev pub IsWritten : Option (List ℕ) → Option (List ℕ) → List ℕ → List ℕ → Type 0
IsWritten old new text rest = (front : List ℕ) × (text ≡ front ++ rest) × Appends old new front

pub nothing_written : (a : Option (List ℕ)) (text : List ℕ) → IsWritten a a text text
nothing_written a text = ([], refl, Appends-nil a)

pub more_written : (a b c : Option (List ℕ)) (text rest : List ℕ) (n : ℕ) → IsWritten a b text rest → Appends b c (take n rest)
    → IsWritten a c text (drop n rest)
more_written a b c text rest n (front, e, p) q =
    (front ++ take n rest, e ∙ ap (λ l. front ++ l) (sym (take-append-drop n rest)) ∙ sym (append_assoc front (take n rest) (drop n rest)), Appends-trans a b c front (take n rest) p q)

pub all_written : (a b : Option (List ℕ)) (text : List ℕ) → IsWritten a b text [] → Appends a b text
all_written a b text (front, e, p) = subst (Appends a b) (sym (e ∙ append-nil front)) p

-- what was added is held, and the writer took nothing, or all that was held before
pub added : (a b : Option (List ℕ)) (held now text : List ℕ) → AddsText a b held now text → HoldsText a b held now text
added a b held now text (inl add) = record { taken = []; text_is = sym add.1; appends = add.0 }
added a b held now text (inr add) = record { taken = held; text_is = ap (λ (l : List ℕ). held ++ l) (sym add.1); appends = add.0 }

-- nothing is held any more: the writer took all of it, and the text
pub passed : (a b c : Option (List ℕ)) (held now text : List ℕ) → now ≡ [] → Appends a b held → Appends b c text → HoldsText a c held now text
passed a b c held now text none first second = record {
  taken = held ++ text;
  text_is = sym (append-nil (held ++ text)) ∙ ap (λ (l : List ℕ). held ++ text ++ l) (sym none);
  appends = Appends-trans a b c held text first second;
}

longer : (rest text : List ℕ) → 0 < length rest → 0 < length (rest ++ text)
longer rest text some = let e = length-append rest text in omega (arith, some, e)

-- a proper front of what was held is one of that and the text
pub in_front : (a b : Option (List ℕ)) (held text : List ℕ) → AppendsFront a b held → AppendsFront a b (held ++ text)
in_front a b held text (front, rest, is, some, appends) =
    (front, rest ++ text, ap (λ (l : List ℕ). l ++ text) is ∙ append_assoc front rest text, longer rest text some, appends)

-- so is all that was held and a proper front of the text
pub in_text : (a b c : Option (List ℕ)) (held text : List ℕ) → Appends a b held → AppendsFront b c text → AppendsFront a c (held ++ text)
in_text a b c held text first (front, rest, is, some, appends) =
    (held ++ front, rest, ap (λ (l : List ℕ). held ++ l) is ∙ sym (append_assoc held front rest), some, Appends-trans a b c held front first appends)
