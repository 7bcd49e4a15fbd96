-- Where the gate could not be opened, reads give what they gave, or a refused file.
use Rattle.std.proofs.Common.{◌≡◌, ◌⊎◌, inl, inr, ℕ, suc, ◌<◌, ◌≤◌, ◌==◌, List, [], ◌∷◌, length, drop, slice_index, is_some, Option, Some, None, Bool, IsTrue, Result, Ok, Err, OnErr, refl, sym, ◌∙◌, ap, subst, arith}
use Rattle.std.proofs.lemmas.Bool.{cases_Bool, eqb-true, eqb-false}
use Rattle.page_store.specs.DeviceFile.{DeviceFile, IsWithin, IsThere, Torn, bytes_or_none, content}
use Rattle.page_store.specs.Calls.{CreateFails, WrittenAt, Synced, SyncFails}
use Rattle.page_store.specs.Gate.{IsClosed, IsRefused, GateWritten, GateFails, SameOrRefused, OnlyGate}
use Rattle.page_store.proofs.GateImageLemmas.{refused_68}
use Rattle.page_store.proofs.ImageLemmas.{overlay_torn}
use Rattle.page_store.proofs.FileLemmas.{some_bytes}

seen_of : (f g : DeviceFile) → f ≡ g → f.seen ≡ g.seen
seen_of f g same = ap (λ (h : DeviceFile). h.seen) same

same_lists : (xs ys : List ℕ) → length xs ≡ length ys → ((i : ℕ) → i < length ys → slice_index xs i ≡ slice_index ys i) → xs ≡ ys
same_lists [] [] long each = refl
same_lists [] (y ∷ ys) long each = absurd (omega (arith, long))
same_lists (x ∷ xs) [] long each = absurd (omega (arith, long))
same_lists (x ∷ xs) (y ∷ ys) long each =
    let first : x ≡ y = each 0 (omega arith) in
    let rest = same_lists xs ys (omega (arith, long)) (λ i lt. each (suc i) (omega (arith, lt))) in
    λ i. first i ∷ rest i

-- the first byte of a closed file may have changed: the bytes are as they were, or refused
torn_gate : (bytes now : List ℕ) → IsClosed bytes → Torn 0 1 bytes now → (now ≡ bytes) ⊎ IsRefused (Some now)
torn_gate [] now closed torn = absurd closed
torn_gate (x ∷ bytes) [] closed torn = absurd (omega (arith, torn.no_shorter))
torn_gate (x ∷ bytes) (y ∷ now) closed torn =
    let long : length now ≡ length bytes = omega (arith, torn.no_shorter, torn.no_longer) in
    let rest : now ≡ bytes = same_lists now bytes long (λ i lt. torn.above (suc i) (omega (arith, lt)) (omega arith)) in
    elim (cases_Bool (y == 67)) [
      | inl is ↦ let first : y ≡ x = eqb-true y 67 is ∙ sym closed in inl (λ i. first i ∷ rest i)
      | inr isnt ↦ inr (inr (λ e. eqb-false y 67 isnt e))
    ]

closed_bytes : (seen : Option (List ℕ)) → IsClosed (bytes_or_none seen) → seen ≡ Some (bytes_or_none seen)
closed_bytes None closed = absurd closed
closed_bytes (Some bytes) closed = refl

-- the byte was written, and may not be on the disk
unsynced : (f g h : DeviceFile) → WrittenAt 0 (68 ∷ []) f g → SyncFails g h → IsRefused h.seen
unsynced f g h written (inl same) = subst IsRefused (sym (seen_of h g same ∙ ap (λ (x : DeviceFile). x.seen) written.is)) (refused_68 (content f))
unsynced f g h written (inr synced) =
    let seen = ap (λ (x : DeviceFile). x.seen) synced.is ∙ ap (λ (x : DeviceFile). Some (content x)) written.is in
    subst IsRefused (sym seen) (refused_68 (content f))

-- of a closed file
pub opening_seen : (f g : DeviceFile) → IsClosed (content f) → GateFails 68 f g → SameOrRefused f g
opening_seen f g closed (inl (inl same)) = inl (seen_of g f same)
opening_seen f g closed (inl (inr torn)) = either (torn_gate (content f) torn.0 closed torn.1)
  where
    seen : g.seen ≡ Some torn.0
    seen = ap (λ (x : DeviceFile). x.seen) torn.2

    either : (torn.0 ≡ content f) ⊎ IsRefused (Some torn.0) → SameOrRefused f g
    either (inl kept) = inl (seen ∙ ap Some kept ∙ sym (closed_bytes f.seen closed))
    either (inr refused) = inr (subst IsRefused (sym seen) refused)
opening_seen f g closed (inr w) = inr (unsynced f w.0 g w.1 w.2)

torn_empty : (bytes now : List ℕ) → bytes ≡ [] → Torn 0 1 bytes now → IsRefused (Some now)
torn_empty [] now empty torn = inl (omega (arith, torn.no_longer))
torn_empty (x ∷ bytes) now empty torn = absurd (cc)

-- of an empty file
pub beginning_seen : (f g : DeviceFile) → f.seen ≡ Some [] → GateFails 68 f g → IsRefused g.seen
beginning_seen f g empty (inl (inl same)) = subst IsRefused (sym (seen_of g f same ∙ empty)) (inl (omega arith))
beginning_seen f g empty (inl (inr torn)) =
    subst IsRefused (sym (ap (λ (x : DeviceFile). x.seen) torn.2)) (torn_empty (content f) torn.0 (ap bytes_or_none empty) torn.1)
beginning_seen f g empty (inr w) = unsynced f w.0 g w.1 w.2

-- a file that could not be made
pub making_seen : (f g : DeviceFile) → CreateFails f g → SameOrRefused f g
making_seen f g (inl same) = inl (seen_of g f same)
making_seen f g (inr (inl made)) = inr (subst IsRefused (sym (ap (λ (x : DeviceFile). x.seen) made.is)) (inl (omega arith)))
making_seen f g (inr (inr noted)) = inl (ap (λ (x : DeviceFile). x.seen) noted)

-- a sync changes nothing that reads give
pub syncing_seen : (f g : DeviceFile) → IsThere f → SyncFails f g → SameOrRefused f g
syncing_seen f g there (inl same) = inl (seen_of g f same)
syncing_seen f g there (inr synced) = inl (ap (λ (x : DeviceFile). x.seen) synced.is ∙ sym (some_bytes f.seen there.there))

pub synced_empty : (f g : DeviceFile) → content f ≡ [] → Synced f g → g.seen ≡ Some []
synced_empty f g empty synced = ap (λ (x : DeviceFile). x.seen) synced.is ∙ ap Some empty

-- only the first byte was written, or tried
only_torn : (f g : DeviceFile) (now : List ℕ) → IsWithin 1 f → Torn 0 1 (content f) now → g.seen ≡ Some now → OnlyGate f g
only_torn f g now within torn seen =
    let long : length (content f) ≤ length now = torn.no_shorter in
    let most : length now ≤ length (content f) = let w = within.long in omega (arith, torn.no_longer) in
    let is : content g ≡ now = ap bytes_or_none seen in
    record {
      there = record { there = ap is_some seen; long = let w = within.long in let e = ap length is in omega arith };
      long = ap length is ∙ omega arith;
      rest = ap (drop 1) is ∙ torn_rest (content f) now torn;
    }
  where
    torn_rest : (bytes now : List ℕ) → Torn 0 1 bytes now → drop 1 now ≡ drop 1 bytes
    torn_rest [] [] torn = refl
    torn_rest [] (y ∷ []) torn = refl
    torn_rest [] (y ∷ z ∷ now) torn = absurd (omega (arith, torn.no_longer))
    torn_rest (x ∷ bytes) [] torn = absurd (omega (arith, torn.no_shorter))
    torn_rest (x ∷ bytes) (y ∷ now) torn =
        same_lists now bytes (omega (arith, torn.no_shorter, torn.no_longer)) (λ i lt. torn.above (suc i) (omega (arith, lt)) (omega arith))

pub only_same : (f g : DeviceFile) → IsWithin 1 f → g.seen ≡ f.seen → OnlyGate f g
only_same f g within same = record {
  there = record { there = ap is_some same ∙ within.there; long = let e = ap (λ s. length (bytes_or_none s)) same in let w = within.long in omega arith };
  long = ap (λ s. length (bytes_or_none s)) same;
  rest = ap (λ s. drop 1 (bytes_or_none s)) same;
}

pub only_then : (f g h : DeviceFile) → OnlyGate f g → OnlyGate g h → OnlyGate f h
only_then f g h a b = record { there = b.there; long = b.long ∙ a.long; rest = b.rest ∙ a.rest }

only_written : (f g : DeviceFile) → IsWithin 1 f → WrittenAt 0 (68 ∷ []) f g → OnlyGate f g
only_written f g within written =
    only_torn f g _ within (overlay_torn (content f) 0 (68 ∷ []) (omega arith)) (ap (λ (x : DeviceFile). x.seen) written.is)

pub only_synced : (f g : DeviceFile) → IsWithin 1 f → Synced f g → OnlyGate f g
only_synced f g within synced = only_same f g within (ap (λ (x : DeviceFile). x.seen) synced.is ∙ sym (some_bytes f.seen within.there))

pub only_unsynced : (f g : DeviceFile) → IsWithin 1 f → SyncFails f g → OnlyGate f g
only_unsynced f g within (inl same) = only_same f g within (seen_of g f same)
only_unsynced f g within (inr synced) = only_synced f g within synced

pub only_gate : (f g : DeviceFile) → IsWithin 1 f → GateWritten 68 f g → OnlyGate f g
only_gate f g within w =
    let first = only_written f w.unsynced within w.written in
    only_then f w.unsynced g first (only_synced w.unsynced g first.there w.synced)

pub only_failed : (f g : DeviceFile) → IsWithin 1 f → GateFails 68 f g → OnlyGate f g
only_failed f g within (inl (inl same)) = only_same f g within (seen_of g f same)
only_failed f g within (inl (inr torn)) = only_torn f g torn.0 within torn.1 (ap (λ (x : DeviceFile). x.seen) torn.2)
only_failed f g within (inr w) =
    let first = only_written f w.0 within w.1 in
    only_then f w.0 g first (only_unsynced w.0 g first.there w.2)

-- what holds where the shelf is honest, however the call went, holds where it failed
pub at_err : {T E : Type 0} (honest : Bool) (P : Type 0) (r : Result T E) → (IsTrue honest → P) → OnErr r (IsTrue honest → P)
at_err honest P (Ok v) p = tt
at_err honest P (Err e) p = p
