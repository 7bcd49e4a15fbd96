-- Bytes that are laid over others, at any place, leave a torn write.
use Rattle.std.proofs.Common.{ℕ, ◌+◌, ◌<◌, ◌≤◌, leb, List, ◌++◌, length, take, drop, ◌∙◌, inl, inr, arith, length-append}
use Rattle.std.proofs.lemmas.Bool.{cases_Bool, leb-true, leb-false}
use Rattle.std.proofs.lemmas.List.{length-take, length-drop, get_or_append_left, get_or-take}
use Rattle.page_store.specs.DeviceFile.{Torn, overlay}
use Rattle.page_store.proofs.ImageLemmas.{overlay_torn}

-- behind the end of the file
past_end : (old : List ℕ) (at : ℕ) (bytes : List ℕ) → length old < at → Torn at (length bytes) old (overlay old at bytes)
past_end old at bytes past =
    let front = take at old ++ bytes in
    let rest = drop (at + length bytes) old in
    let all = length-append front rest in
    let first = length-append (take at old) bytes in
    let taken = length-take at old in
    let left = length-drop (at + length bytes) old in
    record {
      no_shorter = omega arith;
      no_longer = omega arith;
      below = λ i within low. get_or_append_left front rest 0 i (omega arith) ∙ get_or_append_left (take at old) bytes 0 i (omega arith) ∙ get_or-take at old i 0 low;
      above = λ i within high. absurd (omega arith);
    }

any_torn : (old : List ℕ) (at : ℕ) (bytes : List ℕ) → Torn at (length bytes) old (overlay old at bytes)
any_torn old at bytes =
    elim (cases_Bool (leb at (length old))) [
      | inl low ↦ overlay_torn old at bytes (leb-true at (length old) low)
      | inr past ↦ past_end old at bytes (leb-false at (length old) past)
    ]

-- and so do no more bytes than were to be written
pub part_torn : (old : List ℕ) (at : ℕ) (bytes part : List ℕ) → length part ≤ length bytes → Torn at (length bytes) old (overlay old at part)
part_torn old at bytes part less =
    let torn = any_torn old at part in
    let longer = torn.no_longer in
    record { no_shorter = torn.no_shorter; no_longer = omega arith; below = torn.below; above = λ i within high. torn.above i within (omega arith) }
