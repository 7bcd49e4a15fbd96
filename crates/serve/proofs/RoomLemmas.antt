-- A room whose first bytes are a frame, or the head of one.
use Rattle.std.proofs.Common.{◌≡◌, ℕ, ◌+◌, ◌≤◌, List, ◌++◌, length, take, drop, sym, ap, ◌∙◌}
use Rattle.std.proofs.lemmas.List.{length-take-le, length-append, take-append-drop, drop-drop, drop_at}
use Rattle.serve.specs.Answer.{KeepsBehind}

-- the bytes behind the head are those that were there
pub room_headed : (room after : List ℕ) (count : ℕ) → KeepsBehind count room after
    → (after ≡ take count after ++ drop (length (take count after)) room) × (count ≡ length (take count after))
room_headed room after count keeps =
    let counted : count ≡ length (take count after) = sym (length-take-le count after keeps.within) in (
      sym (take-append-drop count after) ∙ ap (λ (l : List ℕ). take count after ++ l) keeps.others ∙ ap (λ (n : ℕ). take count after ++ drop n room) counted,
      counted,
    )

-- a record is put behind the head: the bytes behind both are those that were there
pub behind_record : (room mid after bytes : List ℕ) (size end : ℕ) → KeepsBehind size room mid → end ≡ size + length bytes → end ≤ length after
    → after ≡ take size mid ++ bytes ++ drop end mid → KeepsBehind end room after
behind_record room mid after bytes size end keeps end_is fits is =
    let put : length (take size mid ++ bytes) ≡ end = length-append (take size mid) bytes ∙ ap (λ (n : ℕ). n + length bytes) (length-take-le size mid keeps.within) ∙ sym end_is in
    let past : (l : List ℕ) → drop (length bytes) (drop size l) ≡ drop end l = λ l. drop-drop (length bytes) size l ∙ ap (λ (n : ℕ). drop n l) (sym end_is) in
    record {
      within = fits;
      others = ap (λ (l : List ℕ). drop end l) is ∙ drop_at (take size mid ++ bytes) (drop end mid) end put ∙ sym (past mid) ∙ ap (λ (l : List ℕ). drop (length bytes) l) keeps.others ∙ past room;
    }
