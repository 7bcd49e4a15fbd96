-- What was read of a reader.
use Rattle.std.proofs.Common.{◌≡◌, ◌≤◌, ◌<◌, ◌+◌, ◌==◌, ℕ, Bool, true, false, List, [], ◌∷◌, ◌++◌, take, length, Option, Some, None, refl, sym, ap, ◌∙◌, append-nil, append_assoc, inl, inr, suc, arith}
use Rattle.std.specs.Prelude.{nat_le}
use Rattle.std.proofs.lemmas.List.{take_all, take-append-le, length-take-le, length-append}
use Rattle.std.proofs.lemmas.Grind.{common_steps}
use Rattle.std.specs.List.{list_any}
use Rattle.std.specs.Io.KnownBytes.{Consumes, IsAtEnd}
use Rattle.system_files.specs.Front.{IsFrontRead, IsTextRead}

-- all bytes came, and then none at the end
pub all_read : (a b c : Option (List ℕ)) (bytes part : List ℕ) (n most : ℕ) → Consumes a b bytes → Consumes b c (take n part) → n ≡ 0
    → IsAtEnd c → length bytes ≤ most → IsFrontRead most a bytes
all_read None b c bytes part n most p q e at_end few = tt
all_read (Some x) None c bytes part n most p q e at_end few = absurd p
all_read (Some x) (Some y) None bytes part n most p q e at_end few = absurd q
all_read (Some x) (Some y) (Some z) bytes part n most p q e at_end few =
    let none : y ≡ [] = q ∙ ap (λ m. take m part ++ z) e ∙ at_end in
    let whole : x ≡ bytes = p ∙ ap (λ l. bytes ++ l) none ∙ append-nil bytes in
    sym (ap (λ l. take most l) whole ∙ take_all most bytes few)

-- as many bytes came as are read
pub front_read : (a b : Option (List ℕ)) (bytes : List ℕ) (most : ℕ) → Consumes a b bytes → length bytes ≡ most → IsFrontRead most a bytes
front_read None b bytes most p e = tt
front_read (Some x) None bytes most p e = absurd p
front_read (Some x) (Some y) bytes most p e =
    let least : most ≤ length bytes = rw e (omega arith) in
    let whole : length bytes ≤ most = rw e (omega arith) in
    sym (ap (λ l. take most l) p ∙ take-append-le most bytes y least ∙ take_all most bytes whole)

-- what came was taken, and then nothing at the end
pub still_taken : (a b c : Option (List ℕ)) (bytes part : List ℕ) (n : ℕ) → Consumes a b bytes → Consumes b c (take n part) → n ≡ 0 → Consumes a c bytes
still_taken None b c bytes part n p q e = tt
still_taken (Some x) None c bytes part n p q e = absurd p
still_taken (Some x) (Some y) None bytes part n p q e = absurd q
still_taken (Some x) (Some y) (Some z) bytes part n p q e = p ∙ ap (λ (l : List ℕ). bytes ++ l) (q ∙ ap (λ (m : ℕ). take m part ++ z) e)

-- one part came, and then another
pub both_taken : (a b c : Option (List ℕ)) (text part : List ℕ) → Consumes a b text → Consumes b c part → Consumes a c (text ++ part)
both_taken None b c text part p q = tt
both_taken (Some x) None c text part p q = absurd p
both_taken (Some x) (Some y) None text part p q = absurd q
both_taken (Some x) (Some y) (Some z) text part p q = p ∙ ap (λ (l : List ℕ). text ++ l) q ∙ sym (append_assoc text part z)

-- a part that is shorter than those that are read is the last one
nothing_behind : (left part behind : List ℕ) (most : ℕ) → part ≡ take most left → left ≡ part ++ behind → length part < most → behind ≡ []
nothing_behind left part behind most front whole short =
    let all : length left ≤ most = few_left left part most front short in
    let same : part ≡ left = front ∙ take_all most left all in
    append_same part behind (sym whole ∙ sym same)
  where
    few_left : (left part : List ℕ) (most : ℕ) → part ≡ take most left → length part < most → length left ≤ most
    few_left left part most front short = go (nat_le (length left) most) refl
      where
        go : (b : Bool) → nat_le (length left) most ≡ b → length left ≤ most
        go true e = grind (arith, common_steps)
        go false e =
            let long : most ≤ length left = grind (arith, common_steps) in
            let whole : length part ≡ most = ap length front ∙ length-take-le most left long in
            absurd (omega arith)

    append_same : (part behind : List ℕ) → part ++ behind ≡ part → behind ≡ []
    append_same part [] is = refl
    append_same part (byte ∷ behind) is =
        let more : length part + suc (length behind) ≡ length part = sym (length-append part (byte ∷ behind)) ∙ ap length is in
        absurd (omega arith)

-- the last part of a text came
pub text_ends : (longest : ℕ) (a b c : Option (List ℕ)) (text part : List ℕ) → Consumes a b text → IsFrontRead longest b part → Consumes b c part → length part < longest
    → IsTextRead longest a (text ++ part)
text_ends longest None b c text part p front q short = tt
text_ends longest (Some x) None c text part p front q short = absurd p
text_ends longest (Some x) (Some y) None text part p front q short = absurd q
text_ends longest (Some x) (Some y) (Some z) text part p front q short =
    (z, both_taken (Some x) (Some y) (Some z) text part p q, inl (nothing_behind y part z longest front q short))

-- a part came that has no end of a line
pub text_cut : (longest : ℕ) (a b c : Option (List ℕ)) (text part : List ℕ) → Consumes a b text → Consumes b c part → longest ≤ length part → list_any (λ byte. byte == 10) part ≡ false
    → IsTextRead longest a (text ++ part)
text_cut longest None b c text part p q long none = tt
text_cut longest (Some x) None c text part p q long none = absurd p
text_cut longest (Some x) (Some y) None text part p q long none = absurd q
text_cut longest (Some x) (Some y) (Some z) text part p q long none =
    (z, both_taken (Some x) (Some y) (Some z) text part p q, inr (text, part, refl, long, none))
