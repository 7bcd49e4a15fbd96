-- What the rows of numbers and frames are to a look-up.
use Rattle.std.proofs.Common.{zero, suc, ◌≡◌, ◌≢◌, inl, inr, ℕ, ◌+◌, ◌<◌, ◌≤◌, Bool, true, false, is_some, nat_eq, Some, None, List, [], ◌∷◌, ◌++◌, length, get_or, set, slice_get, option_map, refl, sym, ◌∙◌, ap, subst, arith}
use Rattle.std.specs.List.{IsDistinct, AllByRecursion}
use Rattle.std.specs.Cmp.{nat_eq_equiv}
use Rattle.std.specs.Map.{keys_of, lookup, set_value}
use Rattle.std.proofs.lemmas.Bool.{cases_Bool, eqb-false, eq-eqb, ne_eqb}
use Rattle.std.proofs.lemmas.List.{length-set, length-append, get_or_default}
use Rattle.std.proofs.lemmas.Map.Entries.{lookup_from_place}
use Rattle.std.proofs.lemmas.Map.Keys.{IsDistinct-head, IsDistinct-tail, IsDistinct-cons}
use Rattle.page_cache.specs.HeldFrames.{Frame, put_at, settled}
use Rattle.page_cache.specs.Places.{marked, paired, ArePaired}

-- page n stands nowhere
abbrev pub Absent : ℕ → List ℕ → Type 0
Absent n ns = (p : ℕ) → p < length ns → get_or ns p 0 ≢ n

all_at : (P : ℕ → Type 0) (ns : List ℕ) (p : ℕ) → AllByRecursion P ns → p < length ns → P (get_or ns p 0)
all_at P [] p all low = absurd (omega arith)
all_at P (n ∷ ns) zero all low = all.0
all_at P (n ∷ ns) (suc p) all low = all_at P ns p all.1 (omega arith)

absent_tail : (n m : ℕ) (ns : List ℕ) → Absent n (m ∷ ns) → Absent n ns
absent_tail n m ns absent p low = absent (suc p) (omega arith)

absent_head : (n m : ℕ) (ns : List ℕ) → Absent n (m ∷ ns) → m ≢ n
absent_head n m ns absent = absent 0 (omega arith)

apart_all : (n : ℕ) (ns : List ℕ) → Absent n ns → AllByRecursion (λ y. nat_eq n y ≡ false) ns
apart_all n [] absent = tt
apart_all n (m ∷ ns) absent = (ne_eqb n m (λ same. absent_head n m ns absent (sym same)), apart_all n ns (absent_tail n m ns absent))

apart_set : (m n : ℕ) (ns : List ℕ) (p : ℕ) → m ≢ n → AllByRecursion (λ y. nat_eq m y ≡ false) ns → AllByRecursion (λ y. nat_eq m y ≡ false) (set ns p n)
apart_set m n [] p differs all = tt
apart_set m n (k ∷ ns) zero differs all = (ne_eqb m n differs, all.1)
apart_set m n (k ∷ ns) (suc p) differs all = (all.0, apart_set m n ns p differs all.1)

apart_push : (m n : ℕ) (ns : List ℕ) → m ≢ n → AllByRecursion (λ y. nat_eq m y ≡ false) ns → AllByRecursion (λ y. nat_eq m y ≡ false) (ns ++ n ∷ [])
apart_push m n [] differs all = (ne_eqb m n differs, tt)
apart_push m n (k ∷ ns) differs all = (all.0, apart_push m n ns differs all.1)

-- a page that stands nowhere, put at a place or behind the last
pub distinct_set : (n : ℕ) (ns : List ℕ) (p : ℕ) → IsDistinct nat_eq ns → Absent n ns → IsDistinct nat_eq (set ns p n)
distinct_set n [] p distinct absent = distinct
distinct_set n (m ∷ ns) zero distinct absent = IsDistinct-cons nat_eq n ns (apart_all n ns (absent_tail n m ns absent)) (IsDistinct-tail nat_eq m ns distinct)
distinct_set n (m ∷ ns) (suc p) distinct absent =
    IsDistinct-cons nat_eq m (set ns p n) (apart_set m n ns p (absent_head n m ns absent) (IsDistinct-head nat_eq m ns distinct))
    (distinct_set n ns p (IsDistinct-tail nat_eq m ns distinct) (absent_tail n m ns absent))

pub distinct_push : (n : ℕ) (ns : List ℕ) → IsDistinct nat_eq ns → Absent n ns → IsDistinct nat_eq (ns ++ n ∷ [])
distinct_push n [] distinct absent = IsDistinct-cons nat_eq n [] tt distinct
distinct_push n (m ∷ ns) distinct absent =
    IsDistinct-cons nat_eq m (ns ++ n ∷ []) (apart_push m n ns (absent_head n m ns absent) (IsDistinct-head nat_eq m ns distinct))
    (distinct_push n ns (IsDistinct-tail nat_eq m ns distinct) (absent_tail n m ns absent))

pub paired_length : (ns : List ℕ) (xs : List Frame) → length xs ≡ length ns → length (paired ns xs) ≡ length ns
paired_length [] xs long = refl
paired_length (n ∷ ns) [] long = absurd (omega arith)
paired_length (n ∷ ns) (x ∷ xs) long = ap suc (paired_length ns xs (omega arith))

pub paired_keys : (ns : List ℕ) (xs : List Frame) → length xs ≡ length ns → keys_of (paired ns xs) ≡ ns
paired_keys [] xs long = refl
paired_keys (n ∷ ns) [] long = absurd (omega arith)
paired_keys (n ∷ ns) (x ∷ xs) long = ap (λ l. n ∷ l) (paired_keys ns xs (omega arith))

pub paired_at : (ns : List ℕ) (xs : List Frame) (p : ℕ) (x : Frame) → length xs ≡ length ns → p < length ns → x ≡ get_or xs p x → slice_get (paired ns xs) p ≡ Some (get_or ns p 0, x)
paired_at [] xs p x long low is = absurd (omega arith)
paired_at (n ∷ ns) [] p x long low is = absurd (omega arith)
paired_at (n ∷ ns) (y ∷ xs) zero x long low is = ap (λ v. Some (n, v)) (sym is)
paired_at (n ∷ ns) (y ∷ xs) (suc p) x long low is = paired_at ns xs p x (omega arith) (omega arith) is

pub paired_none : (n : ℕ) (ns : List ℕ) (xs : List Frame) → Absent n ns → lookup (nat_eq n) (paired ns xs) ≡ None
paired_none n [] xs absent = refl
paired_none n (m ∷ ns) [] absent = refl
paired_none n (m ∷ ns) (x ∷ xs) absent = rw (ne_eqb n m (λ same. absent_head n m ns absent (sym same))) (paired_none n ns xs (absent_tail n m ns absent))

pub paired_found : (n : ℕ) (ns : List ℕ) (xs : List Frame) (p : ℕ) (x : Frame) → IsDistinct nat_eq ns → length xs ≡ length ns → p < length ns → get_or ns p 0 ≡ n → x ≡ get_or xs p x → lookup (nat_eq n) (paired ns xs) ≡ Some x
paired_found n ns xs p x distinct long low number is =
    lookup_from_place nat_eq_equiv (paired ns xs) p n x (subst (IsDistinct nat_eq) (sym (paired_keys ns xs long)) distinct)
    (paired_at ns xs p x long low is ∙ ap (λ m. Some (m, x)) number)

pub paired_held : (n : ℕ) (ns : List ℕ) (xs : List Frame) (p : ℕ) → length xs ≡ length ns → p < length ns → get_or ns p 0 ≡ n → true ≡ is_some (lookup (nat_eq n) (paired ns xs))
paired_held n [] xs p long low is = absurd (omega arith)
paired_held n (m ∷ ns) [] p long low is = absurd (omega arith)
paired_held n (m ∷ ns) (x ∷ xs) zero long low is = rw (eq-eqb n m (sym is)) refl
paired_held n (m ∷ ns) (x ∷ xs) (suc p) long low is = elim (cases_Bool (nat_eq n m)) [
  | inl hit ↦ rw hit refl
  | inr miss ↦ rw miss (paired_held n ns xs p (omega arith) (omega arith) is)
]

-- what is not found stands nowhere
pub absent_from : (n : ℕ) (ns : List ℕ) (xs : List Frame) → length xs ≡ length ns → lookup (nat_eq n) (paired ns xs) ≡ None → Absent n ns
absent_from n ns xs long none p low same = let clash = paired_held n ns xs p long low same ∙ ap is_some none in absurd (cc)

-- another frame at the place of page n
pub paired_set : (n : ℕ) (ns : List ℕ) (xs : List Frame) (p : ℕ) (w : Frame) → IsDistinct nat_eq ns → length xs ≡ length ns → p < length ns → get_or ns p 0 ≡ n → paired ns (set xs p w) ≡ set_value (nat_eq n) (paired ns xs) w
paired_set n [] xs p w distinct long low is = absurd (omega arith)
paired_set n (m ∷ ns) [] p w distinct long low is = absurd (omega arith)
paired_set n (m ∷ ns) (x ∷ xs) zero w distinct long low is = rw (eq-eqb n m (sym is)) refl
paired_set n (m ∷ ns) (x ∷ xs) (suc p) w distinct long low is =
    let apart = eqb-false m (get_or ns p 0) (all_at (λ y. nat_eq m y ≡ false) ns p (IsDistinct-head nat_eq m ns distinct) (omega arith)) in
    rw (ne_eqb n m (λ same. apart (sym same ∙ sym is))) (ap (λ l. (m, x) ∷ l) (paired_set n ns xs p w (IsDistinct-tail nat_eq m ns distinct) (omega arith) (omega arith) is))

-- page n with its frame at a place that is taken, or behind the last
pub paired_put : (n : ℕ) (ns : List ℕ) (xs : List Frame) (p : ℕ) (x : Frame) → length xs ≡ length ns → p < length ns → paired (set ns p n) (set xs p x) ≡ put_at p (n, x) (paired ns xs)
paired_put n [] xs p x long low = absurd (omega arith)
paired_put n (m ∷ ns) [] p x long low = absurd (omega arith)
paired_put n (m ∷ ns) (y ∷ xs) zero x long low = refl
paired_put n (m ∷ ns) (y ∷ xs) (suc p) x long low = ap (λ l. (m, y) ∷ l) (paired_put n ns xs p x (omega arith) (omega arith))

pub paired_push : (n : ℕ) (ns : List ℕ) (xs : List Frame) (p : ℕ) (x : Frame) → length xs ≡ length ns → p ≡ length ns → paired (ns ++ n ∷ []) (xs ++ x ∷ []) ≡ put_at p (n, x) (paired ns xs)
paired_push n [] [] p x long last = refl
paired_push n [] (y ∷ xs) p x long last = absurd (omega arith)
paired_push n (m ∷ ns) [] p x long last = absurd (omega arith)
paired_push n (m ∷ ns) (y ∷ xs) zero x long last = absurd (omega arith)
paired_push n (m ∷ ns) (y ∷ xs) (suc p) x long last = ap (λ l. (m, y) ∷ l) (paired_push n ns xs p x (omega arith) (omega arith))

-- a frame that is marked as not changed
pub paired_settled : (ns : List ℕ) (xs : List Frame) (p : ℕ) (x : Frame) → length xs ≡ length ns → x ≡ get_or xs p x → p < length ns → paired ns (set xs p (record x { changed = false })) ≡ settled p (paired ns xs)
paired_settled [] xs p x long is low = absurd (omega arith)
paired_settled (m ∷ ns) [] p x long is low = absurd (omega arith)
paired_settled (m ∷ ns) (y ∷ xs) zero x long is low = ap (λ (v : Frame). (m, record v { changed = false }) ∷ paired ns xs) is
paired_settled (m ∷ ns) (y ∷ xs) (suc p) x long is low = ap (λ l. (m, y) ∷ l) (paired_settled ns xs p x (omega arith) is (omega arith))

-- bytes with their marks
pub marked_length : (cs : List Bool) (ps : List (List ℕ)) → length ps ≤ length cs → length (marked cs ps) ≡ length ps
marked_length [] [] low = refl
marked_length [] (p ∷ ps) low = absurd (omega arith)
marked_length (c ∷ cs) [] low = refl
marked_length (c ∷ cs) (p ∷ ps) low = ap suc (marked_length cs ps (omega arith))

pub marked_at : (cs : List Bool) (ps : List (List ℕ)) (k : ℕ) (d : Frame) (c : Bool) (page : List ℕ) → length ps ≤ length cs → k < length ps → c ≡ get_or cs k c → page ≡ get_or ps k page → record { changed = c; page = page } ≡ get_or (marked cs ps) k d
marked_at [] ps k d c page low within is same = absurd (omega arith)
marked_at (b ∷ cs) [] k d c page low within is same = absurd (omega arith)
marked_at (b ∷ cs) (p ∷ ps) zero d c page low within is same = λ i. record { changed = is i; page = same i }
marked_at (b ∷ cs) (p ∷ ps) (suc k) d c page low within is same = marked_at cs ps k d c page (omega arith) (omega arith) is same

pub marked_set : (cs : List Bool) (ps : List (List ℕ)) (k : ℕ) (c : Bool) (page : List ℕ) → length ps ≤ length cs → marked (set cs k c) (set ps k page) ≡ set (marked cs ps) k (record { changed = c; page = page })
marked_set [] [] k c page low = refl
marked_set [] (p ∷ ps) k c page low = absurd (omega arith)
marked_set (b ∷ cs) [] zero c page low = refl
marked_set (b ∷ cs) [] (suc k) c page low = refl
marked_set (b ∷ cs) (p ∷ ps) zero c page low = refl
marked_set (b ∷ cs) (p ∷ ps) (suc k) c page low = ap (λ l. record { changed = b; page = p } ∷ l) (marked_set cs ps k c page (omega arith))

pub marked_settled : (cs : List Bool) (ps : List (List ℕ)) (k : ℕ) (page : List ℕ) → length ps ≤ length cs → k < length ps → page ≡ get_or ps k page → marked (set cs k false) ps ≡ set (marked cs ps) k (record { changed = false; page = page })
marked_settled [] ps k page low within same = absurd (omega arith)
marked_settled (b ∷ cs) [] k page low within same = absurd (omega arith)
marked_settled (b ∷ cs) (p ∷ ps) zero page low within same = ap (λ (q : List ℕ). record { changed = false; page = q } ∷ marked cs ps) (sym same)
marked_settled (b ∷ cs) (p ∷ ps) (suc k) page low within same = ap (λ l. record { changed = b; page = p } ∷ l) (marked_settled cs ps k page (omega arith) (omega arith) same)

pub marked_push : (cs : List Bool) (ps : List (List ℕ)) (k : ℕ) (c : Bool) (page : List ℕ) → length ps < length cs → k ≡ length ps → marked (set cs k c) (ps ++ page ∷ []) ≡ marked cs ps ++ record { changed = c; page = page } ∷ []
marked_push [] ps k c page low last = absurd (omega arith)
marked_push (b ∷ []) [] zero c page low last = refl
marked_push (b ∷ d ∷ cs) [] zero c page low last = refl
marked_push (b ∷ cs) [] (suc k) c page low last = absurd (omega arith)
marked_push (b ∷ cs) (p ∷ ps) zero c page low last = absurd (omega arith)
marked_push (b ∷ cs) (p ∷ ps) (suc k) c page low last = ap (λ l. record { changed = b; page = p } ∷ l) (marked_push cs ps k c page (omega arith) (omega arith))

-- the frames are as many as the numbers
pub frames_long : (ns : List ℕ) (cs : List Bool) (ps : List (List ℕ)) (used : List Bool) (cap : ℕ) → ArePaired ns cs ps used cap → (length ps ≤ length cs) × (length (marked cs ps) ≡ length ns) × (length (paired ns (marked cs ps)) ≡ length ns)
frames_long ns cs ps used cap rows =
    let long = rows.long in
    let few = rows.few in
    let changes = rows.changes in
    let low : length ps ≤ length cs = omega arith in
    let same = marked_length cs ps low ∙ rows.long in
    (low, same, paired_length ns (marked cs ps) same)

-- the rows with a page that stood nowhere, in place of another one or behind the last
pub replaced : (n : ℕ) (ns : List ℕ) (cs : List Bool) (ps : List (List ℕ)) (k : ℕ) (c : Bool) (page : List ℕ) (used : List Bool) (cap : ℕ) → ArePaired ns cs ps used cap
    → lookup (nat_eq n) (paired ns (marked cs ps)) ≡ None → ArePaired (set ns k n) (set cs k c) (set ps k page) (set used k true) cap
replaced n ns cs ps k c page used cap rows none = record {
  long = length-set ps k page ∙ rows.long ∙ sym (length-set ns k n);
  few = let few = rows.few in let same = length-set ns k n in omega arith;
  apart = distinct_set n ns k rows.apart (absent_from n ns (marked cs ps) (frames_long ns cs ps used cap rows).1 none);
  changes = length-set cs k c ∙ rows.changes;
  uses = length-set used k true ∙ rows.uses;
  some = rows.some;
}

pub pushed : (n : ℕ) (ns : List ℕ) (cs : List Bool) (ps : List (List ℕ)) (k : ℕ) (c : Bool) (page : List ℕ) (used : List Bool) (cap : ℕ) → ArePaired ns cs ps used cap
    → lookup (nat_eq n) (paired ns (marked cs ps)) ≡ None → length ns < cap → ArePaired (ns ++ n ∷ []) (set cs k c) (ps ++ page ∷ []) (set used k true) cap
pushed n ns cs ps k c page used cap rows none room =
    let longer : length (ns ++ n ∷ []) ≡ length ns + 1 = length-append ns (n ∷ []) in
    let more : length (ps ++ page ∷ []) ≡ length ps + 1 = length-append ps (page ∷ []) in
    let long = rows.long in
    record {
      long = omega arith;
      few = omega arith;
      apart = distinct_push n ns rows.apart (absent_from n ns (marked cs ps) (frames_long ns cs ps used cap rows).1 none);
      changes = length-set cs k c ∙ rows.changes;
      uses = length-set used k true ∙ rows.uses;
      some = rows.some;
    }

pub distinct_none : IsDistinct nat_eq []
unfolding IsDistinct
distinct_none = tt

-- the bytes at the place of page n are its page
pub page_found : (n : ℕ) (ns : List ℕ) (cs : List Bool) (ps : List (List ℕ)) (k : ℕ) (page : List ℕ) (used : List Bool) (cap : ℕ) → ArePaired ns cs ps used cap → k < length ns → get_or ns k 0 ≡ n → page ≡ get_or ps k page
    → option_map (λ (frame : Frame). frame.page) (lookup (nat_eq n) (paired ns (marked cs ps))) ≡ Some page
page_found n ns cs ps k page used cap rows low is same =
    let long = frames_long ns cs ps used cap rows in
    let many = rows.long in
    let few = rows.few in
    let changes = rows.changes in
    let there : k < length ps = omega arith in
    let marks : k < length cs = omega arith in
    let frame : Frame = record { changed = get_or cs k false; page = page } in
    ap (option_map (λ (frame : Frame). frame.page))
    (paired_found n ns (marked cs ps) k frame rows.apart long.1 low is (marked_at cs ps k frame (get_or cs k false) page long.0 there (get_or_default cs k false (get_or cs k false) marks) same))

-- other bytes at the place of page n, which counts as changed
pub page_lent : (n : ℕ) (ns : List ℕ) (cs : List Bool) (ps : List (List ℕ)) (k : ℕ) (page : List ℕ) (used : List Bool) (cap : ℕ) → ArePaired ns cs ps used cap → k < length ns → get_or ns k 0 ≡ n
    → paired ns (marked (set cs k true) (set ps k page)) ≡ set_value (nat_eq n) (paired ns (marked cs ps)) (record { changed = true; page = page })
page_lent n ns cs ps k page used cap rows low is =
    let long = frames_long ns cs ps used cap rows in
    ap (paired ns) (marked_set cs ps k true page long.0) ∙ paired_set n ns (marked cs ps) k (record { changed = true; page = page }) rows.apart long.1 low is

-- the page of a place, marked as not changed
pub settled_rows : (ns : List ℕ) (cs : List Bool) (ps : List (List ℕ)) (k : ℕ) (used : List Bool) (cap : ℕ) → ArePaired ns cs ps used cap → k < length ns
    → paired ns (marked (set cs k false) ps) ≡ settled k (paired ns (marked cs ps))
settled_rows ns cs ps k used cap rows low =
    let long = frames_long ns cs ps used cap rows in
    let many = rows.long in
    let few = rows.few in
    let changes = rows.changes in
    let there : k < length ps = omega arith in
    let marks : k < length cs = omega arith in
    let page = get_or ps k [] in
    let same : page ≡ get_or ps k page = get_or_default ps k [] page there in
    let frame : Frame = record { changed = get_or cs k false; page = page } in
    ap (paired ns) (marked_settled cs ps k page long.0 there same)
    ∙ paired_settled ns (marked cs ps) k frame long.1 (marked_at cs ps k frame (get_or cs k false) page long.0 there (get_or_default cs k false (get_or cs k false) marks) same) low

-- a page put in place of another one, or behind the last
pub put_rows : (n : ℕ) (ns : List ℕ) (cs : List Bool) (ps : List (List ℕ)) (k : ℕ) (c : Bool) (page : List ℕ) (used : List Bool) (cap : ℕ) → ArePaired ns cs ps used cap → k < length ns
    → paired (set ns k n) (marked (set cs k c) (set ps k page)) ≡ put_at k (n, record { changed = c; page = page }) (paired ns (marked cs ps))
put_rows n ns cs ps k c page used cap rows low =
    let long = frames_long ns cs ps used cap rows in
    ap (paired (set ns k n)) (marked_set cs ps k c page long.0) ∙ paired_put n ns (marked cs ps) k (record { changed = c; page = page }) long.1 low

pub push_rows : (n : ℕ) (ns : List ℕ) (cs : List Bool) (ps : List (List ℕ)) (k : ℕ) (c : Bool) (page : List ℕ) (used : List Bool) (cap : ℕ) → ArePaired ns cs ps used cap → k ≡ length ns → length ns < cap
    → paired (ns ++ n ∷ []) (marked (set cs k c) (ps ++ page ∷ [])) ≡ put_at k (n, record { changed = c; page = page }) (paired ns (marked cs ps))
push_rows n ns cs ps k c page used cap rows last room =
    let long = frames_long ns cs ps used cap rows in
    let many = rows.long in
    let changes = rows.changes in
    ap (paired (ns ++ n ∷ [])) (marked_push cs ps k c page (omega arith) (omega arith)) ∙ paired_push n ns (marked cs ps) k (record { changed = c; page = page }) long.1 last
