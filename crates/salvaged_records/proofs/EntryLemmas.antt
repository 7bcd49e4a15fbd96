-- Entries of leaves, and more of them.
use Rattle.std.proofs.Common.{◌≡◌, ℕ, ◌+◌, ◌-◌, ◌<◌, Bool, true, false, cond, List, [], ◌∷◌, ◌++◌, length, take, get_or, refl, sym, ap, subst, ◌∙◌, append_assoc, append-nil, arith}
use Rattle.std.specs.Prelude.{filter, Result, Ok, Err, OnOk}
use Rattle.std.specs.BTreeSet.{BTreeSet}
use Rattle.std.specs.Global.{Vec}
use Rattle.std.specs.Str.{bytes_eq}
use Rattle.std.proofs.lemmas.Bool.{false≢true}
use Rattle.std.proofs.lemmas.List.{take_more, length-append}
use Rattle.std.proofs.lemmas.List.Elements.{filter-append}
use Rattle.std.proofs.lemmas.List.Sums.{sum_by-cons}
use Rattle.std.proofs.lemmas.Grind.{flat_map-append}
use Rattle.std.proofs.lemmas.Slice.Eq.{bytes_eq-Decides}
use Rattle.std.proofs.Math.Seq.{take-append_seam}
use Rattle.byteorder.specs.Endian.{big_bytes}
use Rattle.record_layout.specs.declared.schema.KeyPart.{KeyPart}
use Rattle.tree_node.specs.declared.shape.NodeShape.{NodeShape}
use Rattle.tree_node.specs.Leaf.{leaf_entries}
use Rattle.salvaged_records.specs.Doubt.{entry_leading_to, value_in}
use Rattle.salvaged_records.specs.Leaves.{leaf_entries_in, entries_of_page, is_leaf_page, is_entry_of, value_of_entry}
use Rattle.salvaged_records.specs.Slots.{FoundSlot}
use Rattle.salvaged_records.specs.Values.{AddsValue, AddsValues, HasValues, times}
use Rattle.salvaged_records.proofs.ValueLemmas.{added}

-- nothing was added
pub adds_none : (set : BTreeSet (Vec ℕ)) → AddsValues set set []
adds_none set values has = subst (HasValues set) (sym (append-nil values)) has

-- one entry, where it has one of the values, and where it has none
pub entry_added : {E : Type 0} (result : Result Unit E) (wanted old new : BTreeSet (Vec ℕ)) (entry : List ℕ) → is_entry_of wanted entry ≡ true → OnOk result (AddsValue old new entry)
    → OnOk result (AddsValues old new (filter (is_entry_of wanted) (entry ∷ [])))
entry_added (Ok done) wanted old new entry is adds = subst (AddsValues old new) (sym (ap (λ (b : Bool). cond b (entry ∷ []) []) is)) (added entry old new adds)
entry_added (Err fault) wanted old new entry is adds = tt

pub entry_passed : (wanted set : BTreeSet (Vec ℕ)) (entry : List ℕ) → is_entry_of wanted entry ≡ false → AddsValues set set (filter (is_entry_of wanted) (entry ∷ []))
entry_passed wanted set entry is = subst (AddsValues set set) (sym (ap (λ (b : Bool). cond b (entry ∷ []) []) is)) (adds_none set)

-- the entries of a leaf
pub of_leaf : (shape : NodeShape) (page : List ℕ) → is_leaf_page shape page ≡ true → entries_of_page shape page ≡ leaf_entries shape page
of_leaf shape page is = ap (λ (b : Bool). cond b (leaf_entries shape page) []) is

pub of_other : (shape : NodeShape) (page : List ℕ) → is_leaf_page shape page ≡ false → entries_of_page shape page ≡ []
of_other shape page is = ap (λ (b : Bool). cond b (leaf_entries shape page) []) is

-- one entry more
pub entry_more : (wanted a b c : BTreeSet (Vec ℕ)) (entries : List (List ℕ)) (i : ℕ) (entry : List ℕ) → i < length entries → entry ≡ get_or entries i []
    → AddsValues a b (filter (is_entry_of wanted) (take i entries)) → AddsValues b c (filter (is_entry_of wanted) (entry ∷ []))
    → AddsValues a c (filter (is_entry_of wanted) (take (i + 1) entries))
entry_more wanted a b c entries i entry within is one other values has =
    let p = is_entry_of wanted in
    let more : take (i + 1) entries ≡ take i entries ++ entry ∷ [] = take_more entries i [] within ∙ ap (λ (e : List ℕ). take i entries ++ e ∷ []) (sym is) in
    subst (HasValues c) (append_assoc values (filter p (take i entries)) (filter p (entry ∷ []))
    ∙ ap (λ (l : List (List ℕ)). values ++ l) (sym (filter-append p (take i entries) (entry ∷ [])) ∙ ap (filter p) (sym more)))
    (other (values ++ filter p (take i entries)) (one values has))

-- the entries of one page more
pub page_more : (wanted : BTreeSet (Vec ℕ)) (shape : NodeShape) (pages : List (List ℕ)) (n : ℕ) (page : List ℕ) (set new : BTreeSet (Vec ℕ)) → n < length pages → page ≡ get_or pages n []
    → HasValues set (filter (is_entry_of wanted) (leaf_entries_in shape (take n pages))) → AddsValues set new (filter (is_entry_of wanted) (entries_of_page shape page))
    → HasValues new (filter (is_entry_of wanted) (leaf_entries_in shape (take (n + 1) pages)))
page_more wanted shape pages n page set new within here has adds =
    let p = is_entry_of wanted in
    let on : leaf_entries_in shape (take (n + 1) pages) ≡ leaf_entries_in shape (take n pages) ++ entries_of_page shape page =
    ap (leaf_entries_in shape) (take_more pages n [] within ∙ ap (λ (q : List ℕ). take n pages ++ q ∷ []) (sym here))
    ∙ flat_map-append (λ (q : List ℕ). entries_of_page shape q) (take n pages) (page ∷ [])
    ∙ ap (λ (l : List (List ℕ)). leaf_entries_in shape (take n pages) ++ l) (append-nil (entries_of_page shape page)) in
    subst (HasValues new) (sym (ap (filter p) on ∙ filter-append p (leaf_entries_in shape (take n pages)) (entries_of_page shape page)))
    (adds (filter p (leaf_entries_in shape (take n pages))) has)

-- an entry that is picked out comes as often among those that are
module _ (p : List ℕ → Bool) (entry : List ℕ) where
  picked_step : (b sure : Bool) (n m all picked : ℕ) → picked ≡ cond b (cond sure 1 0 + m) m → all ≡ cond sure 1 0 + n → (sure ≡ true → b ≡ true) → m ≡ n → picked ≡ all
  picked_step true sure n m all picked is total so same = omega (arith, is, total, same)
  picked_step false true n m all picked is total so same = absurd (false≢true (so refl))
  picked_step false false n m all picked is total so same = omega (arith, is, total, same)

  first_picked : (b : Bool) (first : List ℕ) (rest : List (List ℕ)) → p first ≡ b
      → times (filter p (first ∷ rest)) entry ≡ cond b (cond (bytes_eq first entry) 1 0 + times (filter p rest) entry) (times (filter p rest) entry)
  first_picked true first rest is =
      ap (λ (c : Bool). times (cond c (first ∷ filter p rest) (filter p rest)) entry) is ∙ sum_by-cons (λ (v : List ℕ). cond (bytes_eq v entry) 1 0) first (filter p rest)
  first_picked false first rest is = ap (λ (c : Bool). times (cond c (first ∷ filter p rest) (filter p rest)) entry) is

  pub times_picked : p entry ≡ true → (entries : List (List ℕ)) → times (filter p entries) entry ≡ times entries entry
  times_picked is [] = refl
  times_picked is (first ∷ rest) =
      picked_step (p first) (bytes_eq first entry) (times rest entry) (times (filter p rest) entry) (times (first ∷ rest) entry) (times (filter p (first ∷ rest)) entry)
      (first_picked (p first) first rest refl) (sum_by-cons (λ (v : List ℕ). cond (bytes_eq v entry) 1 0) first rest)
      (λ same. subst (λ (v : List ℕ). p v ≡ true) (sym ((bytes_eq-Decides first entry).0 same)) is) (times_picked is rest)

-- the value of the entry that leads to a slot is that of the slot
four_and_two : (page slot : ℕ) → length (big_bytes 4 page ++ big_bytes 2 slot) ≡ 6
four_and_two page slot = refl

pub value_leading : (prime : KeyPart) (slot : FoundSlot) → value_of_entry (entry_leading_to prime slot) ≡ value_in prime slot
value_leading prime slot =
    let place = big_bytes 4 slot.page ++ big_bytes 2 slot.slot in
    let long = length-append (value_in prime slot) place in
    let six = four_and_two slot.page slot.slot in
    let at : length (entry_leading_to prime slot) - 6 ≡ length (value_in prime slot) = omega (arith, long, six) in
    ap (λ (n : ℕ). take n (entry_leading_to prime slot)) at ∙ take-append_seam (value_in prime slot) place
