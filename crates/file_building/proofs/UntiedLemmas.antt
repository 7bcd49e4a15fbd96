-- Entries no two of which have one rank: sorted, they rise.
use Rattle.std.proofs.Common.{◌≡◌, ◌≢◌, ◌≤◌, inl, inr, ℕ, suc, ◌<◌, true, false, List, [], ◌∷◌, length, refl, ap, sym, subst, ◌∙◌, arith}
use Rattle.std.specs.Prelude.{slice_index_or}
use Rattle.std.specs.Ordering.{is_lt, nat_cmp, ordering_then}
use Rattle.std.specs.declared.cmp.Ordering.{Ordering}
use Rattle.std.specs.declared.cmp.Ordering.TheVariants.{Less, Equal, Greater}
use Rattle.std.specs.Cmp.{nat_cmp_is}
use Rattle.std.proofs.lemmas.Grind.{common_steps}
use Rattle.pages.specs.Each.{Each}
use Rattle.pages.proofs.EachLemmas.{each_weaker}
use Rattle.io_state.specs.Rank.{value_cmp}
use Rattle.record_heap.specs.Chain.{IsOneOf}
use Rattle.key_index.specs.declared.entry.AltEntry.{AltEntry}
use Rattle.key_index.proofs.OrderLemmas.{by_order}
use Rattle.open_file.proofs.OrderLemmas.{either}
use Rattle.file_building.specs.declared.ranked.Ranked.{Ranked}
use Rattle.file_building.specs.Ranks.{RisesBy, is_lower, RanksRise, Untied, AreUntied}
use Rattle.file_building.specs.Entries.{entry_in, ranked_entries}
use Rattle.file_building.proofs.SortedLemmas.{put_by, sorted_by, are_sorted, are_untied}
use Rattle.file_building.proofs.RankLemmas.{onward, itself, decide}
use Rattle.file_building.proofs.ValueLeadLemmas.{lead_rises}

each_in : (P : AltEntry → Type 0) (r : AltEntry) (xs : List AltEntry) → P r → Each P xs → Each P (put_by is_lower r xs)
each_in P r [] p ps = (p, tt)
each_in P r (x ∷ xs) p ps =
    either (is_lower x r) (Each P (put_by is_lower r (x ∷ xs)))
    (λ yes. rw yes (ps.0, each_in P r xs p ps.1))
    (λ above. rw above (p, ps))

all_in : (P : AltEntry → Type 0) (rs : List AltEntry) → Each P rs → Each P (sorted_by is_lower rs)
all_in P [] all = tt
all_in P (r ∷ rs) all = each_in P r (sorted_by is_lower rs) all.0 (all_in P rs all.1)

put_rises : (r : AltEntry) (xs : List AltEntry) → Each (Untied is_lower r) xs → RisesBy is_lower xs → RisesBy is_lower (put_by is_lower r xs)
put_rises r [] untied rises = (tt, tt)
put_rises r (x ∷ xs) untied rises =
    either (is_lower x r) (RisesBy is_lower (put_by is_lower r (x ∷ xs)))
    (λ yes. rw yes (each_in (λ y. is_lower x y ≡ true) r xs yes rises.0, put_rises r xs untied.1 rises.1))
    (λ above. (let low = below above untied.0 in
    rw above ((low, each_weaker (λ e. is_lower x e ≡ true) (λ e. is_lower r e ≡ true) (λ e k. onward r x e low k) xs rises.0), rises)))
  where
    below : is_lower x r ≡ false → Untied is_lower r x → is_lower r x ≡ true
    below above (inl h) = absurd (cc (above, h))
    below above (inr h) = h

pub sorted_rises : (rs : List AltEntry) → AreUntied is_lower rs → RisesBy is_lower (sorted_by is_lower rs)
sorted_rises [] untied = tt
sorted_rises (r ∷ rs) untied = put_rises r (sorted_by is_lower rs) (all_in (Untied is_lower r) rs untied.0) (sorted_rises rs untied.1)

put_long : (r : AltEntry) (xs : List AltEntry) → length (put_by is_lower r xs) ≡ suc (length xs)
put_long r [] = refl
put_long r (x ∷ xs) =
    either (is_lower x r) (length (put_by is_lower r (x ∷ xs)) ≡ suc (length (x ∷ xs)))
    (λ yes. rw yes (ap suc (put_long r xs)))
    (λ above. rw above refl)

sorted_long : (rs : List AltEntry) → length (sorted_by is_lower rs) ≡ length rs
sorted_long [] = refl
sorted_long (r ∷ rs) = put_long r (sorted_by is_lower rs) ∙ ap suc (sorted_long rs)

-- the same entries in another order are untied too
pub untied_in : (old new : List AltEntry) → Each (IsOneOf new) old → length old ≡ length new → AreUntied is_lower old → AreUntied is_lower new
untied_in old new all long untied =
    let rise = sorted_rises old untied in
    let same = (are_sorted is_lower onward itself decide (sorted_by is_lower old) new rise (all_in (IsOneOf new) old all)).are (sorted_long old ∙ long) in
    are_untied is_lower new (subst (RisesBy is_lower) (sym same) rise)

-- ---- where no entry is less than the one before it, and no two are tied, they rise

module _ (ord : Ranked → Ranked → Ordering) (gives : (a b : Ranked) → is_lower (entry_in a) (entry_in b) ≡ true → is_lt (ord a b) ≡ true) where
  pub sorted_rise : (xs : List Ranked) → ((k : ℕ) (d : Ranked) → suc k < length xs → is_lt (ord (slice_index_or xs (suc k) d) (slice_index_or xs k d)) ≡ false) → AreUntied is_lower (ranked_entries xs) → RanksRise (ranked_entries xs)
  sorted_rise [] sorted untied = tt
  sorted_rise (x ∷ []) sorted untied = (tt, tt)
  sorted_rise (x ∷ y ∷ xs) sorted untied =
      let rest = sorted_rise (y ∷ xs) (λ k d within. sorted (suc k) d (omega (arith, within))) untied.1 in
      let low = below (sorted 0 x (omega arith)) untied.0.0 in
      ((low, each_weaker (λ e. is_lower (entry_in y) e ≡ true) (λ e. is_lower (entry_in x) e ≡ true) (λ e h. onward (entry_in x) (entry_in y) e low h) (ranked_entries xs) rest.0), rest)
    where
      below : is_lt (ord y x) ≡ false → Untied is_lower (entry_in x) (entry_in y) → is_lower (entry_in x) (entry_in y) ≡ true
      below above (inl h) = (let low = gives y x h in absurd (cc (above, low)))
      below above (inr h) = h

-- ---- the order of the parts

abbrev pub parts_cmp : Ranked → Ranked → Ordering
parts_cmp a b = ordering_then (nat_cmp a.lead b.lead)
    (ordering_then (value_cmp a.value.now b.value.now) (ordering_then (nat_cmp a.stamp b.stamp) (value_cmp a.prime.now b.prime.now)))

-- what is less by its value, or alike and less by its stamp, is not greater by its value
no_greater : (v s : Ordering) → is_lt (ordering_then v s) ≡ true → v ≢ Greater
no_greater v s low above = let bad : is_lt (ordering_then Greater s) ≡ true = ap (λ (o : Ordering). is_lt (ordering_then o s)) (sym above) ∙ low in absurd (cc)

-- a first number that is no greater leaves it so
by_lead : (l v s p : Ordering) → l ≢ Greater → is_lt (ordering_then v s) ≡ true → is_lt (ordering_then l (ordering_then v (ordering_then s p))) ≡ true
by_lead Less v s p kept low = refl
by_lead Equal v s p kept low = grind (arith, common_steps)
by_lead Greater v s p kept low = absurd (kept refl)

no_less_number : (x y : ℕ) → x ≤ y → nat_cmp x y ≢ Greater
no_less_number x y within = by_order x y (nat_cmp x y ≢ Greater)
    (λ less above. let bad : Less ≡ Greater = nat_cmp_is x y Less less ∙ above in absurd (cc))
    (λ same above. let bad : Equal ≡ Greater = nat_cmp_is x y Equal same ∙ above in absurd (cc))
    (λ greater. absurd (omega (arith, within, greater)))

pub lower_parts : (a b : Ranked) → is_lower (entry_in a) (entry_in b) ≡ true → is_lt (parts_cmp a b) ≡ true
lower_parts a b low =
    let order = no_greater (value_cmp a.value.now b.value.now) (nat_cmp a.stamp b.stamp) low in
    let leads = lead_rises a.value.now b.value.now a.bytes b.bytes order in
    let within : a.lead ≤ b.lead = omega (arith, leads, a.led, b.led) in
    by_lead (nat_cmp a.lead b.lead) (value_cmp a.value.now b.value.now) (nat_cmp a.stamp b.stamp) (value_cmp a.prime.now b.prime.now) (no_less_number a.lead b.lead within) low
