-- The rows that READ NEXT gives, one after another, are those that are asked for.
use Rattle.std.proofs.Common.{◌≡◌, ◌⊎◌, inl, inr, ◌≤◌, ◌<◌, ℕ, zero, suc, Bool, true, false, not, List, [], ◌∷◌, length, take, drop, filter, Option, Some, None, option_map, refl, sym, ap, subst, ◌∙◌, add-one, arith}
use Rattle.std.specs.Prelude.{IsTrue}
use Rattle.std.specs.Ordering.{is_lt}
use Rattle.std.proofs.lemmas.Bool.{and_parts, and_from}
use Rattle.arrayvec.specs.ArrayVec.{ArrayVec}
use Rattle.pages.specs.Each.{Each}
use Rattle.io_state.specs.declared.position.Position.{Position}
use Rattle.io_state.specs.declared.position.Position.TheVariants.{Invalid, Missing, From, After}
use Rattle.io_state.specs.declared.modes.Relation.TheVariants.{NotLess}
use Rattle.record_layout.specs.Schema.{Schema, value_of}
use Rattle.std.proofs.Math.Seq.{take-append_seam}
use Rattle.indexed_file.specs.declared.answer.Found.{Found}
use Rattle.indexed_file.specs.Answers.{found_of, area_after}
use Rattle.indexed_file.specs.File.{Row, File}
use Rattle.indexed_file.specs.Rank.{row_cmp, least, admits, satisfies}
use Rattle.indexed_file.specs.Sound.{is_file}
use Rattle.indexed_file.proofs.TestLemmas.{either}
use Rattle.record_listing.specs.declared.asked.Asked.{Asked}
use Rattle.indexed_file.specs.Laws.{IsOf}
use Rattle.record_listing.specs.Condition.{all_hold}
use Rattle.record_listing.specs.Listed.{is_past, is_row_within, ComesBefore, Rise, AreListed}
use Rattle.record_listing.specs.Reading.{behind_row, comes_behind, rows_from, rows_asked, ComesNext}
use Rattle.indexed_file.proofs.RankLemmas.{row_total, gt_back, not_self, differ}
use Rattle.record_listing.proofs.RankLemmas.{admits_up, past_up, front_from}
use Rattle.indexed_file.proofs.LeastLemmas.{least_is, none_passes}
use Rattle.record_listing.proofs.EachLemmas.{each_weaker, each_take, each_filter, few_taken, few_filtered, in_filter, some_pass, fewer, rise_filter, rise_take, in_front}
use Rattle.record_listing.proofs.ApartLemmas.{one_row}

-- ---- one step

module _ (schema : Schema) (file : File) (k : ℕ) (to : Option (ArrayVec ℕ)) (position : Position) where
  -- there is no next row
  pub no_next : (n : ℕ) → least schema k (admits schema k position) file ≡ None → rows_from schema file k to n position ≡ []
  unfolding rows_from
  no_next zero none = refl
  no_next (suc n) none = rw none refl

  -- the next row is past the bound
  pub next_past : (n : ℕ) (row : Row) → least schema k (admits schema k position) file ≡ Some row → is_past to (value_of schema k row.bytes) ≡ true → rows_from schema file k to n position ≡ []
  unfolding rows_from
  next_past zero row is past = refl
  next_past (suc n) row is past = rw is (rw past refl)

  -- the next row is the first
  pub next_first : (n : ℕ) (row : Row) → least schema k (admits schema k position) file ≡ Some row → is_past to (value_of schema k row.bytes) ≡ false
      → rows_from schema file k to (suc n) position ≡ row ∷ rows_from schema file k to n (behind_row schema k row)
  unfolding rows_from
  next_first n row is within = rw is (rw within refl)

  pub no_more : rows_from schema file k to zero position ≡ []
  unfolding rows_from
  no_more = refl

-- ---- what was found

-- a row is behind another
is_behind : (schema : Schema) (k : ℕ) (first row : Row) → admits schema k (behind_row schema k first) row ≡ true → is_lt (row_cmp schema k first row) ≡ true
is_behind schema k first row is = sym (gt_back (row_cmp schema k) (row_total schema k) row first) ∙ is

-- the position behind a row does not admit it
not_again : (schema : Schema) (k : ℕ) (row : Row) → admits schema k (behind_row schema k row) row ≡ false
not_again schema k row = gt_back (row_cmp schema k) (row_total schema k) row row ∙ not_self (row_cmp schema k) (row_total schema k) row

-- so it admits fewer
fewer_behind : (schema : Schema) (file : File) (k : ℕ) (position : Position) (first : Row) → least schema k (admits schema k position) file ≡ Some first
    → length (filter (admits schema k (behind_row schema k first)) file.rows) < length (filter (admits schema k position) file.rows)
fewer_behind schema file k position first is =
    let l = least_is schema k (admits schema k position) file first is in
    fewer (admits schema k (behind_row schema k first)) (admits schema k position) (λ row one. admits_up schema k position first row l.passes (is_behind schema k first row one)) file.rows first l.there
    (not_again schema k first) l.passes

from_some : {X : Type 0} (x y : X) → Some x ≡ Some y → x ≡ y
from_some x y e = cc

module _ (schema : Schema) (file : File) (k : ℕ) (to : Option (ArrayVec ℕ)) (position : Position) (old area : List ℕ) (found : Found) where
  first_found : (row : Row) → least schema k (admits schema k position) file ≡ Some row → found ≡ found_of schema k file row → area ≡ area_after old (Some row) → is_past to found.key.items ≡ false
      → ComesNext schema file k to position area found
  first_found row is same read within =
      let near : is_past to (value_of schema k row.bytes) ≡ false = subst (λ (f : Found). is_past to f.key.items ≡ false) same within in
      subst (ComesNext schema file k to position area) (sym same) (record {
        row = row;
        bytes = ap (λ (l : List ℕ). take (length row.bytes) l) read ∙ take-append_seam row.bytes (drop (length row.bytes) old);
        rows = λ n. subst (λ (m : ℕ). rows_from schema file k to m position ≡ row ∷ rows_from schema file k to n (behind_row schema k row)) (sym (add-one n)) (next_first schema file k to position n row is near);
        fewer = fewer_behind schema file k position row is;
      })

  -- a record that was found is the first
  pub found_first : Some found ≡ option_map (found_of schema k file) (least schema k (admits schema k position) file) → area ≡ area_after old (least schema k (admits schema k position) file) → is_past to found.key.items ≡ false
      → ComesNext schema file k to position area found
  found_first is read within = by (least schema k (admits schema k position) file) refl is read
    where
      by : (o : Option Row) → least schema k (admits schema k position) file ≡ o → Some found ≡ option_map (found_of schema k file) o → area ≡ area_after old o → ComesNext schema file k to position area found
      by None e s r = absurd (cc)
      by (Some row) e s r = first_found row e (from_some _ _ s) r within

  -- where it is past the bound, there is none
  pub found_past : Some found ≡ option_map (found_of schema k file) (least schema k (admits schema k position) file) → is_past to found.key.items ≡ true → (n : ℕ) → rows_from schema file k to n position ≡ []
  found_past is past n = by (least schema k (admits schema k position) file) refl is
    where
      by : (o : Option Row) → least schema k (admits schema k position) file ≡ o → Some found ≡ option_map (found_of schema k file) o → rows_from schema file k to n position ≡ []
      by None e s = absurd (cc)
      by (Some row) e s = next_past schema file k to position n row e (subst (λ (f : Found). is_past to f.key.items ≡ true) (from_some _ _ s) past)

-- a row that a position admits is behind that of the position
behind_of : (schema : Schema) (file : File) (k : ℕ) (position : Position) (row : Row) → admits schema k position row ≡ true → comes_behind position (found_of schema k file row) ≡ true
behind_of schema file k Invalid row is = refl
behind_of schema file k Missing row is = refl
behind_of schema file k (From value) row is = refl
behind_of schema file k (After value stamp) row is = is

-- so is a record that was found
pub found_behind : (schema : Schema) (file : File) (k : ℕ) (position : Position) (found : Found) → Some found ≡ option_map (found_of schema k file) (least schema k (admits schema k position) file) → comes_behind position found ≡ true
found_behind schema file k position found is = by (least schema k (admits schema k position) file) refl is
  where
    by : (o : Option Row) → least schema k (admits schema k position) file ≡ o → Some found ≡ option_map (found_of schema k file) o → comes_behind position found ≡ true
    by None e s = absurd (cc)
    by (Some row) e s =
        subst (λ (f : Found). comes_behind position f ≡ true) (sym (from_some _ _ s))
        (behind_of schema file k position row (least_is schema k (admits schema k position) file row e).passes)

-- so what is not behind it was not found
pub not_behind : (schema : Schema) (file : File) (k : ℕ) (position : Position) (found : Found) → Some found ≡ option_map (found_of schema k file) (least schema k (admits schema k position) file) → comes_behind position found ≡ false → ⊥
not_behind schema file k position found is other =
    let yes = found_behind schema file k position found is in absurd (cc)

-- where none was found, there is none
pub none_found : (schema : Schema) (file : File) (k : ℕ) (to : Option (ArrayVec ℕ)) (position : Position) → None ≡ option_map (found_of schema k file) (least schema k (admits schema k position) file) → (n : ℕ) → rows_from schema file k to n position ≡ []
none_found schema file k to position is n = by (least schema k (admits schema k position) file) refl is
  where
    by : (o : Option Row) → least schema k (admits schema k position) file ≡ o → None ≡ option_map (found_of schema k file) o → rows_from schema file k to n position ≡ []
    by None e s = no_next schema file k to position n e
    by (Some row) e s = absurd (cc)

-- ---- all rows

module _ (schema : Schema) (file : File) (k : ℕ) (to : Option (ArrayVec ℕ)) (lt : k < length schema.keys) (sound : is_file schema file ≡ true) where
  abbrev IsIn : Position → Row → Type 0
  IsIn position row = IsOf file.rows row × (admits schema k position row ≡ true) × (is_past to (value_of schema k row.bytes) ≡ false)

  abbrev Whole : ℕ → Position → List Row → Type 0
  Whole n position rows = (row : Row) → IsIn position row → IsOf rows row ⊎ ((length rows ≡ n) × Each (λ other. ComesBefore schema k other row) rows)

  -- what is so of so many rows from a position on
  record AreFrom (n : ℕ) (position : Position) (rows : List Row) : Type 0 where
    within : Each (IsIn position) rows
    rise : Rise schema k rows
    few : length rows ≤ n
    whole : Whole n position rows

  behind_is : (first row : Row) → is_lt (row_cmp schema k first row) ≡ true → admits schema k (behind_row schema k first) row ≡ true
  behind_is first row low = gt_back (row_cmp schema k) (row_total schema k) row first ∙ low

  none_from : (n : ℕ) (position : Position) → least schema k (admits schema k position) file ≡ None → AreFrom n position []
  none_from n position none = record { within = tt; rise = tt; few = omega arith; whole = λ row is. absurd (none_passes schema k (admits schema k position) file row none is.0 is.1) }

  past_from : (n : ℕ) (position : Position) (first : Row) → least schema k (admits schema k position) file ≡ Some first → is_past to (value_of schema k first.bytes) ≡ true → AreFrom n position []
  past_from n position first is past =
      let l = least_is schema k (admits schema k position) file first is in
      record { within = tt; rise = tt; few = omega arith; whole = λ row one. absurd (differ (past_up schema k to first row past (l.least row one.0 one.1)) one.2) }

  more_from : (n : ℕ) (position : Position) (first : Row) (rows : List Row) → least schema k (admits schema k position) file ≡ Some first → is_past to (value_of schema k first.bytes) ≡ false
      → AreFrom n (behind_row schema k first) rows → AreFrom (suc n) position (first ∷ rows)
  more_from n position first rows is within rest =
      let l = least_is schema k (admits schema k position) file first is in
      let up : (row : Row) → IsIn (behind_row schema k first) row → IsIn position row =
      λ row one. (one.0, admits_up schema k position first row l.passes (is_behind schema k first row one.1), one.2) in
      let later : Each (ComesBefore schema k first) rows = each_weaker (IsIn (behind_row schema k first)) (ComesBefore schema k first) (λ row one. is_behind schema k first row one.1) rows rest.within in
      record {
        within = ((l.there, l.passes, within), each_weaker (IsIn (behind_row schema k first)) (IsIn position) up rows rest.within);
        rise = (later, rest.rise);
        few = (let fewer = rest.few in omega (arith, fewer));
        whole = λ row one.
            either (is_lt (row_cmp schema k first row)) (IsOf (first ∷ rows) row ⊎ ((length (first ∷ rows) ≡ suc n) × Each (λ other. ComesBefore schema k other row) (first ∷ rows)))
            (λ yes. elim (rest.whole row (one.0, behind_is first row yes, one.2)) [ inl there ↦ inl (inr there) | inr more ↦ inr (ap suc more.0, (yes, more.1)) ])
            (λ no. inl (inl (one_row schema k file row first lt sound one.0 l.there (l.least row one.0 one.1) no)));
      }

  are_from : (n : ℕ) (position : Position) → AreFrom n position (rows_from schema file k to n position)
  are_from zero position = subst (AreFrom zero position) (sym (no_more schema file k to position)) (record { within = tt; rise = tt; few = omega arith; whole = λ row one. inr (refl, tt) })
  are_from (suc n) position = by (λ other. are_from n other) (least schema k (admits schema k position) file) refl
    where
      by : ((other : Position) → AreFrom n other (rows_from schema file k to n other)) → (o : Option Row) → least schema k (admits schema k position) file ≡ o → AreFrom (suc n) position (rows_from schema file k to (suc n) position)
      by more None none = subst (AreFrom (suc n) position) (sym (no_next schema file k to position (suc n) none)) (none_from (suc n) position none)
      by more (Some first) is =
          either (is_past to (value_of schema k first.bytes)) (AreFrom (suc n) position (rows_from schema file k to (suc n) position))
          (λ past. subst (AreFrom (suc n) position) (sym (next_past schema file k to position (suc n) first is past)) (past_from (suc n) position first is past))
          (λ within. subst (AreFrom (suc n) position) (sym (next_first schema file k to position n first is within)) (more_from n position first _ is within (more (behind_row schema k first))))

  -- where there is room for all that the position admits, all are there
  complete : (n : ℕ) (position : Position) → length (filter (admits schema k position) file.rows) ≤ n → (row : Row) → IsIn position row → IsOf (rows_from schema file k to n position) row
  complete zero position room row one = absurd (some_pass (admits schema k position) file.rows row one.0 one.1 room)
  complete (suc n) position room row one = by (λ other enough more. complete n other enough row more) (least schema k (admits schema k position) file) refl
    where
      by : ((other : Position) → length (filter (admits schema k other) file.rows) ≤ n → IsIn other row → IsOf (rows_from schema file k to n other) row)
          → (o : Option Row) → least schema k (admits schema k position) file ≡ o → IsOf (rows_from schema file k to (suc n) position) row
      by more None none = absurd (none_passes schema k (admits schema k position) file row none one.0 one.1)
      by more (Some first) is =
          let l = least_is schema k (admits schema k position) file first is in
          let room_behind = fewer_behind schema file k position first is in
          either (is_past to (value_of schema k first.bytes)) (IsOf (rows_from schema file k to (suc n) position) row)
          (λ past. absurd (differ (past_up schema k to first row past (l.least row one.0 one.1)) one.2))
          (λ within. subst (λ (rows : List Row). IsOf rows row) (sym (next_first schema file k to position n first is within))
          (either (is_lt (row_cmp schema k first row)) (IsOf (first ∷ rows_from schema file k to n (behind_row schema k first)) row)
          (λ yes. inr (more (behind_row schema k first) (omega (arith, room, room_behind)) (one.0, behind_is first row yes, one.2)))
          (λ no. inl (one_row schema k file row first lt sound one.0 l.there (l.least row one.0 one.1) no))))

-- ---- those that are asked for

not_true : (b : Bool) → b ≡ false → not b ≡ true
not_true b e = rw e refl

true_not : (b : Bool) → not b ≡ true → b ≡ false
true_not true e = absurd (cc)
true_not false e = refl

-- they are the first of those between the bounds for which the conditions hold
pub are_listed : (schema : Schema) (file : File) (asked : Asked) → asked.key < length schema.keys → is_file schema file ≡ true → AreListed schema file asked (rows_asked schema file asked)
are_listed schema file asked lt sound =
    let k = asked.key in
    let from = From asked.from in
    let between = rows_from schema file k asked.to (length file.rows) from in
    let test : Row → Bool = λ row. all_hold asked.conditions.items row.bytes in
    let all = are_from schema file k asked.to lt sound (length file.rows) from in
    let start : (row : Row) → satisfies schema k NotLess asked.from.items row ≡ admits schema k from row =
    λ row. front_from (value_of schema k row.bytes) asked.from.items in
    let held = each_filter (IsIn schema file k asked.to lt sound from) test between all.within in
    let rise = rise_filter schema k test between all.rise in
    record {
      within = each_take _ asked.first (filter test between)
          (each_weaker (λ row. IsIn schema file k asked.to lt sound from row × (test row ≡ true)) (λ row. IsOf file.rows row × IsTrue (is_row_within schema asked row))
          (λ row one. (one.0.0, and_from _ _ (and_from _ _ (start row ∙ one.0.1) (not_true _ one.0.2)) one.1)) (filter test between) held);
      rise = rise_take schema k asked.first (filter test between) rise;
      few = few_taken asked.first (filter test between);
      whole = λ row there within.
          (let outer = and_parts _ _ within in
          let parts = and_parts _ _ outer.0 in
          let one = complete schema file k asked.to lt sound (length file.rows) from (few_filtered (admits schema k from) file.rows) row (there, sym (start row) ∙ parts.0, true_not _ parts.1) in
          in_front schema k asked.first (filter test between) row rise (in_filter test between row one outer.1));
    }
