-- One record more.
use Rattle.std.proofs.Common.{◌≡◌, ◌≤◌, ◌<◌, ℕ, zero, suc, ◌+◌, ◌-◌, Bool, true, false, List, [], ◌∷◌, ◌++◌, length, take, filter, Option, Some, Result, Ok, Err, refl, sym, ap, subst, ◌∙◌, arith}
use Rattle.std.specs.Prelude.{IsTrue, if◌then◌else◌}
use Rattle.arrayvec.specs.ArrayVec.{ArrayVec}
use Rattle.io_state.specs.declared.position.Position.{Position}
use Rattle.io_state.specs.declared.position.Position.TheVariants.{From, After}
use Rattle.record_layout.specs.Schema.{Schema}
use Rattle.indexed_file.specs.declared.answer.Found.{Found}
use Rattle.indexed_file.specs.File.{Row, File}
use Rattle.indexed_file.specs.Rank.{admits}
use Rattle.indexed_file.specs.World.{World, name_at, schema_at, file_at}
use Rattle.indexed_file.specs.Believed.{Believed}
use Rattle.indexed_file.specs.Shown.{Shown}
use Rattle.record_text.specs.declared.form.Form.{Form}
use Rattle.record_text.specs.Lines.{line_in}
use Rattle.record_listing.specs.declared.asked.Asked.{Asked}
use Rattle.record_listing.specs.declared.condition.Condition.{Condition}
use Rattle.record_listing.specs.Condition.{all_hold}
use Rattle.record_listing.specs.Lines.{lines_of_rows}
use Rattle.streams.specs.Output.{AppendsFront, HoldsText}
use Rattle.streams.specs.declared.output.Refused.{Refused}
use Rattle.record_listing.specs.Reading.{OnlyReadsUnit, rows_from, rows_asked, RowsGoOn, ComesNext, HoldsWhere, IsOnItsWay, IsWrittenInPart}
use Rattle.record_listing.proofs.EachLemmas.{few_filtered}
use Rattle.record_listing.proofs.ReadingLemmas.{none_done, one_more, refused_line}
use Rattle.record_listing.proofs.WorldLemmas.{still_true}

-- how the rows go on in the file as it was at first
pub goes_on : {S : Type 0} (shown : Shown S) (a b c : S) (k : ℕ) (to : Option (ArrayVec ℕ)) (position : Position) (area : List ℕ) (o : Option Found)
    → 0 < length (shown.world a).units → OnlyReadsUnit shown a b → OnlyReadsUnit shown b c → IsTrue (shown.is_honest c) → shown.IsShownTruly a (name_at (shown.world a) 0)
    → Believed shown 0 b c (RowsGoOn (schema_at (shown.world b) 0) (file_at (shown.world b) 0) k to position area o)
    → RowsGoOn (schema_at (shown.world a) 0) (file_at (shown.world a) 0) k to position area o
goes_on shown a b c k to position area o some first next honest truly goes =
    let before = next.keeps.honest honest in
    let true_then = still_true shown a b some first.world.only first.keeps before truly in
    subst (λ (w : World). RowsGoOn (schema_at w 0) (file_at w 0) k to position area o) (first.world.same before) (goes honest true_then)

-- the rows from a position on for which the conditions hold, so many at most
abbrev pub rest_of : Schema → File → ℕ → Option (ArrayVec ℕ) → List Condition → (room left : ℕ) → Position → List Row
rest_of schema file k to conditions room left position = take left (filter (λ row. all_hold conditions row.bytes) (rows_from schema file k to room position))

-- of the lines of these rows all are on their way but those of the rows from a position on, for which there is room
pub record AreToCome (form : Form) (rows : List Row) (schema : Schema) (file : File) (k : ℕ) (to : Option (ArrayVec ℕ)) (conditions : List Condition) (left : ℕ) (position : Position)
    (before now : Option (List ℕ)) (held : List ℕ) : Type 0 where
  pub room : ℕ
  pub enough : length (filter (admits schema k position) file.rows) ≤ room
  pub way : IsOnItsWay form rows (rest_of schema file k to conditions room left position) before now held

-- at first all are still to come
pub all_to_come : (form : Form) (schema : Schema) (file : File) (asked : Asked) (a : Option (List ℕ)) (held : List ℕ) → held ≡ []
    → AreToCome form (rows_asked schema file asked) schema file asked.key asked.to asked.conditions.items asked.first (From asked.from) a a held
all_to_come form schema file asked a held none = record {
  room = length file.rows;
  enough = few_filtered (admits schema asked.key (From asked.from)) file.rows;
  way = none_done form (rows_asked schema file asked) a held none;
}

none_taken : (n : ℕ) → take {A = Row} n [] ≡ []
none_taken zero = refl
none_taken (suc n) = refl

-- the first row for which a test holds is the first of those that are taken
first_taken : (test : Row → Bool) (left : ℕ) (row : Row) (others : List Row) → test row ≡ true → 0 < left → take left (filter test (row ∷ others)) ≡ row ∷ take (left - 1) (filter test others)
first_taken test zero row others holds some = absurd (omega (arith, some))
first_taken test (suc n) row others holds some =
    let e : n ≡ suc n - 1 = omega arith in
    rw holds (ap (λ (m : ℕ). row ∷ take m (filter test others)) e)

-- and any other is passed over
passed_over : (test : Row → Bool) (row : Row) (others : List Row) → test row ≡ false → filter test (row ∷ others) ≡ filter test others
passed_over test row others fails = rw fails refl

module _ (form : Form) (rows : List Row) (schema : Schema) (file : File) (k : ℕ) (to : Option (ArrayVec ℕ)) (conditions : List Condition) (left : ℕ) (position : Position) (a b : Option (List ℕ)) (held : List ℕ)
    (come : AreToCome form rows schema file k to conditions left position a b held) where
  abbrev test : Row → Bool
  test row = all_hold conditions row.bytes

  -- those that are not on their way
  pub some_rest : (rest : List Row) × IsOnItsWay form rows rest a b held
  some_rest = (rest_of schema file k to conditions come.room left position, come.way)

  -- as many are done as are asked for
  pub all_done : left ≤ 0 → IsOnItsWay form rows [] a b held
  all_done none =
      let e : left ≡ 0 = omega (arith, none) in
      subst (λ (rest : List Row). IsOnItsWay form rows rest a b held) (ap (λ (n : ℕ). rest_of schema file k to conditions come.room n position) e) come.way

  -- no row is left
  pub none_left : ((n : ℕ) → rows_from schema file k to n position ≡ []) → IsOnItsWay form rows [] a b held
  none_left none =
      subst (λ (rest : List Row). IsOnItsWay form rows rest a b held) (ap (λ (l : List Row). take left (filter test l)) (none come.room) ∙ none_taken left) come.way

  module _ (area : List ℕ) (found : Found) (next : ComesNext schema file k to position area found) where
    -- the next row is the first of them
    next_of : rows_from schema file k to come.room position ≡ next.row ∷ rows_from schema file k to (come.room - 1) (After found.key found.stamp)
    next_of =
        let enough = come.enough in
        let fewer = next.fewer in
        let e : come.room ≡ (come.room - 1) + 1 = omega (arith, enough, fewer) in
        ap (λ (m : ℕ). rows_from schema file k to m position) e ∙ next.rows (come.room - 1)

    enough_behind : length (filter (admits schema k (After found.key found.stamp)) file.rows) ≤ come.room - 1
    enough_behind = let enough = come.enough in let fewer = next.fewer in omega (arith, enough, fewer)

    first_way : all_hold conditions (take found.length area) ≡ true → 0 < left → IsOnItsWay form rows (next.row ∷ rest_of schema file k to conditions (come.room - 1) (left - 1) (After found.key found.stamp)) a b held
    first_way holds some =
        subst (λ (rest : List Row). IsOnItsWay form rows rest a b held)
        (ap (λ (l : List Row). take left (filter test l)) next_of
        ∙ first_taken test left next.row (rows_from schema file k to (come.room - 1) (After found.key found.stamp)) (subst (λ (bytes : List ℕ). all_hold conditions bytes ≡ true) next.bytes holds) some) come.way

    -- its line is on its way too, or it is passed over
    pub step : (listed : Bool) (c : Option (List ℕ)) (now : List ℕ) → 0 < left → HoldsWhere form conditions found.length area b c held now (Ok listed)
        → AreToCome form rows schema file k to conditions (if listed then left - 1 else left) (After found.key found.stamp) a c now
    step true c now some holds = record {
      room = come.room - 1;
      enough = enough_behind;
      way = one_more form rows (rest_of schema file k to conditions (come.room - 1) (left - 1) (After found.key found.stamp)) next.row a b c held now (first_way holds.0 some)
          (subst (λ (bytes : List ℕ). HoldsText b c held now (line_in form bytes)) next.bytes holds.1);
    }
    step false c now some holds =
        let rest = rest_of schema file k to conditions (come.room - 1) left (After found.key found.stamp) in
        let fails : test next.row ≡ false = subst (λ (bytes : List ℕ). all_hold conditions bytes ≡ false) next.bytes holds.0 in
        let others = rows_from schema file k to (come.room - 1) (After found.key found.stamp) in
        let same : rest_of schema file k to conditions come.room left position ≡ rest =
        ap (λ (l : List Row). take left (filter test l)) next_of ∙ ap (λ (l : List Row). take left l) (passed_over test next.row others fails) in
        let way = subst (λ (l : List Row). IsOnItsWay form rows l a b held) same come.way in
        record {
          room = come.room - 1;
          enough = enough_behind;
          way = subst (λ (l : List ℕ). IsOnItsWay form rows rest a c l) (sym holds.2) (subst (λ (o : Option (List ℕ)). IsOnItsWay form rows rest a o held) (sym holds.1) way);
        }

    -- the writer refused it, or what was held before
    pub step_refused : (c : Option (List ℕ)) (now : List ℕ) (refused : Refused) → 0 < left → HoldsWhere form conditions found.length area b c held now (Err refused) → IsWrittenInPart (lines_of_rows form rows) a c
    step_refused c now refused some holds =
        refused_line form rows (rest_of schema file k to conditions (come.room - 1) (left - 1) (After found.key found.stamp)) next.row a b c held (first_way holds.0 some)
        (subst (λ (bytes : List ℕ). AppendsFront b c (held ++ line_in form bytes)) next.bytes holds.1)
