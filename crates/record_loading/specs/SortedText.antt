-- A text whose lines are sorted by the values of the prime key. All of this is ours.
use Rattle.std.specs.Prelude.{◌≡◌, ◌⊎◌, ◌<◌, ℕ, Bool, List, [], ◌∷◌, ◌++◌, length, flat_map, Option, Some, None, option_map}
use Rattle.std.specs.List.Sorted.{IsPermutation, IsSortedBy, IsStableBy}
use Rattle.std.specs.Ordering.{is_lt}
use Rattle.std.specs.declared.cmp.Ordering.{Ordering}
use Rattle.std.specs.declared.cmp.Ordering.TheVariants.{Less, Equal, Greater}
use Rattle.io_state.specs.Rank.{value_cmp}
use Rattle.record_layout.specs.Schema.{Schema, prime_of}
use Rattle.record_text.specs.Lines.{form_header}
use Rattle.record_text.specs.Header.{LacksHeader}
use Rattle.record_loading.specs.LineForm.{LineForm, BeginsWith, BeginsWithNone}
use Rattle.record_loading.specs.Passing.{CanBeRecord, behind_line}
use Rattle.record_loading.specs.declared.sorting.TextLine.{TextLine}

-- ---- the lines of a text

-- the first line of a text is that of a record, which has this prime value
pub record IsRecordLine (schema : Schema) (form : LineForm) (prime text behind : List ℕ) : Type 0 where
  pub bytes : List ℕ
  pub begins : BeginsWith form.pad form.form schema.greatest text bytes behind
  pub can_be : CanBeRecord schema bytes
  pub prime_is : prime ≡ prime_of schema bytes

-- the first line of a text is that of no record: it goes up to its LF
pub record IsOtherLine (schema : Schema) (form : LineForm) (text behind : List ℕ) : Type 0 where
  pub none : BeginsWithNone form.pad form.form text schema.least schema.greatest
  pub behind_is : behind ≡ behind_line text

-- the prime value of the record of a line, or none where it is the line of no record
abbrev pub prime_in : TextLine → Option (List ℕ)
prime_in line = option_map (λ prime. prime.items) line.prime

-- so the first line is that has this prime value, or none
abbrev pub IsLineWith : Schema → LineForm → (prime : Option (List ℕ)) → (text behind : List ℕ) → Type 0
IsLineWith schema form (Some prime) text behind = IsRecordLine schema form prime text behind
IsLineWith schema form None text behind = IsOtherLine schema form text behind

-- a text has a first line, which is this one
pub record IsLineAtFront (schema : Schema) (form : LineForm) (line : TextLine) (text behind : List ℕ) : Type 0 where
  pub some : length behind < length text
  pub whole : text ≡ line.line.now ++ behind
  pub with_prime : IsLineWith schema form (prime_in line) text behind

-- the lines of a text are these, one after another
abbrev pub AreTextLines : Schema → LineForm → List TextLine → (text : List ℕ) → Type 0
AreTextLines schema form [] text = text ≡ []
AreTextLines schema form (line ∷ lines) text =
    (behind : List ℕ) × IsLineAtFront schema form line text behind × AreTextLines schema form lines behind

-- ---- their order

-- by the prime values of their records; lines of no record come after those
abbrev pub line_cmp : Option (List ℕ) → Option (List ℕ) → Ordering
line_cmp (Some prime) (Some other) = value_cmp prime other
line_cmp (Some prime) None = Less
line_cmp None (Some other) = Greater
line_cmp None None = Equal

-- one line comes before another one, wherever the two stand
abbrev pub stands_before : TextLine → TextLine → Bool
stands_before line other = is_lt (line_cmp (prime_in line) (prime_in other))

-- the same lines, each as often, in their order: those of one value, and those of no record, stand as they stood
pub record AreSorted (lines sorted : List TextLine) : Type 0 where
  pub same : IsPermutation lines sorted
  pub in_order : IsSortedBy stands_before sorted
  pub stable : IsStableBy stands_before lines sorted

-- ---- the text

-- a text is that of sorted lines, below what stands before the first line
pub record HasSortedLines (schema : Schema) (form : LineForm) (text sorted_text : List ℕ) : Type 0 where
  pub rest : List ℕ
  pub lines : List TextLine
  pub sorted : List TextLine
  pub text_is : text ≡ form_header form.form ++ rest
  pub are_lines : AreTextLines schema form lines rest
  pub are_sorted : AreSorted lines sorted
  pub sorted_is : sorted_text ≡ form_header form.form ++ flat_map (λ line. line.line.now) sorted

-- a text that does not begin with what stands before the first line is as it was
pub record IsWithoutHeader (form : LineForm) (text sorted_text : List ℕ) : Type 0 where
  pub lacks : LacksHeader form.form text
  pub same : sorted_text ≡ text

-- a text, sorted
abbrev pub IsSortedText : Schema → LineForm → (text sorted_text : List ℕ) → Type 0
IsSortedText schema form text sorted_text =
    HasSortedLines schema form text sorted_text ⊎ IsWithoutHeader form text sorted_text
