-- The records of lines, read one after another.
use Rattle.std.proofs.Common.{◌≡◌, ◌≤◌, ◌<◌, ℕ, ◌+◌, true, List, [], ◌∷◌, ◌++◌, length, take, Option, Some, None, refl, sym, ap, ◌∙◌, subst, arith}
use Rattle.std.proofs.lemmas.Bool.{le-leb}
use Rattle.std.proofs.lemmas.List.{length-take-le, take-append-le, take_all}
use Rattle.indexed_file.specs.Sound.{is_length}
use Rattle.record_layout.specs.Schema.{Schema}
use Rattle.verbs.specs.Fits.{IsRecordOf}
use Rattle.record_text.specs.declared.mistake.LineMistake.{LineMistake}
use Rattle.record_loading.specs.LineForm.{LineForm, BeginsWith, BeginsWithNone, HasMistake, ReadsLineOf}
use Rattle.record_loading.specs.LineRecords.{BeginsWithRecords, IsWrongIfMet, LineReading, HasReadLines, ReadsLinesOn}
use Rattle.record_loading.specs.Passing.{CanBeRecord}
use Rattle.record_loading.proofs.HeaderLemmas.{begins_some}

-- a record has a length of its file
pub is_length_of : (schema : Schema) (n : ℕ) → schema.least ≤ n → n ≤ schema.greatest → is_length schema n ≡ true
is_length_of schema n low high =
    let at_least = le-leb schema.least n low in
    let at_most = le-leb n schema.greatest high in
    rw (at_least, at_most) refl

-- the bytes that a list begins with, if they are all that is wanted
pub all_taken : (bytes tail : List ℕ) (n : ℕ) → n ≡ length bytes → take n (bytes ++ tail) ≡ bytes
all_taken bytes tail n is = take-append-le n bytes tail (omega (arith, is)) ∙ take_all n bytes (omega (arith, is))

-- before the first line
pub none_read : (lines : List ℕ) (now : LineReading) → now.rest ≡ lines → now.given ≡ [] → now.mistake ≡ None → HasReadLines lines now
none_read lines now rest given none = record {
  begins = subst (λ (records : List (List ℕ)). BeginsWithRecords now.schema now.form lines records now.rest) (sym given) rest;
  wrong = subst (λ (mistake : Option LineMistake). IsWrongIfMet now.schema now.form now.rest mistake) (sym none) tt;
}

-- so for a schema and in a form
pub read_in : (lines : List ℕ) (now : LineReading) (schema : Schema) (form : LineForm) → now.schema ≡ schema → now.form ≡ form → HasReadLines lines now
    → HasReadLines lines (record { schema = schema; form = form; given = now.given; rest = now.rest; mistake = now.mistake })
read_in lines now schema form schema_is form_is is =
    subst (λ (s : Schema). HasReadLines lines (record { schema = s; form = form; given = now.given; rest = now.rest; mistake = now.mistake })) schema_is
    (subst (λ (f : LineForm). HasReadLines lines (record { schema = now.schema; form = f; given = now.given; rest = now.rest; mistake = now.mistake })) form_is
    (record { begins = is.begins; wrong = is.wrong }))

-- one record more was read
pub one_more : (schema : Schema) (form : LineForm) (records : List (List ℕ)) (text rest bytes after : List ℕ) → BeginsWithRecords schema form text records rest
    → BeginsWith form.pad form.form schema.greatest rest bytes after → CanBeRecord schema bytes → BeginsWithRecords schema form text (records ++ bytes ∷ []) after
one_more schema form [] text rest bytes after is line can_be =
    (after, subst (λ (l : List ℕ). BeginsWith form.pad form.form schema.greatest l bytes after) is line, can_be, refl)
one_more schema form (first ∷ records) text rest bytes after (between, begins, first_can_be, more) line can_be =
    (between, begins, first_can_be, one_more schema form records between rest bytes after more line can_be)

-- each line has some bytes
pub not_more_records : (schema : Schema) (form : LineForm) (records : List (List ℕ)) (text rest : List ℕ) → BeginsWithRecords schema form text records rest → length records + length rest ≤ length text
not_more_records schema form [] text rest is = let same = ap (λ (l : List ℕ). length l) is in omega (arith, same)
not_more_records schema form (bytes ∷ records) text rest (after, begins, can_be, more) =
    let fewer = not_more_records schema form records after rest more in
    let some = begins_some form.pad form.form schema.greatest text bytes after begins in
    omega (arith, fewer, some)

-- what a line that was read gives
module _ (now : LineReading) (area area_now : List ℕ) (n : ℕ) (after : List ℕ) (long : length area ≡ now.schema.greatest) (same : length area_now ≡ length area)
    (read : ReadsLineOf now.form now.rest now.schema.least area area_now n after) where
  abbrev pub latest : List ℕ
  latest = take n area_now

  latest_long : length latest ≡ n
  latest_long = length-take-le n area_now (let within = read.within in omega (arith, within, same))

  record_of : IsRecordOf now.schema latest
  record_of = record {
    least = (let low = read.long in omega (arith, low, latest_long));
    greatest = (let high = read.within in omega (arith, high, long, latest_long));
  }

  pub latest_is_long : is_length now.schema (length latest) ≡ true
  latest_is_long = is_length_of now.schema (length latest) record_of.least record_of.greatest

  pub read_on : now.mistake ≡ None → (given : List (List ℕ)) → given ≡ now.given ++ latest ∷ [] → ReadsLinesOn now (record { schema = now.schema; form = now.form; given = given; rest = after; mistake = now.mistake })
  read_on none given given_is = record {
    schema_is = refl;
    form_is = refl;
    reads = λ lines is. record {
      begins = subst (λ (records : List (List ℕ)). BeginsWithRecords now.schema now.form lines records after) (sym given_is) (one_more now.schema now.form now.given lines now.rest latest after is.begins
          (subst (λ (greatest : ℕ). BeginsWith now.form.pad now.form.form greatest now.rest latest after) long read.begins)
          (record { are_bytes = read.are_bytes; length_is = record_of }));
      wrong = subst (λ (mistake : Option LineMistake). IsWrongIfMet now.schema now.form after mistake) (sym none) tt;
    };
  }

-- a line that is no record's was met
pub wrong_met : (now : LineReading) (mistake : LineMistake) → 0 < length now.rest → BeginsWithNone now.form.pad now.form.form now.rest now.schema.least now.schema.greatest
    → HasMistake now.form.pad now.form.form now.rest now.schema.least now.schema.greatest mistake
    → ReadsLinesOn now (record { schema = now.schema; form = now.form; given = now.given; rest = now.rest; mistake = Some mistake })
wrong_met now mistake some none wrong = record {
  schema_is = refl;
  form_is = refl;
  reads = λ lines is. record { begins = is.begins; wrong = record { some = some; none = none; wrong = wrong } };
}
