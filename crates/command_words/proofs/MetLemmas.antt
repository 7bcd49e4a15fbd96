-- The subcommand that a parse met, and its values.
use Rattle.std.proofs.Common.{◌≡◌, ◌↔◌, List, [], map, unwrap_or, Option, Some, None, option_map, IsSome, refl, sym, ap, ap₂, ◌∙◌, Bor}
use Rattle.std.proofs.lemmas.Bool.{false≢true}
use Rattle.std.specs.Option.{IfSome}
use Rattle.clap.specs.Words.{Text, Row, all_of, first_of, found_of, matched_of, raw_values, first_value, rows_of, subcommand_name_of, subcommand_rows_of}
use Rattle.clap.specs.declared.parser.matches.ArgMatches.{ArgMatches}
use Rattle.clap.specs.declared.parser.matches.ArgMatches.TheViews.{out-ArgMatches}
use Rattle.clap.specs.declared.parser.matches.Found.{Found}
use Rattle.clap.proofs.WalkLemmas.{first_value-rows, raw_values-rows}

pub some_not_none : {X : Type 0} {x : X} → Some x ≡ None → ⊥
some_not_none e = cc

some_same : {X : Type 0} (x y : X) → Some x ≡ Some y → x ≡ y
some_same x y e = cc

-- a value that may be there, seen as two parts
module _ {X : Type 0} (f : X → Text) (g : X → List Row) where
  joined : (o : Option X) (name : Text) (rows : List Row) → option_map f o ≡ Some name → option_map (λ (p : Text × List Row). p.1) (option_map {U = Text × List Row} (λ x. (f x, g x)) o) ≡ Some rows
      → option_map {U = Text × List Row} (λ x. (f x, g x)) o ≡ Some (name, rows)
  joined None name rows n r = absurd (cc)
  joined (Some x) name rows n r = ap Some (ap₂ (λ (a : Text) (b : List Row). (a, b)) (some_same (f x) name n) (some_same (g x) rows r))

  first_part : (o : Option X) (name : Text) (rows : List Row) → option_map {U = Text × List Row} (λ x. (f x, g x)) o ≡ Some (name, rows) → option_map f o ≡ Some name
  first_part None name rows e = ap (option_map (λ (p : Text × List Row). p.0)) e
  first_part (Some x) name rows e = ap (option_map (λ (p : Text × List Row). p.0)) e

-- the subcommand of a name, where one was met
pub met_some : (m : ArgMatches) (name : Text) (found : Option (Bor ArgMatches)) → (IsSome found ↔ (subcommand_name_of m ≡ Some name))
    → IfSome found (λ it. option_map (λ (p : Text × List Row). p.1) (subcommand_rows_of m) ≡ Some (rows_of (found_of it.now)))
    → IfSome found (λ it. subcommand_rows_of m ≡ Some (name, rows_of (found_of it.now)))
met_some m name None is rows = tt
met_some m name (Some it) is rows = joined _ _ (out-ArgMatches m).subcommand name (rows_of (found_of it.now)) (is.0 refl) rows

pub met_none : (m : ArgMatches) (name : Text) (found : Option (Bor ArgMatches)) → (IsSome found ↔ (subcommand_name_of m ≡ Some name)) → found ≡ None
    → (rows : List Row) → subcommand_rows_of m ≡ Some (name, rows) → ⊥
met_none m name found is none rows met =
    let some : IsSome found = is.1 (first_part _ _ (out-ArgMatches m).subcommand name rows met) in
    absurd (false≢true (rw none at some))

-- the rows are those
pub same_rows : {met : Option (Text × List Row)} {name : Text} {rows other : List Row} → met ≡ Some (name, rows) → met ≡ Some (name, other) → other ≡ rows
same_rows is was = ap (λ (p : Text × List Row). p.1) (some_same _ _ (sym was ∙ is))

-- a text that was read
pub text_read : (f : Found) (id : Text) (text : Option Text) → text ≡ first_value f id → first_of id (rows_of f) ≡ text
text_read f id text e = sym (first_value-rows f id) ∙ sym e

-- none was read
pub no_text : (f : Found) (id : Text) (read : Option (Bor Text)) → option_map (λ s. s.now) read ≡ first_value f id → read ≡ None
    → (rows : List Row) → rows ≡ rows_of f → (text : Text) → first_of id rows ≡ Some text → ⊥
no_text f id read e none rows same text given =
    let absent : None ≡ first_value f id = rw none at e in
    let first : first_of id rows ≡ None = rw same (text_read f id None absent) in
    let bad : Some text ≡ None = sym given ∙ first in
    absurd (cc)

-- the texts of all uses that were read
pub texts_read : (f : Found) (id : Text) (read : Option (Bor (List (Bor Text)))) → option_map (λ s. map (λ v. v.now) s.now) read ≡ option_map raw_values (matched_of f id)
    → (texts : Bor (List (Bor Text))) → read ≡ Some texts → all_of id (rows_of f) ≡ Some (map (λ v. v.now) texts.now)
texts_read f id read e texts is = sym (raw_values-rows f id) ∙ sym e ∙ ap (λ (o : Option (Bor (List (Bor Text)))). option_map (λ s. map (λ v. v.now) s.now) o) is

-- none was read
pub no_texts : (f : Found) (id : Text) (read : Option (Bor (List (Bor Text)))) → option_map (λ s. map (λ v. v.now) s.now) read ≡ option_map raw_values (matched_of f id) → read ≡ None
    → (rows : List Row) → rows ≡ rows_of f → (texts : List Text) → all_of id rows ≡ Some texts → ⊥
no_texts f id read e none rows same texts given =
    let absent : None ≡ option_map raw_values (matched_of f id) = rw none at e in
    let found : all_of id rows ≡ None = rw same (sym (raw_values-rows f id) ∙ sym absent) in
    let bad : Some texts ≡ None = sym given ∙ found in
    absurd (cc)

-- the texts of all uses that were read, or none where there are none
pub all_read : (f : Found) (id : Text) (read : Option (Bor (List (Bor Text)))) → option_map (λ s. map (λ v. v.now) s.now) read ≡ option_map raw_values (matched_of f id)
    → unwrap_or (all_of id (rows_of f)) [] ≡ unwrap_or (option_map (λ s. map (λ v. v.now) s.now) read) []
all_read f id read e = ap (λ (o : Option (List Text)). unwrap_or o []) (sym (raw_values-rows f id) ∙ sym e)
