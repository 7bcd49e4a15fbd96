-- The truth values that are read of flags.
use Rattle.std.proofs.Common.{◌≡◌, Bool, true, false, List, Option, Some, None, Ok, Err, refl, sym, ◌∙◌}
use Rattle.std.specs.Prelude.{codes}
use Rattle.std.specs.Option.{IfSome}
use Rattle.std.specs.Str.Parse.{ParsesBool}
use Rattle.std.specs.declared.str.ParseBoolError.{ParseBoolError}
use Rattle.clap.specs.Words.{Row, Text, one_of, one_text, rows_of}
use Rattle.clap.specs.Matches.{ReadsOne}
use Rattle.clap.specs.declared.parser.matches.Found.{Found}
use Rattle.clap.proofs.WalkLemmas.{one_text-rows}
use Rattle.command_words.specs.Asks.{IsFlag, IsCheckedRequest, IsQuietRequest}

-- the text of this id is there, and this truth value
abbrev pub GivenFlag : List Row → Text → Bool → Type 0
GivenFlag rows id flag = (text : Text) × (one_of id rows ≡ Some text) × IsFlag text flag

-- the texts of truth values, as `clap` and `FromStr` have them
flag_text : (flag : Bool) (text : Text) → ParsesBool {E = ParseBoolError} text (Ok flag) → IsFlag text flag
flag_text true text is = is
flag_text false text is = is

no_flag_text : (flag : Bool) (text : Text) (error : ParseBoolError) → ParsesBool {E = ParseBoolError} text (Err error) → IsFlag text flag → ⊥
no_flag_text true text error never is = never.0 is
no_flag_text false text error never is = never.1 is

-- `get_one`, over a text that is there or not
module _ (f : Found) (id : Text) where
  -- a truth value that was read is that of the text
  pub flag_read : (read : Option Bool) → (one_text f id ≡ None → read ≡ None) → ((t : Text) → one_text f id ≡ Some t → ReadsOne {E = ParseBoolError} ParsesBool t read)
      → (flag : Bool) → read ≡ Some flag → GivenFlag (rows_of f) id flag
  flag_read read none some flag is = go (one_text f id) refl
    where
      go : (o : Option Text) → one_text f id ≡ o → GivenFlag (rows_of f) id flag
      go None e = let bad : Some flag ≡ None = sym is ∙ none e in absurd (cc)
      go (Some t) e =
          let gives : ParsesBool {E = ParseBoolError} t (Ok flag) = rw is at (some t e) in
          (t, sym (one_text-rows f id) ∙ e, flag_text flag t gives)

  -- where none was read, the text is none
  pub no_flag : (read : Option Bool) → ((t : Text) → one_text f id ≡ Some t → ReadsOne {E = ParseBoolError} ParsesBool t read)
      → read ≡ None → (flag : Bool) → GivenFlag (rows_of f) id flag → ⊥
  no_flag read some is flag given =
      let reads : ReadsOne {E = ParseBoolError} ParsesBool given.0 None = rw is at (some given.0 (one_text-rows f id ∙ given.1)) in
      no_flag_text flag given.0 reads.0 reads.1 given.2

-- whether no progress is to be shown, where that was read
pub quiet_read : (f : Found) (read : Option Bool) → (one_text f (codes "quiet") ≡ None → read ≡ None) → ((t : Text) → one_text f (codes "quiet") ≡ Some t → ReadsOne {E = ParseBoolError} ParsesBool t read)
    → IfSome read (IsQuietRequest (rows_of f))
quiet_read f None none some = tt
quiet_read f (Some quiet) none some =
    let given = flag_read f (codes "quiet") (Some quiet) none some quiet refl in
    record { text = given.0; given = given.1; is = given.2 }

-- whether the file is to be checked first, where that was read
pub checked_read : (f : Found) (read : Option Bool) → (one_text f (codes "checked") ≡ None → read ≡ None) → ((t : Text) → one_text f (codes "checked") ≡ Some t → ReadsOne {E = ParseBoolError} ParsesBool t read)
    → IfSome read (IsCheckedRequest (rows_of f))
checked_read f None none some = tt
checked_read f (Some checked) none some =
    let given = flag_read f (codes "checked") (Some checked) none some checked refl in
    record { text = given.0; given = given.1; is = given.2 }
