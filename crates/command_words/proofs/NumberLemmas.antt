-- The numbers that are read of a run's values.
use Rattle.std.proofs.Common.{◌≡◌, ◌<◌, ◌≤◌, ℕ, List, Option, Some, None, Result, Ok, Err, refl, sym, ◌∙◌}
use Rattle.std.specs.Option.{IfSome}
use Rattle.std.specs.Str.Parse.{ParsesUnsigned, digits_value, without_leading_plus}
use Rattle.std.specs.Prelude.{codes}
use Rattle.clap.specs.Words.{Row, Text, one_of, one_text, rows_of}
use Rattle.clap.specs.Matches.{ReadsOne}
use Rattle.clap.specs.declared.parser.matches.Found.{Found}
use Rattle.clap.proofs.WalkLemmas.{one_text-rows}
use Rattle.command_words.specs.Asks.{IsNumber, AreLimits, IsWaitRequest, IsWaitMet}
use Rattle.command_words.specs.declared.limits.Limits.{Limits}

-- the text of this id is there, and this number
abbrev pub Given : List Row → Text → ℕ → ℕ → Type 0
Given rows id bits n = (text : Text) × (one_of id rows ≡ Some text) × IsNumber bits text n

-- `get_one`, over a text that is there or not
module _ {E : Type 0} (f : Found) (id : Text) (bits : ℕ) (Gives : Text → Result ℕ E → Type 0) (parses : (t : Text) (x : Result ℕ E) → Gives t x → ParsesUnsigned bits 10 t x) where
  -- a number that was read is that of the text
  pub is_read : (read : Option ℕ) → (one_text f id ≡ None → read ≡ None) → ((t : Text) → one_text f id ≡ Some t → ReadsOne Gives t read)
      → (n : ℕ) → read ≡ Some n → Given (rows_of f) id bits n
  is_read read none some n is = go (one_text f id) refl
    where
      go : (o : Option Text) → one_text f id ≡ o → Given (rows_of f) id bits n
      go None e = let bad : Some n ≡ None = sym is ∙ none e in absurd (cc)
      go (Some t) e =
          let gives : Gives t (Ok n) = rw is at (some t e) in
          let p = parses t (Ok n) gives in
          (t, sym (one_text-rows f id) ∙ e, (p.0.0, p.0.1, p.1))

  -- where none was read, the text is no number
  pub none_read : (read : Option ℕ) → ((t : Text) → one_text f id ≡ Some t → ReadsOne Gives t read)
      → read ≡ None → (n : ℕ) → Given (rows_of f) id bits n → ⊥
  none_read read some is n given =
      let reads : ReadsOne Gives given.0 None = rw is at (some given.0 (one_text-rows f id ∙ given.1)) in
      parses given.0 (Err reads.0) reads.1 (given.2.0, given.2.1)

-- one text is one number
pub one_number : (rows : List Row) (id : Text) (bits m n : ℕ) → Given rows id bits m → Given rows id bits n → m ≡ n
one_number rows id bits m n a b =
    let same : a.0 ≡ b.0 = cc in
    let other : n ≡ digits_value 10 (without_leading_plus a.0) = rw same b.2.2 in
    a.2.2 ∙ sym other

pub limits_read : (rows : List Row) (pages frames : ℕ) (o : Option Limits) → Given rows (codes "pages") 32 pages → Given rows (codes "frames") 64 frames
    → IfSome o (λ limits. (limits.pages ≡ pages) × (limits.frames.value ≡ frames) × (0 < frames) × (frames ≤ 4096))
    → IfSome o (λ limits. AreLimits rows limits.pages limits.frames.value)
limits_read rows pages frames None p f h = tt
limits_read rows pages frames (Some limits) p f h = record {
  pages_text = p.0;
  frames_text = f.0;
  pages_given = p.1;
  frames_given = f.1;
  pages_are = rw h.0 p.2;
  frames_are = rw h.1 f.2;
  fewest_pages = limits.fewest;
  fewest_frames = rw h.1 h.2;
  most_frames = rw h.1 h.3;
}

pub no_limits : (rows : List Row) (pages frames : ℕ) (o : Option Limits) → Given rows (codes "pages") 32 pages → Given rows (codes "frames") 64 frames
    → (o ≡ None → 16 ≤ pages → 0 < frames → frames ≤ 4096 → ⊥) → o ≡ None → (m n : ℕ) → AreLimits rows m n → ⊥
no_limits rows pages frames o p f none is m n limits =
    let same_pages : pages ≡ m = one_number rows (codes "pages") 32 pages m p (limits.pages_text, limits.pages_given, limits.pages_are) in
    let same_frames : frames ≡ n = one_number rows (codes "frames") 64 frames n f (limits.frames_text, limits.frames_given, limits.frames_are) in
    none is (rw same_pages limits.fewest_pages) (rw same_frames limits.fewest_frames) (rw same_frames limits.most_frames)

-- the seconds that were read
pub wait_read : (rows : List Row) (o : Option ℕ) → ((n : ℕ) → o ≡ Some n → Given rows (codes "wait") 32 n) → IfSome o (IsWaitRequest rows)
wait_read rows None given = tt
wait_read rows (Some n) given =
    let it = given n refl in
    record { text = it.0; given = it.1; is = it.2 }

-- those of the subcommand that was met
pub wait_met : {met : Option (Text × List Row)} {name : Text} {rows : List Row} {seconds : ℕ} → met ≡ Some (name, rows) → IsWaitRequest rows seconds → IsWaitMet met seconds
wait_met {met} {name} {rows} {seconds} is wait = record { name = name; rows = rows; is = is; wait_is = wait }
