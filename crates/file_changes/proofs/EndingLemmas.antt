-- How a change of an open file ends: it failed, it was not made, or it was made.
use Rattle.std.proofs.Common.{◌≡◌, ◌≢◌, ◌+◌, ◌*◌, ◌≤◌, ℕ, List, Bool, true, false, Result, Ok, Err, IsTrue, IsFalse, IfErr, refl, sym, ◌∙◌}
use Rattle.std.specs.Prelude.{sum_by, IsErrAnd, not, ◌||◌}
use Rattle.std.proofs.lemmas.Result.{err_from_is_err_and}
use Rattle.io_state.specs.declared.fault.Fault.{Fault}
use Rattle.io_state.specs.declared.fault.Fault.TheVariants.{Device, Memory, Full, Damage, Broken}
use Rattle.indexed_file.specs.Calls.{is_answered}
use Rattle.indexed_file.specs.File.{File}
use Rattle.indexed_file.specs.declared.answer.Replaced.{Replaced}
use Rattle.record_layout.specs.Schema.{prime_of}
use Rattle.pages.specs.Cause.{IsCaused}
use Rattle.pages.specs.ShownPages.{ShownPages}
use Rattle.open_file.specs.Fields.{alternates_of, has_broken, file_schema, with_mark}
use Rattle.open_file.specs.Stands.{Stands, IsShaped, heights_of, room_of}
use Rattle.indexed_file.specs.Room.{most_to_change}
use Rattle.file_changes.specs.Adding.{index_levels}
use Rattle.open_file.specs.declared.open_file.OpenFile.{OpenFile}
use Rattle.indexed_file.specs.FileChange.{FileChange}
use Rattle.file_changes.specs.Changes.{HasChanged, KeepsFile, Changes, MayBreak}
use Rattle.file_changes.specs.InPages.{FileInPages, in_pages, shown_in}
use Rattle.file_changes.specs.Old.{IsFoundIn}
use Rattle.file_changes.specs.Replacing.{KeepsFound, ReplacesFound}
use Rattle.file_changes.specs.declared.old_record.OldRecord.{OldRecord}
use Rattle.file_changes.proofs.AddedLemmas.{broken_or_not}

both : (b : Bool) → b ≡ false → b ≡ true → ⊥
both b fails passes = cc

not_full : {X : Type 0} (fault : Fault) → fault ≢ Full → ◌≡◌ {A = Result X Fault} (Err fault) (Err Full) → ⊥
not_full fault other is = other (cc)

no_fault : {X : Type 0} (x : X) → ◌≡◌ {A = Result X Fault} (Ok x) (Err Full) → ⊥
no_fault x is = cc

-- what is kept, of the parts that were left
pub kept : {S : Type 0} (shown : ShownPages S) (before after : FileInPages S) → file_schema after.file ≡ file_schema before.file → shown.IsReady after.pages → IsShaped after.file → shown.Begins before.pages after.pages
    → (shown.state after.pages).asked ≤ (shown.state before.pages).asked + most_to_change (room_of before.file (shown.state before.pages).available) → KeepsFile (shown_in shown) before after
kept shown before after schema ready shaped begins asked = record { schema = schema; ready = record { pages = ready; shaped = shaped }; begins = begins; asked = asked }

module _ {S X : Type 0} (shown : ShownPages S) (change : FileChange X) (before after : FileInPages S) where
  -- what is said of the answer, and of room, where the file stood for something
  abbrev pub IsDone : X → Type 0
  IsDone x = IsTrue (shown.state after.pages).is_honest → IsTrue (shown.state before.pages).is_sound → (file : File) → Stands before.file (shown.state before.pages).live file
      → HasChanged (Stands after.file (shown.state after.pages).live) (IsTrue (shown.state after.pages).is_sound) change file x

  abbrev pub HasRoom : Type 0
  HasRoom = IsTrue (shown.state after.pages).is_honest → (file : File) → Stands before.file (shown.state before.pages).live file
      → IsTrue (change.clashes file || not (change.lacks_room ((shown_in shown).room before) file))

  abbrev pub LacksRoom : Type 0
  LacksRoom = IsTrue (shown.state after.pages).is_honest → (file : File) → Stands before.file (shown.state before.pages).live file
      → IsFalse (change.clashes file) × IsTrue (change.lacks_room ((shown_in shown).room before) file)

  -- a fault other than Full
  pub stopped : (r : Result X Fault) (fault : Fault) → IsErrAnd r (λ e. e ≡ fault) → fault ≢ Full
      → (IsTrue (shown.state after.pages).is_honest → IsTrue (shown.state before.pages).is_sound → (file : File) → Stands before.file (shown.state before.pages).live file → fault ≢ Damage)
      → KeepsFile (shown_in shown) before after → Changes (shown_in shown) change before after r
  stopped r fault was other undamaged keeps =
      let p = err_from_is_err_and r was in
      rw (p.1, p.2) (record {
        done = λ honest sound file stands. record { answer = tt; no_damage = undamaged honest sound file stands };
        unmade = tt;
        begun = tt;
        room = λ honest file stands. tt;
        full = λ is. absurd (not_full fault other is);
        lacks = λ is. absurd (not_full fault other is);
        keeps = keeps;
      })

  -- there is no room for it
  pub lacking : (shown_in shown).Reads before after → LacksRoom → KeepsFile (shown_in shown) before after → Changes (shown_in shown) change before after (Err Full)
  lacking reads lacks keeps = record {
    done = λ honest sound file stands. record { answer = tt; no_damage = λ e. cc };
    unmade = tt;
    begun = tt;
    room = λ honest file stands. tt;
    full = λ is. reads;
    lacks = λ is. lacks;
    keeps = keeps;
  }

  -- nothing was changed
  pub not_made : (x : X) → change.is_made x ≡ false → (shown_in shown).Reads before after → IsDone x → HasRoom → KeepsFile (shown_in shown) before after
      → Changes (shown_in shown) change before after (Ok x)
  not_made x none reads done room keeps = record {
    done = λ honest sound file stands. record { answer = done honest sound file stands; no_damage = tt };
    unmade = λ no. reads;
    begun = λ is. absurd (both _ none is);
    room = room;
    full = λ is. absurd (no_fault x is);
    lacks = λ is. absurd (no_fault x is);
    keeps = keeps;
  }

  -- it was made
  pub made : (x : X) → change.is_made x ≡ true → shown.CanChange after.pages → IsDone x → HasRoom → KeepsFile (shown_in shown) before after
      → Changes (shown_in shown) change before after (Ok x)
  made x is begun done room keeps = record {
    done = λ honest sound file stands. record { answer = done honest sound file stands; no_damage = tt };
    unmade = λ none. absurd (both _ none is);
    begun = λ yes. begun;
    room = room;
    full = λ same. absurd (no_fault x same);
    lacks = λ same. absurd (no_fault x same);
    keeps = keeps;
  }

-- ---- the file is marked as broken, or is not

-- it was not broken, and the change has not marked it
pub mark_is : (was now answered : Bool) → was ≡ false → now ≡ was → (now || not answered) ≡ not answered
mark_is was now answered whole kept = rw (kept ∙ whole) refl

is_unmarked : {X : Type 0} (fault : Fault) → ◌≡◌ {A = Result X Fault} (Err fault) (Err Full) → not (is_answered {X = X} (Err fault)) ≡ false
is_unmarked fault same = let full : fault ≡ Full = cc in rw full refl

is_marked : (X : Type 0) (fault : Fault) → fault ≢ Full → not (is_answered {X = X} (Err fault)) ≡ true
is_marked X Device other = refl
is_marked X Memory other = refl
is_marked X Full other = absurd (other refl)
is_marked X Damage other = refl
is_marked X Broken other = refl

module _ {S : Type 0} (shown : ShownPages S) (before : FileInPages S) (file : OpenFile) (pages : S) (flag : Bool) (whole : has_broken before.file ≡ false) where
  abbrev marked : FileInPages S
  marked = in_pages (with_mark flag file) pages

  keeps_marked : KeepsFile (shown_in shown) before (in_pages file pages) → KeepsFile (shown_in shown) before marked
  keeps_marked keeps = record { schema = keeps.schema; ready = record { pages = keeps.ready.pages; shaped = keeps.ready.shaped }; begins = keeps.begins; asked = keeps.asked }

  same_marked : file ≡ before.file → flag ≡ false → with_mark flag file ≡ before.file
  same_marked same works = λ i. with_mark ((works ∙ sym whole) i) (same i)

  pub changes_marked : {X : Type 0} (change : FileChange X) (r : Result X Fault) → flag ≡ not (is_answered r) → Changes (shown_in shown) change before (in_pages file pages) r → Changes (shown_in shown) change before marked r
  changes_marked change (Ok x) is changes = record {
    done = λ honest sound rows stands.
        let has = (changes.done honest sound rows stands).answer in
        record { answer = record { answers = has.answers; stands = broken_or_not file flag _ _ has.stands; sound = has.sound }; no_damage = tt };
    unmade = λ none. let reads = changes.unmade none in (same_marked reads.0 is, reads.1);
    begun = changes.begun;
    room = changes.room;
    full = λ same. absurd (no_fault x same);
    lacks = λ same. absurd (no_fault x same);
    keeps = keeps_marked changes.keeps;
  }
  changes_marked change (Err fault) is changes = record {
    done = λ honest sound rows stands. record { answer = tt; no_damage = (changes.done honest sound rows stands).no_damage };
    unmade = tt;
    begun = tt;
    room = λ honest rows stands. tt;
    full = λ same.
        let reads = changes.full same in
        let works : flag ≡ false = is ∙ is_unmarked fault same in (same_marked reads.0 works, reads.1);
    lacks = changes.lacks;
    keeps = keeps_marked changes.keeps;
  }

  pub breaks_marked : (X : Type 0) (takes_pages : Bool) (lacks : Type 0) → (lacks → IsTrue takes_pages) → (r : Result X Fault) → flag ≡ not (is_answered r) → IfErr r (IsCaused (shown.HasFailed before.pages pages) lacks)
      → MayBreak (shown_in shown) takes_pages before marked r
  breaks_marked X takes lacks needs (Ok x) is cause = record { broken = λ broken. absurd (both _ whole broken); breaks = tt; unbroken = is; cause = tt }
  breaks_marked X takes lacks needs (Err fault) is cause = record {
    broken = λ broken. absurd (both _ whole broken);
    breaks = λ other. is ∙ is_marked X fault other;
    unbroken = tt;
    cause = record { device = cause.device; full = λ same. (needs (cause.full same), whole); not_memory = cause.not_memory; broken = λ same. absurd (cause.not_broken same) };
  }

-- ---- a file that was broken before

pub broken_changes : {S X : Type 0} (shown : ShownPages S) (change : FileChange X) (held : FileInPages S) → KeepsFile (shown_in shown) held held
    → Changes (shown_in shown) change held held (Err Broken)
broken_changes shown change held keeps = stopped shown change held held (Err Broken) Broken refl (λ same. cc) (λ honest sound file stands same. cc) keeps

pub broken_breaks : {S X : Type 0} (shown : ShownPages S) (held : FileInPages S) → has_broken held.file ≡ true → (takes_pages : Bool) → shown.Reads held.pages held.pages
    → MayBreak {X = X} (shown_in shown) takes_pages held held (Err Broken)
broken_breaks shown held broken takes reads = record {
  broken = λ is. (refl, (refl, reads));
  breaks = λ other. broken;
  unbroken = tt;
  cause = record { device = λ same. absurd (cc); full = λ same. absurd (cc); not_memory = λ same. cc; broken = λ same. broken };
}

-- ---- a record whose row was found

pub found_kept : {S : Type 0} (shown : ShownPages S) (before after : FileInPages S) → file_schema after.file ≡ file_schema before.file → has_broken after.file ≡ has_broken before.file → IsShaped after.file
    → shown.Begins before.pages after.pages
    → (shown.state after.pages).asked ≤ (shown.state before.pages).asked + 2 * sum_by (λ height. height) (heights_of before.file) + 1 + 16 * index_levels (alternates_of before.file)
    → KeepsFound shown before after
found_kept shown before after schema broken shaped begins asked = record { schema = schema; broken = broken; shaped = shaped; begins = begins; asked = asked }

module _ {S : Type 0} (shown : ShownPages S) (old : OldRecord) (was bytes : List ℕ) (before after : FileInPages S) where
  -- a fault other than Full
  pub found_stopped : (r : Result Replaced Fault) (fault : Fault) → IsErrAnd r (λ e. e ≡ fault) → fault ≢ Full
      → (IsTrue (shown.state after.pages).is_honest → IsTrue (shown.state before.pages).is_sound → (file : File) (stands : Stands before.file (shown.state before.pages).live file)
      → IsFoundIn stands (prime_of (file_schema before.file) bytes) old was → fault ≢ Damage)
      → KeepsFound shown before after → ReplacesFound shown old was bytes before after r
  found_stopped r fault is other undamaged keeps =
      let p = err_from_is_err_and r is in
      rw (p.1, p.2) (record {
        done = λ honest sound file stands at. record { answer = tt; no_damage = undamaged honest sound file stands at };
        unmade = tt;
        begun = tt;
        room = λ honest file stands row. tt;
        full = λ same. absurd (not_full fault other same);
        lacks = λ same. absurd (not_full fault other same);
        keeps = keeps;
      })
