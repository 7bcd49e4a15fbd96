-- What calls on unit 0 leave.
use Rattle.std.proofs.Common.{◌≡◌, inl, inr, ◌≤◌, ◌<◌, ℕ, Bool, true, false, List, [], ◌∷◌, length, slice_set, slice_index_or, refl, sym, ap, subst, ◌∙◌, arith}
use Rattle.std.specs.Prelude.{IsTrue, unwrap_or}
use Rattle.io_state.specs.declared.fault.Fault.{Fault}
use Rattle.io_state.specs.declared.fault.Fault.TheVariants.{Device, Memory, Full, Damage, Broken as BrokenUnit}
use Rattle.indexed_file.specs.File.{empty_file}
use Rattle.indexed_file.specs.Sound.{is_file}
use Rattle.indexed_file.specs.SoundWorld.{is_sound_holding}
use Rattle.indexed_file.specs.World.{World, FileUnit, Named, Absent, Holding, Shut, Looked, Opened, Broken, name_in, named_in, name_at, named_at, holding_at, schema_in, file_in, with_unit, OnlyAt, is_open}
use Rattle.indexed_file.specs.Calls.{Keeps, HasRisen, MayFail, MayAnswerShut}
use Rattle.indexed_file.specs.Shown.{Shown}
use Rattle.verbs.proofs.WorldLemmas.{only_twice, attached_after, name_after}
use Rattle.record_listing.specs.Reading.{OnlyReadsUnit}

-- ---- the units

set_self : (units : List FileUnit) → units ≡ slice_set units 0 (record { name = (slice_index_or units 0 (record { name = []; named = Absent; holding = Shut })).name; named = (slice_index_or units 0 (record { name = []; named = Absent; holding = Shut })).named; holding = (slice_index_or units 0 (record { name = []; named = Absent; holding = Shut })).holding })
set_self [] = refl
set_self (unit ∷ units) = refl

only_self : (w : World) → OnlyAt 0 w w
only_self w = λ i. record { units = set_self w.units i; elsewhere = w.elsewhere }

name_set : (units : List FileUnit) (elsewhere : List ℕ → Named) (holding : Holding) (name : List ℕ)
    → name_in (slice_set units 0 (record { name = (slice_index_or units 0 (record { name = []; named = Absent; holding = Shut })).name; named = (slice_index_or units 0 (record { name = []; named = Absent; holding = Shut })).named; holding = holding })) elsewhere name ≡ name_in units elsewhere name
name_set [] elsewhere holding name = refl
name_set (unit ∷ units) elsewhere holding name = refl

-- where the name of the unit stands for what it stood for, each name does
pub names_kept : (old new : World) → OnlyAt 0 old new → named_at new 0 ≡ named_at old 0 → (name : List ℕ) → named_in new name ≡ named_in old name
names_kept old new only same name =
    ap (λ (w : World). named_in w name) only ∙ ap (λ (n : Named). named_in (with_unit old 0 n (holding_at new 0)) name) same
    ∙ name_set old.units old.elsewhere (holding_at new 0) name

-- an open file is a file
pub file_is_sound : (holding : Holding) → IsTrue (is_open holding) → IsTrue (is_sound_holding holding) → is_file (schema_in holding) (unwrap_or (file_in holding) empty_file) ≡ true
file_is_sound Shut opened sound = absurd (cc)
file_is_sound (Looked schema) opened sound = absurd (cc)
file_is_sound (Opened schema file) opened sound = sound
file_is_sound (Broken schema) opened sound = refl

module _ {S : Type 0} (shown : Shown S) where
  pub keeps_self : (a : S) → Keeps shown a a
  keeps_self a = record { honest = λ h. h; truth = λ h name t. t; count = omega arith; limit = refl; frames = refl }

  pub keeps_both : (a b c : S) → Keeps shown a b → Keeps shown b c → Keeps shown a c
  keeps_both a b c first second = record {
    honest = λ h. first.honest (second.honest h);
    truth = λ h name t. second.truth h name (first.truth (second.honest h) name t);
    count = (let one = first.count in let two = second.count in omega (arith, one, two));
    limit = second.limit ∙ first.limit;
    frames = second.frames ∙ first.frames;
  }

  pub reads_self : (a : S) → OnlyReadsUnit shown a a
  reads_self a = record { world = record { only = only_self (shown.world a); state = record { opened = refl; broken = refl }; schema = refl; same = λ h. refl }; keeps = keeps_self a }

  pub reads_both : (a b c : S) → 0 < length (shown.world a).units → OnlyReadsUnit shown a b → OnlyReadsUnit shown b c → OnlyReadsUnit shown a c
  reads_both a b c some first second = record {
    world = record {
      only = only_twice 0 (shown.world a) (shown.world b) (shown.world c) some first.world.only second.world.only;
      state = record { opened = second.world.state.opened ∙ first.world.state.opened; broken = second.world.state.broken ∙ first.world.state.broken };
      schema = second.world.schema ∙ first.world.schema;
      same = λ h. second.world.same h ∙ first.world.same (second.keeps.honest h);
    };
    keeps = keeps_both a b c first.keeps second.keeps;
  }

  pub still_attached : (a b : S) → 0 < length (shown.world a).units → OnlyReadsUnit shown a b → 0 < length (shown.world b).units
  still_attached a b some reads = attached_after 0 (shown.world a) (shown.world b) some reads.world.only

  -- what is shown of the file is still true
  pub still_true : (a b : S) → 0 < length (shown.world a).units → OnlyAt 0 (shown.world a) (shown.world b) → Keeps shown a b → IsTrue (shown.is_honest b) → shown.IsShownTruly a (name_at (shown.world a) 0)
      → shown.IsShownTruly b (name_at (shown.world b) 0)
  still_true a b some only keeps h truly =
      subst (λ (name : List ℕ). shown.IsShownTruly b name) (sym (name_after 0 (shown.world a) (shown.world b) some only)) (keeps.truth h (name_at (shown.world a) 0) truly)

  risen : (a b c : ℕ) → a ≤ b → HasRisen b c → HasRisen a c
  risen a b c up (inl more) = inl (omega (arith, up, more))
  risen a b c up (inr most) = inr most

  risen_later : (a b c : ℕ) → b ≤ c → HasRisen a b → HasRisen a c
  risen_later a b c up (inl more) = inl (omega (arith, up, more))
  risen_later a b c up (inr most) = inr (omega (arith, up, most))

  -- a fault after other calls
  pub fault_later : (a b c : S) (fault : Fault) → 0 < length (shown.world a).units → OnlyAt 0 (shown.world a) (shown.world b) → Keeps shown a b → Keeps shown b c → MayAnswerShut shown 0 b c fault → MayAnswerShut shown 0 a c fault
  fault_later a b c Device some only first second may = risen (shown.fault_count a) (shown.fault_count b) (shown.fault_count c) first.count may
  fault_later a b c Memory some only first second may = may
  fault_later a b c Full some only first second may = may
  fault_later a b c Damage some only first second may = (may.0, λ h truly. may.1 h (still_true a b some only first (second.honest h) truly))
  fault_later a b c BrokenUnit some only first second may = may

  -- and before other calls
  pub fault_before : (a b c : S) (fault : Fault) → Keeps shown b c → MayAnswerShut shown 0 a b fault → MayAnswerShut shown 0 a c fault
  fault_before a b c Device keeps may = risen_later (shown.fault_count a) (shown.fault_count b) (shown.fault_count c) keeps.count may
  fault_before a b c Memory keeps may = may
  fault_before a b c Full keeps may = may
  fault_before a b c Damage keeps may = (may.0, λ h truly. may.1 (keeps.honest h) truly)
  fault_before a b c BrokenUnit keeps may = may

  -- a fault of a unit that is not broken
  pub unbroken_fault : (a b : S) (broken : Bool) (fault : Fault) → broken ≡ false
      → MayFail shown.may_want_memory broken (shown.is_honest b) (shown.IsShownTruly a (name_at (shown.world a) 0)) (shown.fault_count a) (shown.fault_count b) fault → MayAnswerShut shown 0 a b fault
  unbroken_fault a b broken Device is may = may
  unbroken_fault a b broken Memory is may = (refl, refl)
  unbroken_fault a b broken Full is may = may
  unbroken_fault a b broken Damage is may = (refl, may.1)
  unbroken_fault a b broken BrokenUnit is may = subst (λ (x : Bool). IsTrue x) is may
