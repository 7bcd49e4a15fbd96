-- What a copy from one unit to another comes to.
use Rattle.std.proofs.Common.{◌≡◌, ◌<◌, ℕ, List, length, inl, None, Result, Ok, Err, refl, sym, ◌∙◌, ap, subst, arith}
use Rattle.std.specs.Prelude.{IfErr}
use Rattle.io_state.specs.declared.fault.Fault.TheVariants.{Device, Full, Memory, Damage, Broken}
use Rattle.record_layout.specs.Schema.{Schema}
use Rattle.page_store.specs.DeviceFile.{DeviceFile, content}
use Rattle.page_store.specs.ShelfState.{ShelfState, HasUnit, OnlyAnswers, KeepsOthers, unit_file}
use Rattle.page_store.specs.Gate.{WasOrRefused}
use Rattle.page_store.proofs.MomentLemmas.{throughout_none}
use Rattle.page_store.proofs.ShelfLemmas.{others_then}
use Rattle.page_alloc.specs.StepLaws.{failed_after}
use Rattle.open_file.specs.declared.first_page.Header.{Header}
use Rattle.shelf_library.specs.ClosedFile.{StandsIn}
use Rattle.shelf_library.specs.Named.{look_of}
use Rattle.shelf_library.specs.declared.look.HeaderLook.TheVariants.{Accepted}
use Rattle.shelf_library.specs.FileOpening.{counted_shelf}
use Rattle.shelf_library.specs.LookLemmas.{same_file}
use Rattle.file_building.specs.declared.fault.Copied.{Copied}
use Rattle.file_building.specs.declared.fault.CopyingFault.{CopyingFault}
use Rattle.file_building.specs.declared.fault.CopyingFault.TheVariants.{NoneToCopy, NotAccepted, NoKey, IsThere, Reading, Writing}
use Rattle.file_building.specs.Faults.{IsMovingCause, IsCopyingCause, IsNoSourceDamage}
use Rattle.file_building.specs.Looking.{HasKey, LooksForSource, LooksForTarget, IsNoSource, IsTargetFault, IsToldSource, IsToldTarget}
use Rattle.file_building.specs.Copying.{CanCopyByHeader, MovesByHeader, CopiesBetween, BecomesCopy, CopyGivesUp, IsCopyTold, IsCopyUntouched}
use Rattle.file_building.proofs.CopyLemmas.{not_begun, same_header}

-- only answers were asked of a shelf: each other file stays
keeps : (unit : ℕ) (old new : ShelfState) → OnlyAnswers old new → KeepsOthers unit old new
keeps unit old new only = record { names = only.names; others = λ name differs. ap (λ f. f name) only.file; honest = only.honest }

only_then : (a b c : ShelfState) → OnlyAnswers a b → OnlyAnswers b c → OnlyAnswers a c
only_then a b c ab bc = record { names = bc.names ∙ ab.names; file = bc.file ∙ ab.file; honest = λ h. ab.honest (bc.honest h) }

-- why nothing was told of the file that is to be copied
no_source_cause : (failed wrote full : Type 0) (fault : CopyingFault) → IsNoSource failed fault → IsCopyingCause failed wrote full fault
no_source_cause failed wrote full NoneToCopy is = tt
no_source_cause failed wrote full NotAccepted is = tt
no_source_cause failed wrote full NoKey is = tt
no_source_cause failed wrote full IsThere is = tt
no_source_cause failed wrote full (Reading fault) is = record {
  device = λ e. is.1;
  not_full = λ e. let same : Device ≡ Full = sym is.0 ∙ e in absurd (cc);
  not_memory = λ e. let same : Device ≡ Memory = sym is.0 ∙ e in absurd (cc);
  not_broken = λ e. let same : Device ≡ Broken = sym is.0 ∙ e in absurd (cc);
}
no_source_cause failed wrote full (Writing fault) is = absurd is

no_source_damage : (failed : Type 0) (fault : CopyingFault) → IsNoSource failed fault → IsNoSourceDamage fault
no_source_damage failed NoneToCopy is = tt
no_source_damage failed NotAccepted is = tt
no_source_damage failed NoKey is = tt
no_source_damage failed IsThere is = tt
no_source_damage failed (Reading fault) is = λ e. let same : Device ≡ Damage = sym is.0 ∙ e in absurd (cc)
no_source_damage failed (Writing fault) is = absurd is

target_cause : (read failed full : Type 0) (fault : CopyingFault) → IsTargetFault failed fault → IsCopyingCause read failed full fault
target_cause read failed full NoneToCopy is = tt
target_cause read failed full NotAccepted is = tt
target_cause read failed full NoKey is = tt
target_cause read failed full IsThere is = tt
target_cause read failed full (Reading fault) is = absurd is
target_cause read failed full (Writing fault) is = record {
  device = λ e. is.1;
  full = λ e. let same : Device ≡ Full = sym is.0 ∙ e in absurd (cc);
  not_broken = λ e. let same : Device ≡ Broken = sym is.0 ∙ e in absurd (cc);
}

target_damage : (failed : Type 0) (fault : CopyingFault) → IsTargetFault failed fault → IsNoSourceDamage fault
target_damage failed NoneToCopy is = tt
target_damage failed NotAccepted is = tt
target_damage failed NoKey is = tt
target_damage failed IsThere is = tt
target_damage failed (Reading fault) is = absurd is
target_damage failed (Writing fault) is = λ e. let same : Device ≡ Damage = sym is.0 ∙ e in absurd (cc)

-- what is told where nothing was written
untouched_if : (old new : ShelfState) (fault : CopyingFault) → new.file ≡ old.file → IsCopyUntouched old new fault
untouched_if old new NoneToCopy same = same
untouched_if old new NotAccepted same = same
untouched_if old new NoKey same = same
untouched_if old new IsThere same = same
untouched_if old new (Reading fault) same = tt
untouched_if old new (Writing fault) same = tt

-- the fault tells nothing, or what is so of the two files
told_of_source : (key : ℕ) (failed : Type 0) (source target : DeviceFile) (fault : CopyingFault) → IsNoSource failed fault
    → IsToldSource key source (Err fault) → IsCopyTold key source target (Err fault)
told_of_source key failed source target NoneToCopy is told = told
told_of_source key failed source target NotAccepted is told = told
told_of_source key failed source target NoKey is told = told
told_of_source key failed source target IsThere is told = absurd is
told_of_source key failed source target (Reading fault) is told = λ other. absurd (other is.0)
told_of_source key failed source target (Writing fault) is told = absurd is

told_of_target : (key : ℕ) (failed : Type 0) (source target : DeviceFile) (fault : CopyingFault) → HasKey key source → IsTargetFault failed fault
    → IsToldTarget target (Err fault) → IsCopyTold key source target (Err fault)
told_of_target key failed source target NoneToCopy accepted is told = absurd is
told_of_target key failed source target NotAccepted accepted is told = absurd is
told_of_target key failed source target NoKey accepted is told = absurd is
told_of_target key failed source target IsThere accepted is told = (accepted, told)
told_of_target key failed source target (Reading fault) accepted is told = absurd is
told_of_target key failed source target (Writing fault) accepted is told = (accepted, λ other. absurd (other is.0))

told_of_move : (key : ℕ) (read wrote full : Type 0) (source target : DeviceFile) (result : Result Copied CopyingFault) → HasKey key source → target.seen ≡ None
    → IfErr result (IsMovingCause read wrote full) → IsCopyTold key source target result
told_of_move key read wrote full source target (Ok copied) accepted none is = (accepted, none)
told_of_move key read wrote full source target (Err NoneToCopy) accepted none is = absurd is
told_of_move key read wrote full source target (Err NotAccepted) accepted none is = absurd is
told_of_move key read wrote full source target (Err NoKey) accepted none is = absurd is
told_of_move key read wrote full source target (Err IsThere) accepted none is = absurd is
told_of_move key read wrote full source target (Err (Reading fault)) accepted none is = λ other. (accepted, none)
told_of_move key read wrote full source target (Err (Writing fault)) accepted none is = (accepted, λ other. none)

-- a copy that was begun wrote, or told nothing that is told where nothing was written
untouched_move : (read wrote full : Type 0) (old new : ShelfState) (result : Result Copied CopyingFault) → IfErr result (IsMovingCause read wrote full)
    → IfErr result (IsCopyUntouched old new)
untouched_move read wrote full old new (Ok copied) is = tt
untouched_move read wrote full old new (Err NoneToCopy) is = absurd is
untouched_move read wrote full old new (Err NotAccepted) is = absurd is
untouched_move read wrote full old new (Err NoKey) is = absurd is
untouched_move read wrote full old new (Err IsThere) is = absurd is
untouched_move read wrote full old new (Err (Reading fault)) is = tt
untouched_move read wrote full old new (Err (Writing fault)) is = tt

move_cause : (read wrote full read_all wrote_all : Type 0) (result : Result Copied CopyingFault) → (read → read_all) → (wrote → wrote_all)
    → IfErr result (IsMovingCause read wrote full) → IfErr result (IsCopyingCause read_all wrote_all full)
move_cause read wrote full read_all wrote_all (Ok copied) r w is = tt
move_cause read wrote full read_all wrote_all (Err NoneToCopy) r w is = tt
move_cause read wrote full read_all wrote_all (Err NotAccepted) r w is = tt
move_cause read wrote full read_all wrote_all (Err NoKey) r w is = tt
move_cause read wrote full read_all wrote_all (Err IsThere) r w is = tt
move_cause read wrote full read_all wrote_all (Err (Reading fault)) r w is = record {
  device = λ e. r (is.device e);
  not_full = is.not_full;
  not_memory = is.not_memory;
  not_broken = is.not_broken;
}
move_cause read wrote full read_all wrote_all (Err (Writing fault)) r w is = record {
  device = λ e. w (is.device e);
  full = is.full;
  not_broken = is.not_broken;
}

-- nothing is given up that was not begun
gives_up_none : (old new : DeviceFile) (fault : CopyingFault) → new ≡ old → CopyGivesUp old new fault
gives_up_none old new NoneToCopy same = tt
gives_up_none old new NotAccepted same = tt
gives_up_none old new NoKey same = tt
gives_up_none old new IsThere same = tt
gives_up_none old new (Reading fault) same = record {
  images = throughout_none (WasOrRefused old) old new (ap (λ (f : DeviceFile). f.log) same) (λ c may. inl may);
  stands = inl (inl (ap (λ (f : DeviceFile). f.seen) same));
}
gives_up_none old new (Writing fault) same = tt

module _ (source unit key limit : ℕ) (from from1 : ShelfState) (i i1 : ℕ) where
  -- nothing was told of the file that is to be copied
  pub not_found : (to : ShelfState) (k : ℕ) (fault : CopyingFault) → LooksForSource source key (counted_shelf from i) (counted_shelf from1 i1) (Err fault)
      → CopiesBetween source unit key limit (counted_shelf from i) (counted_shelf from1 i1) (counted_shelf to k) (counted_shelf to k) (Err fault)
  not_found to k fault looks = record {
    told = λ hf ht. told_of_source key _ (unit_file from source) (unit_file to unit) fault looks.cause (looks.told hf);
    untouched = untouched_if to to fault refl;
    copies = λ hf ht schema file closed. not_begun schema file (unit_file to unit) (unit_file to unit) fault refl (no_source_damage _ fault looks.cause);
    gives_up = λ ht. gives_up_none (unit_file to unit) (unit_file to unit) fault refl;
    only = looks.only;
    others = keeps unit to to (record { names = refl; file = refl; honest = λ h. h });
    read_count = looks.count;
    write_count = omega arith;
    cause = no_source_cause _ _ _ fault looks.cause;
  }

  module _ (header : Header) (to to1 : ShelfState) (k k1 : ℕ) (looks : LooksForSource source key (counted_shelf from i) (counted_shelf from1 i1) (Ok header)) where
    -- the new file was not found to be absent
    pub not_absent : (fault : CopyingFault) → LooksForTarget unit (counted_shelf to k) (counted_shelf to1 k1) (Err fault)
        → CopiesBetween source unit key limit (counted_shelf from i) (counted_shelf from1 i1) (counted_shelf to k) (counted_shelf to1 k1) (Err fault)
    not_absent fault finds =
        let same = same_file to to1 unit finds.only in
        record {
          told = λ hf ht. told_of_target key _ (unit_file from source) (unit_file to unit) fault (record { header = header; accepted = looks.told hf; key = looks.has_key }) finds.cause (finds.told ht);
          untouched = untouched_if to to1 fault finds.only.file;
          copies = λ hf ht schema file closed. not_begun schema file (unit_file to unit) (unit_file to1 unit) fault same (target_damage _ fault finds.cause);
          gives_up = λ ht. gives_up_none (unit_file to unit) (unit_file to1 unit) fault same;
          only = looks.only;
          others = keeps unit to to1 finds.only;
          read_count = looks.count;
          write_count = finds.count;
          cause = target_cause _ _ _ fault finds.cause;
        }

    -- it was, and the file was copied
    module _ (finds : LooksForTarget unit (counted_shelf to k) (counted_shelf to1 k1) (Ok tt)) where
      pub can_copy : HasUnit from source → HasUnit to unit → CanCopyByHeader source unit key header from1 to1
      can_copy one other = record {
        from_unit = record { attached = subst (λ (names : List (List ℕ)). source < length names) (sym looks.only.names) one.attached };
        to_unit = record { attached = subst (λ (names : List (List ℕ)). unit < length names) (sym finds.only.names) other.attached };
        is_header = looks.header;
        has_key = looks.has_key;
        accepted = λ honest. subst (λ (f : DeviceFile). look_of f.seen ≡ Accepted header) (sym (same_file from from1 source looks.only)) (looks.told honest);
      }

      pub copied : (from2 to2 : ShelfState) (i2 k2 : ℕ) (result : Result Copied CopyingFault)
          → MovesByHeader source unit limit header (counted_shelf from1 i1) (counted_shelf from2 i2) (counted_shelf to1 k1) (counted_shelf to2 k2) result
          → CopiesBetween source unit key limit (counted_shelf from i) (counted_shelf from2 i2) (counted_shelf to k) (counted_shelf to2 k2) result
      copied from2 to2 i2 k2 result moves =
          let same_source = same_file from from1 source looks.only in
          let same_target = same_file to to1 unit finds.only in
          record {
            told = λ hf ht. told_of_move key _ _ _ (unit_file from source) (unit_file to unit) result (record { header = header; accepted = looks.told (moves.only.honest hf); key = looks.has_key }) (finds.told (moves.others.honest ht)) moves.cause;
            untouched = untouched_move _ _ _ to to2 result moves.cause;
            copies = λ hf ht schema file closed.
                let by = same_header (unit_file from source) header schema file (looks.told (moves.only.honest hf)) closed in
                let is = moves.copies hf ht file (subst (λ (f : DeviceFile). StandsIn header (content f) file) (sym same_source) by.1) in
                subst (λ (f : DeviceFile). BecomesCopy schema file f (unit_file to2 unit) result) same_target
                (subst (λ (s : Schema). BecomesCopy s file (unit_file to1 unit) (unit_file to2 unit) result) by.0 is);
            gives_up = λ ht. subst (λ (f : DeviceFile). IfErr result (CopyGivesUp f (unit_file to2 unit))) same_target (moves.gives_up ht);
            only = only_then from from1 from2 looks.only moves.only;
            others = others_then unit to to1 to2 (keeps unit to to1 finds.only) moves.others;
            read_count = let a = looks.count in let b = moves.read_count in omega arith;
            write_count = let a = finds.count in let b = moves.write_count in omega arith;
            cause = move_cause _ _ _ _ _ result (λ rose. failed_after i i1 i2 looks.count rose) (λ rose. failed_after k k1 k2 finds.count rose) moves.cause;
          }
