-- What the copy of the file of a header comes to, from what its steps leave.
use Rattle.std.proofs.Common.{zero, suc, ◌≡◌, ◌≢◌, ◌≤◌, ◌<◌, ℕ, length, ◌⊎◌, inl, inr, false, IsTrue, Result, Ok, Err, refl, sym, ◌∙◌, ap, subst, arith}
use Rattle.std.specs.Prelude.{IfErr}
use Rattle.std.proofs.lemmas.Bool.{le-ltb, lt-ltb}
use Rattle.io_state.specs.declared.fault.Fault.{Fault}
use Rattle.io_state.specs.declared.fault.Fault.TheVariants.{Memory, Device, Full, Damage, Broken}
use Rattle.record_layout.specs.Schema.{Schema}
use Rattle.page_store.specs.DeviceFile.{DeviceFile}
use Rattle.page_store.specs.ShelfState.{ShelfState, KeepsOthers, FaultHasCause, unit_file}
use Rattle.page_store.proofs.ShelfLemmas.{others_then}
use Rattle.page_cache.specs.HeaderCalls.{MayRefuse}
use Rattle.page_alloc.specs.declared.paged_file.PagedFile.{PagedFile}
use Rattle.page_alloc.specs.Chain.{is_page}
use Rattle.page_alloc.specs.Joining.{FaultsRose, page_limit}
use Rattle.page_alloc.specs.PagedFile.{IsOpenOver, IsNewPagedFile, MakesPagedFile, counts_of, unit_of_pages}
use Rattle.page_alloc.specs.StepLaws.{failed_after}
use Rattle.open_file.specs.declared.first_page.Header.{Header}
use Rattle.open_file.specs.Fields.{file_schema}
use Rattle.shelf_library.specs.FileOpening.{counted_shelf}
use Rattle.shelf_library.specs.Shelves.{IsOpened}
use Rattle.file_building.specs.declared.file_parts.FileParts.{FileParts}
use Rattle.file_building.specs.Parts.{joined_file}
use Rattle.file_building.specs.declared.fault.Copied.{Copied}
use Rattle.file_building.specs.declared.fault.CopyingFault.{CopyingFault}
use Rattle.file_building.specs.declared.fault.CopyingFault.TheVariants.{NoneToCopy, NotAccepted, NoKey, IsThere, Reading, Writing}
use Rattle.file_building.specs.Faults.{IsMovingCause, IsClosingCause, IsNoSourceDamage}
use Rattle.file_building.specs.Filling.{CanFill, IsBlank, FillsNew, IsFullFile}
use Rattle.file_building.specs.Closing.{ClosesNew, EndsCopy}
use Rattle.file_building.specs.Copying.{CanCopyByHeader, MovesByHeader, CopyGivesUp}
use Rattle.file_building.specs.NewFile.{GoesRefused}
use Rattle.file_building.proofs.CopyLemmas.{filled_images, filled_stays, gave_up, ended}

-- no page but the header is counted
pub none_counted : (n : ℕ) → is_page 1 n ≡ false
none_counted zero = refl
none_counted (suc n) = rw (lt-ltb 0 (suc n) (omega arith), le-ltb (suc n) 1 (omega arith)) refl

-- a fault that is Device is no other
device_is : (fault other : Fault) → fault ≡ Device → Device ≢ other → fault ≢ other
device_is fault other is differ e = differ (sym is ∙ e)

-- a fault of the closing, as one of the copy
closing_damage : (failed : Type 0) (result : Result Copied CopyingFault) → IfErr result (IsClosingCause failed) → IfErr result IsNoSourceDamage
closing_damage failed (Ok copied) is = tt
closing_damage failed (Err NoneToCopy) is = tt
closing_damage failed (Err NotAccepted) is = tt
closing_damage failed (Err NoKey) is = tt
closing_damage failed (Err IsThere) is = tt
closing_damage failed (Err (Reading fault)) is = absurd is
closing_damage failed (Err (Writing fault)) is = device_is fault Damage is.device (λ (same : Device ≡ Damage). absurd (cc))

closing_cause : (failed read wrote full : Type 0) (result : Result Copied CopyingFault) → (failed → wrote) → IfErr result (IsClosingCause failed) → IfErr result (IsMovingCause read wrote full)
closing_cause failed read wrote full (Ok copied) means is = tt
closing_cause failed read wrote full (Err NoneToCopy) means is = is
closing_cause failed read wrote full (Err NotAccepted) means is = is
closing_cause failed read wrote full (Err NoKey) means is = is
closing_cause failed read wrote full (Err IsThere) means is = is
closing_cause failed read wrote full (Err (Reading fault)) means is = absurd is
closing_cause failed read wrote full (Err (Writing fault)) means is = record {
  device = λ e. means is.counted;
  full = λ e. absurd (device_is fault Full is.device (λ (same : Device ≡ Full). absurd (cc)) e);
  not_broken = device_is fault Broken is.device (λ (same : Device ≡ Broken). absurd (cc));
}

closing_stays : (failed : Type 0) (old new : DeviceFile) (result : Result Copied CopyingFault) → IfErr result (IsClosingCause failed) → IfErr result (CopyGivesUp old new)
closing_stays failed old new (Ok copied) is = tt
closing_stays failed old new (Err NoneToCopy) is = tt
closing_stays failed old new (Err NotAccepted) is = tt
closing_stays failed old new (Err NoKey) is = tt
closing_stays failed old new (Err IsThere) is = tt
closing_stays failed old new (Err (Reading fault)) is = absurd is
closing_stays failed old new (Err (Writing fault)) is = tt

moving_cause : (read wrote later full full_later : Type 0) (fault : CopyingFault) → (wrote → later) → (full → full_later) → IsMovingCause read wrote full fault → IsMovingCause read later full_later fault
moving_cause read wrote later full full_later NoneToCopy means more is = is
moving_cause read wrote later full full_later NotAccepted means more is = is
moving_cause read wrote later full full_later NoKey means more is = is
moving_cause read wrote later full full_later IsThere means more is = is
moving_cause read wrote later full full_later (Reading fault) means more is = is
moving_cause read wrote later full full_later (Writing fault) means more is = record {
  device = λ e. means (is.device e);
  full = λ e. more (is.full e);
  not_broken = is.not_broken;
}

gives_up_for : (old new : DeviceFile) (fault : CopyingFault) → GoesRefused old new → CopyGivesUp old new fault
gives_up_for old new NoneToCopy stays = tt
gives_up_for old new NotAccepted stays = tt
gives_up_for old new NoKey stays = tt
gives_up_for old new IsThere stays = tt
gives_up_for old new (Reading fault) stays = stays
gives_up_for old new (Writing fault) stays = tt

-- the file that is copied was opened by its header, and pages were made for the new one
module _ (source unit key limit : ℕ) (header : Header) (parts : FileParts) (a : PagedFile) (from to0 to1 : ShelfState) (i k0 k1 : ℕ)
    (can : CanCopyByHeader source unit key header from to0) (opened : IsOpened (joined_file parts) source header)
    (made : IsNewPagedFile a unit limit) (ready : IsOpenOver a to1) (images : MayRefuse unit to0 to1) (others : KeepsOthers unit to0 to1) (count : k0 ≤ k1) where
  pub can_fill : CanFill parts.file key parts.pages a from to1
  can_fill =
      let open_now = opened.ready from can.from_unit can.accepted in
      record {
        readable = open_now.over;
        unchanged = opened.unchanged;
        shaped = open_now.shaped;
        has_key = subst (λ (s : Schema). key < length s.keys) (sym opened.schema_is) can.has_key;
        unbroken = opened.unbroken;
        writable = ready;
        begun = made.changed;
      }

  blank : IsBlank a to1
  blank = record { none = λ n. rw (made.pager, none_counted n) refl; sound = rw made.pager refl }

  limit_is : page_limit (counts_of a) ≡ limit
  limit_is = ap page_limit made.pager

  -- the pages were not all filled
  module _ (from_now to2 : ShelfState) (j k2 : ℕ) (fault : CopyingFault)
      (fills : FillsNew parts.file parts.pages a (counted_shelf from i) (counted_shelf from_now j) (counted_shelf to1 k1) (counted_shelf to2 k2) (Err fault)) where
    stays : IsTrue to2.is_honest → GoesRefused (unit_file to0 unit) (unit_file to2 unit)
    stays honest = filled_stays unit a to0 to1 to2 made.unit_is ready made.changed images fills.others fills.quiet honest

    pub not_filled : MovesByHeader source unit limit header (counted_shelf from i) (counted_shelf from_now j) (counted_shelf to0 k0) (counted_shelf to2 k2) (Err fault)
    not_filled = record {
      copies = λ hf ht file is.
          let stood = opened.stands from file (can.accepted (fills.only.honest hf)) is in
          gave_up header.schema file (unit_file to0 unit) (unit_file to2 unit) fault (stays ht).images
          (fills.copied hf ht blank file stood.stands).no_damage;
      gives_up = λ ht. gives_up_for (unit_file to0 unit) (unit_file to2 unit) fault (stays ht);
      only = fills.only;
      others = others_then unit to0 to1 to2 others (subst (λ n. KeepsOthers n to1 to2) made.unit_is fills.others);
      read_count = fills.read_count;
      write_count = let more = fills.write_count in omega (arith, count);
      cause = moving_cause _ _ _ _ _ fault (λ rose. failed_after k0 k1 k2 count rose)
          (λ full. subst (λ n. IsFullFile unit n to2) limit_is (subst (λ n. IsFullFile n (page_limit (counts_of a)) to2) made.unit_is full)) fills.cause;
    }

  -- they were, and the file was closed
  module _ (copy : FileParts) (from_now to2 to3 : ShelfState) (j k2 k3 : ℕ) (result : Result Copied CopyingFault)
      (fills : FillsNew parts.file parts.pages a (counted_shelf from i) (counted_shelf from_now j) (counted_shelf to1 k1) (counted_shelf to2 k2) (Ok copy))
      (closes : ClosesNew copy (counted_shelf to2 k2) (counted_shelf to3 k3) result) where
    here : unit_of_pages copy.pages ≡ unit
    here = fills.made.unit_is ∙ made.unit_is

    pub closed_schema : file_schema copy.file ≡ header.schema
    closed_schema = fills.made.schema_is ∙ opened.schema_is

    later : KeepsOthers unit to2 to3
    later = subst (λ n. KeepsOthers n to2 to3) here closes.others

    pub moved : MovesByHeader source unit limit header (counted_shelf from i) (counted_shelf from_now j) (counted_shelf to0 k0) (counted_shelf to3 k3) result
    moved = record {
      copies = λ hf ht file is.
          let stood = opened.stands from file (can.accepted (fills.only.honest hf)) is in
          let ht2 = later.honest ht in
          let stands = (fills.copied hf ht2 blank file stood.stands).answer in
          let ends = subst (λ n. EndsCopy (file_schema copy.file) file (unit_file to2 n) (unit_file to3 n) result) here (closes.closes ht file stands) in
          ended header.schema file (unit_file to0 unit) (unit_file to2 unit) (unit_file to3 unit) result
          (filled_images unit a to0 to1 to2 made.unit_is ready made.changed images fills.others fills.quiet ht2)
          (subst (λ schema. EndsCopy schema file (unit_file to2 unit) (unit_file to3 unit) result) closed_schema ends)
          (closing_damage _ result closes.cause);
      gives_up = λ ht. closing_stays _ (unit_file to0 unit) (unit_file to3 unit) result closes.cause;
      only = fills.only;
      others = others_then unit to0 to2 to3 (others_then unit to0 to1 to2 others (subst (λ n. KeepsOthers n to1 to2) made.unit_is fills.others)) later;
      read_count = fills.read_count;
      write_count = let more = fills.write_count in let most = closes.count in omega (arith, count);
      cause = closing_cause _ _ _ _ result (λ rose. let more = fills.write_count in failed_after k0 k2 k3 (omega (arith, count)) rose) closes.cause;
    }

-- a copy for which no page was made
pub not_made : (source unit limit : ℕ) (header : Header) (from to0 to1 : ShelfState) (i k0 k1 : ℕ) (fault : Fault)
    → MayRefuse unit to0 to1 → KeepsOthers unit to0 to1 → k0 ≤ k1 → (fault ≡ Device → FaultsRose k0 k1) → (fault ≡ Device) ⊎ (fault ≡ Memory)
    → MovesByHeader source unit limit header (counted_shelf from i) (counted_shelf from i) (counted_shelf to0 k0) (counted_shelf to1 k1) (Err (Writing fault))
not_made source unit limit header from to0 to1 i k0 k1 fault images others count rose which = record {
  copies = λ hf ht file is. gave_up header.schema file (unit_file to0 unit) (unit_file to1 unit) (Writing fault) (images ht) (no_damage which);
  gives_up = λ ht. tt;
  only = record { names = refl; file = refl; honest = λ h. h };
  others = others;
  read_count = omega arith;
  write_count = count;
  cause = record { device = rose; full = λ e. absurd (no_full which e); not_broken = no_broken which };
}
  where
    no_damage : (fault ≡ Device) ⊎ (fault ≡ Memory) → fault ≡ Damage → ⊥
    no_damage (inl is) e = let same : Device ≡ Damage = sym is ∙ e in absurd (cc)
    no_damage (inr is) e = let same : Memory ≡ Damage = sym is ∙ e in absurd (cc)

    no_full : (fault ≡ Device) ⊎ (fault ≡ Memory) → fault ≡ Full → ⊥
    no_full (inl is) e = let same : Device ≡ Full = sym is ∙ e in absurd (cc)
    no_full (inr is) e = let same : Memory ≡ Full = sym is ∙ e in absurd (cc)

    no_broken : (fault ≡ Device) ⊎ (fault ≡ Memory) → fault ≡ Broken → ⊥
    no_broken (inl is) e = let same : Device ≡ Broken = sym is ∙ e in absurd (cc)
    no_broken (inr is) e = let same : Memory ≡ Broken = sym is ∙ e in absurd (cc)

-- so, as the making of the pages tells it
pub made_fault : {X : Type 0} {after_is : Type 0} (k0 k1 : ℕ) (fault : Fault) → FaultHasCause {T = X} k0 k1 (Err fault) ⊎ ((◌≡◌ {A = Result X Fault} (Err fault) (Err Memory)) × after_is)
    → (fault ≡ Device → FaultsRose k0 k1) × ((fault ≡ Device) ⊎ (fault ≡ Memory))
made_fault k0 k1 fault (inl has) = (λ e. has.counted, inl has.device)
made_fault k0 k1 fault (inr wants) =
    let memory : fault ≡ Memory = let same = wants.0 in cc in
    (λ e. let other : Memory ≡ Device = sym memory ∙ e in absurd (cc), inr memory)

pub not_made_by : {H : Type 0} (state : H → ShelfState) (count : H → ℕ) (source unit limit : ℕ) (header : Header) (from : ShelfState) (i : ℕ) (before after : H) (fault : Fault)
    → MakesPagedFile {X = PagedFile} state count unit before after (Err fault)
    → MovesByHeader source unit limit header (counted_shelf from i) (counted_shelf from i) (counted_shelf (state before) (count before)) (counted_shelf (state after) (count after)) (Err (Writing fault))
not_made_by state count source unit limit header from i before after fault makes =
    let why = made_fault {X = PagedFile} (count before) (count after) fault makes.cause in
    not_made source unit limit header from (state before) (state after) i (count before) (count after) fault makes.images makes.others makes.no_fewer why.0 why.1
