-- What a call that may open the gate leaves of its unit.
use Rattle.std.proofs.Common.{◌≡◌, ◌⊎◌, inl, inr, ℕ, true, List, [], ◌∷◌, Option, IsTrue, refl, sym, ap, subst, ◌∙◌}
use Rattle.page_store.proofs.MomentLemmas.{throughout_first}
use Rattle.shelf_library.proofs.Terms.{ImagesGo, IsAmong, unfinished, Named, Unsound, name_at, throughout_weaker, refused_open, DeviceFile}
use Rattle.shelf_library.proofs.Terms.{bytes_or_none, AllOpen, SameOrRefused, WasOrRefused, Throughout, KeepsOthers, unit_file, unit_name}
use Rattle.shelf_library.proofs.Terms.{IsKeptOrRefused, is_begun, unit_of_pages, Header, OnlyReadsFile, StandsIn, look_of, named_of}
use Rattle.shelf_library.proofs.Terms.{pages_behind, Accepted, ShelfFile, MovesAt, IsSoundImage, MayReadAs, shown_by, EachRead, each_read}
use Rattle.shelf_library.proofs.Terms.{found_now, ChangesAt, FitsItsFile, ReadsAt, IsReadyAt, LibraryState, IsTrulyClosed, world_of, Opened}
use Rattle.shelf_library.proofs.AsideLemmas.{name_same}
use Rattle.shelf_library.proofs.UnitLemmas.{images_at}
use Rattle.shelf_library.proofs.OpensLemmas.{open_fits}
use Rattle.shelf_library.proofs.RefusedLemmas.{refused_look, refused_named, refused_sound}

-- images that a crash could leave before, and refused ones
abbrev pub WasOrUnsound : DeviceFile → Named → Type 0
WasOrUnsound file image = MayReadAs file file image ⊎ IsAmong (Unsound ∷ []) image

pub was_or_refused : (old new : DeviceFile) → Throughout (WasOrRefused old) old new → Throughout IsSoundImage old old → EachRead (WasOrUnsound old) old new
was_or_refused old new images real = each_read (WasOrUnsound old) old new (throughout_weaker (WasOrRefused old) _ old new one images)
  where
    one : (c : Option (List ℕ)) → WasOrRefused old c → IsSoundImage c × WasOrUnsound old (named_of c)
    one c (inl was) = (throughout_first IsSoundImage old old real c was, inl (c, found_now old c was, refl))
    one c (inr refused) = (refused_sound c refused, inr (inl (refused_named c refused)))

-- bytes that a look accepts are those that it accepted before
pub closed_kept : (old new : DeviceFile) → SameOrRefused old new → ((header : Header) → look_of old.seen ≡ Accepted header → IsTrulyClosed old header)
    → (header : Header) → look_of new.seen ≡ Accepted header → IsTrulyClosed new header
closed_kept old new (inl same) truly header accepted =
    let was = truly header (ap look_of (sym same) ∙ accepted) in
    record { rows = was.rows; stands = subst (λ seen. StandsIn header (bytes_or_none seen) was.rows) (sym same) was.stands }
closed_kept old new (inr refused) truly header accepted = let found = refused_look new.seen refused in absurd (cc)

pub named_kept : (old new : DeviceFile) → SameOrRefused old new → (named_of new.seen ≡ named_of old.seen) ⊎ (named_of new.seen ≡ Unsound)
named_kept old new (inl same) = inl (ap named_of same)
named_kept old new (inr refused) = inr (refused_named new.seen refused)

module _ (u : ℕ) (file after : ShelfFile) (old new : LibraryState) (call : MovesAt u file after old new) where
  before : IsReadyAt old.shelf u file
  before = call.units.ready u file call.opened

  unit_after : unit_of_pages (pages_behind after) ≡ u
  unit_after = call.moves.unit ∙ before.unit_is

  pub others : KeepsOthers u old.shelf new.shelf
  others = subst (λ unit. KeepsOthers unit old.shelf new.shelf) before.unit_is call.moves.others

  pub changes_at : ChangesAt u (Opened after) old.shelf new.shelf old.held new.held
  changes_at = record { attached = call.attached; others = others; holds = call.holds }

  pub fits : FitsItsFile u (Opened after) new.shelf
  fits = open_fits u after new.shelf (record { unit_is = unit_after; ready = call.ready })

  -- where it only read
  pub reads_at : OnlyReadsFile file after old.shelf new.shelf old.faults new.faults → ReadsAt u file after old new
  reads_at reads = record {
    units = call.units;
    attached = call.attached;
    opened = call.opened;
    holds = call.holds;
    limit = call.limit;
    frames = call.frames;
    reads = reads;
    image_before = call.image_before;
    image_after = call.image_after;
  }

  images : IsTrue new.shelf.is_honest → Throughout (WasOrRefused (unit_file old.shelf u)) (unit_file old.shelf u) (unit_file new.shelf u)
  images honest =
      subst (λ unit. Throughout (WasOrRefused (unit_file old.shelf unit)) (unit_file old.shelf unit) (unit_file new.shelf unit)) before.unit_is
      (call.moves.images before.ready.over honest)

  -- what reads give is as it was, or refused
  same_or_refused : IsTrue new.shelf.is_honest → SameOrRefused (unit_file old.shelf u) (unit_file new.shelf u)
  same_or_refused honest =
      one (subst (λ unit. IsKeptOrRefused (unit_file old.shelf unit) (unit_file new.shelf unit)) before.unit_is (call.moves.stands before.ready.over honest))
    where
      one : IsKeptOrRefused (unit_file old.shelf u) (unit_file new.shelf u) → SameOrRefused (unit_file old.shelf u) (unit_file new.shelf u)
      one (inl stands) = stands
      one (inr all) = inr (all (unit_file new.shelf u).seen (call.image_after honest))

  pub same_or_unsound : IsTrue new.shelf.is_honest
      → (named_of (unit_file new.shelf u).seen ≡ named_of (unit_file old.shelf u).seen) ⊎ (named_of (unit_file new.shelf u).seen ≡ Unsound)
  same_or_unsound honest = named_kept (unit_file old.shelf u) (unit_file new.shelf u) (same_or_refused honest)

  -- behind an open gate the name is unsound
  pub unsound_after : IsTrue new.shelf.is_honest → is_begun (pages_behind after) ≡ true → named_of (unit_file new.shelf u).seen ≡ Unsound
  unsound_after honest begun =
      let all = subst (λ unit. AllOpen (unit_file new.shelf unit)) unit_after (call.ready.over.gate begun honest) in
      let seen = (unit_file new.shelf u).seen in
      refused_named seen (refused_open seen (all seen (call.image_after honest)))

  pub closed_truly : IsTrue new.shelf.is_honest → ((header : Header) → look_of (unit_file old.shelf u).seen ≡ Accepted header → IsTrulyClosed (unit_file old.shelf u) header)
      → (header : Header) → look_of (unit_file new.shelf u).seen ≡ Accepted header → IsTrulyClosed (unit_file new.shelf u) header
  closed_truly honest = closed_kept (unit_file old.shelf u) (unit_file new.shelf u) (same_or_refused honest)

  -- at each moment a crash leaves what it could leave before, or a refused file
  pub reads_unfinished : IsTrue new.shelf.is_honest → Throughout IsSoundImage (unit_file old.shelf u) (unit_file old.shelf u)
      → EachRead (WasOrUnsound (unit_file old.shelf u)) (unit_file old.shelf u) (new.shelf.file (unit_name old.shelf u))
  reads_unfinished honest real =
      subst (λ (name : List ℕ). EachRead (WasOrUnsound (unit_file old.shelf u)) (unit_file old.shelf u) (new.shelf.file name))
      (name_same u (Opened after) old.shelf new.shelf old.held new.held call.units changes_at)
      (was_or_refused (unit_file old.shelf u) (unit_file new.shelf u) (images honest) real)

pub goes_unfinished : {S : Type 0} (state : S → LibraryState) (u : ℕ) (file after : ShelfFile) (old new : S) → MovesAt u file after (state old) (state new)
    → IsTrue (state new).shelf.is_honest
    → ImagesGo (shown_by state).moments (name_at (world_of (state old).shelf (state old).held) u) unfinished old new
goes_unfinished state u file after old new call honest =
    images_at state u (Opened after) old new call.units (changes_at u file after (state old) (state new) call) unfinished
    (reads_unfinished u file after (state old) (state new) call honest) tt
