-- What the closing of a unit's file leaves of its name.
use Rattle.std.proofs.Common.{◌≡◌, ◌⊎◌, inl, inr, ℕ, true, false, List, [], ◌∷◌, Option, IsTrue, IsFalse, OnOk, Result, Ok, Err, refl, sym, ap, subst, ◌∙◌}
use Rattle.page_store.specs.Images.{IsSettled}
use Rattle.page_store.proofs.MomentLemmas.{throughout_last}
use Rattle.shelf_library.proofs.Terms.{cases_Bool, Fault, Schema, either, File, IsAmong, Closed, Named, Unsound, throughout_none}
use Rattle.shelf_library.proofs.Terms.{refused_open, same_place, DeviceFile, bytes_or_none, content, AllOpen, KeepsOthers, unit_file}
use Rattle.shelf_library.proofs.Terms.{is_begun, Header, StandsIn, look_of, named_of, AreClosed, ClosedFileOrRefused, Closes}
use Rattle.shelf_library.proofs.Terms.{is_broken_file, pages_behind, schema_behind, Accepted, Refused, ShelfFile, ClosesUnitAt}
use Rattle.shelf_library.proofs.Terms.{IsSoundImage, MayReadAs, EachRead, each_read, ChangesAt, IsTrulyHeld, IsReadyAt, LibraryState}
use Rattle.shelf_library.proofs.Terms.{held_at, IsTrulyClosed, IsTrulyOpen, Nothing}
use Rattle.shelf_library.specs.FileAcceptedLemmas.{looks_accepted}
use Rattle.shelf_library.proofs.RefusedLemmas.{refused_look, refused_named}
use Rattle.shelf_library.proofs.AcceptedLemmas.{closed_named, closed_there}

-- ---- bytes that are closed

pub closing_named : (c : Option (List ℕ)) (schema : Schema) (rows : File) → ClosedFileOrRefused schema rows c → (named_of c ≡ Closed schema rows) ⊎ (named_of c ≡ Unsound)
closing_named c schema rows (inl refused) = inr (refused_named c refused)
closing_named c schema rows (inr closed) = inl (ap named_of closed.1 ∙ closed_named closed.0 schema rows closed.2)

-- where a look accepts it, it stands for the rows
closed_stands : (c : Option (List ℕ)) (header : Header) (schema : Schema) (rows : File) → ClosedFileOrRefused schema rows c → look_of c ≡ Accepted header → StandsIn header (bytes_or_none c) rows
closed_stands c header schema rows (inl refused) is = let clash : Refused ≡ Accepted header = sym (refused_look c refused) ∙ is in absurd (cc)
closed_stands c header schema rows (inr closed) is =
    let accepted : Accepted closed.2.header ≡ Accepted header = sym (looks_accepted closed.0 closed.2.header closed.2.accepted) ∙ ap look_of (sym closed.1) ∙ is in
    let same : closed.2.header ≡ header = cc in
    let bytes : closed.0 ≡ bytes_or_none c = ap bytes_or_none (sym closed.1) in
    subst (λ b. StandsIn header b rows) bytes (subst (λ (h : Header). StandsIn h closed.0 rows) same closed.2.stands)

closing_truly : (file : DeviceFile) (header : Header) (schema : Schema) (rows : File) → ClosedFileOrRefused schema rows file.seen → look_of file.seen ≡ Accepted header → IsTrulyClosed file header
closing_truly file header schema rows closed is = record { rows = rows; stands = closed_stands file.seen header schema rows closed is }

-- an image is one from before, or one of these
abbrev pub IsLeft : List Named → DeviceFile → Named → Type 0
IsLeft these file image = MayReadAs file file image ⊎ IsAmong these image

-- what a closing leaves is sound, and refused or closed
pub closing_reads : (file : DeviceFile) (schema : Schema) (rows : File) (c : Option (List ℕ)) → ClosedFileOrRefused schema rows c
    → IsSoundImage c × IsLeft (Unsound ∷ Closed schema rows ∷ []) file (named_of c)
closing_reads file schema rows c closed = (
  λ header is. (rows, closed_stands c header schema rows closed is),
  elim (closing_named c schema rows closed) [ inl is ↦ inr (inr (inl is)) | inr is ↦ inr (inl is) ],
)

-- a crash leaves nothing else
pub settled_reads : (file : DeviceFile) (schema : Schema) (rows : File) → IsSettled file → AreClosed schema rows (content file) → EachRead (λ image. image ≡ Closed schema rows) file file
settled_reads file schema rows settled closed =
    each_read (λ image. image ≡ Closed schema rows) file file
    (throughout_none _ file file refl (λ c may. (
      λ header is. (rows, closed_stands c header schema rows (inr (content file, settled c may, closed)) is),
      ap named_of (settled c may) ∙ closed_named (content file) schema rows closed,
    )))

-- ---- results

pub on_any : {X : Type 0} (result : Result X Fault) (P : Type 0) → P → OnOk result P
on_any (Ok x) P p = p
on_any (Err fault) P p = tt

pub on_more : {X : Type 0} (result : Result X Fault) (P Q : Type 0) → (P → Q) → OnOk result P → OnOk result Q
on_more (Ok x) P Q f p = f p
on_more (Err fault) P Q f p = tt

-- ---- the file of the unit

module _ (u : ℕ) (file : ShelfFile) (result : Result (Unit {0}) Fault) (old new : LibraryState) (call : ClosesUnitAt u file result old new) where
  pub before : DeviceFile
  before = unit_file old.shelf u

  pub after : DeviceFile
  after = unit_file new.shelf u

  is_ready : IsReadyAt old.shelf u file
  is_ready = call.units.ready u file call.opened

  pub others_stay : KeepsOthers u old.shelf new.shelf
  others_stay = subst (λ unit. KeepsOthers unit old.shelf new.shelf) is_ready.unit_is call.close.others

  pub changes : ChangesAt u Nothing old.shelf new.shelf old.held new.held
  changes = record { attached = call.attached; others = others_stay; holds = call.holds }

  pub still : new.shelf.file ≡ old.shelf.file → unit_file new.shelf u ≡ unit_file old.shelf u
  still same = same_place old.shelf new.shelf u same others_stay.names

  -- behind an open gate the name is unsound
  pub was_unsound : is_begun (pages_behind file) ≡ true → IsTrue new.shelf.is_honest → named_of (unit_file old.shelf u).seen ≡ Unsound
  was_unsound changed honest =
      let was_honest = others_stay.honest honest in
      let all = subst (λ unit. AllOpen (unit_file old.shelf unit)) is_ready.unit_is (is_ready.ready.over.gate changed was_honest) in
      let seen = (unit_file old.shelf u).seen in
      refused_named seen (refused_open seen (all seen (call.image_before was_honest)))

  module _ (honest : IsTrue new.shelf.is_honest) (works : IsFalse (is_broken_file file)) (known : IsTrulyOpen old.shelf file (unit_file old.shelf u)) where
    pub closes_here : is_begun (pages_behind file) ≡ true → Closes (schema_behind file) known.rows (unit_file old.shelf u) (unit_file new.shelf u) result
    closes_here changed =
        subst (λ unit. Closes (schema_behind file) known.rows (unit_file old.shelf unit) (unit_file new.shelf unit) result) is_ready.unit_is
        (call.close.closes honest works changed known.rows known.stands)

    was_closed : is_begun (pages_behind file) ≡ false → AreClosed (schema_behind file) known.rows (content (unit_file new.shelf u))
    was_closed unchanged =
        subst (λ (bytes : DeviceFile). AreClosed (schema_behind file) known.rows (content bytes)) (sym (still (call.close.unchanged unchanged))) (known.closed unchanged)

    -- after a success it is closed
    pub closed_after : OnOk result (AreClosed (schema_behind file) known.rows (content (unit_file new.shelf u)))
    closed_after = elim (cases_Bool (is_begun (pages_behind file))) [
      | inl changed ↦ (closes_here changed).closed
      | inr unchanged ↦ on_any result _ (was_closed unchanged)
    ]

    -- after a fault too it is closed or refused
    pub ends_closed : ClosedFileOrRefused (schema_behind file) known.rows (unit_file new.shelf u).seen
    ends_closed = elim (cases_Bool (is_begun (pages_behind file))) [
      | inl changed ↦
          throughout_last (ClosedFileOrRefused (schema_behind file) known.rows) (unit_file old.shelf u) (unit_file new.shelf u) (closes_here changed).images (unit_file new.shelf u).seen (call.image_after honest)
      | inr unchanged ↦
          let closed = was_closed unchanged in
          inr (content (unit_file new.shelf u), closed_there (unit_file new.shelf u) (schema_behind file) known.rows closed, closed)
    ]

    pub named_closed : OnOk result (named_of (unit_file new.shelf u).seen ≡ Closed (schema_behind file) known.rows)
    named_closed =
        on_more result _ _
        (λ closed. ap named_of (closed_there (unit_file new.shelf u) (schema_behind file) known.rows closed) ∙ closed_named (content (unit_file new.shelf u)) (schema_behind file) known.rows closed)
        closed_after

    pub named_before : is_begun (pages_behind file) ≡ false → named_of (unit_file old.shelf u).seen ≡ Closed (schema_behind file) known.rows
    named_before unchanged =
        let closed = known.closed unchanged in
        ap named_of (closed_there (unit_file old.shelf u) (schema_behind file) known.rows closed) ∙ closed_named (content (unit_file old.shelf u)) (schema_behind file) known.rows closed

  -- what is shown of the name stays true
  pub closes_truly : IsTrue new.shelf.is_honest → IsTrulyHeld u (held_at old.held u) old.shelf → IsTrulyHeld u Nothing new.shelf
  closes_truly honest truly = record {
    closed = λ header is.
        either (is_broken_file file) (IsTrulyClosed (unit_file new.shelf u) header)
        (λ broken.
        let same = still (call.close.nothing broken) in
        subst (λ (bytes : DeviceFile). IsTrulyClosed bytes header) (sym same) (truly.closed header (ap (λ (bytes : DeviceFile). look_of bytes.seen) (sym same) ∙ is)))
        (λ works.
        let known = truly.opened file call.opened works in
        closing_truly (unit_file new.shelf u) header (schema_behind file) known.rows (ends_closed honest works known) is);
    opened = λ other is. absurd (cc);
  }
