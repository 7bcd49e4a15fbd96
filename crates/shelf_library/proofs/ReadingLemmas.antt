-- What a call that only reads leaves of its unit.
use Rattle.std.proofs.Common.{◌≡◌, ◌⊎◌, inl, inr, ℕ, false, IsTrue, IsFalse, refl, sym, ap, subst, ◌∙◌, if◌then◌else◌}
use Rattle.page_store.proofs.OpenLemmas.{open_kept}
use Rattle.page_cache.specs.Quietly.{GoesQuietly}
use Rattle.open_file.specs.Fields.{has_broken, file_schema}
use Rattle.shelf_library.proofs.Terms.{cases_Bool, Schema, Broken, HasOpened, refused_open, same_place, DeviceFile, content, AllOpen}
use Rattle.shelf_library.proofs.Terms.{unit_file, is_begun, Header, file_off, OpenFile, look_of, named_of, AreClosed, file_read_off}
use Rattle.shelf_library.proofs.Terms.{is_broken_file, live_of, pages_behind, parts_of, schema_behind, Accepted, ShelfFile, AreUnits}
use Rattle.shelf_library.proofs.Terms.{ChangesAt, FitsItsFile, IsTrulyHeld, GoesOpen, ReadsAt, IsReadyAt, LibraryState, IsTrulyClosed}
use Rattle.shelf_library.proofs.Terms.{IsTrulyOpen, holding_of, Opened}
use Rattle.shelf_library.proofs.WorldLemmas.{same_open}
use Rattle.shelf_library.proofs.AsideLemmas.{are_after}
use Rattle.shelf_library.proofs.OpensLemmas.{open_fits}
use Rattle.shelf_library.proofs.RefusedLemmas.{refused_look, refused_named}

module _ (u : ℕ) (file after : ShelfFile) (old new : LibraryState) (call : ReadsAt u file after old new) where
  pub is_ready : IsReadyAt old.shelf u file
  is_ready = call.units.ready u file call.opened

  quietly : GoesQuietly u old.shelf new.shelf
  quietly = subst (λ unit. GoesQuietly unit old.shelf new.shelf) is_ready.unit_is call.reads.pages.goes.parts.quietly

  pub was_honest : IsTrue new.shelf.is_honest → IsTrue old.shelf.is_honest
  was_honest = quietly.others.honest

  pub changes_at : ChangesAt u (Opened after) old.shelf new.shelf old.held new.held
  changes_at = record { attached = call.attached; others = quietly.others; holds = call.holds }

  pub fits : FitsItsFile u (Opened after) new.shelf
  fits = open_fits u after new.shelf (record {
    unit_is = call.reads.pages.goes.parts.unit ∙ is_ready.unit_is;
    ready = call.reads.ready is_ready.ready;
  })

  -- and what every library keeps is kept
  pub reads_units : AreUnits new.shelf new.held
  reads_units = are_after u (Opened after) old.shelf new.shelf old.held new.held call.units changes_at fits

  -- behind a closed gate nothing was written
  pub still_or_open : IsTrue new.shelf.is_honest → (new.shelf.file ≡ old.shelf.file) ⊎ GoesOpen (unit_file old.shelf u) (unit_file new.shelf u)
  still_or_open honest = elim (cases_Bool (is_begun (pages_behind file))) [
    | inl begun ↦
        let before = subst (λ unit. AllOpen (unit_file old.shelf unit)) is_ready.unit_is (is_ready.ready.over.gate begun (was_honest honest)) in
        inr (record { before = before; after = open_kept (unit_file old.shelf u) (unit_file new.shelf u) before quietly.quiet; quiet = quietly.quiet })
    | inr shut ↦ inl (call.reads.pages.goes.still is_ready.ready.over shut)
  ]

  pub same_file : new.shelf.file ≡ old.shelf.file → unit_file new.shelf u ≡ unit_file old.shelf u
  same_file still = same_place old.shelf new.shelf u still quietly.others.names

  -- the name stands for what it stood for
  pub same_named : IsTrue new.shelf.is_honest → named_of (unit_file new.shelf u).seen ≡ named_of (unit_file old.shelf u).seen
  same_named honest = elim (still_or_open honest) [
    | inl still ↦ ap (λ (bytes : DeviceFile). named_of bytes.seen) (same_file still)
    | inr goes ↦
        let seen = (unit_file old.shelf u).seen in
        let later = (unit_file new.shelf u).seen in
        refused_named later (refused_open later (goes.after later (call.image_after honest)))
        ∙ sym (refused_named seen (refused_open seen (goes.before seen (call.image_before (was_honest honest)))))
  ]

  pub same_schema : schema_behind after ≡ schema_behind file
  same_schema = ap file_schema call.reads.file

  pub same_broken : is_broken_file after ≡ is_broken_file file
  same_broken = ap has_broken call.reads.file

  same_rows : IsTrue new.shelf.is_honest → file_read_off after new.shelf ≡ file_read_off file old.shelf
  same_rows honest =
      ap (λ (parts : OpenFile). file_off parts (live_of after new.shelf)) call.reads.file
      ∙ ap (λ live. file_off (parts_of file) live) (call.reads.pages.rests.live honest)

  -- the unit holds what it held
  pub same_holding : IsTrue new.shelf.is_honest → holding_of new.shelf (Opened after) ≡ holding_of old.shelf (Opened file)
  same_holding honest = λ i. if same_broken i then Broken (same_schema i) else HasOpened (same_schema i) (same_rows honest i)

  -- what is shown of it is true where it was
  pub truly_held : IsTrue new.shelf.is_honest → IsTrulyHeld u (Opened file) old.shelf → IsTrulyHeld u (Opened after) new.shelf
  truly_held honest truly = record { closed = closed; opened = opened }
    where
      closed : (header : Header) → look_of (unit_file new.shelf u).seen ≡ Accepted header → IsTrulyClosed (unit_file new.shelf u) header
      closed header accepted = elim (still_or_open honest) [
        | inl still ↦ subst (λ (bytes : DeviceFile). IsTrulyClosed bytes header) (sym (same_file still))
            (truly.closed header (ap (λ (bytes : DeviceFile). look_of bytes.seen) (sym (same_file still)) ∙ accepted))
        | inr goes ↦
            let later = (unit_file new.shelf u).seen in
            let refused = refused_look later (refused_open later (goes.after later (call.image_after honest))) in
            absurd (cc)
      ]

      opened : (held : ShelfFile) → Opened after ≡ Opened held → IsFalse (is_broken_file held) → IsTrulyOpen new.shelf held (unit_file new.shelf u)
      opened held is unbroken =
          let same : after ≡ held = same_open after held is in
          let works : IsFalse (is_broken_file file) = sym same_broken ∙ ap (λ (h : ShelfFile). is_broken_file h) same ∙ unbroken in
          let was = truly.opened file refl works in
          subst (λ held. IsTrulyOpen new.shelf held (unit_file new.shelf u)) same (record {
            rows = was.rows;
            stands = call.reads.stands honest was.rows was.stands;
            closed = λ unchanged.
                let shut : is_begun (pages_behind file) ≡ false = sym call.reads.pages.goes.gate ∙ unchanged in
                let still = call.reads.pages.goes.still is_ready.ready.over shut in
                subst (λ (bytes : DeviceFile). AreClosed (schema_behind after) was.rows (content bytes)) (sym (same_file still))
                (subst (λ (schema : Schema). AreClosed schema was.rows (content (unit_file old.shelf u))) (sym same_schema) (was.closed shut));
          })
