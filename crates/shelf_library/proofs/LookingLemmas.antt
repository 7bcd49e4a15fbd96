-- A unit that was looked at.
use Rattle.std.proofs.Common.{◌≡◌, ◌≢◌, inl, inr, ℕ, Bool, true, false, List, Option, Some, None, IsTrue, IsFalse, IfOk, IfErr, OnOk, OnErr, Result, Ok, Err, refl, sym, ap, subst, ◌∙◌}
use Rattle.page_store.specs.ShelfState.{FaultHasCause}
use Rattle.shelf_library.specs.Shelves.{HasHeader}
use Rattle.shelf_library.specs.Told.{held_by, seen_by, seen_after}
use Rattle.shelf_library.proofs.Terms.{Fault, Damage, Device, Memory, looked_at, seen_of, MayFail, untouched, OpensUnit, Shut, holding_at}
use Rattle.shelf_library.proofs.Terms.{is_broken, named_at, Seen, DeviceFile, ShelfState, unit_file, unit_name, Header, look_of, named_by}
use Rattle.shelf_library.proofs.Terms.{named_of, HeaderLook, Accepted, NoFile, Refused, ShelfFile, shown_by, LooksAt, AreUnits, ChangesAt}
use Rattle.shelf_library.proofs.Terms.{FitsItsFile, IsTrulyHeld, LibraryState, held_at, held_after, IsTrulyClosed, holding_of, world_of}
use Rattle.shelf_library.proofs.Terms.{Looked, Opened}
use Rattle.shelf_library.proofs.AsideLemmas.{only_here, holding_after, named_before, named_after, are_after, images_aside}
use Rattle.shelf_library.proofs.FaultLemmas.{has_risen}
use Rattle.shelf_library.proofs.UnitLemmas.{keeps_at, images_at, others_at}

-- what is told of a look is what the name stands for
seen_named : (c : Option (List ℕ)) → seen_by (look_of c) ≡ seen_of (named_of c)
seen_named None = refl
seen_named (Some bytes) = by_look (look_of (Some bytes))
  where
    by_look : (look : HeaderLook) → seen_by look ≡ seen_of (named_by bytes look)
    by_look NoFile = refl
    by_look Refused = refl
    by_look (Accepted header) = refl

-- what is held then is what was told
held_told : (shelf : ShelfState) (look : HeaderLook) → holding_of shelf (held_by look) ≡ looked_at (seen_by look)
held_told shelf NoFile = refl
held_told shelf Refused = refl
held_told shelf (Accepted header) = refl

pub no_file : (look : Result HeaderLook Fault) (file : ShelfFile) → held_after look ≡ Opened file → ⊥
no_file (Ok NoFile) file is = cc
no_file (Ok Refused) file is = cc
no_file (Ok (Accepted header)) file is = cc
no_file (Err fault) file is = cc

-- the look of a unit that holds a header
looked_by : (look : Result HeaderLook Fault) (header : Header) → held_after look ≡ Looked header → look ≡ Ok (Accepted header)
looked_by (Ok NoFile) header is = absurd (cc)
looked_by (Ok Refused) header is = absurd (cc)
looked_by (Ok (Accepted other)) header is = let same : other ≡ header = cc in ap (λ h. Ok (Accepted h)) same
looked_by (Err fault) header is = absurd (cc)

-- a fault that the shelf may answer
look_fault : (is_honest : Bool) (truly : Type 0) (old new : ℕ) (look : Result HeaderLook Fault) → FaultHasCause old new look → IfErr (seen_after look) (MayFail true false is_honest truly old new)
look_fault is_honest truly old new (Ok found) cause = tt
look_fault is_honest truly old new (Err fault) cause =
    let same : fault ≡ Device = cause.device in
    subst (MayFail true false is_honest truly old new) (sym same) (has_risen old new cause.counted)

module _ (u : ℕ) (look : Result HeaderLook Fault) (old new : LibraryState) (call : LooksAt u look old new) where
  look_changes : ChangesAt u (held_after look) old.shelf new.shelf old.held new.held
  look_changes = record {
    attached = call.attached;
    others = record { names = call.looks.only.names; others = λ name other. ap (λ file. file name) call.looks.only.file; honest = call.looks.only.honest };
    holds = call.holds;
  }

  same_file : unit_file new.shelf u ≡ unit_file old.shelf u
  same_file = λ i. (call.looks.only.file i) (unit_name (record { names = call.looks.only.names i; file = call.looks.only.file i; is_honest = false }) u)

  fits : FitsItsFile u (held_after look) new.shelf
  fits = record {
    looked = λ header is.
        let found = looked_by look header is in
        record {
          allowed = subst (λ l. IfOk l HasHeader) found call.looks.header;
          accepted = λ honest. ap (λ (file : DeviceFile). look_of file.seen) same_file ∙ sym (subst (λ l. IfOk l (λ look. look ≡ look_of (unit_file old.shelf u).seen)) found (call.looks.found honest));
        };
    ready = λ file is. absurd (no_file look file is);
  }

  pub units_looked : AreUnits new.shelf new.held
  units_looked = are_after u (held_after look) old.shelf new.shelf old.held new.held call.units look_changes fits

  still_true : IsTrulyHeld u (held_at old.held u) old.shelf → IsTrulyHeld u (held_after look) new.shelf
  still_true truly = record {
    closed = λ header is. subst (λ (file : DeviceFile). IsTrulyClosed file header) (sym same_file) (truly.closed header (ap (λ (file : DeviceFile). look_of file.seen) (sym same_file) ∙ is));
    opened = λ file is unbroken. absurd (no_file look file is);
  }

  holds_now : holding_at (world_of new.shelf new.held) u ≡ holding_of new.shelf (held_after look)
  holds_now = holding_after u (held_after look) old.shelf new.shelf old.held new.held call.units look_changes

  pub look_named : named_at (world_of new.shelf new.held) u ≡ named_at (world_of old.shelf old.held) u
  look_named =
      named_after u (held_after look) old.shelf new.shelf old.held new.held call.units look_changes
      ∙ ap (λ (file : DeviceFile). named_of file.seen) same_file
      ∙ sym (named_before u (held_after look) old.shelf new.shelf old.held new.held call.units look_changes)

  pub look_seen : IsTrue new.shelf.is_honest → IfOk (seen_after look) (λ seen. seen ≡ seen_of (named_at (world_of old.shelf old.held) u))
  look_seen honest = by_found look (call.looks.found honest)
    where
      by_found : (l : Result HeaderLook Fault) → IfOk l (λ look. look ≡ look_of (unit_file old.shelf u).seen) → IfOk (seen_after l) (λ seen. seen ≡ seen_of (named_at (world_of old.shelf old.held) u))
      by_found (Ok found) is =
          ap seen_by is ∙ seen_named (unit_file old.shelf u).seen
          ∙ ap seen_of (sym (named_before u (held_after look) old.shelf new.shelf old.held new.held call.units look_changes))
      by_found (Err fault) is = tt

  pub look_holding : IfOk (seen_after look) (λ seen. holding_at (world_of new.shelf new.held) u ≡ looked_at seen)
  look_holding = by_told look holds_now
    where
      by_told : (l : Result HeaderLook Fault) → holding_at (world_of new.shelf new.held) u ≡ holding_of new.shelf (held_after l) → IfOk (seen_after l) (λ seen. holding_at (world_of new.shelf new.held) u ≡ looked_at seen)
      by_told (Ok found) is = is ∙ held_told new.shelf found
      by_told (Err fault) is = tt

look_spares : (old new : ℕ) (look : Result HeaderLook Fault) → FaultHasCause old new look → IfErr (seen_after look) (λ fault. fault ≢ Damage)
look_spares old new (Ok found) cause = tt
look_spares old new (Err fault) cause = λ damage. let same : fault ≡ Device = cause.device in cc

-- it takes no memory
look_needs_none : (old new : ℕ) (look : Result HeaderLook Fault) → FaultHasCause old new look → IfErr (seen_after look) (λ fault. fault ≢ Memory)
look_needs_none old new (Ok found) cause = tt
look_needs_none old new (Err fault) cause = λ memory. let same : fault ≡ Device = cause.device in cc

pub look_not_memory : (u : ℕ) (look : Result HeaderLook Fault) (old new : LibraryState) → LooksAt u look old new
    → (told : Result Seen Fault) → told ≡ seen_after look → IfErr told (λ fault. fault ≢ Memory)
look_not_memory u look old new call told is =
    subst (λ (r : Result Seen Fault). IfErr r (λ fault. fault ≢ Memory)) (sym is) (look_needs_none old.faults new.faults look call.looks.cause)

-- what a look promises
pub look_opens : {S : Type 0} (state : S → LibraryState) (u : ℕ) (look : Result HeaderLook Fault) (old new : S) → LooksAt u look (state old) (state new)
    → (told : Result Seen Fault) → told ≡ seen_after look → OpensUnit (shown_by state) u untouched old new told
look_opens {S} state u look old new call told is =
    let changes = look_changes u look (state old) (state new) call in
    let one = held_after look in
    let name = unit_name (state old).shelf u in
    subst (λ (r : Result Seen Fault). OpensUnit (shown_by state) u untouched old new r) (sym is) (record {
      err = shut look (holds_now u look (state old) (state new) call);
      unbroken = unbroken look (holds_now u look (state old) (state new) call);
      only = only_here u one (state old).shelf (state new).shelf (state old).held (state new).held call.units changes;
      fault = look_fault (state new).shelf.is_honest _ (state old).faults (state new).faults look call.looks.cause;
      undamaged = λ honest. look_spares (state old).faults (state new).faults look call.looks.cause;
      memory = λ lacked. absurd (subst (λ (r : Result Seen Fault). IfErr r (λ fault. fault ≢ Memory)) lacked (look_needs_none (state old).faults (state new).faults look call.looks.cause) refl);
      images = λ honest truly.
          images_at state u one old new call.units changes untouched (images_aside state old new name (ap (λ file. file name) call.looks.only.file)) tt;
      others = others_at state u one old new call.units changes;
      keeps = keeps_at state u one old new call.units changes call.limit call.frames call.looks.cause.no_fewer (λ honest truly. still_true u look (state old) (state new) call truly);
    })
  where
    shut : (l : Result HeaderLook Fault) → holding_at (world_of (state new).shelf (state new).held) u ≡ holding_of (state new).shelf (held_after l)
        → OnErr (seen_after l) (holding_at (world_of (state new).shelf (state new).held) u ≡ Shut)
    shut (Ok found) is = tt
    shut (Err fault) is = is

    unbroken : (l : Result HeaderLook Fault) → holding_at (world_of (state new).shelf (state new).held) u ≡ holding_of (state new).shelf (held_after l)
        → OnOk (seen_after l) (IsFalse (is_broken (holding_at (world_of (state new).shelf (state new).held) u)))
    unbroken (Ok NoFile) is = ap is_broken is
    unbroken (Ok Refused) is = ap is_broken is
    unbroken (Ok (Accepted header)) is = ap is_broken is
    unbroken (Err fault) is = tt
