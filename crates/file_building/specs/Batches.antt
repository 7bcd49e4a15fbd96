-- The entries that are of the least ranks above one, of those that come one after another.
use Rattle.std.specs.Prelude.{◌≡◌, ◌≤◌, ℕ, Bool, true, false, List, [], ◌∷◌, ◌++◌, length, Option, None, Some, Result, IfOk}
use Rattle.std.specs.Option.{IfSome}
use Rattle.io_state.specs.declared.fault.Fault.{Fault}
use Rattle.record_heap.specs.Chain.{IsOneOf}
use Rattle.key_index.specs.declared.entry.AltEntry.{AltEntry}
use Rattle.file_building.specs.declared.held_entries.HeldEntries.{HeldEntries}
use Rattle.file_building.specs.declared.batch.Batch.{Batch}
use Rattle.file_building.specs.declared.batch.LowerPart.{LowerPart}
use Rattle.file_building.specs.Held.{held_entries, IsHeldFor, entries_up_to}
use Rattle.file_building.specs.Ranks.{is_lower, AreUntied}
use Rattle.file_building.specs.Within.{entries_within}

-- the top is of a higher rank than the one above which entries are held, and some are held
pub record IsTopOf (above : AltEntry) (held : List AltEntry) (top : AltEntry) : Type 0 where
  pub higher : is_lower above top ≡ true
  pub some : 1 ≤ length held

-- of the entries seen it holds those between its ranks
pub record HasTakenEntries (batch : Batch) (seen : List AltEntry) : Type 0 where
  pub held : held_entries batch.held ≡ entries_within batch.above batch.top seen
  pub topped : IfSome batch.top (IsTopOf batch.above (held_entries batch.held))

-- it is for entries above the same rank, of the same lengths
pub record KeepsBatch (old new : Batch) : Type 0 where
  pub above_is : new.above ≡ old.above
  pub most_is : new.most ≡ old.most
  pub fits : IsHeldFor old.held.width old.held.prime new.held

-- none was seen yet
pub record BeginsBatch (above : AltEntry) (width prime : ℕ) (batch : Batch) : Type 0 where
  pub above_is : batch.above ≡ above
  pub fits : IsHeldFor width prime batch.held
  pub begun : HasTakenEntries batch []

-- it has taken the entries; or two of them have one rank
abbrev pub EndsOffer : Batch → List AltEntry → Bool → Type 0
EndsOffer new seen true = HasTakenEntries new seen
EndsOffer new seen false = AreUntied is_lower seen → ⊥

-- a call that takes one more entry
pub record OffersEntry (old new : Batch) (e : AltEntry) (result : Result Bool Fault) : Type 0 where
  pub taken : (seen : List AltEntry) → HasTakenEntries old seen → IfOk result (EndsOffer new (seen ++ e ∷ []))
  pub same : KeepsBatch old new

-- a call that gives up entries of the greatest ranks
pub record CutsBatch (old new : Batch) (result : Result Bool Fault) : Type 0 where
  pub taken : (seen : List AltEntry) → HasTakenEntries old seen → IfOk result (EndsOffer new seen)
  pub same : KeepsBatch old new

-- those of some entries that are of no higher rank than one of them
pub record IsLowerPart (held : HeldEntries) (part : LowerPart) : Type 0 where
  pub one : IsOneOf (held_entries held) part.top
  pub held_are : held_entries part.held ≡ entries_up_to part.top (held_entries held)
  pub fits : IsHeldFor held.width held.prime part.held

-- so; or two have one rank
abbrev pub EndsLowerPart : HeldEntries → Option LowerPart → Type 0
EndsLowerPart held None = AreUntied is_lower (held_entries held) → ⊥
EndsLowerPart held (Some part) = IsLowerPart held part
