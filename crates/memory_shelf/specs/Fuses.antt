-- What a fuse counts, and when it fails a call.
use Rattle.std.specs.Prelude.{◌≡◌, ◌⊎◌, Result, IsErrOf, ℕ, ◌+◌, ◌-◌, ◌^◌, min, Bool, true, false}
use Rattle.std.specs.Prelude.{◌==◌, ◌&&◌, ◌||◌, if◌then◌else◌}
use Rattle.io_state.specs.declared.fault.Fault.{Fault}
use Rattle.io_state.specs.declared.fault.Fault.TheVariants.{Device}
use Rattle.page_store.specs.ShelfState.{FaultHasCause}
use Rattle.memory_shelf.specs.declared.fuse.Kind.{Kind}
use Rattle.memory_shelf.specs.declared.fuse.Kind.TheVariants.{Reads, Writes, Syncs, Changes}
use Rattle.memory_shelf.specs.declared.fuse.Call.{Call}
use Rattle.memory_shelf.specs.declared.fuse.Call.TheVariants.{Create, Read, Write, Sync, Other}
use Rattle.memory_shelf.specs.declared.fuse.Turn.{Turn}
use Rattle.memory_shelf.specs.declared.fuse.Turn.TheVariants.{Perform, PerformAndFail, Fail}
use Rattle.memory_shelf.specs.declared.fuse.Fuse.{Fuse}

-- a sum that stays where 64 bits end
abbrev pub capped : ℕ → ℕ → ℕ
capped a b = min (a + b) (2 ^ 64 - 1)

-- a fuse that has counted no call
abbrev pub unused_fuse : Kind → ℕ → Bool → Bool → Fuse
unused_fuse kind at after for_good = record {
  kind = kind;
  at = at;
  after = after;
  for_good = for_good;
  creates = 0;
  reads = 0;
  writes = 0;
  syncs = 0;
  blown = false;
  refused = 0;
  unperformed = 0;
}

-- the fuse counts the calls of its kind
abbrev pub is_counted : Kind → Call → Bool
is_counted Changes Create = true
is_counted Changes Write = true
is_counted Changes Sync = true
is_counted Reads Read = true
is_counted Writes Write = true
is_counted Syncs Sync = true
is_counted _ _ = false

-- how many calls of a kind there were
abbrev pub calls_of : Fuse → Kind → ℕ
calls_of fuse Reads = fuse.reads
calls_of fuse Writes = fuse.writes
calls_of fuse Syncs = fuse.syncs
calls_of fuse Changes = capped (capped fuse.creates fuse.writes) fuse.syncs

-- this call is the one that was asked for, counted from 1
abbrev pub fires : Fuse → Call → Bool
fires fuse call = is_counted fuse.kind call && (calls_of fuse fuse.kind + 1 == fuse.at)

-- that call fails, and once the fuse is blown each call does
abbrev pub turn_of : Fuse → Call → Turn
turn_of fuse call = if fuse.blown then Fail else if fires fuse call then if fuse.after then PerformAndFail
    else Fail else Perform

abbrev pub counted : Fuse → Call → Fuse
counted fuse Create = record fuse { creates = capped fuse.creates 1 }
counted fuse Read = record fuse { reads = capped fuse.reads 1 }
counted fuse Write = record fuse { writes = capped fuse.writes 1 }
counted fuse Sync = record fuse { syncs = capped fuse.syncs 1 }
counted fuse Other = fuse

-- the fuse when it has counted a call
abbrev pub after_call : Fuse → Call → Fuse
after_call fuse call = record (counted fuse call) { blown = fuse.blown || (fires fuse call && fuse.for_good) }

-- and when one more call was refused
abbrev pub one_refused : Fuse → Fuse
one_refused fuse = record fuse { refused = capped fuse.refused 1 }

-- and when the shelf has not performed one that was to fail behind its effect
abbrev pub one_unperformed : Fuse → Fuse
one_unperformed fuse = record fuse { unperformed = capped fuse.unperformed 1 }

-- a call on a shelf behind a fuse. One that fails before its effect leaves the shelf as it was. One
-- that fails behind its effect was performed, or is counted as one that the shelf did not perform.
-- No other fails unless the shelf does. Each call that the fuse fails answers Device and is counted
-- as refused, and no other is.
pub record Fused {S T : Type 0} (call : Call) (faults : S → ℕ) (Effect : Type 0) (old new : Fuse)
    (before after : S) (result : Result T Fault) : Type 0 where
  pub refused : turn_of old call ≡ Fail → IsErrOf result Device × (after ≡ before)
      × (new ≡ one_refused (after_call old call))
  pub performed : turn_of old call ≡ PerformAndFail → IsErrOf result Device
      × ((Effect × (new ≡ one_refused (after_call old call)))
      ⊎ (new ≡ one_refused (one_unperformed (after_call old call))))
  pub passed : turn_of old call ≡ Perform → FaultHasCause (faults before) (faults after) result
      × (new ≡ after_call old call)
