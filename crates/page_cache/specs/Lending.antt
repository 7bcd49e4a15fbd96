-- What a loan of a held page leaves.
use Rattle.std.specs.Prelude.{◌≡◌, ◌≢◌, ℕ, List, Result, Some, true, option_map, IsSome, IsOk, IfOk, ⊤}
use Rattle.std.specs.Borrow.{LendsSoOk, follows_so, MutBor, Fml, u8, Array}
use mathlib.Core.Option.{none}
use Rattle.io_state.specs.declared.fault.Fault.{Fault}
use Rattle.page_cache.specs.declared.cache.Cache.{Cache}
use Rattle.page_cache.specs.contracts.cache.Cache.{the_row}
use Rattle.page_cache.specs.Cached.{frame_of, bytes_held}

-- the same frames
pub record SameFrames (old new : Cache) : Type 0 where
  pub frames : (k : ℕ) → frame_of new k ≡ frame_of old k
  pub cap : new.frames.cap ≡ old.frames.cap
  pub store : new.store ≡ old.store
  pub asked : new.asked ≡ old.asked

-- the bytes of page n are answered where it has a frame, and it fails only where it has none
pub record FindsBytes {X : Type 0} (n : ℕ) (cache : Cache) (result : Result X Fault)
    (bytes_of : X → List ℕ) : Type 0 where
  pub ok : IsSome (frame_of cache n) → IsOk result
  pub value : IfOk result (λ page. bytes_held cache n ≡ Some (bytes_of page))

-- the frame of page n holds these bytes, and counts as changed; every other frame is as it was
pub record FrameSet (n : ℕ) (bytes : List ℕ) (old new : Cache) : Type 0 where
  pub this : bytes_held new n ≡ Some bytes
  pub changed : option_map (λ frame. frame.changed) (frame_of new n) ≡ Some true
  pub others : (k : ℕ) → k ≢ n → frame_of new k ≡ frame_of old k
  pub cap : new.frames.cap ≡ old.frames.cap
  pub store : new.store ≡ old.store
  pub asked : new.asked ≡ old.asked

abbrev pub LendsHeld : MutBor Cache → ℕ → Result (MutBor (List ℕ)) Fault → Fml
LendsHeld s n r = LendsSoOk the_row (Array u8 4096) s r (λ after bytes. FrameSet n bytes s.now after)
    (λ after. SameFrames s.now after)

abbrev pub ShowsHeld : MutBor Cache → Fml
ShowsHeld s = follows_so the_row the_row s.ghost_name none (λ _ _. ⊤) (λ after. SameFrames s.now after)
