-- What became of words that ask for a session.
use Rattle.std.proofs.Common.{◌≡◌, ◌≢◌, ◌⊎◌, inl, inr, ℕ, Bool, List, [], ◌∷◌, Result, Ok, Err, refl}
use Rattle.page_store.specs.declared.shelf.Shelf.{Ghosts}
use Rattle.folder_shelf.specs.Calls.{entered}
use Rattle.folder_shelf.specs.SystemState.{SystemState}
use Rattle.folder_shelf.specs.Replay.{Unseen}
use Rattle.serve.specs.Serving.{Streams}
use Rattle.command_line.specs.AskedSession.{EndsUnread, EndsRequests}
use Rattle.serve.specs.declared.fault.ServeFault.{ServeFault}
use Rattle.serve.specs.declared.fault.ServeFault.TheVariants as served
use Rattle.command_line.specs.Session.{session_end_as, shown_over, keeps_over, IsNewOver, IsLeftIn, IsExactOver, ServedOver}
use Rattle.command_line.specs.declared.session.ServedEnd.{ServedEnd}
use Rattle.shelf_library.specs.declared.library.ShelfLibrary.{ShelfLibrary}
use Rattle.command_support.specs.declared.fault.CommandFault.{CommandFault}
use Rattle.command_support.specs.declared.fault.CommandFault.TheVariants as faults

-- a session over a folder came to its end, or memory was wanted before its first request
module _ {X : Type 0} (shelf : Ghosts X) (keeps_open : X → ℕ → Bool) (disk : Unseen) (folder : List ℕ) (pages frames : ℕ) (s : Streams) (system : SystemState) where
  abbrev pub Ends : ServedEnd → Type 0
  Ends session = EndsUnread s folder system session
      ⊎ EndsRequests (shown_over shelf) (keeps_over shelf keeps_open) (IsNewOver shelf disk folder pages frames) (IsLeftIn shelf disk system) (IsExactOver disk folder system) s session

  abbrev pub IsServed : ServedEnd → Type 0
  IsServed session = session.requests ≢ Err faults.Memory → (start : ShelfLibrary X shelf) × IsNewOver shelf disk folder pages frames start
      × (served : ServedOver (shown_over shelf) (keeps_over shelf keeps_open) start s (IsLeftIn shelf disk system) session)
      × IsExactOver disk folder system served.ends.session.served.exchanges served.ends.session.closes

  abbrev pub IsUnread : ServedEnd → Type 0
  IsUnread session = session.requests ≡ Err faults.Memory → (s.input_after ≡ s.input) × (s.output_after ≡ s.output) × (system.calls ≡ entered folder ∷ [])

  requests_end : (session : ServedEnd) → session.requests ≢ Err faults.Memory → IsServed session → Ends session
  requests_end session other served = let so = served other in inr (record { start = so.0; is_new = so.1; served = so.2; exact = so.3 })

  came_by : (requests : Result Unit CommandFault) (session : ServedEnd) → session.requests ≡ requests → IsServed session → IsUnread session → Ends session
  came_by (Ok done) session is served unread = requests_end session (λ (same : session.requests ≡ Err faults.Memory). absurd (cc)) served
  came_by (Err faults.Memory) session is served unread = let none = unread is in inl (record { memory = is; unread = none.0; unwritten = none.1; unasked = none.2 })
  came_by (Err fault) session is served unread = requests_end session (λ (same : session.requests ≡ Err faults.Memory). absurd (cc)) served

  pub session_ends : (session : ServedEnd) → IsServed session → IsUnread session → Ends session
  session_ends session served unread = came_by session.requests session refl served unread

-- memory was wanted where that is told
pub no_memory : (requests : Result Unit ServeFault) → session_end_as requests ≡ Err faults.Memory → requests ≡ Err served.Memory
no_memory (Ok done) is = absurd (cc)
no_memory (Err served.Input) is = absurd (cc)
no_memory (Err served.Output) is = absurd (cc)
no_memory (Err served.Memory) is = refl
