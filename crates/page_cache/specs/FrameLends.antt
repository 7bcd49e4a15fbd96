-- What a loan of a page in its frame leaves.
use Rattle.std.specs.Prelude.{ℕ, nat_eq, true, List, Option}
use Rattle.std.specs.Borrow.{LendsIf, MutBor, Fml, u8, Array}
use Rattle.std.specs.Map.{set_value}
use Rattle.page_cache.specs.contracts.frames.Frames.{the_row}
use Rattle.page_cache.specs.HeldFrames.{HeldFrames, held_frames}

-- page n ends with the bytes last written through r, and as one that was changed
abbrev pub LendsPage : ℕ → MutBor HeldFrames → Option (MutBor (List ℕ)) → Fml
LendsPage n s r = LendsIf the_row (Array u8 4096) s r (λ w.
    held_frames (set_value (nat_eq n) s.now.entries (record { changed = true; page = w })) s.now.cap) s.now
