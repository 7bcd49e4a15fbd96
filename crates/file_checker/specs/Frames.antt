-- The frames in which pages are kept.
use Rattle.std.specs.Prelude.{◌≡◌, ℕ, ◌*◌, ◌<◌, List, All, set, take, drop, slice_index_or}
use Rattle.file_checker.specs.declared.frames.Frame.{Frame}

-- the frame at this place has page n
abbrev pub IsFrameOf : List Frame → ℕ → ℕ → Type 0
IsFrameOf frames n place = (none : Frame) → (slice_index_or frames place none).page ≡ n

-- one frame has page n now, with these bytes, or nothing has changed
pub record SetsFrame (n : ℕ) (bytes : List ℕ) (old new : List Frame) : Type 0 where
  pub at : ℕ
  pub is : new ≡ set old at (record { page = n; bytes = bytes })

-- each frame of a page before `count` has its bytes, which are those of a file
abbrev pub AreRead : ℕ → List ℕ → List Frame → Type 0
AreRead count bytes frames = All (λ (frame : Frame). frame.page < count
    → frame.bytes ≡ take 4096 (drop (frame.page * 4096) bytes)) frames
