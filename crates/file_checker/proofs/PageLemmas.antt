-- A page of a unit's file, in the list of the first ones.
use Rattle.std.proofs.Common.{◌≡◌, ◌<◌, ◌≤◌, ◌*◌, ℕ, true, false, nat_lt, List, [], Some, None, take, drop, length, ap, sym, subst, refl, ◌∙◌}
use Rattle.std.specs.Prelude.{slice_index_or}
use Rattle.file_checker.specs.declared.frames.Frame.{Frame}
use Rattle.file_checker.specs.Frames.{AreRead, IsFrameOf}
use Rattle.std.proofs.lemmas.Bool.{lt-ltb, le-ltb}
use Rattle.pages.specs.PageList.{pages_in}
use Rattle.pages.specs.Chunks.{chunks}
use Rattle.pages.proofs.ChunkLemmas.{get_or-chunks, length-chunks}

-- page n is there
pub page_there : (bytes : List ℕ) (count n : ℕ) (page : List ℕ) → n < count → page ≡ take 4096 (drop (n * 4096) bytes)
    → Some page ≡ pages_in (chunks 4096 count bytes) n
page_there bytes count n page inside is =
    let yes : nat_lt n (length (chunks 4096 count bytes)) ≡ true = rw (length-chunks 4096 count bytes) (lt-ltb n count inside) in
    rw yes (ap Some (is ∙ sym (get_or-chunks 4096 count n bytes [] inside)))

-- and no page behind them
pub no_page : (bytes : List ℕ) (count n : ℕ) → count ≤ n → None ≡ pages_in (chunks 4096 count bytes) n
no_page bytes count n behind =
    let no : nat_lt n (length (chunks 4096 count bytes)) ≡ false = rw (length-chunks 4096 count bytes) (le-ltb n count behind) in
    rw no refl

-- the frame of a page has what was read
pub frame_has : (count : ℕ) (bytes : List ℕ) (frames : List Frame) (n place : ℕ) (none : Frame) → AreRead count bytes frames → IsFrameOf frames n place → place < length frames → n < count
    → (slice_index_or frames place none).bytes ≡ take 4096 (drop (n * 4096) bytes)
frame_has count bytes frames n place none all is inside within =
    let page = is none in
    let below : (slice_index_or frames place none).page < count = subst (λ (k : ℕ). k < count) (sym page) within in
    all place none inside below ∙ ap (λ (k : ℕ). take 4096 (drop (k * 4096) bytes)) page
