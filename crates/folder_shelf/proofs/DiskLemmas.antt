-- Steps from one folder to the next, and disks.
use Rattle.std.proofs.Common.{◌≡◌, ◌<◌, ℕ, ◌==◌, Bool, true, List, [], ◌∷◌, length, Some, None, refl, ap, sym, ◌∙◌, arith, if◌then◌else◌}
use Rattle.std.proofs.lemmas.Bool.{ne_eqb}
use Rattle.std.proofs.lemmas.Grind.{common_steps}
use Rattle.folder_shelf.specs.Calls.{Call, looked, made, measured, read, held, written, flushed, entered, asked_of_folder, taken, taken_shared, streams_held}
use Rattle.folder_shelf.specs.Replay.{Unseen, DiskFiles, after_system_call, replay}
use Rattle.folder_shelf.specs.FolderLaws.{disk_so, files_at_first, each_disk_goes_so, each_way_has_its_disk}

-- of a disk a call meets what it does then, and nothing else
one_step : (disk : Unseen) (earlier : List Call) (call : Call) (m : DiskFiles) → after_system_call disk earlier call m ≡ after_system_call (disk_so m (disk.came earlier) (disk.torn earlier)) earlier call m
one_step disk earlier (looked path None) m = refl
one_step disk earlier (looked path (Some there)) m = refl
one_step disk earlier (made path ok) m = refl
one_step disk earlier (measured path None) m = refl
one_step disk earlier (measured path (Some size)) m = refl
one_step disk earlier (read path ok at bytes) m = refl
one_step disk earlier (held path ok) m = refl
one_step disk earlier (written path at n bytes) m = refl
one_step disk earlier (flushed path ok) m = refl
one_step disk earlier (entered path) m = refl
one_step disk earlier (asked_of_folder path told) m = refl
one_step disk earlier (taken path most bytes) m = refl
one_step disk earlier (taken_shared path most bytes) m = refl
one_step disk earlier (streams_held done) m = refl

pub each_disk : each_disk_goes_so
each_disk disk [] = refl
each_disk disk (call ∷ earlier) = (
  replay disk earlier,
  each_disk disk earlier,
  record { came = disk.came earlier; torn = disk.torn earlier; is = one_step disk earlier call (replay disk earlier) },
)

-- a call that meets the same leads to the same
same_step : (disk : Unseen) (earlier : List Call) (call : Call) (m : DiskFiles) (came : Bool) (torn : List ℕ) → disk.came earlier ≡ came → disk.torn earlier ≡ torn
    → after_system_call disk earlier call m ≡ after_system_call (disk_so m came torn) earlier call m
same_step disk earlier call m came torn is also =
    one_step disk earlier call m ∙ ap (λ (c : Bool). after_system_call (disk_so m c (disk.torn earlier)) earlier call m) is
    ∙ ap (λ (t : List ℕ). after_system_call (disk_so m came t) earlier call m) also

-- disks that do the same after so few calls
abbrev Agree : ℕ → Unseen → Unseen → Type 0
Agree n one other = (calls : List Call) → length calls < n → (one.came calls ≡ other.came calls) × (one.torn calls ≡ other.torn calls)

same_replay : (one other : Unseen) (calls : List Call) → one.first ≡ other.first → Agree (length calls) one other → replay one calls ≡ replay other calls
same_replay one other [] first agree = ap files_at_first first
same_replay one other (call ∷ earlier) first agree =
    let here = agree earlier (omega arith) in
    let rest = same_replay one other earlier first (λ cs few. agree cs (omega (arith, few))) in
    same_step one earlier call (replay one earlier) (other.came earlier) (other.torn earlier) here.0 here.1
    ∙ sym (one_step other earlier call (replay one earlier)) ∙ ap (after_system_call other earlier call) rest

-- ---- a disk that does this after so many calls

abbrev then_so : Unseen → ℕ → Bool → List ℕ → Unseen
then_so disk n came torn = record {
  first = disk.first;
  came = λ calls. if length calls == n then came else disk.came calls;
  torn = λ calls. if length calls == n then torn else disk.torn calls;
}

same_number : (n : ℕ) → (n == n) ≡ true
same_number n = grind (arith, common_steps)

here : {X : Type 0} (n : ℕ) (x y : X) → (if n == n then x else y) ≡ x
here n x y = rw (same_number n) refl

before : {X : Type 0} (m n : ℕ) (x y : X) → m < n → (if m == n then x else y) ≡ y
before m n x y less = rw (ne_eqb m n (λ same. omega (arith, less, same))) refl

pub each_way : each_way_has_its_disk
each_way first [] files is = (record { first = first; came = λ calls. true; torn = λ calls. [] }, refl, sym is)
each_way first (call ∷ earlier) files way =
    let rest = each_way first earlier way.0 way.1 in
    let step = way.2 in
    let disk = then_so rest.0 (length earlier) step.came step.torn in
    let still : replay disk earlier ≡ way.0 = same_replay disk rest.0 earlier refl
    (λ calls few. (before (length calls) (length earlier) step.came (rest.0.came calls) few, before (length calls) (length earlier) step.torn (rest.0.torn calls) few)) ∙ rest.2 in (
      disk,
      rest.1,
      ap (after_system_call disk earlier call) still
          ∙ same_step disk earlier call way.0 step.came step.torn (here (length earlier) step.came (rest.0.came earlier)) (here (length earlier) step.torn (rest.0.torn earlier)) ∙ sym step.is,
    )
