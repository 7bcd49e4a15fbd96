-- What reads give of an honest folder is one of the images, as a shelf promises.
use Rattle.std.proofs.Common.{◌≡◌, ◌≤◌, ◌==◌, nat_le, ℕ, List, [], ◌∷◌, ◌++◌, Option, Some, None, true, false}
use Rattle.std.proofs.Common.{Bool, IsTrue, is_some, not, ◌&&◌, ◌||◌, if◌then◌else◌, length, take, bytes_eq}
use Rattle.std.proofs.Common.{subst, inl, inr, arith}
use Rattle.std.proofs.lemmas.Bool.{cases_Bool, and_parts, leb-true}
use Rattle.std.proofs.lemmas.List.{length-take}
use Rattle.page_store.specs.DeviceFile.{DeviceFile, wrote, content, overlay}
use Rattle.page_store.specs.Images.{Leaves}
use Rattle.page_store.proofs.ImageLemmas.{leaves_written, leaves_synced}
use Rattle.page_store.proofs.TornLemmas.{part_torn}
use Rattle.page_store.proofs.FileLemmas.{some_bytes}
use Rattle.page_store.proofs.MadeLemmas.{made_image}
use Rattle.folder_shelf.specs.Calls.{Call, looked, made, measured, read, held, written, flushed, entered}
use Rattle.folder_shelf.specs.Calls.{asked_of_folder, taken, taken_shared, streams_held}
use Rattle.folder_shelf.specs.Replay.{Unseen, DiskFiles, put_file, is_held_before, after_system_call, replay}

-- the file is there and has at least n bytes
abbrev pub is_long_enough : DeviceFile → ℕ → Bool
is_long_enough f n = is_some f.seen && nat_le n (length (content f))

-- what now stands where these bytes were to be written, of which n were taken
abbrev pub left_by_write : ℕ → List ℕ → List ℕ → List ℕ
left_by_write n bytes torn = if n == length bytes then bytes else take (length bytes) torn

abbrev Sound : DeviceFile → Type 0
Sound f = Leaves f f.seen

put_sound : (files : List ℕ → DeviceFile) (path : List ℕ) (f : DeviceFile)
    → ((other : List ℕ) → Sound (files other)) → Sound f → (other : List ℕ)
    → Sound (put_file files path f other)
put_sound files path f all one other = elim (cases_Bool
    (bytes_eq other path)) [ inl e ↦ rw e one | inr e ↦ rw e (all other) ]

there : (f : DeviceFile) → is_some f.seen ≡ true → Sound f → Leaves f (Some (content f))
there f some sound = subst (λ (o : Option (List ℕ)). Leaves f o) (some_bytes f.seen some) sound

pub length_left : (n : ℕ) (bytes torn : List ℕ) → length (left_by_write n bytes torn) ≤ length bytes
length_left n bytes torn = elim (cases_Bool (n == length bytes)) [
  | inl e ↦ rw e
      (omega arith)
  | inr e ↦ rw e (omega (arith, length-take (length bytes) torn))
]

written_sound : (f : DeviceFile) (at n : ℕ) (bytes torn : List ℕ) → is_long_enough f at ≡ true → Sound f
    → Sound (record {
      seen = Some (overlay (content f) at (left_by_write n bytes torn));
      log = f.log ++ wrote at (length bytes) ∷ [];
    })
written_sound f at n bytes torn fits sound =
    let parts = and_parts (is_some f.seen) (nat_le at (length (content f))) fits in
    let low = leb-true at (length (content f)) parts.1 in
    leaves_written f.log (content f) (overlay (content f) at (left_by_write n bytes torn)) at (length bytes)
    low
    (part_torn (content f) at bytes (left_by_write n bytes torn) (length_left n bytes torn))
    (there f parts.0 sound)

module _ (disk : Unseen) (earlier : List Call) (m : DiskFiles) (all : (path : List ℕ)
    → Sound (m.file path)) where
  one_call : (c : Call) → IsTrue (after_system_call disk earlier c m).is_honest → (path : List ℕ)
      → Sound ((after_system_call disk earlier c m).file path)
  one_call (looked path None) h = all
  one_call (looked path (Some there)) h = all
  one_call (made path ok) h =
      let p = and_parts m.is_honest (not (is_some (m.file path).seen)) h in
      put_sound m.file path _ all (made_image (m.file path) (ok || disk.came earlier) p.1 (all path))
  one_call (measured path None) h = all
  one_call (measured path (Some size)) h = all
  one_call (read path ok at bytes) h = all
  one_call (held path ok) h = all
  one_call (written path at n bytes) h =
      let p = and_parts m.is_honest (is_held_before path earlier && is_long_enough (m.file path) at) h in
      let q = and_parts (is_held_before path earlier) (is_long_enough (m.file path) at) p.1 in
      put_sound m.file path _ all (written_sound (m.file path) at n bytes (disk.torn earlier) q.1
      (all path))
  one_call (flushed path true) h =
      put_sound m.file path _ all (leaves_synced (m.file path).log (content (m.file path)))
  one_call (flushed path false) h = all
  one_call (entered path) h = all
  one_call (asked_of_folder path told) h = all
  one_call (taken path most bytes) h = all
  one_call (taken_shared path most bytes) h = all
  one_call (streams_held done) h = all

was_honest : (disk : Unseen) (earlier : List Call) (m : DiskFiles) (c : Call)
    → IsTrue (after_system_call disk earlier c m).is_honest → IsTrue m.is_honest
was_honest disk earlier m (looked path None) h = h
was_honest disk earlier m (looked path (Some there)) h = (and_parts m.is_honest _ h).0
was_honest disk earlier m (made path ok) h = (and_parts m.is_honest _ h).0
was_honest disk earlier m (measured path None) h = h
was_honest disk earlier m (measured path (Some size)) h = (and_parts m.is_honest _ h).0
was_honest disk earlier m (read path ok at bytes) h = (and_parts m.is_honest _ h).0
was_honest disk earlier m (held path ok) h = h
was_honest disk earlier m (written path at n bytes) h = (and_parts m.is_honest _ h).0
was_honest disk earlier m (flushed path ok) h = (and_parts m.is_honest _ h).0
was_honest disk earlier m (entered path) h = h
was_honest disk earlier m (asked_of_folder path told) h = h
was_honest disk earlier m (taken path most bytes) h = h
was_honest disk earlier m (taken_shared path most bytes) h = h
was_honest disk earlier m (streams_held done) h = h

pub replay_sound : (disk : Unseen) → ((path : List ℕ) → Sound (disk.first path))
    → (calls : List Call) (path : List ℕ) → IsTrue (replay disk calls).is_honest
    → Sound ((replay disk calls).file path)
replay_sound disk all [] path h = all path
replay_sound disk all (c ∷ earlier) path h =
    let before = was_honest disk earlier (replay disk earlier) c h in
    one_call disk earlier (replay disk earlier) (λ n. replay_sound disk all earlier n before) c h path
