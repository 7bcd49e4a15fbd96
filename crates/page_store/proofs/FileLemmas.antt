-- What is known of a file that is there, or is not.
use Rattle.std.proofs.Common.{◌+◌, ◌++◌, arith, take, drop, length-append, ◌≡◌, ◌≤◌, ◌<◌, ℕ, List, Option, Some, None, true, is_some, length, sym, ap, refl, subst, inl, inr, Result, Ok, Err, OnOk, OnErr}
use Rattle.std.proofs.lemmas.List.{length-take-le}
use Rattle.page_store.specs.DeviceFile.{DeviceFile, IsWithin, content, bytes_or_none}
use Rattle.page_store.specs.Images.{Leaves}
use Rattle.page_store.specs.Calls.{WrittenAt, WriteFails}
use Rattle.page_store.proofs.GateImageLemmas.{log_written, content_written}
use Rattle.page_store.proofs.ImageLemmas.{overlay_torn}
use Rattle.page_store.specs.Moments.{Quiet}
use Rattle.page_store.proofs.MomentLemmas.{quiet_none}
use Rattle.page_store.proofs.QuietLemmas.{quiet_written}

pub some_bytes : (seen : Option (List ℕ)) → is_some seen ≡ true → seen ≡ Some (bytes_or_none seen)
some_bytes None there = absurd (cc)
some_bytes (Some bytes) there = refl

-- what reads give of a file that is there is an image
pub there_image : (n : ℕ) (f : DeviceFile) → IsWithin n f → Leaves f f.seen → Leaves f (Some (content f))
there_image n f within may = subst (λ (v : Option (List ℕ)). Leaves f v) (some_bytes f.seen within.there) may

-- and of one that is not, that it may be absent
pub absent_image : (f : DeviceFile) → f.seen ≡ None → Leaves f f.seen → Leaves f None
absent_image f is may = subst (λ (v : Option (List ℕ)). Leaves f v) is may

-- a write behind the first byte that failed is quiet
pub quiet_failed : (f g : DeviceFile) (at n : ℕ) → 0 < at → WriteFails at n f g → Quiet f g
quiet_failed f g at n low (inl same) = quiet_none f g (ap (λ (x : DeviceFile). x.log) same)
quiet_failed f g at n low (inr torn) = quiet_written f g at n low (ap (λ (x : DeviceFile). x.log) torn.2)

-- and so is one that was done
pub quiet_done : (f g : DeviceFile) (at : ℕ) (bytes : List ℕ) → 0 < at → WrittenAt at bytes f g → Quiet f g
quiet_done f g at bytes low written = quiet_written f g at (length bytes) low (log_written at bytes f g written)

-- a write makes no file shorter, and reaches to its end
pub reached : (f g : DeviceFile) (at : ℕ) (bytes : List ℕ) → at ≤ length (content f) → WrittenAt at bytes f g → IsWithin (at + length bytes) g
reached f g at bytes low written =
    let rest = drop (at + length bytes) (content f) in
    let front = take at (content f) ++ bytes in
    let long : at + length bytes ≤ length (front ++ rest) = omega (arith, length-append front rest, length-append (take at (content f)) bytes, length-take-le at (content f) low) in
    subst (λ (x : DeviceFile). IsWithin (at + length bytes) x) (sym written.is) (record { there = refl; long = long })

pub longer_done : (f g : DeviceFile) (at : ℕ) (bytes : List ℕ) → at ≤ length (content f) → WrittenAt at bytes f g → length (content f) ≤ length (content g)
longer_done f g at bytes low written =
    let torn = overlay_torn (content f) at bytes low in
    subst (λ (x : List ℕ). length (content f) ≤ length x) (sym (content_written at bytes f g written)) torn.no_shorter

pub longer_failed : (f g : DeviceFile) (at n : ℕ) → WriteFails at n f g → length (content f) ≤ length (content g)
longer_failed f g at n (inl same) = let e = ap (λ (x : DeviceFile). length (content x)) same in omega arith
longer_failed f g at n (inr torn) = let e = ap (λ (x : DeviceFile). length (content x)) torn.2 in let longer = torn.1.no_shorter in omega arith

pub longer_either : {T E : Type 0} (r : Result T E) (f g : DeviceFile) (at n : ℕ) (bytes : List ℕ) → at ≤ length (content f) → OnOk r (WrittenAt at bytes f g) → OnErr r (WriteFails at n f g) → length (content f) ≤ length (content g)
longer_either (Ok v) f g at n bytes low ok err = longer_done f g at bytes low ok
longer_either (Err e) f g at n bytes low ok err = longer_failed f g at n err
