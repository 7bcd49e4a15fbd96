-- Calls after which a crash leaves what it could leave before, or a refused file: one after the other.
use Rattle.std.proofs.Common.{inl, inr, ℕ, List, Option}
use Rattle.page_store.specs.DeviceFile.{DeviceFile}
use Rattle.page_store.specs.Moments.{Throughout}
use Rattle.page_store.specs.Gate.{IsRefused, AllRefused, WasOrRefused}
use Rattle.page_store.proofs.MomentLemmas.{throughout_weaker, throughout_last, throughout_then}

-- a file that was refused is refused still
pub refused_after : (f g : DeviceFile) → AllRefused f → Throughout (WasOrRefused f) f g → AllRefused g
refused_after f g all images c may = either c (throughout_last (WasOrRefused f) f g images c may)
  where
    either : (c : Option (List ℕ)) → WasOrRefused f c → IsRefused c
    either c (inl was) = all c was
    either c (inr refused) = refused

weaker : (f g : DeviceFile) → Throughout (WasOrRefused f) f g → (c : Option (List ℕ)) → WasOrRefused g c → WasOrRefused f c
weaker f g images c (inl was) = throughout_last (WasOrRefused f) f g images c was
weaker f g images c (inr refused) = inr refused

pub images_then : (f g h : DeviceFile) → Throughout (WasOrRefused f) f g → Throughout (WasOrRefused g) g h → Throughout (WasOrRefused f) f h
images_then f g h fg gh = throughout_then (WasOrRefused f) f g h fg (throughout_weaker (WasOrRefused g) (WasOrRefused f) g h (weaker f g fg) gh)
