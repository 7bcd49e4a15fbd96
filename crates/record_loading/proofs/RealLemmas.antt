-- No image becomes a false one.
use Rattle.std.proofs.Common.{◌≡◌, ℕ, List, [], ◌∷◌, bytes_eq, slice_index_or, ap, subst}
use Rattle.std.proofs.lemmas.Slice.Eq.{bytes_eq-Decides}
use Rattle.indexed_file.proofs.TestLemmas.{either}
use Rattle.indexed_file.proofs.ImageLemmas.{may_within}
use Rattle.indexed_file.specs.Images.{Trace, Stays, AllStay, LibraryMayLeave, ImagesGo}
use Rattle.indexed_file.specs.Moments.{JoinsStretches, EndsNow}
use Rattle.indexed_file.specs.Shown.{Shown}
use Rattle.indexed_file.specs.World.{World, FileUnit, Named, Absent, Shut, attached, name_at}
use Rattle.record_loading.specs.Real.{StaysReal, AllStayReal}

-- the one name that was attached is that of unit 0
pub name_attached : (w old : World) (name : List ℕ) → w.units ≡ attached old (name ∷ []) → name_at w 0 ≡ name
name_attached w old name is = ap (λ (units : List FileUnit). (slice_index_or units 0 (record { name = []; named = Absent; holding = Shut })).name) is

module _ {S : Type 0} (shown : Shown S) where
  real_stays : (old new : S) (name : List ℕ) → Stays shown.moments old new name → StaysReal shown old new name
  real_stays old new name stays first = (stays.within first).0

  pub real_all_stay : (old new : S) → AllStay shown.moments old new → AllStayReal shown old new
  real_all_stay old new stay name = real_stays old new name (stay name)

  real_may : (these : List Named) (old new : S) (name : List ℕ) → LibraryMayLeave shown.moments these old new name → StaysReal shown old new name
  real_may these old new name may first = (may_within shown.moments these old new name may first).0

  -- where the images of a name go, and those of all others stay
  pub real_goes : (at : List ℕ) (trace : Trace) (old new : S) → ImagesGo shown.moments at trace old new → AllStayReal shown old new
  real_goes at trace old new go name =
      either (bytes_eq at name) (StaysReal shown old new name)
      (λ hit. subst (λ (n : List ℕ). StaysReal shown old new n) ((bytes_eq-Decides at name).0 hit) (real_may trace.may old new at go.may))
      (λ miss. real_stays old new name (go.others name miss))

  -- two stretches in a row
  pub real_both : JoinsStretches shown.moments → EndsNow shown.moments → (a b c : S) → AllStayReal shown a b → AllStayReal shown b c → AllStayReal shown a c
  real_both joins ends a b c one two name first =
      let here = one name first in
      (joins a b c name here (two name (ends a b name here).0)).0
