-- The laws of the images of the names of a shelf.
use Rattle.std.proofs.Common.{◌≡◌, ◌⊎◌, ℕ, zero, suc, ◌+◌, List, [], ◌∷◌, ◌++◌, length, take, Option, refl}
use Rattle.std.proofs.Common.{sym, ap, ◌∙◌, subst, arith, inl, inr}
use Rattle.std.proofs.Math.Seq.{take-append-add, take-length}
use Rattle.std.proofs.lemmas.List.{take_all, append_assoc}
use Rattle.indexed_file.specs.Moments.{JoinsStretches, EndsNow}
use Rattle.indexed_file.specs.World.{Named}
use Rattle.page_store.specs.DeviceFile.{FileStep, DeviceFile}
use Rattle.page_store.specs.Images.{Durable, nothing, after_step, durable_from, durable, MayLeave, Leaves}
use Rattle.page_store.specs.Moments.{AtEachMoment, Throughout}
use Rattle.page_store.proofs.ImageLemmas.{durable_from-append}
use Rattle.page_store.proofs.MomentLemmas.{throughout_then, throughout_last, throughout_none}
use Rattle.page_store.proofs.MomentLemmas.{throughout_weaker}
use Rattle.shelf_library.specs.Named.{named_of}
use Rattle.shelf_library.specs.Crashes.{IsSoundImage, MayBeFound, MayReadAs, moments_on}

-- ---- what may be found at some moment

found_within : (P : Option (List ℕ) → Type 0) (d : Durable) (more : List FileStep) (n : ℕ)
    → AtEachMoment P d more → (c : Option (List ℕ)) → MayLeave (durable_from d (take n more)) c → P c
found_within P d [] zero each c may = each c may
found_within P d [] (suc n) each c may = each c may
found_within P d (s ∷ more) zero each c may = each.0 c may
found_within P d (s ∷ more) (suc n) each c may = found_within P (after_step d s) more n each.1 c may

-- it is as all images are
pub found_such : (P : Option (List ℕ) → Type 0) (old new : DeviceFile) → Throughout P old new
    → (c : Option (List ℕ)) → MayBeFound old new c → P c
found_such P old new all c found =
    let n : ℕ = found.0 in
    let steps : take (length old.log + n) new.log ≡ old.log ++ take n all.more =
    ap (take (length old.log + n)) all.goes_on ∙ take-append-add old.log all.more n in
    found_within P (durable old.log) all.more n all.each c (subst (λ (d : Durable). MayLeave d c)
    (ap durable steps ∙ durable_from-append nothing old.log (take n all.more)) found.1)

-- a crash now may leave it
pub leaves_found : (file : DeviceFile) (c : Option (List ℕ)) → MayBeFound file file c → Leaves file c
leaves_found file c found =
    subst (λ (log : List FileStep). MayLeave (durable log) c)
    (take_all (length file.log + found.0) file.log (omega arith)) found.1

pub found_now : (file : DeviceFile) (c : Option (List ℕ)) → Leaves file c → MayBeFound file file c
found_now file c leaves = (
  0,
  subst (λ (log : List FileStep). MayLeave (durable log) c)
      (sym (take_all (length file.log + 0) file.log (omega arith))) leaves,
)

-- what may be found at the end may be found
pub found_last : (old new : DeviceFile) (more : List FileStep) → new.log ≡ old.log ++ more
    → (c : Option (List ℕ)) → Leaves new c → MayBeFound old new c
found_last old new more goes_on c leaves =
    let all : take (length old.log + length more) new.log ≡ new.log =
    ap (take (length old.log + length more)) goes_on ∙ take-append-add old.log more (length more)
    ∙ ap (λ (l : List FileStep). old.log ++ l) (take-length more) ∙ sym goes_on in
    (length more, subst (λ (log : List FileStep). MayLeave (durable log) c) (sym all) leaves)

-- the first steps of two lists of steps are some of the first, or all of it and some of the second
cut : (n : ℕ) (xs ys : List FileStep) → (take n (xs ++ ys) ≡ take n xs)
    ⊎ ((m : ℕ) × (take n (xs ++ ys) ≡ xs ++ take m ys))
cut n [] ys = inr (n, refl)
cut zero (x ∷ xs) ys = inl refl
cut (suc n) (x ∷ xs) ys = elim (cut n xs ys) [
  | inl same ↦ inl (ap (λ (l : List FileStep). x ∷ l) same)
  | inr later ↦ inr (later.0, ap (λ (l : List FileStep). x ∷ l) later.1)
]

-- what may be found in two stretches in a row may be found in the first or in the second
pub found_either : (f g h : DeviceFile) (more others : List FileStep) → g.log ≡ f.log ++ more
    → h.log ≡ g.log ++ others → (c : Option (List ℕ)) → MayBeFound f h c
    → MayBeFound f g c ⊎ MayBeFound g h c
found_either f g h more others first second c found = go (cut found.0 more others)
  where
    whole : h.log ≡ f.log ++ (more ++ others)
    whole = second ∙ ap (λ (l : List FileStep). l ++ others) first ∙ append_assoc f.log more others

    at : take (length f.log + found.0) h.log ≡ f.log ++ take found.0 (more ++ others)
    at = ap (take (length f.log + found.0)) whole ∙ take-append-add f.log (more ++ others) found.0

    go : (take found.0 (more ++ others) ≡ take found.0 more)
        ⊎ ((m : ℕ) × (take found.0 (more ++ others) ≡ more ++ take m others))
        → MayBeFound f g c ⊎ MayBeFound g h c
    go (inl early) = inl (
      found.0,
      subst (λ (log : List FileStep). MayLeave (durable log) c)
          (at ∙ ap (λ (l : List FileStep). f.log ++ l) early ∙ sym (take-append-add f.log more found.0)
          ∙ ap (take (length f.log + found.0)) (sym first)) found.1,
    )
    go (inr late) = inr (
      late.0,
      subst (λ (log : List FileStep). MayLeave (durable log) c)
          (at ∙ ap (λ (l : List FileStep). f.log ++ l) late.1
          ∙ sym (append_assoc f.log more (take late.0 others))
          ∙ ap (λ (l : List FileStep). l ++ take late.0 others) (sym first)
          ∙ sym (take-append-add g.log others late.0)
          ∙ ap (take (length g.log + late.0)) (sym second)) found.1,
    )

-- ---- images

-- each image of a file, as of the name that has it
abbrev pub EachRead : (Named → Type 0) → DeviceFile → DeviceFile → Type 0
EachRead P old new = Throughout IsSoundImage old new × ((image : Named) → MayReadAs old new image → P image)

-- they are real and such, where whatever a crash may leave is sound and reads as such
pub each_read : (P : Named → Type 0) (old new : DeviceFile)
    → Throughout (λ c. IsSoundImage c × P (named_of c)) old new → EachRead P old new
each_read P old new all = (
  throughout_weaker _ IsSoundImage old new (λ c both. both.0) all,
  λ image is. subst P is.2 (found_such _ old new all is.0 is.1).1,
)

read_either : (f g h : DeviceFile) (image : Named) → (is : MayReadAs f h image)
    → MayBeFound f g is.0 ⊎ MayBeFound g h is.0 → MayReadAs f g image ⊎ MayReadAs g h image
read_either f g h image is (inl early) = inl (is.0, early, is.2)
read_either f g h image is (inr late) = inr (is.0, late, is.2)

pub joins : JoinsStretches moments_on
joins first then last name one two =
    let f = first.file name in
    let g = then.file name in
    let h = last.file name in (
      throughout_then IsSoundImage f g h one two,
      λ image is. read_either f g h image is
          (found_either f g h one.more two.more one.goes_on two.goes_on is.0 is.1),
    )

pub ends : EndsNow moments_on
ends old new name all = (
  throughout_none IsSoundImage (new.file name) (new.file name) refl
      (throughout_last IsSoundImage (old.file name) (new.file name) all),
  λ image is. (
    is.0,
    found_last (old.file name) (new.file name) all.more all.goes_on is.0
        (leaves_found (new.file name) is.0 is.1),
    is.2,
  ),
)
