-- When a call may answer a fault, from why the file gave up.
use Rattle.std.proofs.Common.{◌≡◌, ◌≢◌, inl, inr, ℕ, ◌≤◌, Bool, false, true, nat_lt, IsTrue, IsFalse, IfErr, Result, Ok, Err, refl, arith}
use Rattle.std.proofs.lemmas.Bool.{ltb-true, ltb-false}
use Rattle.shelf_library.proofs.Terms.{Fault, BrokenUnit, Damage, Device, Full, Memory, either, MayFail, FaultsRose, IsCausedIn, MayFailToMake}
use Rattle.indexed_file.specs.Calls.{HasRisen}

pub has_risen : (old new : ℕ) → FaultsRose old new → HasRisen old new
has_risen old new failed =
    either (nat_lt old new) (HasRisen old new)
    (λ more. inl (ltb-true old new more))
    (λ same. let most : new ≤ old = ltb-false old new same in inr (omega arith))

-- a fault that is not Broken is not that of a broken file
unbroken : {X : Type 0} (is_broken : Bool) (fault : Fault) → (IsTrue is_broken → ◌≡◌ {A = Result X Fault} (Err fault) (Err BrokenUnit)) → fault ≢ BrokenUnit → IsFalse is_broken
unbroken is_broken fault broken other =
    either is_broken (IsFalse is_broken) (λ is. let told = broken is in absurd (other cc)) (λ fine. fine)

-- a fault other than Full
pub may_fail :
    {X : Type 0} (is_broken is_honest : Bool) (truly lacks_room : Type 0) (old new : ℕ) (fault : Fault) → IsCausedIn is_broken (FaultsRose old new) lacks_room fault
    → (IsTrue is_broken → ◌≡◌ {A = Result X Fault} (Err fault) (Err BrokenUnit)) → (IsTrue is_honest → truly → fault ≢ Damage) → fault ≢ Full
    → MayFail false is_broken is_honest truly old new fault
may_fail is_broken is_honest truly lacks_room old new Device cause broken no_damage room = has_risen old new (cause.device refl)
may_fail is_broken is_honest truly lacks_room old new Memory cause broken no_damage room = absurd (cause.not_memory refl)
may_fail is_broken is_honest truly lacks_room old new Full cause broken no_damage room = room refl
may_fail is_broken is_honest truly lacks_room old new Damage cause broken no_damage room =
    (unbroken is_broken Damage broken (λ e. cc), λ honest shown. no_damage honest shown refl)
may_fail is_broken is_honest truly lacks_room old new BrokenUnit cause broken no_damage room = cause.broken refl

-- the fault of a call that needs no room
pub faults_are :
    {X : Type 0} (is_broken is_honest : Bool) (truly : Type 0) (old new : ℕ) (result : Result X Fault) → IfErr result (IsCausedIn is_broken (FaultsRose old new) ⊥)
    → (IsTrue is_broken → result ≡ Err BrokenUnit) → (IsTrue is_honest → truly → IfErr result (λ fault. fault ≢ Damage))
    → IfErr result (MayFail false is_broken is_honest truly old new)
faults_are is_broken is_honest truly old new (Ok x) cause broken no_damage = tt
faults_are is_broken is_honest truly old new (Err fault) cause broken no_damage =
    may_fail is_broken is_honest truly ⊥ old new fault cause broken no_damage (λ full. cause.full full)

-- the fault of a call that makes a file
pub faults_of_making :
    {X : Type 0} (is_honest : Bool) (truly : Type 0) (old new : ℕ) (result : Result X Fault) → IfErr result (MayFailToMake (FaultsRose old new))
    → (IsTrue is_honest → IfErr result (λ fault. fault ≢ Damage)) → IfErr result (MayFail true false is_honest truly old new)
faults_of_making is_honest truly old new (Ok x) cause no_damage = tt
faults_of_making is_honest truly old new (Err Device) cause no_damage = has_risen old new (cause.device refl)
faults_of_making is_honest truly old new (Err Memory) cause no_damage = (refl, refl)
faults_of_making is_honest truly old new (Err Full) cause no_damage = cause.not_full refl
faults_of_making is_honest truly old new (Err Damage) cause no_damage = (refl, λ honest shown. no_damage honest refl)
faults_of_making is_honest truly old new (Err BrokenUnit) cause no_damage = absurd (cause.not_broken refl)
