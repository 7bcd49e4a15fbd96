-- What the calls that change an index leave: of the index, and of the pages.
use Rattle.std.specs.Prelude.{◌≡◌, ◌<◌, ◌≤◌, ◌+◌, ◌*◌, ℕ, Bool, List, [], length, IsTrue, Result, IfOk, IfErr}
use Rattle.std.specs.Prelude.{OnOk}
use Rattle.io_state.specs.declared.fault.Fault.{Fault}
use Rattle.pages.specs.PageMap.{PageMap}
use Rattle.pages.specs.Answer.{IsAnswer}
use Rattle.pages.specs.Cause.{IsCaused}
use Rattle.pages.specs.ShownPages.{ShownPages}
use Rattle.bplus_tree.specs.Depth.{IsPastAll, FindsDamage}
use Rattle.bplus_tree.specs.declared.tree.Tree.{Tree}
use Rattle.bplus_tree.specs.Fields.{tree_levels}
use Rattle.key_index.specs.declared.entry.PrimeEntry.{PrimeEntry}
use Rattle.key_index.specs.declared.entry.AltEntry.{AltEntry}
use Rattle.key_index.specs.declared.prime_index.PrimeIndex.{PrimeIndex}
use Rattle.key_index.specs.declared.alt_index.AltIndex.{AltIndex}
use Rattle.key_index.specs.Standing.{PrimeChanged, AltChanged, prime_height, alt_height, alt_key}
use Rattle.key_index.specs.Stored.{IsWidth}
use Rattle.key_index.specs.Calls.{PrimeAdds, PrimeRemoves, AltAdds, AltRemoves}
use Rattle.key_index.specs.Cost.{Spends, PrimeGrows, AltGrows}

-- the index stands without entries, in pages that were free
abbrev pub IsNewPrime : PageMap → PageMap → PrimeIndex → Type 0
IsNewPrime before after index = PrimeChanged before after index [] []

abbrev pub IsNewAlt : PageMap → PageMap → AltIndex → Type 0
IsNewAlt before after index = AltChanged before after index [] []

-- the index is one for values of this length, of one level
abbrev pub IsPrimeOf : ℕ → PrimeIndex → Type 0
IsPrimeOf width index = (index.width ≡ width) × (prime_height index ≡ 1)

abbrev pub IsAltOf : ℕ → ℕ → ℕ → AltIndex → Type 0
IsAltOf key width prime index = (index.width ≡ width) × (index.prime ≡ prime) × (alt_height index ≡ 1)
    × (alt_key index ≡ key)

-- a call that makes an index without entries, and takes a page for its root
pub record MakesIndex {S I : Type 0} (shown : ShownPages S) (before after : S) (result : Result I Fault)
    (IsNew : PageMap → PageMap → I → Type 0) (IsOf : I → Type 0) : Type 0 where
  pub made : IsTrue (shown.state after).is_honest → IsTrue (shown.state before).is_sound
      → IsAnswer result (λ index. IsNew (shown.state before).live (shown.state after).live index
      × IsTrue (shown.state after).is_sound)
  pub width : IfOk result IsOf
  pub spends : Spends (shown.state before) (shown.state after) 1 2
  pub one : OnOk result ((shown.state after).available + 1 ≡ (shown.state before).available)
  pub cause : IfErr result (IsCaused (shown.HasFailed before after) ((shown.state before).available < 1))
  pub goes : shown.Writes before after

-- a call that adds an entry to an index that had this tree
pub record AddsEntry {S I : Type 0} (shown : ShownPages S) (before after : S) (old new : I) (tree : Tree)
    (result : Result Bool Fault)
    (Adds : I → I → Result Bool Fault → PageMap → PageMap → Type 0 → Type 0) (Grows : I → I → ℕ
    → Type 0) : Type 0 where
  pub added : IsTrue (shown.state after).is_honest → IsTrue (shown.state before).is_sound
      → Adds old new result (shown.state before).live (shown.state after).live
      (IsTrue (shown.state after).is_sound)
  pub deep : IsPastAll tree → FindsDamage old new before after result
  pub grows : Grows old new 1
  pub spends : Spends (shown.state before) (shown.state after) (tree_levels tree + 1 + 1)
      (8 * (tree_levels tree + 1 + 1))
  pub cause : IfErr result (IsCaused (shown.HasFailed before after)
      ((shown.state before).available < tree_levels tree + 1 + 1))
  pub goes : shown.Writes before after

-- a call that takes an entry out of an index that had this tree; no page is taken
pub record TakesEntry {S I : Type 0} (shown : ShownPages S) (before after : S) (old new : I) (tree : Tree)
    (result : Result Bool Fault)
    (Removes : I → I → Result Bool Fault → PageMap → PageMap → Type 0 → Type 0) (Grows : I → I → ℕ
    → Type 0) : Type 0 where
  pub removed : IsTrue (shown.state after).is_honest → IsTrue (shown.state before).is_sound
      → Removes old new result (shown.state before).live (shown.state after).live
      (IsTrue (shown.state after).is_sound)
  pub grows : Grows old new 0
  pub spends : Spends (shown.state before) (shown.state after) 0 (8 * (tree_levels tree + 1 + 1))
  pub cause : IfErr result (IsCaused (shown.HasFailed before after) ⊥)
  pub goes : shown.Writes before after

-- pages may be changed, and an index is made for values of this length
pub record MayMakePrime {S : Type 0} (shown : ShownPages S) (pages : S) (long : ℕ) : Type 0 where
  pub ready : shown.IsReady pages
  pub gate : shown.CanChange pages
  pub width : IsWidth long

-- so, for values and prime values of these lengths
pub record MayMakeAlt {S : Type 0} (shown : ShownPages S) (pages : S) (long prime_long : ℕ) : Type 0 where
  pub ready : shown.IsReady pages
  pub gate : shown.CanChange pages
  pub width : IsWidth long
  pub prime : prime_long ≤ 250

-- pages may be changed, and the value is as long as those of the index
pub record MayAddPrime {S : Type 0} (shown : ShownPages S) (pages : S) (index : PrimeIndex)
    (of : List ℕ) : Type 0 where
  pub ready : shown.IsReady pages
  pub gate : shown.CanChange pages
  pub value : length of ≡ index.width

-- so, and the prime value is as long as those
pub record MayAddAlt {S : Type 0} (shown : ShownPages S) (pages : S) (index : AltIndex)
    (of to : List ℕ) : Type 0 where
  pub ready : shown.IsReady pages
  pub gate : shown.CanChange pages
  pub value : length of ≡ index.width
  pub prime : length to ≡ index.prime

-- a call that adds this entry to the prime index
abbrev pub AddsToPrime : {S : Type 0} → ShownPages S → S → S → PrimeIndex → PrimeIndex → PrimeEntry
    → Result Bool Fault → Type 0
AddsToPrime shown before after old new e result =
    AddsEntry shown before after old new old.tree result (PrimeAdds e) PrimeGrows

-- a call that takes the entry of this value out of it
abbrev pub TakesFromPrime : {S : Type 0} → ShownPages S → S → S → PrimeIndex → PrimeIndex → List ℕ
    → Result Bool Fault → Type 0
TakesFromPrime shown before after old new value result =
    TakesEntry shown before after old new old.tree result (PrimeRemoves value) PrimeGrows

-- the same of an index of an alternate key
abbrev pub AddsToAlt : {S : Type 0} → ShownPages S → S → S → AltIndex → AltIndex → AltEntry
    → Result Bool Fault → Type 0
AddsToAlt shown before after old new e result =
    AddsEntry shown before after old new old.tree result (AltAdds e) AltGrows

abbrev pub TakesFromAlt : {S : Type 0} → ShownPages S → S → S → AltIndex → AltIndex → List ℕ → ℕ
    → Result Bool Fault → Type 0
TakesFromAlt shown before after old new value stamp result =
    TakesEntry shown before after old new old.tree result (AltRemoves value stamp) AltGrows
