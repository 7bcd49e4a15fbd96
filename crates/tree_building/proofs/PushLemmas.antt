-- What the tree of an index that is being built says of its entries.
use Rattle.std.proofs.Common.{◌≡◌, ℕ, List, [], ◌∷◌, ◌++◌, map, sym, ap, subst, ◌∙◌}
use Rattle.std.proofs.lemmas.List.{map-append}
use Rattle.std.specs.Prelude.{Result}
use Rattle.io_state.specs.declared.fault.Fault.{Fault}
use Rattle.pages.specs.Each.{Each}
use Rattle.pages.specs.PageMap.{PageMap}
use Rattle.tree_search.proofs.RowLemmas.{Each-append}
use Rattle.tree_building.specs.Building.{IsBuilding, Pushes, HasBuilt}
use Rattle.tree_building.proofs.RootLemmas.{answer_map}
use Rattle.key_index.specs.Stored.{prime_bytes, alt_bytes, IsPrimeEntry, IsAltEntry}
use Rattle.key_index.specs.declared.entry.PrimeEntry.{PrimeEntry}
use Rattle.key_index.specs.declared.entry.AltEntry.{AltEntry}
use Rattle.key_index.specs.declared.prime_index.PrimeIndex.{PrimeIndex}
use Rattle.key_index.specs.declared.alt_index.AltIndex.{AltIndex}
use Rattle.tree_building.specs.declared.prime_builder.PrimeBuilder.{PrimeBuilder}
use Rattle.tree_building.specs.declared.alt_builder.AltBuilder.{AltBuilder}
use Rattle.tree_building.specs.IndexBuilding.{PushesPrime, PushesAlt, HasBuiltPrime, HasBuiltAlt}

-- the bytes of entries with one more behind them
behind : {X : Type 0} (bytes_of : X → List ℕ) (entries : List X) (e : X) (bytes : List ℕ) → bytes ≡ bytes_of e
    → map bytes_of entries ++ bytes ∷ [] ≡ map bytes_of (entries ++ e ∷ [])
behind bytes_of entries e bytes are =
    ap (λ (b : List ℕ). map bytes_of entries ++ b ∷ []) are ∙ sym (map-append bytes_of entries (e ∷ []))

pub prime_pushed : (before after : PageMap) (old new : PrimeBuilder) (e : PrimeEntry) (bytes : List ℕ) (result : Result Unit Fault) {is_sound : Type 0}
    → new.width ≡ old.width → IsPrimeEntry old.width e → bytes ≡ prime_bytes e
    → Pushes old.tree new.tree bytes result before after is_sound → PushesPrime old new e result before after is_sound
prime_pushed before after old new e bytes result width fits are pushes = record {
  pushed = λ entries own b.
      answer_map (pushes.pushed (map prime_bytes entries) own b.tree)
      (λ done more. record {
        own_now = more.own_now;
        building = record {
          tree = subst (λ (l : List (List ℕ)). IsBuilding new.tree after l more.own_now) (behind prime_bytes entries e bytes are) more.building;
          each = subst (λ (n : ℕ). Each (IsPrimeEntry n) (entries ++ e ∷ [])) (sym width) (Each-append (IsPrimeEntry old.width) entries (e ∷ []) b.each (fits, tt));
        };
        changes = more.changes;
      });
  kept = pushes.kept;
  sound = pushes.sound;
}

pub alt_pushed : (before after : PageMap) (old new : AltBuilder) (e : AltEntry) (bytes : List ℕ) (result : Result Unit Fault) {is_sound : Type 0}
    → new.width ≡ old.width → new.prime ≡ old.prime → IsAltEntry old.width old.prime e → bytes ≡ alt_bytes e
    → Pushes old.tree new.tree bytes result before after is_sound → PushesAlt old new e result before after is_sound
alt_pushed before after old new e bytes result width prime fits are pushes = record {
  pushed = λ entries own b.
      answer_map (pushes.pushed (map alt_bytes entries) own b.tree)
      (λ done more. record {
        own_now = more.own_now;
        building = record {
          tree = subst (λ (l : List (List ℕ)). IsBuilding new.tree after l more.own_now) (behind alt_bytes entries e bytes are) more.building;
          each = subst (λ (n : ℕ). Each (IsAltEntry n new.prime) (entries ++ e ∷ [])) (sym width)
              (subst (λ (n : ℕ). Each (IsAltEntry old.width n) (entries ++ e ∷ [])) (sym prime)
              (Each-append (IsAltEntry old.width old.prime) entries (e ∷ []) b.each (fits, tt)));
        };
        changes = more.changes;
      });
  kept = pushes.kept;
  sound = pushes.sound;
}

-- the tree that was built is that of the index
pub prime_built : (left left_now : ℕ) (before after : PageMap) (index : PrimeIndex) (own : List ℕ) (entries : List PrimeEntry)
    → HasBuilt left left_now before after index.tree own (map prime_bytes entries) → Each (IsPrimeEntry index.width) entries
    → HasBuiltPrime left left_now before after index own entries
prime_built left left_now before after index own entries built each = record {
  own_now = built.own_now;
  standing = record {
    stands = record { tree = built.standing.stands; each = each };
    filled = built.standing.filled;
  };
  changes = built.changes;
  taken = built.taken;
}

pub alt_built : (left left_now : ℕ) (before after : PageMap) (index : AltIndex) (own : List ℕ) (entries : List AltEntry)
    → HasBuilt left left_now before after index.tree own (map alt_bytes entries) → Each (IsAltEntry index.width index.prime) entries
    → HasBuiltAlt left left_now before after index own entries
alt_built left left_now before after index own entries built each = record {
  own_now = built.own_now;
  standing = record {
    stands = record { tree = built.standing.stands; each = each };
    filled = built.standing.filled;
  };
  changes = built.changes;
  taken = built.taken;
}
