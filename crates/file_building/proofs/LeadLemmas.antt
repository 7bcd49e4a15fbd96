-- Entries of a prime index that are copied with new places, one after another.
use Rattle.std.proofs.Common.{◌≡◌, ℕ, suc, ◌+◌, List, [], ◌∷◌, ◌++◌, length, map, take, refl, ap, sym, subst, ◌∙◌, arith, append_assoc}
use Rattle.std.proofs.lemmas.List.{append-nil, length-take-le}
use Rattle.pages.specs.Each.{Each}
use Rattle.pages.specs.PageMap.{PageMap}
use Rattle.io_state.specs.declared.fault.Fault.TheVariants.{Damage, Device, Full, Memory, Broken}
use Rattle.std.specs.Prelude.{false, Result, Ok, Err, IfErr}
use Rattle.bplus_tree.proofs.RemoveLemmas.{changes_trans}
use Rattle.key_index.specs.declared.entry.PrimeEntry.{PrimeEntry}
use Rattle.key_index.specs.declared.prime_index.PrimeIndex.{PrimeIndex}
use Rattle.key_index.specs.Stored.{prime_bytes, IsPrimeEntry}
use Rattle.key_index.specs.Standing.{PrimeStands, PrimeChanged, CountsPrime}
use Rattle.tree_building.specs.declared.prime_builder.PrimeBuilder.{PrimeBuilder}
use Rattle.tree_building.specs.IndexBuilding.{IsBuildingPrime, PrimeBuildsOn, HasBuiltPrime, PrimeEntriesRise}
use Rattle.tree_building.proofs.RankLemmas.{any_place}
use Rattle.file_building.specs.declared.copy_fault.CopyFault.{CopyFault}
use Rattle.file_building.specs.declared.copy_fault.CopyFault.TheVariants.{Reading, Writing}
use Rattle.file_building.specs.declared.new_places.NewPlaces.{NewPlaces}
use Rattle.file_building.specs.declared.walk.TreeWalk.{TreeWalk}
use Rattle.file_building.specs.CopyFault.{IsCopyCause}
use Rattle.file_building.specs.NewPlaces.{HasNewPlace, moved_entry}
use Rattle.file_building.specs.Leading.{AreKnown, HasLed, IsLeadingCause}
use Rattle.file_building.specs.Walk.{HasWalked, BeginsWalk}
use Rattle.file_building.proofs.CopiedLemmas.{WalkEnd, primes_long}

-- the entries of a front, and one more
pub moved_more : (places : NewPlaces) (done : List PrimeEntry) (e : PrimeEntry) → map (moved_entry places) done ++ moved_entry places e ∷ [] ≡ map (moved_entry places) (done ++ e ∷ [])
moved_more places [] e = refl
moved_more places (d ∷ done) e = ap (λ (rest : List PrimeEntry). moved_entry places d ∷ rest) (moved_more places done e)

-- their values are as they were
pub same_values : (places : NewPlaces) (entries : List PrimeEntry) → map (λ (e : PrimeEntry). e.value.items) (map (moved_entry places) entries) ≡ map (λ (e : PrimeEntry). e.value.items) entries
same_values places [] = refl
same_values places (e ∷ entries) = ap (λ (rest : List (List ℕ)). e.value.items ∷ rest) (same_values places entries)

-- one entry more, since the start
pub led_since : (start before after : PageMap) (old new : PrimeBuilder) (done more : List PrimeEntry) (on : PrimeBuildsOn start before old [] done) → PrimeBuildsOn before after new on.own_now more → PrimeBuildsOn start after new [] more
led_since start before after old new done more on next = record {
  own_now = next.own_now;
  building = next.building;
  changes = changes_trans start before after [] on.own_now next.own_now on.changes next.changes;
}

-- the index stands, since the start
pub index_since : (start before after : PageMap) (old : PrimeBuilder) (index : PrimeIndex) (entries : List PrimeEntry) (left left_now : ℕ) (on : PrimeBuildsOn start before old [] entries) → HasBuiltPrime left left_now before after index on.own_now entries
    → PrimeChanged start after index [] entries
index_since start before after old index entries left left_now on built = record {
  own_now = built.own_now;
  stands = built.standing.stands;
  changes = changes_trans start before after [] on.own_now built.own_now on.changes built.changes;
}

-- they rise, as those do that lead to the places before
pub led_rise : (width : ℕ) (places : NewPlaces) (entries : List PrimeEntry) → Each (IsPrimeEntry width) entries → Each (IsPrimeEntry width) (map (moved_entry places) entries) → PrimeEntriesRise width entries
    → PrimeEntriesRise width (map (moved_entry places) entries)
led_rise width places entries each moved rise = any_place width entries (map (moved_entry places) entries) each moved (same_values places entries) rise

-- so do those of the builder
pub rise_led : (index : PrimeIndex) (builder : PrimeBuilder) (places : NewPlaces) (pages : PageMap) (entries : List PrimeEntry) (own : List ℕ) → builder.width ≡ index.width
    → IsBuildingPrime builder pages (map (moved_entry places) entries) own → Each (IsPrimeEntry index.width) entries → PrimeEntriesRise index.width entries → PrimeEntriesRise builder.width (map (moved_entry places) entries)
rise_led index builder places pages entries own width building each rise =
    let moved = subst (λ (w : ℕ). Each (IsPrimeEntry w) (map (moved_entry places) entries)) width building.each in
    subst (λ (w : ℕ). PrimeEntriesRise w (map (moved_entry places) entries)) (sym width) (led_rise index.width places entries each moved rise)

-- one entry of those that are left
pub record LeadLeft (index : PrimeIndex) (places : NewPlaces) (walk : TreeWalk) (builder : PrimeBuilder) (live start pages : PageMap) (entries : List PrimeEntry) (left : ℕ) : Type 0 where
  pub done : List PrimeEntry
  pub next : PrimeEntry
  pub rest : List PrimeEntry
  pub all : done ++ next ∷ rest ≡ entries
  pub fits : IsPrimeEntry index.width next
  pub each : Each (IsPrimeEntry index.width) rest
  pub is_known : HasNewPlace places next.place
  pub known : AreKnown places rest
  pub given : List (List ℕ)
  pub own : List ℕ
  pub walked : HasWalked walk live given (prime_bytes next ∷ map prime_bytes rest) own
  pub built : PrimeBuildsOn start pages builder [] (map (moved_entry places) done)
  pub many : length rest ≡ left

pub lead_left : (index : PrimeIndex) (places : NewPlaces) (walk : TreeWalk) (builder : PrimeBuilder) (live start pages : PageMap) (entries : List PrimeEntry) (left : ℕ)
    → HasLed index places walk builder live start pages entries (suc left) → LeadLeft index places walk builder live start pages entries left
lead_left index places walk builder live start pages entries left h = go h.rest h.all h.each h.known h.walked h.many
  where
    go : (rest : List PrimeEntry) → h.done ++ rest ≡ entries → Each (IsPrimeEntry index.width) rest → AreKnown places rest → HasWalked walk live h.given (map prime_bytes rest) h.own → length rest ≡ suc left
        → LeadLeft index places walk builder live start pages entries left
    go [] all each known walked many = absurd (omega (arith, many))
    go (next ∷ rest) all each known walked many = record {
      done = h.done;
      next = next;
      rest = rest;
      all = all;
      fits = each.0;
      each = each.1;
      is_known = known.0;
      known = known.1;
      given = h.given;
      own = h.own;
      walked = walked;
      built = h.built;
      many = omega (arith, many);
    }

-- it is copied
pub led_one : (index : PrimeIndex) (places : NewPlaces) (walk now : TreeWalk) (builder built : PrimeBuilder) (live start pages after : PageMap) (entries : List PrimeEntry) (left : ℕ)
    (one : LeadLeft index places walk builder live start pages entries left) → HasWalked now live (one.given ++ prime_bytes one.next ∷ []) (map prime_bytes one.rest) one.own
    → PrimeBuildsOn start after built [] (map (moved_entry places) (one.done ++ one.next ∷ [])) → HasLed index places now built live start after entries left
led_one index places walk now builder built live start pages after entries left one walked on = record {
  done = one.done ++ one.next ∷ [];
  rest = one.rest;
  all = append_assoc one.done (one.next ∷ []) one.rest ∙ one.all;
  each = one.each;
  known = one.known;
  given = one.given ++ prime_bytes one.next ∷ [];
  own = one.own;
  walked = walked;
  built = on;
  many = one.many;
}

-- none is left
pub all_led : (index : PrimeIndex) (places : NewPlaces) (walk : TreeWalk) (builder : PrimeBuilder) (live start pages : PageMap) (entries : List PrimeEntry) → HasLed index places walk builder live start pages entries 0
    → PrimeBuildsOn start pages builder [] (map (moved_entry places) entries) × WalkEnd walk live
all_led index places walk builder live start pages entries h = go h.rest h.all h.walked h.many
  where
    go : (rest : List PrimeEntry) → h.done ++ rest ≡ entries → HasWalked walk live h.given (map prime_bytes rest) h.own → length rest ≡ 0
        → PrimeBuildsOn start pages builder [] (map (moved_entry places) entries) × WalkEnd walk live
    go [] all walked none = (
      subst (λ (es : List PrimeEntry). PrimeBuildsOn start pages builder [] (map (moved_entry places) es)) (sym (append-nil h.done) ∙ all) h.built,
      record { given = h.given; own = h.own; walked = walked },
    )
    go (e ∷ rest) all walked none = absurd (omega (arith, none))

-- ---- the first entry

pub lead_begun : (index : PrimeIndex) (places : NewPlaces) (walk : TreeWalk) (builder : PrimeBuilder) (live start : PageMap) (entries : List PrimeEntry) (own : List ℕ) (left count : ℕ) → PrimeStands index live entries own
    → CountsPrime index count → AreKnown places entries → BeginsWalk index.tree walk → IsBuildingPrime builder start [] [] → left ≡ count → HasLed index places walk builder live start start entries left
lead_begun index places walk builder live start entries own left count stands counts known begins building all = record {
  done = [];
  rest = entries;
  all = refl;
  each = stands.each;
  known = known;
  given = [];
  own = own;
  walked = begins.begun live (map prime_bytes entries) own stands.tree
      (subst (λ (n : ℕ). Each (λ e. length e ≡ n) (map prime_bytes entries)) (sym index.entries) (primes_long index.width entries stands.each));
  built = record { own_now = []; building = building; changes = record { others = λ n some out. (refl, out); no_stray = λ n some out. (some, out); apart = tt } };
  many = sym (counts live entries own stands) ∙ sym all;
}

-- ---- why nothing was put

pub lead_cause : {X : Type 0} (read wrote ran_out : Type 0) (result : Result X CopyFault) → IfErr result (IsLeadingCause wrote ran_out) → IfErr result (IsCopyCause false read wrote ran_out)
lead_cause read wrote ran_out (Ok x) is = tt
lead_cause read wrote ran_out (Err (Reading fault)) is = record {
  device = λ e. absurd (let never : Damage ≡ Device = sym is ∙ e in cc);
  full = λ e. let never : Damage ≡ Full = sym is ∙ e in cc;
  not_memory = λ e. let never : Damage ≡ Memory = sym is ∙ e in cc;
  broken = λ e. absurd (let never : Damage ≡ Broken = sym is ∙ e in cc);
}
lead_cause read wrote ran_out (Err (Writing fault)) is = is

pub value_long : (width : ℕ) (bytes : List ℕ) → length bytes ≡ width + 6 → length (take width bytes) ≡ width
value_long width bytes long = length-take-le width bytes (omega (arith, long))
