-- Entries that are copied, one after another.
use Rattle.std.proofs.Common.{◌≡◌, ℕ, suc, ◌+◌, List, [], ◌∷◌, ◌++◌, length, map, take, drop, refl, sym, subst, ◌∙◌, arith, append_assoc, length-append, length-drop}
use Rattle.std.proofs.lemmas.List.{append-nil, length-take-le}
use Rattle.pages.specs.Each.{Each}
use Rattle.pages.specs.PageMap.{PageMap}
use Rattle.bplus_tree.proofs.RemoveLemmas.{changes_trans}
use Rattle.key_index.specs.declared.entry.AltEntry.{AltEntry}
use Rattle.key_index.specs.declared.alt_index.AltIndex.{AltIndex}
use Rattle.key_index.specs.Stored.{alt_bytes, IsAltEntry}
use Rattle.key_index.specs.Standing.{AltStands, AltChanged}
use Rattle.byteorder.specs.Numbers.{length-bytes_high_first}
use Rattle.tree_building.specs.declared.alt_builder.AltBuilder.{AltBuilder}
use Rattle.tree_building.specs.IndexBuilding.{IsBuildingAlt, AltBuildsOn, HasBuiltAlt}
use Rattle.file_building.specs.declared.walk.TreeWalk.{TreeWalk}
use Rattle.file_building.specs.Walk.{HasWalked, BeginsWalk}
use Rattle.file_building.specs.CopiedEntries.{HasCopiedEntries}
use Rattle.file_building.proofs.CopiedLemmas.{WalkEnd}

-- one entry more, since the start
pub built_since : (start before after : PageMap) (old new : AltBuilder) (done more : List AltEntry) (on : AltBuildsOn start before old [] done) → AltBuildsOn before after new on.own_now more → AltBuildsOn start after new [] more
built_since start before after old new done more on next = record {
  own_now = next.own_now;
  building = next.building;
  changes = changes_trans start before after [] on.own_now next.own_now on.changes next.changes;
}

-- the index stands, since the start
pub ended_since : (start before after : PageMap) (old : AltBuilder) (index : AltIndex) (entries : List AltEntry) (left left_now : ℕ) (on : AltBuildsOn start before old [] entries) → HasBuiltAlt left left_now before after index on.own_now entries → AltChanged start after index [] entries
ended_since start before after old index entries left left_now on built = record {
  own_now = built.own_now;
  stands = built.standing.stands;
  changes = changes_trans start before after [] on.own_now built.own_now on.changes built.changes;
}

-- the lengths of what the bytes of an entry are read as
pub value_long : (width prime : ℕ) (bytes : List ℕ) → length bytes ≡ width + 8 + prime → length (take width bytes) ≡ width
value_long width prime bytes long = length-take-le width bytes (omega (arith, long))

pub prime_long : (width prime : ℕ) (bytes : List ℕ) → length bytes ≡ width + 8 + prime → length (drop (width + 8) bytes) ≡ prime
prime_long width prime bytes long = length-drop (width + 8) bytes ∙ omega (arith, long)

-- one entry of those that are left
pub record EntryLeft (index : AltIndex) (walk : TreeWalk) (builder : AltBuilder) (live start pages : PageMap) (entries : List AltEntry) (left : ℕ) : Type 0 where
  pub done : List AltEntry
  pub next : AltEntry
  pub rest : List AltEntry
  pub all : done ++ next ∷ rest ≡ entries
  pub fits : IsAltEntry index.width index.prime next
  pub each : Each (IsAltEntry index.width index.prime) rest
  pub given : List (List ℕ)
  pub own : List ℕ
  pub walked : HasWalked walk live given (alt_bytes next ∷ map alt_bytes rest) own
  pub built : AltBuildsOn start pages builder [] done
  pub many : length rest ≡ left

pub entry_left : (index : AltIndex) (walk : TreeWalk) (builder : AltBuilder) (live start pages : PageMap) (entries : List AltEntry) (left : ℕ)
    → HasCopiedEntries index walk builder live start pages entries (suc left) → EntryLeft index walk builder live start pages entries left
entry_left index walk builder live start pages entries left h = go h.rest h.all h.each h.walked h.many
  where
    go : (rest : List AltEntry) → h.done ++ rest ≡ entries → Each (IsAltEntry index.width index.prime) rest → HasWalked walk live h.given (map alt_bytes rest) h.own → length rest ≡ suc left
        → EntryLeft index walk builder live start pages entries left
    go [] all each walked many = absurd (omega (arith, many))
    go (next ∷ rest) all each walked many = record {
      done = h.done;
      next = next;
      rest = rest;
      all = all;
      fits = each.0;
      each = each.1;
      given = h.given;
      own = h.own;
      walked = walked;
      built = h.built;
      many = omega (arith, many);
    }

-- it is copied
pub entry_copied : (index : AltIndex) (walk now : TreeWalk) (builder built : AltBuilder) (live start pages after : PageMap) (entries : List AltEntry) (left : ℕ) (one : EntryLeft index walk builder live start pages entries left)
    → HasWalked now live (one.given ++ alt_bytes one.next ∷ []) (map alt_bytes one.rest) one.own → AltBuildsOn start after built [] (one.done ++ one.next ∷ []) → HasCopiedEntries index now built live start after entries left
entry_copied index walk now builder built live start pages after entries left one walked on = record {
  done = one.done ++ one.next ∷ [];
  rest = one.rest;
  all = append_assoc one.done (one.next ∷ []) one.rest ∙ one.all;
  each = one.each;
  given = one.given ++ alt_bytes one.next ∷ [];
  own = one.own;
  walked = walked;
  built = on;
  many = one.many;
}

-- none is left
pub entries_copied : (index : AltIndex) (walk : TreeWalk) (builder : AltBuilder) (live start pages : PageMap) (entries : List AltEntry) → HasCopiedEntries index walk builder live start pages entries 0
    → AltBuildsOn start pages builder [] entries × WalkEnd walk live
entries_copied index walk builder live start pages entries h = go h.rest h.all h.walked h.many
  where
    go : (rest : List AltEntry) → h.done ++ rest ≡ entries → HasWalked walk live h.given (map alt_bytes rest) h.own → length rest ≡ 0 → AltBuildsOn start pages builder [] entries × WalkEnd walk live
    go [] all walked none = (subst (AltBuildsOn start pages builder []) (sym (append-nil h.done) ∙ all) h.built, record { given = h.given; own = h.own; walked = walked })
    go (e ∷ rest) all walked none = absurd (omega (arith, none))

-- ---- the first entry

pub alt_long : (w p : ℕ) (e : AltEntry) → IsAltEntry w p e → length (alt_bytes e) ≡ w + 8 + p
alt_long w p e fit = simp (length-append, length-bytes_high_first) (omega (arith, fit.long, fit.prime_long))

pub alts_long : (w p : ℕ) (entries : List AltEntry) → Each (IsAltEntry w p) entries → Each (λ e. length e ≡ w + 8 + p) (map alt_bytes entries)
alts_long w p [] each = tt
alts_long w p (e ∷ es) each = (alt_long w p e each.0, alts_long w p es each.1)

pub entries_begun : (index : AltIndex) (walk : TreeWalk) (builder : AltBuilder) (live start : PageMap) (entries : List AltEntry) (own : List ℕ) (left : ℕ) → AltStands index live entries own → BeginsWalk index.tree walk
    → IsBuildingAlt builder start [] [] → left ≡ length entries → HasCopiedEntries index walk builder live start start entries left
entries_begun index walk builder live start entries own left stands begins building all = record {
  done = [];
  rest = entries;
  all = refl;
  each = stands.each;
  given = [];
  own = own;
  walked = begins.begun live (map alt_bytes entries) own stands.tree
      (subst (λ (n : ℕ). Each (λ e. length e ≡ n) (map alt_bytes entries)) (sym index.entries) (alts_long index.width index.prime entries stands.each));
  built = record { own_now = []; building = building; changes = record { others = λ n some out. (refl, out); no_stray = λ n some out. (some, out); apart = tt } };
  many = sym all;
}
