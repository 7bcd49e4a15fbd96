-- The file whose records are moved.
use Rattle.std.proofs.Common.{◌≡◌, ◌-◌, ℕ, List, [], length, map, Some, None, refl, ap, sym, subst, ◌∙◌}
use Rattle.std.specs.Prelude.{slice_index_or, find, option_map}
use Rattle.io_state.specs.declared.fault.Fault.TheVariants.{Damage, Device, Full, Memory, Broken}
use Rattle.pages.specs.Cause.{IsCaused}
use Rattle.record_heap.specs.declared.shape.Place.{Place}
use Rattle.record_heap.specs.Chain.{Slots}
use Rattle.key_index.specs.declared.entry.PrimeEntry.{PrimeEntry}
use Rattle.key_index.specs.declared.entry.AltEntry.{AltEntry}
use Rattle.key_index.specs.declared.prime_index.PrimeIndex.{PrimeIndex}
use Rattle.key_index.specs.Entries.{has_prime}
use Rattle.key_index.specs.Standing.{PrimeStands}
use Rattle.indexed_file.specs.File.{File}
use Rattle.pages.specs.Each.{Each}
use Rattle.pages.specs.PageMap.{PageMap}
use Rattle.key_index.specs.declared.alt_index.AltIndex.{AltIndex}
use Rattle.key_index.specs.Stored.{alt_bytes}
use Rattle.open_file.specs.Fields.{file_schema, prime_index_of, alternates_of}
use Rattle.open_file.specs.InOrder.{prime_entries, alt_entries}
use Rattle.open_file.specs.Lent.{IsAlternate}
use Rattle.open_file.specs.Parts.{heap_pages, prime_pages, alternate_pages}
use Rattle.open_file.specs.Stands.{Stands}
use Rattle.open_file.specs.declared.open_file.OpenFile.{OpenFile}
use Rattle.open_file.proofs.EntryLemmas.{alt_at}
use Rattle.tree_building.proofs.RankLemmas.{primes_rise}
use Rattle.file_building.specs.declared.records_mover.RecordsMover.{RecordsMover}
use Rattle.file_building.specs.declared.walk.TreeWalk.{TreeWalk}
use Rattle.file_building.specs.Moving.{RecordsStand, LeadsToRecord, HasMovedRecords, HasMovedEntries}
use Rattle.file_building.specs.Walk.{BeginsWalk}
use Rattle.file_building.proofs.CopiedEntryLemmas.{alts_long}
use Rattle.file_building.proofs.MovedRowLemmas.{entries_lead}

pub records_stand : (source : OpenFile) (live : PageMap) (file : File) (stands : Stands source live file) → RecordsStand source live stands.slots (prime_entries (file_schema source) stands.places file.rows)
records_stand source live file stands = record {
  heap_own = heap_pages stands.parts.owns;
  heap = stands.parts.heap_stands;
  prime_own = prime_pages stands.parts.owns;
  prime = stands.parts.prime_stands;
}

-- ---- where an entry leads

-- the prime index is as it was, before pages were read
pub prime_there : (source : OpenFile) (index : PrimeIndex) (live mid : PageMap) (slots : Slots) (primes : List PrimeEntry) (stand : RecordsStand source live slots primes) → index ≡ prime_index_of source → mid ≡ live
    → PrimeStands index mid primes stand.prime_own
prime_there source index live mid slots primes stand is same =
    subst (λ (i : PrimeIndex). PrimeStands i mid primes stand.prime_own) (sym is) (subst (λ (m : PageMap). PrimeStands (prime_index_of source) m primes stand.prime_own) (sym same) stand.prime)

pub place_leads : (slots : Slots) (primes : List PrimeEntry) (next : AltEntry) (leads : LeadsToRecord slots primes next) (value : List ℕ) → value ≡ next.prime.items
    → option_map (λ (e : PrimeEntry). e.place) (find (has_prime value) primes) ≡ Some leads.at.place
place_leads slots primes next leads value is =
    ap (λ (v : List ℕ). option_map (λ (e : PrimeEntry). e.place) (find (has_prime v) primes)) is ∙ ap (option_map (λ (e : PrimeEntry). e.place)) leads.found

pub same_place : (p q : Place) → Some p ≡ Some q → p ≡ q
same_place p q e = cc

pub never_none : (p : Place) → None ≡ Some p → ⊥
never_none p e = cc

pub damage_caused : (failed : Type 0) → IsCaused failed ⊥ Damage
damage_caused failed = record {
  device = λ e. absurd (let never : Damage ≡ Device = e in cc);
  full = λ e. let never : Damage ≡ Full = e in cc;
  not_memory = λ e. let never : Damage ≡ Memory = e in cc;
  not_broken = λ e. let never : Damage ≡ Broken = e in cc;
}

-- no record is moved yet
pub move_begun : (source : OpenFile) (live start : PageMap) (file : File) (stands : Stands source live file) (k : ℕ) (index : AltIndex) (walk : TreeWalk) (mover : RecordsMover) (left : ℕ) → IsAlternate source k
    → index ≡ slice_index_or (alternates_of source) (k - 1) index → BeginsWalk index.tree walk → HasMovedRecords stands.slots (prime_entries (file_schema source) stands.places file.rows) mover start start
    → (count : ℕ) → count ≡ length (alt_entries (file_schema source) k file.rows) → left ≡ count
    → HasMovedEntries index walk mover live start start stands.slots (prime_entries (file_schema source) stands.places file.rows) (alt_entries (file_schema source) k file.rows) left
move_begun source live start file stands k index walk mover left key is begins none count many all =
    let entries = alt_entries (file_schema source) k file.rows in
    let own = alternate_pages stands.parts.owns (k - 1) in
    let standing = alt_at source live file stands k index key.some key.within is in
    let prime = prime_index_of source in
    let rise = primes_rise prime live (prime_entries (file_schema source) stands.places file.rows) (prime_pages stands.parts.owns) stands.parts.prime_stands in
    record {
      done = [];
      rest = entries;
      all = refl;
      ahead = record {
        each = standing.each;
        given = [];
        own = own;
        walked = begins.begun live (map alt_bytes entries) own standing.tree
            (subst (λ (n : ℕ). Each (λ e. length e ≡ n) (map alt_bytes entries)) (sym index.entries) (alts_long index.width index.prime entries standing.each));
      };
      leads = entries_lead (file_schema source) stands.slots k prime.width stands.places file.rows stands.placed.rows_at stands.parts.prime_stands.each rise;
      holds = none;
      known = tt;
      many = sym many ∙ sym all;
    }
