-- A step of a cursor, from a step in its tree.
use Rattle.std.proofs.Common.{◌≡◌, ℕ, ◌+◌, ◌^◌, ◌<◌, Bool, false, List, ◌++◌, length, take, map, Option, None, Some, Result, Ok, refl, sym, ap, subst, ◌∙◌, arith, length-append, min}
use Rattle.std.specs.Prelude.{find, option_map, IfSome, bytes_eq}
use Rattle.std.specs.Option.{option_map_or}
use Rattle.std.specs.Int.{bytes_high_first}
use Rattle.byteorder.specs.Numbers.{length-bytes_high_first}
use Rattle.arrayvec.specs.ArrayVec.{ArrayVec}
use Rattle.io_state.specs.declared.fault.Fault.{Fault}
use Rattle.pages.specs.PageMap.{PageMap}
use Rattle.pages.specs.Answer.{IsAnswer}
use Rattle.tree_search.specs.Calls.{first_after}
use Rattle.tree_search.specs.Spot.{begins_with}
use Rattle.bplus_tree.specs.Cursor.{HasMoved, key_after}
use Rattle.bplus_tree.specs.Fields.{tree_shape, cursor_key}
use Rattle.key_index.specs.Stored.{prime_bytes, alt_bytes, IsPrimeEntry, IsAltEntry}
use Rattle.key_index.specs.Entries.{entry_has_value, after_prime, after_rank}
use Rattle.key_index.specs.Standing.{PrimeStands, AltStands}
use Rattle.key_index.specs.Cursors.{value_after, rank_after, PrimeHasMoved, AltHasMoved}
use Rattle.key_index.specs.declared.entry.PrimeEntry.{PrimeEntry}
use Rattle.key_index.specs.declared.entry.AltEntry.{AltEntry}
use Rattle.key_index.specs.declared.prime_index.PrimeIndex.{PrimeIndex}
use Rattle.key_index.specs.declared.alt_index.AltIndex.{AltIndex}
use Rattle.key_index.specs.declared.cursor.PrimeCursor.{PrimeCursor}
use Rattle.key_index.specs.declared.cursor.AltCursor.{AltCursor}
use Rattle.key_index.proofs.ListLemmas.{found, found_fits}
use Rattle.key_index.proofs.KeyLemmas.{front, prime_key, alt_key, prime_after, alt_after}

prime_key_after : (w : ℕ) (key : List ℕ) (gave : Option (ArrayVec ℕ)) (e : Option PrimeEntry) → IfSome e (IsPrimeEntry w)
    → option_map (λ b. b.items) gave ≡ option_map prime_bytes e → key_after w key gave ≡ value_after key e
prime_key_after w key None None fit same = refl
prime_key_after w key (Some b) (Some e) fit same =
    let is : b.items ≡ prime_bytes e = cc in ap (take w) is ∙ prime_key w e fit
prime_key_after w key gave e fit same = cc

pub prime_moved : (old new : PrimeCursor) (index : PrimeIndex) (pages : PageMap) (entries : List PrimeEntry) (own : List ℕ)
    (result : Result (Option PrimeEntry) Fault) (gave : Option (ArrayVec ℕ))
    → ((e : Option PrimeEntry) → IfSome e (IsPrimeEntry index.width) → option_map (λ b. b.items) gave ≡ option_map prime_bytes e → result ≡ Ok e)
    → PrimeStands index pages entries own → HasMoved old.cursor new.cursor index.tree pages (map prime_bytes entries) own gave
    → cursor_key new.cursor ≡ key_after (tree_shape index.tree).width (cursor_key old.cursor) gave
    → IsAnswer result (PrimeHasMoved old new index pages entries own)
prime_moved old new index pages entries own result gave told stands moved key =
    let e : Option PrimeEntry = find (after_prime (cursor_key old.cursor)) entries in
    let fits : IfSome e (IsPrimeEntry index.width) = found_fits prime_bytes (IsPrimeEntry index.width) (after_prime (cursor_key old.cursor)) entries stands.each in
    let same : option_map (λ b. b.items) gave ≡ option_map prime_bytes e =
    moved.found_is ∙ found prime_bytes (IsPrimeEntry index.width) _ (after_prime (cursor_key old.cursor))
    (prime_after index.keys (cursor_key old.cursor)) entries stands.each in
    let after : cursor_key new.cursor ≡ value_after (cursor_key old.cursor) e =
    key ∙ ap (λ (n : ℕ). key_after n (cursor_key old.cursor) gave) index.keys ∙ prime_key_after index.width (cursor_key old.cursor) gave e fits same in
    subst (λ (r : Result (Option PrimeEntry) Fault). IsAnswer r (PrimeHasMoved old new index pages entries own)) (sym (told e fits same))
    (record { answer = record { found_is = refl; after = after; belongs = moved.belongs }; no_damage = tt })

alt_key_after : (w p : ℕ) (key : List ℕ) (gave : Option (ArrayVec ℕ)) (e : Option AltEntry) → IfSome e (IsAltEntry w p)
    → option_map (λ b. b.items) gave ≡ option_map alt_bytes e → key_after (w + 8) key gave ≡ rank_after key e
alt_key_after w p key None None fit same = refl
alt_key_after w p key (Some b) (Some e) fit same =
    let is : b.items ≡ alt_bytes e = cc in ap (take (w + 8)) is ∙ alt_key w p e fit
alt_key_after w p key gave e fit same = cc

pub alt_moved : (value : List ℕ) (stamp : ℕ) (old new : AltCursor) (index : AltIndex) (pages : PageMap) (entries : List AltEntry) (own : List ℕ)
    (result : Result (Option AltEntry) Fault) (gave : Option (ArrayVec ℕ))
    → ((e : Option AltEntry) → IfSome e (IsAltEntry index.width index.prime) → option_map (λ b. b.items) gave ≡ option_map alt_bytes e → result ≡ Ok e)
    → AltStands index pages entries own → HasMoved old.cursor new.cursor index.tree pages (map alt_bytes entries) own gave
    → cursor_key new.cursor ≡ key_after (tree_shape index.tree).width (cursor_key old.cursor) gave
    → length value ≡ index.width → stamp < 2 ^ 64 → cursor_key old.cursor ≡ value ++ bytes_high_first 8 stamp
    → IsAnswer result (AltHasMoved value stamp old new index pages entries own)
alt_moved value stamp old new index pages entries own result gave told stands moved key long small behind =
    let e : Option AltEntry = find (after_rank value stamp) entries in
    let fits : IfSome e (IsAltEntry index.width index.prime) = found_fits alt_bytes (IsAltEntry index.width index.prime) (after_rank value stamp) entries stands.each in
    let same : option_map (λ b. b.items) gave ≡ option_map alt_bytes e =
    moved.found_is ∙ found alt_bytes (IsAltEntry index.width index.prime) _ (after_rank value stamp)
    (alt_after index.prime index.keys (cursor_key old.cursor) value stamp behind long small) entries stands.each in
    let after : cursor_key new.cursor ≡ rank_after (cursor_key old.cursor) e =
    key ∙ ap (λ (n : ℕ). key_after n (cursor_key old.cursor) gave) index.keys ∙ alt_key_after index.width index.prime (cursor_key old.cursor) gave e fits same in
    subst (λ (r : Result (Option AltEntry) Fault). IsAnswer r (AltHasMoved value stamp old new index pages entries own)) (sym (told e fits same))
    (record { answer = record { found_is = refl; after = after; belongs = moved.belongs }; no_damage = tt })

-- ---- whether the next entry has the value that the cursor stands behind

begins_alike : (w p : ℕ) (v : List ℕ) → length v ≡ w → (e : AltEntry) → IsAltEntry w p e → begins_with v (alt_bytes e) ≡ entry_has_value v e
begins_alike w p v long e fit = ap (λ (l : List ℕ). bytes_eq l v) (front (length v) e.value.items _ (fit.long ∙ sym long))

begins_found : (w p : ℕ) (v : List ℕ) → length v ≡ w → (o : Option AltEntry) → IfSome o (IsAltEntry w p)
    → option_map_or (begins_with v) (option_map alt_bytes o) false ≡ option_map_or (entry_has_value v) o false
begins_found w p v long None fit = refl
begins_found w p v long (Some e) fit = begins_alike w p v long e fit

pub alt_told : (value : List ℕ) (stamp : ℕ) (cursor : AltCursor) (index : AltIndex) (pages : PageMap) (entries : List AltEntry) (own start : List ℕ) (result : Result Bool Fault)
    → AltStands index pages entries own → length value ≡ index.width → stamp < 2 ^ 64 → cursor_key cursor.cursor ≡ value ++ bytes_high_first 8 stamp → start ≡ value
    → IsAnswer result (λ told. told ≡ option_map_or (begins_with start) (first_after (tree_shape index.tree).width (cursor_key cursor.cursor) (map alt_bytes entries)) false)
    → IsAnswer result (λ told. told ≡ option_map_or (entry_has_value value) (find (after_rank value stamp) entries) false)
alt_told value stamp cursor index pages entries own start result stands long small behind is told =
    let key = cursor_key cursor.cursor in
    let width = (tree_shape index.tree).width in
    let first : first_after width key (map alt_bytes entries) ≡ option_map alt_bytes (find (after_rank value stamp) entries) =
    found alt_bytes (IsAltEntry index.width index.prime) _ (after_rank value stamp)
    (alt_after index.prime index.keys key value stamp behind long small) entries stands.each in
    let same : option_map_or (begins_with start) (first_after width key (map alt_bytes entries)) false ≡ option_map_or (entry_has_value value) (find (after_rank value stamp) entries) false =
    ap (λ (v : List ℕ). option_map_or (begins_with v) (first_after width key (map alt_bytes entries)) false) is
    ∙ ap (λ (o : Option (List ℕ)). option_map_or (begins_with value) o false) first
    ∙ begins_found index.width index.prime value long (find (after_rank value stamp) entries)
    (found_fits alt_bytes (IsAltEntry index.width index.prime) (after_rank value stamp) entries stands.each) in
    subst (λ (b : Bool). IsAnswer result (λ told. told ≡ b)) same told

-- the front of a tree key is its value
pub front_of_key : (width : ℕ) (key value : List ℕ) (stamp : ℕ) → length value ≡ width → key ≡ value ++ bytes_high_first 8 stamp → take (min width (length key)) key ≡ value
front_of_key width key value stamp long is =
    let all : length key ≡ length value + 8 = ap length is ∙ length-append value (bytes_high_first 8 stamp) ∙ ap (λ (n : ℕ). length value + n) (length-bytes_high_first 8 stamp) in
    let least : min width (length key) ≡ width = omega arith in
    ap (λ (n : ℕ). take n key) least ∙ ap (take width) is ∙ front width value (bytes_high_first 8 stamp) long
