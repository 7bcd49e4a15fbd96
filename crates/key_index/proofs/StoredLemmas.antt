-- An entry is read back from its bytes.
use Rattle.std.proofs.Common.{◌≡◌, ℕ, ◌+◌, ◌^◌, ◌<◌, List, [], ◌++◌, length, take, drop, Option, None, Some, refl, sym, ap, ◌∙◌, arith}
use Rattle.std.specs.Prelude.{option_map, IfSome}
use Rattle.std.proofs.lemmas.List.{drop-drop, append-nil}
use Rattle.std.proofs.Math.Seq.{drop-append_seam}
use Rattle.std.specs.Int.{bytes_high_first}
use Rattle.byteorder.specs.Endian.{big_from}
use Rattle.byteorder.specs.Numbers.{length-bytes_high_first, big_number-reads_back}
use Rattle.key_index.specs.Stored.{prime_bytes, alt_bytes, prime_entry_in, alt_entry_in, IsPrimeEntry, IsAltEntry}
use Rattle.key_index.specs.declared.entry.PrimeEntry.{PrimeEntry}
use Rattle.key_index.specs.declared.entry.AltEntry.{AltEntry}
use Rattle.key_index.proofs.KeyLemmas.{front}

-- what stands behind the first bytes of a list that is made of two
back : (n : ℕ) (xs ys : List ℕ) → length xs ≡ n → drop n (xs ++ ys) ≡ ys
back n xs ys h = ap (λ (m : ℕ). drop m (xs ++ ys)) (sym h) ∙ drop-append_seam xs ys

number : (n x : ℕ) (ys : List ℕ) → x < 256 ^ n → ys ≡ bytes_high_first n x → big_from 0 n ys ≡ x
number n x ys h e = ap (big_from 0 n) (e ∙ sym (append-nil (bytes_high_first n x))) ∙ big_number-reads_back n x [] h

pub prime_back : (w : ℕ) (e : PrimeEntry) → IsPrimeEntry w e → prime_entry_in w (prime_bytes e) ≡ e
prime_back w e fit =
    let target = bytes_high_first 4 e.place.page ++ bytes_high_first 2 e.place.slot in
    let behind : drop w (prime_bytes e) ≡ target = back w e.value.items target fit.long in
    let last : drop (w + 4) (prime_bytes e) ≡ bytes_high_first 2 e.place.slot =
    ap (λ (n : ℕ). drop n (prime_bytes e)) (omega arith) ∙ sym (drop-drop 4 w (prime_bytes e)) ∙ ap (drop 4) behind
    ∙ back 4 (bytes_high_first 4 e.place.page) (bytes_high_first 2 e.place.slot) (length-bytes_high_first 4 e.place.page) in
    let value : take w (prime_bytes e) ≡ e.value.items = front w e.value.items target fit.long in
    let page : big_from 0 4 (drop w (prime_bytes e)) ≡ e.place.page = ap (big_from 0 4) behind ∙ big_number-reads_back 4 e.place.page (bytes_high_first 2 e.place.slot) fit.page in
    let slot : big_from 0 2 (drop (w + 4) (prime_bytes e)) ≡ e.place.slot = number 2 e.place.slot (drop (w + 4) (prime_bytes e)) fit.slot last in
    λ i. record { value = record { items = value i }; place = record { page = page i; slot = slot i } }

pub alt_back : (w p : ℕ) (e : AltEntry) → IsAltEntry w p e → alt_entry_in w (alt_bytes e) ≡ e
alt_back w p e fit =
    let behind : drop w (alt_bytes e) ≡ bytes_high_first 8 e.stamp ++ e.prime.items = back w e.value.items (bytes_high_first 8 e.stamp ++ e.prime.items) fit.long in
    let prime : drop (w + 8) (alt_bytes e) ≡ e.prime.items =
    ap (λ (n : ℕ). drop n (alt_bytes e)) (omega arith) ∙ sym (drop-drop 8 w (alt_bytes e)) ∙ ap (drop 8) behind
    ∙ back 8 (bytes_high_first 8 e.stamp) e.prime.items (length-bytes_high_first 8 e.stamp) in
    let value : take w (alt_bytes e) ≡ e.value.items = front w e.value.items (bytes_high_first 8 e.stamp ++ e.prime.items) fit.long in
    let stamp : big_from 0 8 (drop w (alt_bytes e)) ≡ e.stamp = ap (big_from 0 8) behind ∙ big_number-reads_back 8 e.stamp e.prime.items fit.stamp in
    λ i. record { value = record { items = value i }; stamp = stamp i; prime = record { items = prime i } }

-- ---- what is told of the bytes that the tree gave

module _ {X : Type 0} (bytes : X → List ℕ) (Fits : X → Type 0) where
  pub told_none : (e : Option X) → None ≡ option_map bytes e → e ≡ None
  told_none None h = refl
  told_none (Some x) h = cc

  pub told_some : (entry : List ℕ → X) → ((x : X) → Fits x → entry (bytes x) ≡ x)
      → (found : List ℕ) (e : Option X) → IfSome e Fits → Some found ≡ option_map bytes e → Some (entry found) ≡ e
  told_some entry read found None fit h = cc
  told_some entry read found (Some x) fit h = let same : found ≡ bytes x = cc in ap Some (ap entry same ∙ read x fit)
