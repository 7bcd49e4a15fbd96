-- Parts of a file that are built side by side: a change of one leaves the others, and one more comes behind them.
use Rattle.std.proofs.Common.{◌≡◌, ◌≢◌, ℕ, zero, suc, ◌+◌, ◌==◌, ◌<◌, List, [], ◌∷◌, ◌++◌, length, None, refl, ap, sym, subst, ◌∙◌, arith, length-append}
use Rattle.std.specs.Prelude.{slice_index_or, IsSome}
use Rattle.std.proofs.Math.Seq.{get_or-append_seam}
use Rattle.pages.specs.Each.{Each}
use Rattle.pages.specs.PageMap.{PageMap}
use Rattle.pages.specs.Owners.{IsOutside, ChangesPages}
use Rattle.pages.specs.Parted.{own_at, Parted}
use Rattle.pages.proofs.EachLemmas.{each_both, outside_symm}
use Rattle.record_heap.specs.declared.heap.Heap.{Heap}
use Rattle.record_heap.specs.Chain.{Slots}
use Rattle.record_heap.proofs.StandLemmas.{heap_kept}
use Rattle.key_index.specs.declared.entry.PrimeEntry.{PrimeEntry}
use Rattle.key_index.specs.declared.entry.AltEntry.{AltEntry}
use Rattle.key_index.specs.declared.prime_index.PrimeIndex.{PrimeIndex}
use Rattle.key_index.specs.declared.alt_index.AltIndex.{AltIndex}
use Rattle.key_index.specs.Standing.{AltStands, AltChanged}
use Rattle.key_index.proofs.LawLemmas.{prime_kept, alt_kept}
use Rattle.open_file.specs.Parts.{Parts, heap_pages, prime_pages, alternate_pages}
use Rattle.open_file.proofs.OrderLemmas.{either}
use Rattle.open_file.proofs.PartsLemmas.{from_eq, from_ne, no_some, some_none, AreUsed, used}

-- ---- pages that are none of a part

pub no_pages : (own : List ℕ) → Each (λ n. IsOutside [] n) own
no_pages [] = tt
no_pages (n ∷ own) = (tt, no_pages own)

-- pages in use outside a part are as they were, and outside it still
pub left_alone : (before after : PageMap) (old new own : List ℕ) → ChangesPages before after old new → Each (λ n. IsSome (before n)) own → Each (IsOutside old) own
    → Each (λ n. (after n ≡ before n) × IsOutside new n) own
left_alone before after old new own changes live out =
    each_both (λ n. IsSome (before n)) (IsOutside old) (λ n. (after n ≡ before n) × IsOutside new n) changes.others own live out

pub same_pages : (before after : PageMap) (new own : List ℕ) → Each (λ n. (after n ≡ before n) × IsOutside new n) own → Each (λ n. after n ≡ before n) own
same_pages before after new [] h = tt
same_pages before after new (n ∷ own) h = (h.0.0, same_pages before after new own h.1)

pub outside_pages : (before after : PageMap) (new own : List ℕ) → Each (λ n. (after n ≡ before n) × IsOutside new n) own → Each (IsOutside new) own
outside_pages before after new [] h = tt
outside_pages before after new (n ∷ own) h = (h.0.1, outside_pages before after new own h.1)

-- ---- two parts

pub two_apart : (a b : List ℕ) → Each (IsOutside a) b → (i j : ℕ) → i ≢ j → Each (λ n. IsOutside (own_at (a ∷ b ∷ []) i) n) (own_at (a ∷ b ∷ []) j)
two_apart a b h zero zero differ = absurd (differ refl)
two_apart a b h zero (suc zero) differ = h
two_apart a b h zero (suc (suc j)) differ = tt
two_apart a b h (suc zero) zero differ = outside_symm b a h
two_apart a b h (suc zero) (suc zero) differ = absurd (differ refl)
two_apart a b h (suc zero) (suc (suc j)) differ = tt
two_apart a b h (suc (suc i)) j differ = no_pages (own_at (a ∷ b ∷ []) j)

-- no page is in use yet
pub none_parted : (pages : PageMap) → ((n : ℕ) → pages n ≡ None) → Parted pages ([] ∷ [] ∷ [])
none_parted pages free = record { apart = two_apart [] [] tt; covers = λ n out. free n }

-- the second is outside the first
pub second_apart : (pages : PageMap) (a b : List ℕ) → Parted pages (a ∷ b ∷ []) → Each (IsOutside a) b
second_apart pages a b parted = parted.apart 0 1 (omega arith)

pub first_apart : (pages : PageMap) (a b : List ℕ) → Parted pages (a ∷ b ∷ []) → Each (IsOutside b) a
first_apart pages a b parted = parted.apart 1 0 (omega arith)

-- the first has other pages
pub first_changed : (before after : PageMap) (a now b : List ℕ) → ChangesPages before after a now → Each (λ n. IsSome (before n)) b → Parted before (a ∷ b ∷ []) → Parted after (now ∷ b ∷ [])
first_changed before after a now b changes live parted = record {
  apart = two_apart now b (outside_pages before after now b (left_alone before after a now b changes live (second_apart before a b parted)));
  covers = λ n out.
      no_some (after n) (λ some.
      let back = changes.no_stray n some out.0 in
      some_none (before n) back.0 (parted.covers n (back.1, (out.1.0, tt))));
}

-- the second has
pub second_changed : (before after : PageMap) (a b now : List ℕ) → ChangesPages before after b now → Each (λ n. IsSome (before n)) a → Parted before (a ∷ b ∷ []) → Parted after (a ∷ now ∷ [])
second_changed before after a b now changes live parted = record {
  apart = two_apart a now (outside_symm a now (outside_pages before after now a (left_alone before after b now a changes live (first_apart before a b parted))));
  covers = λ n out.
      no_some (after n) (λ some.
      let back = changes.no_stray n some out.1.0 in
      some_none (before n) back.0 (parted.covers n (out.0, (back.1, tt))));
}

-- ---- one part more behind all

pub last_here : {X : Type 0} (xs : List X) (x d : X) → slice_index_or (xs ++ x ∷ []) (length xs) d ≡ x
last_here xs x d = get_or-append_seam xs x [] d

pub before_last : {X : Type 0} (xs : List X) (x d : X) (i : ℕ) → i ≢ length xs → slice_index_or (xs ++ x ∷ []) i d ≡ slice_index_or xs i d
before_last [] x d zero other = absurd (other refl)
before_last [] x d (suc i) other = refl
before_last (y ∷ xs) x d zero other = refl
before_last (y ∷ xs) x d (suc i) other = before_last xs x d i (λ e. other (ap suc e))

each_front : {X : Type 0} (P : X → Type 0) (xs : List X) (x : X) → Each P (xs ++ x ∷ []) → Each P xs × P x
each_front P [] x h = (tt, h.0)
each_front P (y ∷ xs) x h = let rest = each_front P xs x h.1 in ((h.0, rest.0), rest.1)

-- pages in use are as they were where new ones were taken, and outside these
pub untouched : (before after : PageMap) (own now : List ℕ) → Each (λ n. IsSome (before n)) own → ChangesPages before after [] now → Each (λ n. (after n ≡ before n) × IsOutside now n) own
untouched before after own now live changes = left_alone before after [] now own changes live (no_pages own)

parted_more : (before after : PageMap) (owns : List (List ℕ)) (now : List ℕ) → AreUsed before owns → ChangesPages before after [] now → Parted before owns → Parted after (owns ++ now ∷ [])
parted_more before after owns now live changes parted =
    let all : List (List ℕ) = owns ++ now ∷ [] in
    let out = λ (i : ℕ). outside_pages before after now (own_at owns i) (untouched before after (own_at owns i) now (live i) changes) in
    record {
      apart = λ i j differ.
          either (i == length owns) (Each (λ n. IsOutside (own_at all i) n) (own_at all j))
          (λ yes. let e = from_eq i (length owns) yes in
          let other : j ≢ length owns = λ f. differ (e ∙ sym f) in
          rw (e, last_here owns now [], before_last owns now [] j other) (out j))
          (λ no. let early = from_ne i (length owns) no in
          either (j == length owns) (Each (λ n. IsOutside (own_at all i) n) (own_at all j))
          (λ yes. let e = from_eq j (length owns) yes in
          rw (e, last_here owns now [], before_last owns now [] i early) (outside_symm (own_at owns i) now (out i)))
          (λ none. let later = from_ne j (length owns) none in
          rw (before_last owns now [] i early, before_last owns now [] j later) (parted.apart i j differ)));
      covers = λ n out.
          let outs = each_front (λ own. IsOutside own n) owns now out in
          no_some (after n) (λ some. let back = changes.no_stray n some outs.1 in some_none (before n) back.0 (parted.covers n outs.0));
    }

-- an index more stands beside the parts
pub parts_more : (heap : Heap) (prime : PrimeIndex) (alternates : List AltIndex) (before after : PageMap) (slots : Slots) (primes : List PrimeEntry) (entries : ℕ → List AltEntry) (index : AltIndex)
    → Parts heap prime alternates before slots primes entries → AltChanged before after index [] (entries (length alternates))
    → Parts heap prime (alternates ++ index ∷ []) after slots primes entries
parts_more heap prime alternates before after slots primes entries index p changed =
    let now = changed.own_now in
    let all : List (List ℕ) = p.owns ++ now ∷ [] in
    let many : length p.owns ≡ length alternates + 2 = p.owners in
    let live : AreUsed before p.owns = used heap prime alternates before slots primes entries p in
    let still : (j : ℕ) → Each (λ n. after n ≡ before n) (own_at p.owns j) =
    λ j. same_pages before after now (own_at p.owns j) (untouched before after (own_at p.owns j) now (live j) changed.changes) in
    record {
      owns = all;
      owners = length-append p.owns (now ∷ []) ∙ omega (arith, many, length-append alternates (index ∷ []));
      heap_stands = rw (before_last p.owns now [] 0 (omega (arith, many))) (heap_kept heap before after slots (heap_pages p.owns) (still 0) p.heap_stands);
      prime_stands = rw (before_last p.owns now [] 1 (omega (arith, many))) (prime_kept prime before after primes (prime_pages p.owns) p.prime_stands (still 1));
      alternates_stand = λ j other within is.
          either (j == length alternates) (AltStands other after (entries j) (alternate_pages all j))
          (λ yes. let e = from_eq j (length alternates) yes in
          let it : other ≡ index = is ∙ ap (λ m. slice_index_or (alternates ++ index ∷ []) m other) e ∙ last_here alternates index other in
          let place : j + 2 ≡ length p.owns = omega (arith, e, many) in
          rw (it, place, last_here p.owns now []) (subst (λ m. AltStands index after (entries m) now) (sym e) changed.stands))
          (λ no. let early = from_ne j (length alternates) no in
          let before_it : j < length alternates = omega (arith, within, early, length-append alternates (index ∷ [])) in
          let elsewhere : j + 2 ≢ length p.owns = omega (arith, early, many) in
          rw (before_last p.owns now [] (j + 2) elsewhere)
          (alt_kept other before after (entries j) (alternate_pages p.owns j) (p.alternates_stand j other before_it (is ∙ before_last alternates index other j early)) (still (j + 2))));
      parted = parted_more before after p.owns now live changed.changes p.parted;
    }
