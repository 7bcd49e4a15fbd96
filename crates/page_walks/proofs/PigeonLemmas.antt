-- Numbers below a bound of which none stands twice are no more than it says.
use Rattle.std.proofs.Common.{◌≡◌, ◌≢◌, ◌⊎◌, ℕ, zero, suc, ◌+◌, ◌*◌, ◌<◌, ◌≤◌, true, false, List, [], ◌∷◌, length, map, sym, ◌∙◌, arith, inl, inr}
use Rattle.std.specs.Prelude.{if◌then◌else◌, ◌==◌}
use Rattle.std.proofs.lemmas.List.{length-map}
use Rattle.std.proofs.lemmas.Bool.Decides.{eqb_tells}
use Rattle.std.proofs.Math.Dec.{eqb}
use Rattle.std.proofs.Math.Nat.{suc-mul}
use Rattle.pages.specs.Each.{Each}
use Rattle.pages.specs.Owners.{AreApart}
use Rattle.pages.proofs.ChunkLemmas.{times_less}
use Rattle.pages.proofs.EachLemmas.{each_both}
use Rattle.record_heap.specs.declared.shape.Place.{Place}
use Rattle.record_heap.specs.Chain.{AreOnce, IsOneOf}
use Rattle.record_heap.proofs.ChainLemmas.{place_made}
use Rattle.page_walks.proofs.SlotMarkLemmas.{one_rest}

abbrev without : ℕ → List ℕ → List ℕ
without k [] = []
without k (x ∷ xs) = if x == k then xs else x ∷ without k xs

without_each : (P : ℕ → Type 0) (k : ℕ) (xs : List ℕ) → Each P xs → Each P (without k xs)
without_each P k [] h = tt
without_each P k (x ∷ xs) h = go (without_each P k xs h.1) (eqb_tells x k)
  where
    go : Each P (without k xs) → ((eqb x k ≡ true) × (x ≡ k)) ⊎ ((eqb x k ≡ false) × (x ≢ k)) → Each P (without k (x ∷ xs))
    go rest (inl a) = rw a.0 h.1
    go rest (inr b) = rw b.0 (h.0, rest)

without_apart : (k : ℕ) (xs : List ℕ) → AreApart xs → AreApart (without k xs)
without_apart k [] h = tt
without_apart k (x ∷ xs) h = go (without_apart k xs h.1) (eqb_tells x k)
  where
    go : AreApart (without k xs) → ((eqb x k ≡ true) × (x ≡ k)) ⊎ ((eqb x k ≡ false) × (x ≢ k)) → AreApart (without k (x ∷ xs))
    go rest (inl a) = rw a.0 h.1
    go rest (inr b) = rw b.0 (without_each (λ m. x ≢ m) k xs h.0, rest)

without_long : (k : ℕ) (xs : List ℕ) → length xs ≤ suc (length (without k xs))
without_long k [] = omega arith
without_long k (x ∷ xs) = go (without_long k xs) (eqb_tells x k)
  where
    go : length xs ≤ suc (length (without k xs)) → ((eqb x k ≡ true) × (x ≡ k)) ⊎ ((eqb x k ≡ false) × (x ≢ k)) → length (x ∷ xs) ≤ suc (length (without k (x ∷ xs)))
    go rest (inl a) = rw a.0 (omega arith)
    go rest (inr b) = rw b.0 (omega (arith, rest))

without_low : (k : ℕ) (xs : List ℕ) → AreApart xs → Each (λ m. m < suc k) xs → Each (λ m. m < k) (without k xs)
without_low k [] h low = tt
without_low k (x ∷ xs) h low = go (without_low k xs h.1 low.1) (eqb_tells x k)
  where
    go : Each (λ m. m < k) (without k xs) → ((eqb x k ≡ true) × (x ≡ k)) ⊎ ((eqb x k ≡ false) × (x ≢ k)) → Each (λ m. m < k) (without k (x ∷ xs))
    go rest (inl a) = rw a.0 (each_both (λ m. x ≢ m) (λ m. m < suc k) (λ m. m < k) (λ m other less. (let is = a.1 in omega (arith, is, other, less))) xs h.0 low.1)
    go rest (inr b) = rw b.0 ((let less = low.0 in let other = b.1 in omega (arith, less, other)), rest)

pub pigeon : (n : ℕ) (xs : List ℕ) → AreApart xs → Each (λ m. m < n) xs → length xs ≤ n
pigeon zero [] h low = omega arith
pigeon zero (x ∷ xs) h low = (let less = low.0 in absurd (omega (arith, less)))
pigeon (suc k) xs h low =
    let rest = pigeon k (without k xs) (without_apart k xs h) (without_low k xs h low) in
    let long = without_long k xs in
    omega (arith, rest, long)

-- ---- places in some pages

-- where a page stands among these
abbrev pub index_of : List ℕ → ℕ → ℕ
index_of [] n = 0
index_of (m ∷ ms) n = if n == m then 0 else suc (index_of ms n)

index_within : (own : List ℕ) (n : ℕ) → IsOneOf own n → index_of own n < length own
index_within [] n of = absurd of
index_within (m ∷ ms) n of = go (index_within ms n) (eqb_tells n m) of
  where
    go : (IsOneOf ms n → index_of ms n < length ms) → ((eqb n m ≡ true) × (n ≡ m)) ⊎ ((eqb n m ≡ false) × (n ≢ m)) → IsOneOf (m ∷ ms) n → index_of (m ∷ ms) n < length (m ∷ ms)
    go again (inl a) of = rw a.0 (omega arith)
    go again (inr b) (inl e) = absurd (b.1 e)
    go again (inr b) (inr of) = let rest = again of in rw b.0 (omega (arith, rest))

index_same : (own : List ℕ) (n k : ℕ) → IsOneOf own n → IsOneOf own k → index_of own n ≡ index_of own k → n ≡ k
index_same [] n k of one same = absurd of
index_same (m ∷ ms) n k of one same = go (index_same ms n k) (eqb_tells n m) (eqb_tells k m) of one same
  where
    go : (IsOneOf ms n → IsOneOf ms k → index_of ms n ≡ index_of ms k → n ≡ k) → ((eqb n m ≡ true) × (n ≡ m)) ⊎ ((eqb n m ≡ false) × (n ≢ m)) → ((eqb k m ≡ true) × (k ≡ m)) ⊎ ((eqb k m ≡ false) × (k ≢ m)) → IsOneOf (m ∷ ms) n → IsOneOf (m ∷ ms) k
        → index_of (m ∷ ms) n ≡ index_of (m ∷ ms) k → n ≡ k
    go again (inl a) (inl b) of one same = a.1 ∙ sym b.1
    go again (inl a) (inr b) of one same = let bad : 0 ≡ suc (index_of ms k) = rw (a.0, b.0) at same in absurd (omega (arith, bad))
    go again (inr a) (inl b) of one same = let bad : suc (index_of ms n) ≡ 0 = rw (a.0, b.0) at same in absurd (omega (arith, bad))
    go again (inr a) (inr b) (inl e) one same = absurd (a.1 e)
    go again (inr a) (inr b) (inr of) (inl e) same = absurd (b.1 e)
    go again (inr a) (inr b) (inr of) (inr one) same = let less : suc (index_of ms n) ≡ suc (index_of ms k) = rw (a.0, b.0) at same in again of one (omega (arith, less))

module _ (room : ℕ) (own : List ℕ) where
  codes_apart : (ps : List Place) → AreOnce ps → Each (λ p. IsOneOf own p.page × (p.slot < room)) ps → AreApart (map (λ p. index_of own p.page * room + p.slot) ps)
  codes_apart [] once all = tt
  codes_apart (p ∷ ps) once all = (others ps once.0 all.1, codes_apart ps once.1 all.1)
    where
      others : (qs : List Place) → Each (λ q. p ≢ q) qs → Each (λ q. IsOneOf own q.page × (q.slot < room)) qs
          → Each (λ m. index_of own p.page * room + p.slot ≢ m) (map (λ q. index_of own q.page * room + q.slot) qs)
      others [] other of = tt
      others (q ∷ qs) other of = (
        λ same. (let one = one_rest (index_of own p.page) (index_of own q.page) room p.slot q.slot all.0.1 of.0.1 same in
            other.0 (place_made p q (index_same own p.page q.page all.0.0 of.0.0 one.0) one.1)),
        others qs other.1 of.1,
      )

  codes_low : (ps : List Place) → Each (λ p. IsOneOf own p.page × (p.slot < room)) ps → Each (λ m. m < length own * room) (map (λ p. index_of own p.page * room + p.slot) ps)
  codes_low [] all = tt
  codes_low (p ∷ ps) all = (low, codes_low ps all.1)
    where
      low : index_of own p.page * room + p.slot < length own * room
      low =
          let within = index_within own p.page all.0.0 in
          let split = times_less (length own) (suc (index_of own p.page)) room (omega (arith, within)) in
          let step = suc-mul (index_of own p.page) room in
          let slot = all.0.1 in
          omega (arith, split, step, slot)

  pub few_places : (ps : List Place) → AreOnce ps → Each (λ p. IsOneOf own p.page × (p.slot < room)) ps → length ps ≤ length own * room
  few_places ps once all =
      let few = pigeon (length own * room) (map (λ p. index_of own p.page * room + p.slot) ps) (codes_apart ps once all) (codes_low ps all) in
      let long = length-map ps (λ p. index_of own p.page * room + p.slot) in
      omega (arith, few, long)
