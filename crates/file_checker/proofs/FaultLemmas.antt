-- What is wrong with the pages of a file, and where.
use Rattle.std.proofs.Common.{◌≡◌, ◌⊎◌, inl, inr, ℕ, zero, suc, ◌+◌, ◌<◌, ◌≤◌, Bool, true, false, List, [], ◌∷◌, length, Some, None, Result, Ok, Err, IfErr, IsErrAnd, refl, sym, subst, ◌∙◌, arith}
use Rattle.std.specs.Prelude.{not}
use Rattle.std.specs.List.{position_or_len}
use Rattle.std.proofs.lemmas.Bool.{cases_Bool, lt-ltb}
use Rattle.std.proofs.lemmas.List.Quantifiers.{position-Some}
use Rattle.page_alloc.specs.Chain.{is_among}
use Rattle.pages.specs.declared.fault_place.FaultPlace.{FaultPlace}
use Rattle.pages.specs.declared.damage.Damage.{Damage}
use Rattle.pages.specs.declared.damage.Damage.TheVariants.{Shared, Node, Order, Heap, Index, Lost}
use Rattle.pages.specs.declared.walk_fault.WalkFault.{WalkFault}
use Rattle.pages.specs.declared.walk_fault.WalkFault.TheVariants.{Memory, At}
use Rattle.pages.specs.Marks.{IsUnmarked, Marks, marked_in}
use Rattle.pages.specs.PageList.{pages_in}
use Rattle.pages.specs.Told.{TellsOfFault}
use Rattle.pages.proofs.PartLemmas.{low_or_not}
use Rattle.pages.proofs.ToldLemmas.{tells_more}
use Rattle.page_walks.specs.declared.leaf.Leaf.{Leaf}
use Rattle.page_walks.specs.FreeWalk.{FreeWalked}
use Rattle.page_walks.specs.TreeFaults.{IsTreeFault, LeadsDown, MarksBelow, root_place}
use Rattle.page_walks.proofs.FileLemmas.{among_outside}
use Rattle.record_heap.specs.Standing.{IsPageChain, first_heap_page}
use Rattle.record_heap.proofs.WalkLemmas.{clash}
use Rattle.bplus_tree.specs.declared.tree.Tree.{Tree}
use Rattle.bplus_tree.specs.Fields.{tree_shape}
use Rattle.key_index.specs.declared.alt_index.AltIndex.{AltIndex}
use Rattle.open_file.specs.declared.first_page.Header.{Header}
use Rattle.open_file.specs.Fields.{heap_of, prime_index_of}
use Rattle.open_file.specs.Headers.{IsOpenedBy}
use Rattle.open_file.specs.declared.open_file.OpenFile.{OpenFile}
use Rattle.open_file.proofs.OrderLemmas.{either}
use Rattle.file_checker.specs.RowsAhead.{PrimesLead}
use Rattle.file_checker.specs.RowFaults.{IsAlternateFault, TellsOfRows}
use Rattle.file_checker.specs.Faults.{AreLeavesOf, HasIndexFault, HasWalkFault, IsAlternateAt, IsAlternateTreeFault, IsWalkFault}
use Rattle.file_checker.specs.Faults.{IsBeforeAlternate, IsBeforeAlternates, IsBeforeHeap, IsBeforePrime, IsTreeReached}
use Rattle.file_checker.specs.Later.{IsMarkedBefore, IsMetIn, TellsOfAlternates, TellsOfIndexes}
use Rattle.file_checker.specs.Lost.{first_unmarked}

-- ---- pages without a mark

pub is_unmarked : (marks : List Bool) (n : ℕ) → first_unmarked marks ≡ Some n → (n < length marks) × (marked_in marks n ≡ false)
is_unmarked marks n is = let found = position-Some not marks n false is in (found.0, off (marked_in marks n) found.1)
  where
    off : (b : Bool) → not b ≡ true → b ≡ false
    off true h = cc h
    off false h = refl

pub all_are_marked : (marks : List Bool) → first_unmarked marks ≡ None → (n : ℕ) → n < length marks → marked_in marks n ≡ true
all_are_marked marks is = go marks (past (low_or_not (position_or_len not marks) (length marks)))
  where
    past : (position_or_len not marks < length marks) ⊎ (length marks ≤ position_or_len not marks) → length marks ≤ position_or_len not marks
    past (inl less) = absurd (let bad : Some (position_or_len not marks) ≡ None = rw (lt-ltb (position_or_len not marks) (length marks) less) at is in cc)
    past (inr end) = end

    go : (bs : List Bool) → length bs ≤ position_or_len not bs → (n : ℕ) → n < length bs → marked_in bs n ≡ true
    go [] end n within = absurd (omega (arith, within))
    go (true ∷ bs) end zero within = refl
    go (true ∷ bs) end (suc n) within = go bs (omega (arith, end)) n (omega (arith, within))
    go (false ∷ bs) end n within = absurd (omega (arith, end))

-- ---- which pages were reached

marked_inside : (marks : List Bool) (n : ℕ) → marked_in marks n ≡ true → n < length marks
marked_inside [] n on = absurd (clash false on refl)
marked_inside (b ∷ bs) zero on = omega arith
marked_inside (b ∷ bs) (suc n) on = let rest = marked_inside bs n on in omega (arith, rest)

-- a page that has its mark after a walk of a tree had it before, or the tree reaches it
pub tree_marked : (tree : Tree) (list : List (List ℕ)) (before after : List Bool) → length after ≡ length before → MarksBelow (tree_shape tree) list (root_place tree) before after
    → (n : ℕ) → marked_in after n ≡ true → (marked_in before n ≡ true) ⊎ IsTreeReached tree list n
tree_marked tree list before after long marks n on = elim (cases_Bool (marked_in before n)) [
  | inl had ↦ inl had
  | inr off ↦ go (marks n ((let inside = marked_inside after n on in omega (arith, inside, long)), off))
]
  where
    go : IsUnmarked after n ⊎ ((is : List ℕ) × LeadsDown (tree_shape tree) list (root_place tree) is n) → (marked_in before n ≡ true) ⊎ IsTreeReached tree list n
    go (inl still) = absurd (clash (marked_in after n) on still.1)
    go (inr reached) = inr reached

module _ (header : Header) (list : List (List ℕ)) (none : ℕ → Bool) (clear : (n : ℕ) → none n ≡ false) (zeroed : List Bool) (first : Marks none (marked_in zeroed) (0 ∷ [])) where
  pub before_free : (n : ℕ) → marked_in zeroed n ≡ true → n ≡ 0
  before_free zero on = refl
  before_free (suc n) on = absurd (clash (none (suc n)) (sym (first.others (suc n) ((λ same. omega (arith, same)), tt)) ∙ on) (clear (suc n)))

  module _ (started : List Bool) (free : FreeWalked list header.first_free header.free (marked_in zeroed) (marked_in started)) where
    pub before_heap : (n : ℕ) → marked_in started n ≡ true → IsBeforeHeap header list n
    before_heap n on = either (is_among n free.own) (IsBeforeHeap header list n)
        (λ yes. inr (record { own = free.own; chain_is = free.is; one = yes }))
        (λ no. inl (before_free n (sym (free.marks.others n (among_outside n free.own no)) ∙ on)))

    module _ (opened : OpenFile) (heaped : List Bool) (own : List ℕ) (chain : IsPageChain (pages_in list) (first_heap_page (heap_of opened)) own) (marks : Marks (marked_in started) (marked_in heaped) own) where
      pub before_prime : (n : ℕ) → marked_in heaped n ≡ true → IsBeforePrime header opened list n
      before_prime n on = either (is_among n own) (IsBeforePrime header opened list n)
          (λ yes. inr (record { own = own; chain_is = chain; one = yes }))
          (λ no. inl (before_heap n (sym (marks.others n (among_outside n own no)) ∙ on)))

      pub before_alternates : (primed : List Bool) → length primed ≡ length heaped → MarksBelow (tree_shape (prime_index_of opened).tree) list (root_place (prime_index_of opened).tree) heaped primed
          → (n : ℕ) → marked_in primed n ≡ true → IsBeforeAlternates header opened list n
      before_alternates primed long below n on = go (tree_marked (prime_index_of opened).tree list heaped primed long below n on)
        where
          go : (marked_in heaped n ≡ true) ⊎ IsTreeReached (prime_index_of opened).tree list n → IsBeforeAlternates header opened list n
          go (inl had) = inl (before_prime n had)
          go (inr reached) = inr reached

-- ---- what is told of a file

module _ (header : Header) (list : List (List ℕ)) where
  -- no walk tells of a page that nothing reaches
  never_lost : (opened : OpenFile) (place : FaultPlace) → IsWalkFault header opened list Lost place → ⊥
  never_lost opened place (inl free) = free.wrong.3
  never_lost opened place (inr (inl heap)) = heap.wrong
  never_lost opened place (inr (inr (inl prime))) = prime.wrong
  never_lost opened place (inr (inr (inr alternate))) = alternate.wrong.wrong

  by_fault : (what : Damage) (place : FaultPlace) → HasWalkFault header list what place → IsMetIn header list what place
  by_fault Shared place h = h
  by_fault Node place h = h
  by_fault Order place h = h
  by_fault Heap place h = h
  by_fault Index place h = inl h
  by_fault Lost place h = absurd (never_lost h.opened place h.wrong)

  pub tells_walk : (P : Damage → FaultPlace → Type 0) (fault : WalkFault) → ((what : Damage) (place : FaultPlace) → P what place → HasWalkFault header list what place) → TellsOfFault P fault
      → TellsOfFault (IsMetIn header list) fault
  tells_walk P fault f h = tells_more P (IsMetIn header list) fault (λ what place p. by_fault what place (f what place p)) h

  pub tells_rows : (P : FaultPlace → Type 0) (fault : WalkFault) → ((place : FaultPlace) → P place → HasIndexFault header list place) → TellsOfRows P fault → TellsOfFault (IsMetIn header list) fault
  tells_rows P Memory f h = tt
  tells_rows P (At what place) f h = subst (λ (d : Damage). IsMetIn header list d place) (sym h.0) (inr (f place h.1))

  -- what is told of alternate indexes
  pub tells_indexes : (opened : OpenFile) → IsOpenedBy header opened → (primes : List Leaf) → AreLeavesOf (prime_index_of opened).tree list primes → (marks : List Bool) → length marks ≡ length list
      → ((n : ℕ) → marked_in marks n ≡ true → IsBeforeAlternates header opened list n) → (fault : WalkFault) → TellsOfIndexes opened list primes marks fault → TellsOfFault (IsMetIn header list) fault
  tells_indexes opened by primes are marks long before Memory told = tt
  tells_indexes opened by primes are marks long before (At what place) (inr h) =
      subst (λ (d : Damage). IsMetIn header list d place) (sym h.0) (inr (record { opened = opened; by_header = by; wrong = inr (record { primes = primes; are = are; wrong = h.1 }) }))
  tells_indexes opened by primes are marks long before (At what place) (inl h) =
      by_fault what place (record { opened = opened; by_header = by; wrong = inr (inr (inr more)) })
    where
      reached : (j n : ℕ) → IsMarkedBefore opened list marks j n → IsBeforeAlternate header opened list j n
      reached j n (inl on) = inl (before n on)
      reached j n (inr at) = inr at

      more : IsAlternateTreeFault (IsBeforeAlternate header opened list) (length list) opened list what place
      more = record {
        j = h.j;
        index = h.index;
        at = h.at;
        wrong = record {
          marks = h.wrong.marks;
          are = record { many = h.wrong.are.many ∙ long; each = λ n on. reached h.j n (h.wrong.are.each n on) };
          wrong = h.wrong.wrong;
        };
      }

-- ---- one alternate index after another

module _ (opened : OpenFile) (list : List (List ℕ)) (primes : List Leaf) (marks : List Bool) (j : ℕ) (index : AltIndex) (at : IsAlternateAt opened j index) where
  -- what was reached before it
  abbrev pub ReachedSoFar : List Bool → Type 0
  ReachedSoFar now = (n : ℕ) → marked_in now n ≡ true → IsMarkedBefore opened list marks j n

  tells_tree : (now : List Bool) → length now ≡ length marks → ReachedSoFar now → (fault : WalkFault) → TellsOfFault (IsTreeFault index.tree list now) fault
      → TellsOfIndexes opened list primes marks fault
  tells_tree now long so Memory h = tt
  tells_tree now long so (At what place) h =
      inl (record { j = j; index = index; at = at; wrong = record { marks = now; are = record { many = long; each = so }; wrong = h } })

  -- its tree does not stand
  pub told_of_tree : {X : Type 0} (now : List Bool) → length now ≡ length marks → ReachedSoFar now → (r : Result X WalkFault) (fault : WalkFault) → IsErrAnd r (λ e. e ≡ fault)
      → TellsOfFault (IsTreeFault index.tree list now) fault → IfErr r (TellsOfAlternates opened list primes marks)
  told_of_tree now long so (Ok x) fault was h = tt
  told_of_tree now long so (Err stop) fault was h = λ lead. subst (TellsOfIndexes opened list primes marks) (sym was) (tells_tree now long so fault h)

  tells_entries : (leaves : List Leaf) → AreLeavesOf index.tree list leaves → (fault : WalkFault) → TellsOfRows (IsAlternateFault opened list primes index leaves) fault
      → TellsOfIndexes opened list primes marks fault
  tells_entries leaves are Memory h = tt
  tells_entries leaves are (At what place) h = inr (h.0, record { j = j; index = index; at = at; leaves = leaves; are = are; wrong = h.1 })

  -- its entries are not those of the rows
  pub told_of_entries : {X : Type 0} (leaves : List Leaf) → AreLeavesOf index.tree list leaves → (r : Result X WalkFault) (fault : WalkFault) → IsErrAnd r (λ e. e ≡ fault)
      → (PrimesLead opened list primes → TellsOfRows (IsAlternateFault opened list primes index leaves) fault)
      → IfErr r (TellsOfAlternates opened list primes marks)
  told_of_entries leaves are (Ok x) fault was h = tt
  told_of_entries leaves are (Err stop) fault was h = λ lead. subst (TellsOfIndexes opened list primes marks) (sym was) (tells_entries leaves are fault (h lead))

  -- what was reached with it
  pub reached_next : (now after : List Bool) → length after ≡ length now → ReachedSoFar now → MarksBelow (tree_shape index.tree) list (root_place index.tree) now after
      → (n : ℕ) → marked_in after n ≡ true → IsMarkedBefore opened list marks (j + 1) n
  reached_next now after long so below n on = go (tree_marked index.tree list now after long below n on)
    where
      wider : IsMarkedBefore opened list marks j n → IsMarkedBefore opened list marks (j + 1) n
      wider (inl had) = inl had
      wider (inr r) = inr (record { i = r.i; index = r.index; before = (let less = r.before in omega (arith, less)); at = r.at; reached = r.reached })

      go : (marked_in now n ≡ true) ⊎ IsTreeReached index.tree list n → IsMarkedBefore opened list marks (j + 1) n
      go (inl had) = wider (so n had)
      go (inr reached) = inr (record { i = j; index = index; before = omega arith; at = at; reached = reached })
