-- A heap that a walk has yet to find.
use Rattle.std.proofs.Common.{◌≡◌, ◌≢◌, ◌⊎◌, ℕ, zero, suc, ◌*◌, ◌^◌, ◌<◌, ◌≤◌, Bool, true, false, List, [], ◌∷◌, length, take, drop, get_or, replicate, Option, Some, None, refl, ap, sym, subst, ◌∙◌, arith, inl, inr}
use Rattle.std.specs.Prelude.{nat_lt}
use Rattle.std.proofs.lemmas.Bool.{false≢true, ltb-true}
use Rattle.byteorder.specs.Endian.{big_number}
use Rattle.byteorder.specs.Numbers.{big_number-reads_back}
use Rattle.pages.specs.Each.{Each}
use Rattle.pages.specs.Owners.{AreApart, IsOutside}
use Rattle.pages.specs.PageMap.{PageMap}
use Rattle.pages.specs.Marks.{IsUnmarked, Marks, marked_in}
use Rattle.pages.specs.PageList.{pages_in}
use Rattle.pages.proofs.EachLemmas.{each_weaker, outside_symm}
use Rattle.pages.proofs.RefusedLemmas.{still_unmarked}
use Rattle.record_heap.specs.declared.heap.Heap.{Heap}
use Rattle.record_heap.specs.declared.shape.SlotShape.{SlotShape}
use Rattle.record_heap.specs.declared.shape.Place.{Place}
use Rattle.page_walks.specs.declared.slot_marks.SlotMarks.{SlotMarks}
use Rattle.record_heap.specs.Slot.{room}
use Rattle.record_heap.specs.Slots.{IsHeapPage}
use Rattle.record_heap.specs.Calls.{IsHeapAt, behind_at, slot_of}
use Rattle.record_heap.specs.Chain.{AreOnce, IsFreeChain, IsOneOf, IsPlaceOf}
use Rattle.page_walks.specs.SlotMarks.{HasMark, SameSlots, SetsMark, marked_slot}
use Rattle.record_heap.specs.Standing.{IsPageChain}
use Rattle.record_heap.specs.Walk.{ChainAhead, IsFreeAt, IsFreeOrUsed, IsFreePath, IsHeapPageAt, IsUsedAt, OwnStands, PagesWalked}
use Rattle.page_walks.specs.SlotWalk.{AreMarked, FreeSlotsAhead, IsMarkedFree, OwnAhead, SlotsWalked, TakesMark}
use Rattle.record_heap.proofs.ChainLemmas.{some_same}
use Rattle.page_walks.proofs.MarkAheadLemmas.{still_has}
use Rattle.page_walks.proofs.PigeonLemmas.{few_places, pigeon}
use Rattle.page_walks.proofs.SlotWalkLemmas.{free_not_used}
use Rattle.record_heap.proofs.WalkLemmas.{clash}

-- ---- the chain of heap pages

-- the number of the next page is read back
pub next_read : (page : List ℕ) (next : ℕ) → next < 2 ^ 32 → IsHeapPage next page → big_number 4 (drop 4 (take 16 page)) ≡ next
next_read page next low heap =
    ap (λ (l : List ℕ). big_number 4 (drop 4 l)) heap.start ∙ big_number-reads_back 4 next (replicate 8 0) low

one_next : (pages : PageMap) (n a b : ℕ) → a < 2 ^ 32 → b < 2 ^ 32 → IsHeapAt pages n a → IsHeapAt pages n b → a ≡ b
one_next pages n a b low low' one two =
    let same : one.bytes ≡ two.bytes = some_same one.bytes two.bytes (sym one.there ∙ two.there) in
    sym (next_read one.bytes a low one.heap) ∙ next_read one.bytes b low' (subst (IsHeapPage b) (sym same) two.heap)

-- a page number at which a chain begins
first_low : (pages : PageMap) (first : ℕ) (own : List ℕ) → IsPageChain pages first own → Each (λ n. n < 2 ^ 32) own → first < 2 ^ 32
first_low pages first [] chain low = omega (arith, chain)
first_low pages first (n ∷ ns) chain low = let is = chain.0 in let less = low.0 in omega (arith, is, less)

record Opened (pages : PageMap) (at : ℕ) (reached : List Bool) : Type 0 where
  pub next : ℕ
  pub low : next < 2 ^ 32
  pub here : IsHeapAt pages at next
  pub free : IsUnmarked reached at
  pub rest : List ℕ
  pub chain : IsPageChain pages next rest
  pub apart : AreApart rest
  pub some : Each (λ n. 1 ≤ n) rest
  pub lows : Each (λ n. n < 2 ^ 32) rest
  pub out : IsOutside rest at
  pub unmarked : Each (IsUnmarked reached) rest

opens : (pages : PageMap) (at : ℕ) (reached : List Bool) → at ≢ 0 → ChainAhead pages at reached → Opened pages at reached
opens pages at reached some a = go a.own a.chain a.apart a.some a.low a.unmarked
  where
    go : (own : List ℕ) → IsPageChain pages at own → AreApart own → Each (λ n. 1 ≤ n) own → Each (λ n. n < 2 ^ 32) own → Each (IsUnmarked reached) own → Opened pages at reached
    go [] chain apart ones low free = absurd (some chain)
    go (n ∷ ns) chain apart ones low free = record {
      next = chain.1.0;
      low = first_low pages chain.1.0 ns chain.1.2 low.1;
      here = subst (λ (k : ℕ). IsHeapAt pages k chain.1.0) (sym chain.0) chain.1.1;
      free = subst (IsUnmarked reached) (sym chain.0) free.0;
      rest = ns;
      chain = chain.1.2;
      apart = apart.1;
      some = ones.1;
      lows = low.1;
      out = subst (IsOutside ns) (sym chain.0) apart.0;
      unmarked = free.1;
    }

pub chain_page : (pages : PageMap) (at : ℕ) (reached : List Bool) → at ≢ 0 → ChainAhead pages at reached → IsHeapPageAt pages at
chain_page pages at reached some a = let o = opens pages at reached some a in (o.next, o.low, o.here)

pub chain_unmarked : (pages : PageMap) (at : ℕ) (reached : List Bool) → at ≢ 0 → ChainAhead pages at reached → IsUnmarked reached at
chain_unmarked pages at reached some a = (opens pages at reached some a).free

pub chain_next : (pages : PageMap) (at next : ℕ) (before after : List Bool) → at ≢ 0 → next < 2 ^ 32 → IsHeapAt pages at next → Marks (marked_in before) (marked_in after) (at ∷ [])
    → length after ≡ length before → ChainAhead pages at before → ChainAhead pages next after
chain_next pages at next before after some low here marks long a =
    let o = opens pages at before some a in
    let same = one_next pages at o.next next o.low low o.here here in
    record {
      own = o.rest;
      chain = subst (λ (k : ℕ). IsPageChain pages k o.rest) same o.chain;
      apart = o.apart;
      some = o.some;
      low = o.lows;
      unmarked = still_unmarked before after (at ∷ []) o.rest marks long (outside_symm (at ∷ []) o.rest (o.out, tt)) o.unmarked;
    }

marked_low : (marks : List Bool) (ns : List ℕ) → Each (λ n. marked_in marks n ≡ true) ns → Each (λ n. n < length marks) ns
marked_low marks [] all = tt
marked_low marks (n ∷ ns) all = (low marks n all.0, marked_low marks ns all.1)
  where
    low : (marks : List Bool) (n : ℕ) → marked_in marks n ≡ true → n < length marks
    low [] n on = absurd (false≢true on)
    low (b ∷ bs) zero on = omega arith
    low (b ∷ bs) (suc n) on = let rest = low bs n on in omega (arith, rest)

-- when as many pages were walked as there are, none is left
pub chain_over : (pages : PageMap) (first at : ℕ) (before : ℕ → Bool) (reached : List Bool) (own : List ℕ) → at ≢ 0 → length own ≡ length reached
    → PagesWalked pages first at before (marked_in reached) own → ChainAhead pages at reached → ⊥
chain_over pages first at before reached own some many walked a =
    let free = chain_unmarked pages at reached some a in
    let out : IsOutside own at = each_weaker (λ n. marked_in reached n ≡ true) (λ n. at ≢ n) (λ n on same. clash (marked_in reached at) (ap (marked_in reached) same ∙ on) free.1) own walked.marks.set in
    let few = pigeon (length reached) (at ∷ own) (out, walked.marks.apart) (free.0, marked_low reached own walked.marks.set) in
    omega (arith, few, many)

-- two chains from one page are one
pub chains_same : (pages : PageMap) (first : ℕ) (own other : List ℕ) → IsPageChain pages first own → IsPageChain pages first other → Each (λ n. 1 ≤ n) own → Each (λ n. 1 ≤ n) other
    → Each (λ n. n < 2 ^ 32) own → Each (λ n. n < 2 ^ 32) other → own ≡ other
chains_same pages first [] [] one two some some' low low' = refl
chains_same pages first [] (m ∷ ms) one two some some' low low' = let n = some'.0 in let e = two.0 in absurd (omega (arith, one, n, e))
chains_same pages first (n ∷ ns) [] one two some some' low low' = let k = some.0 in let e = one.0 in absurd (omega (arith, two, k, e))
chains_same pages first (n ∷ ns) (m ∷ ms) one two some some' low low' =
    let head : n ≡ m = sym one.0 ∙ two.0 in
    let next = one_next pages n one.1.0 two.1.0 (first_low pages one.1.0 ns one.1.2 low.1) (first_low pages two.1.0 ms two.1.2 low'.1) one.1.1
    (subst (λ (k : ℕ). IsHeapAt pages k two.1.0) (sym head) two.1.1) in
    let rest = chains_same pages one.1.0 ns ms one.1.2 (subst (λ (k : ℕ). IsPageChain pages k ms) (sym next) two.1.2) some.1 some'.1 low.1 low'.1 in
    ap (λ (k : ℕ). k ∷ ns) head ∙ ap (λ (l : List ℕ). m ∷ l) rest

-- ---- the slots

pub page_inside : (list : List (List ℕ)) (n : ℕ) (bytes : List ℕ) → pages_in list n ≡ Some bytes → n < length list
page_inside list n bytes is = go (nat_lt n (length list)) refl
  where
    go : (b : Bool) → nat_lt n (length list) ≡ b → n < length list
    go true e = ltb-true n (length list) e
    go false e = absurd (let none : None ≡ Some bytes = rw e at is in cc)

chain_inside : (list : List (List ℕ)) (first : ℕ) (own : List ℕ) → IsPageChain (pages_in list) first own → Each (λ n. n < length list) own
chain_inside list first [] chain = tt
chain_inside list first (n ∷ ns) chain = (page_inside list n chain.1.1.bytes chain.1.1.there, chain_inside list chain.1.0 ns chain.1.2)

pub each_one : {X : Type 0} (P : X → Type 0) (xs : List X) (x : X) → Each P xs → IsOneOf xs x → P x
each_one P [] x all of = absurd of
each_one P (y ∷ ys) x all (inl e) = subst P (sym e) all.0
each_one P (y ∷ ys) x all (inr of) = each_one P ys x all.1 of

pub one_of_at : (xs : List ℕ) (i d : ℕ) → i < length xs → IsOneOf xs (get_or xs i d)
one_of_at [] i d within = absurd (omega (arith, within))
one_of_at (x ∷ xs) zero d within = inl refl
one_of_at (x ∷ xs) (suc i) d within = inr (one_of_at xs i d (omega (arith, within)))

-- what a free slot of a chain leads to
behind_free : (behind : Place → Option Place) (first : Place) (free : List Place) (p : Place) → IsFreeChain behind first free → IsOneOf free p → (next : Place) × (behind p ≡ Some next)
behind_free behind first [] p chain of = absurd of
behind_free behind first (q ∷ qs) p chain (inl e) = (chain.1.0, ap behind e ∙ chain.1.1)
behind_free behind first (q ∷ qs) p chain (inr of) = behind_free behind chain.1.0 qs p chain.1.2 of

module _ (heap : Heap) (list : List (List ℕ)) (own : List ℕ) (stands : OwnStands heap list own) where
  place : (p : Place) → IsOneOf own p.page → p.slot < room heap.shape → IsPlaceOf (room heap.shape) own p
  place p of below = record { page = of; some = each_one (λ n. 1 ≤ n) own p.page stands.some of; slot = below }

  kind : (p : Place) → IsOneOf own p.page → p.slot < room heap.shape → (o : Option (List ℕ)) → stands.slots p ≡ o → IsFreeOrUsed heap.shape (slot_of heap.shape (pages_in list) p)
  kind p of below None is = inl (behind_free (behind_at heap.shape (pages_in list)) heap.free stands.stands.keeps.free p stands.stands.keeps.chain (stands.stands.keeps.every p (place p of below) is))
  kind p of below (Some bytes) is = inr (bytes, (stands.stands.keeps.used_are p bytes is).1)

  -- each slot of a heap that stands is free or in use
  pub own_ahead : (marks : SlotMarks) → ((p : Place) → IsOneOf own p.page → p.slot < room heap.shape → HasMark marks p) → OwnAhead heap.shape list own marks
  own_ahead marks has = record {
    there = chain_inside list heap.first own stands.stands.chain;
    slots = λ p of below. (has p of below, kind p of below (stands.slots p) refl);
  }

  -- a marked slot is one of the chain
  pub marked_free : (marks : SlotMarks) (p : Place) → AreMarked heap.shape (pages_in list) own marks → p.slot < room heap.shape → marked_slot marks p ≡ true → IsOneOf stands.stands.keeps.free p
  marked_free marks p are below on =
      let f = are.free p below on in
      stands.stands.keeps.every p (place p f.0 below) (unused (stands.slots p) refl f.1)
    where
      unused : (o : Option (List ℕ)) → stands.slots p ≡ o → IsFreeAt heap.shape (pages_in list) p → stands.slots p ≡ None
      unused None is free = is
      unused (Some bytes) is free = absurd (let none : None ≡ Some bytes = sym (free_not_used heap.shape (slot_of heap.shape (pages_in list) p) free.0 free.1) ∙ (stands.stands.keeps.used_are p bytes is).1 in cc)

  each_marked : (marks : SlotMarks) (ps : List Place) → AreMarked heap.shape (pages_in list) own marks → ((p : Place) → IsOneOf own p.page → p.slot < room heap.shape → HasMark marks p)
      → ((p : Place) → IsOneOf ps p → IsPlaceOf (room heap.shape) own p × IsFreeAt heap.shape (pages_in list) p) → Each (IsMarkedFree heap.shape list marks) ps
  each_marked marks [] are has all = tt
  each_marked marks (p ∷ ps) are has all = (one (all p (inl refl)), each_marked marks ps are has (λ q of. all q (inr of)))
    where
      one : IsPlaceOf (room heap.shape) own p × IsFreeAt heap.shape (pages_in list) p → IsMarkedFree heap.shape list marks p
      one h = record {
        within = h.0.slot;
        there = each_one (λ n. n < length list) own p.page (chain_inside list heap.first own stands.stands.chain) h.0.page;
        marked = on (are.every p h.0.slot h.0.page);
        can = has p h.0.page h.0.slot;
        free = h.1;
      }
        where
          on : (marked_slot marks p ≡ true) ⊎ IsUsedAt heap.shape (pages_in list) p → marked_slot marks p ≡ true
          on (inl set) = set
          on (inr used) = absurd (let none : None ≡ Some used.0 = sym (free_not_used heap.shape (slot_of heap.shape (pages_in list) p) h.1.0 h.1.1) ∙ used.1 in cc)

  places_of : (ps : List Place) → Each (λ p. IsPlaceOf (room heap.shape) own p × (stands.slots p ≡ None)) ps → Each (λ p. IsOneOf own p.page × (p.slot < room heap.shape)) ps
  places_of [] all = tt
  places_of (p ∷ ps) all = ((all.0.0.page, all.0.0.slot), places_of ps all.1)

  -- the chain of free slots is ahead
  pub free_ahead : (marks : SlotMarks) (most : ℕ) → most ≡ length own * room heap.shape → AreMarked heap.shape (pages_in list) own marks
      → ((p : Place) → IsOneOf own p.page → p.slot < room heap.shape → HasMark marks p) → FreeSlotsAhead heap.shape list heap.free most marks
  free_ahead marks most is are has = record {
    free = stands.stands.keeps.free;
    chain = stands.stands.keeps.chain;
    once = stands.stands.keeps.once;
    each = each_marked marks stands.stands.keeps.free are has (λ p of. (
      each_one (λ q. IsPlaceOf (room heap.shape) own q) stands.stands.keeps.free p
          (each_weaker (λ q. IsPlaceOf (room heap.shape) own q × (stands.slots q ≡ None)) (IsPlaceOf (room heap.shape) own) (λ q h. h.0) stands.stands.keeps.free stands.stands.keeps.free_are) of,
      behind_free (behind_at heap.shape (pages_in list)) heap.free stands.stands.keeps.free p stands.stands.keeps.chain of,
    ));
    few = let few = few_places (room heap.shape) own stands.stands.keeps.free stands.stands.keeps.once (places_of stands.stands.keeps.free stands.stands.keeps.free_are) in omega (arith, few, is);
  }

-- ---- the chain of free slots

module _ (shape : SlotShape) (list : List (List ℕ)) where
  record FreeOpened (at : Place) (most : ℕ) (marks : SlotMarks) : Type 0 where
    pub here : IsMarkedFree shape list marks at
    pub next : Place
    pub behind : behind_at shape (pages_in list) at ≡ Some next
    pub rest : List Place
    pub chain : IsFreeChain (behind_at shape (pages_in list)) next rest
    pub out : Each (λ q. at ≢ q) rest
    pub once : AreOnce rest
    pub each : Each (IsMarkedFree shape list marks) rest
    pub few : suc (length rest) ≤ most

  free_opens : (at : Place) (most : ℕ) (marks : SlotMarks) → at.page ≢ 0 → FreeSlotsAhead shape list at most marks → FreeOpened at most marks
  free_opens at most marks some a = go a.free a.chain a.once a.each a.few
    where
      go : (free : List Place) → IsFreeChain (behind_at shape (pages_in list)) at free → AreOnce free → Each (IsMarkedFree shape list marks) free → length free ≤ most → FreeOpened at most marks
      go [] chain once each few = absurd (some chain)
      go (p ∷ ps) chain once each few = record {
        here = subst (IsMarkedFree shape list marks) (sym chain.0) each.0;
        next = chain.1.0;
        behind = ap (behind_at shape (pages_in list)) chain.0 ∙ chain.1.1;
        rest = ps;
        chain = chain.1.2;
        out = subst (λ (q : Place). Each (λ r. q ≢ r) ps) (sym chain.0) once.0;
        once = once.1;
        each = each.1;
        few = few;
      }

  pub free_here : (at : Place) (most : ℕ) (marks : SlotMarks) → at.page ≢ 0 → FreeSlotsAhead shape list at most marks → IsMarkedFree shape list marks at
  free_here at most marks some a = (free_opens at most marks some a).here

  still_free : (at : Place) (before after : SlotMarks) (ps : List Place) → SetsMark at false before after → SameSlots before after → Each (λ q. at ≢ q) ps
      → Each (IsMarkedFree shape list before) ps → Each (IsMarkedFree shape list after) ps
  still_free at before after [] sets same out each = tt
  still_free at before after (p ∷ ps) sets same out each = (
    record {
      within = each.0.within;
      there = each.0.there;
      marked = sets.others p (λ e. out.0 (sym e)) ∙ each.0.marked;
      can = still_has before after p same each.0.can;
      free = each.0.free;
    },
    still_free at before after ps sets same out.1 each.1,
  )

  pub free_next : (at next : Place) (most less : ℕ) (before after : SlotMarks) → at.page ≢ 0 → most ≡ suc less → TakesMark shape (pages_in list) at next before after → SameSlots before after
      → FreeSlotsAhead shape list at most before → FreeSlotsAhead shape list next less after
  free_next at next most less before after some one takes same a =
      let o = free_opens at most before some a in
      let to : Some o.next ≡ Some next = sym o.behind ∙ takes.linked in
      let is : o.next ≡ next = cc in
      record {
        free = o.rest;
        chain = subst (λ (p : Place). IsFreeChain (behind_at shape (pages_in list)) p o.rest) is o.chain;
        once = o.once;
        each = still_free at before after o.rest takes.sets same o.out o.each;
        few = let few = o.few in omega (arith, few, one);
      }

  pub free_over : (at : Place) (most : ℕ) (marks : SlotMarks) → at.page ≢ 0 → most ≡ 0 → FreeSlotsAhead shape list at most marks → ⊥
  free_over at most marks some none a = let few = (free_opens at most marks some a).few in omega (arith, few, none)

-- a free slot of the chain that stands is one that was walked
pub free_walked : (behind : Place → Option Place) (first at : Place) (walked free : List Place) (p : Place) → IsFreePath behind first walked at → at.page ≡ 0 → IsFreeChain behind first free
    → Each (λ q. 1 ≤ q.page) free → IsOneOf free p → IsOneOf walked p
free_walked behind first at walked [] p path end chain some of = absurd of
free_walked behind first at [] (q ∷ qs) p path end chain some of =
    let page : at.page ≡ q.page = ap (λ (r : Place). r.page) (sym path ∙ chain.0) in
    let one = some.0 in absurd (omega (arith, page, end, one))
free_walked behind first at (w ∷ ws) (q ∷ qs) p path end chain some (inl e) = inl (e ∙ sym chain.0 ∙ path.0)
free_walked behind first at (w ∷ ws) (q ∷ qs) p path end chain some (inr of) =
    let same : w ≡ q = sym path.0 ∙ chain.0 in
    let to : Some path.1.0 ≡ Some chain.1.0 = sym path.1.1 ∙ ap behind same ∙ chain.1.1 in
    let is : path.1.0 ≡ chain.1.0 = cc in
    inr (free_walked behind path.1.0 at ws qs p path.1.2 end (subst (λ (r : Place). IsFreeChain behind r qs) (sym is) chain.1.2) some.1 of)

-- ---- no mark is left where the heap stands

module _ (heap : Heap) (list : List (List ℕ)) (own : List ℕ) (stands : OwnStands heap list own) where
  pub never_left : (before after : SlotMarks) (at : Place) (walked : List Place) (slot : Place) → AreMarked heap.shape (pages_in list) own before
      → SlotsWalked heap.shape (pages_in list) heap.free at before after walked → at.page ≡ 0 → slot.slot < room heap.shape → marked_slot after slot ≡ true → ⊥
  never_left before after at walked slot are went end below on =
      let one = marked_free heap list own stands before slot are below (went.only slot below on) in
      let some = each_weaker (λ q. IsPlaceOf (room heap.shape) own q × (stands.slots q ≡ None)) (λ q. 1 ≤ q.page) (λ q h. h.0.some) stands.stands.keeps.free stands.stands.keeps.free_are in
      let of = free_walked (behind_at heap.shape (pages_in list)) heap.free at walked stands.stands.keeps.free slot went.path end stands.stands.keeps.chain some one in
      let were = each_one (λ p. (p.slot < room heap.shape) × ((marked_slot before p ≡ true) × (marked_slot after p ≡ false))) walked slot went.were of in
      clash (marked_slot after slot) on were.1.1

  -- what stands with the same own pages
  pub own_is : (other : List ℕ) → IsPageChain (pages_in list) heap.first other → Each (λ n. 1 ≤ n) other → Each (λ n. n < 2 ^ 32) own → Each (λ n. n < 2 ^ 32) other → other ≡ own
  own_is other chain some low low' = chains_same (pages_in list) heap.first other own chain stands.stands.chain some stands.some low' low
