-- What putting a page does to the table.
use Rattle.std.proofs.Common.{inl, inr, ◌≡◌, ◌≢◌, ℕ, ◌+◌, ◌<◌, true, false, nat_eq, List, [], ◌∷◌, ◌++◌, length, get_or, set, sym, ◌∙◌, ap, subst, arith}
use Rattle.std.specs.Int.Bits.{bit_and}
use Rattle.std.proofs.lemmas.Bool.{cases_Bool, eqb-true, eqb-false}
use Rattle.std.proofs.lemmas.List.{length-set, length-append, get_or-set_same, get_or-set_other, get_or_append_left}
use Rattle.std.proofs.Math.Seq.{get_or-append_seam}
use Rattle.page_cache.specs.Table.{IsTable, IsToldBy, IsToldIn, IsPut, IsFreeCell}
use Rattle.page_cache.specs.declared.table.Table.{Table}

as_told : (n m p c : ℕ) (t u : Table) → u.mask ≡ t.mask → m ≡ n → IsToldIn (bit_and n t.mask) c → get_or u.cells.items c 0 ≡ p → IsToldBy m p u
as_told n m p c t u mask same within told = rw same (record { cell = c; within = subst (λ (low : ℕ). IsToldIn (bit_and n low) c) (sym mask) within; told = told })

-- a free cell tells where the page was put, and the others tell what they told
pub table_put : (place n cell : ℕ) (ns after : List ℕ) (t u : Table) → IsTable ns t → IsToldIn (bit_and n t.mask) cell → cell < length t.cells.items → IsFreeCell ns place cell t
    → u.cells.items ≡ set t.cells.items cell place → u.mask ≡ t.mask → u.crowded ≡ t.crowded
    → IsPut place n ns after → IsTable after u
table_put place n cell ns after t u table within low free cells mask crowded put = record {
  cells = let long = table.cells in let same = ap length cells ∙ length-set t.cells.items cell place in omega arith;
  told = λ calm p taken. elim (cases_Bool (nat_eq p place)) [
    | inl hit ↦ this p (eqb-true p place hit)
    | inr miss ↦ other (sym crowded ∙ calm) p taken (eqb-false p place miss)
  ];
}
  where
    this : (p : ℕ) → p ≡ place → IsToldBy (get_or after p 0) p u
    this p is = subst (λ (k : ℕ). IsToldBy (get_or after k 0) k u) (sym is)
        (as_told n (get_or after place 0) place cell t u mask put.this within
        (ap (λ (l : List ℕ). get_or l cell 0) cells ∙ get_or-set_same t.cells.items cell place 0 low))

    other : t.crowded ≡ false → (p : ℕ) → p < length after → p ≢ place → IsToldBy (get_or after p 0) p u
    other calm p taken differs =
        let was = put.others p taken differs in
        let then = table.told calm p was.0 in
        let c = then.cell in
        as_told (get_or ns p 0) (get_or after p 0) p c t u mask was.1 then.within
        (ap (λ (l : List ℕ). get_or l c 0) cells
        ∙ get_or-set_other t.cells.items cell c place 0 (λ same. free p was.0 differs (subst (λ (d : ℕ). IsToldIn (bit_and (get_or ns p 0) t.mask) d) same then.within) (ap (λ (k : ℕ). get_or t.cells.items k 0) (sym same) ∙ then.told))
        ∙ then.told)

-- a crowded table tells nothing
pub table_crowded : (ns after : List ℕ) (t u : Table) → IsTable ns t → u.cells.items ≡ t.cells.items → u.mask ≡ t.mask → u.crowded ≡ true → IsTable after u
table_crowded ns after t u table cells mask crowded = record {
  cells = let long = table.cells in let same = ap length cells in omega arith;
  told = λ calm p taken. absurd (cc);
}

-- a page put in place of another one, or after the last
pub put_set : (place n : ℕ) (ns : List ℕ) → place < length ns → IsPut place n ns (set ns place n)
put_set place n ns low = record {
  this = get_or-set_same ns place n 0 low;
  others = λ p taken differs. (let same = length-set ns place n in omega arith, get_or-set_other ns place p n 0 differs);
}

pub put_last : (place n : ℕ) (ns : List ℕ) → place ≡ length ns → IsPut place n ns (ns ++ n ∷ [])
put_last place n ns last = record {
  this = ap (λ (k : ℕ). get_or (ns ++ n ∷ []) k 0) last ∙ get_or-append_seam ns n [] 0;
  others = λ p taken differs.
      let longer = length-append ns (n ∷ []) in
      let low : p < length ns = before p (length ns) (omega arith) (λ same. differs (same ∙ sym last)) in
      (low, get_or_append_left ns (n ∷ []) 0 p low);
}
  where
    before : (p m : ℕ) → p < m + 1 → p ≢ m → p < m
    before p m low differs = omega (arith, differs)
