-- Answers that were held, and that the writer refuses.
use Rattle.std.proofs.Common.{◌≡◌, ◌⊎◌, ◌<◌, inl, inr, ℕ, length, arith, List, [], ◌∷◌, ◌++◌, refl, sym, ap, ◌∙◌, append_assoc, append-nil}
use Rattle.std.proofs.lemmas.List.Elements.{All-tail}
use Rattle.serve.specs.Answers.{answer_frame}
use Rattle.serve.specs.Reads.{AsksOnlyToRead}
use Rattle.serve.specs.Serving.{Exchange, answer_bytes}
use Rattle.serve.proofs.ServingLemmas.{AllRead}

-- where a list stands before another in the same list as two others
cut : (xs ys zs ws : List ℕ) → xs ++ ys ≡ zs ++ ws
    → ((us : List ℕ) × (zs ≡ xs ++ us) × (ys ≡ us ++ ws)) ⊎ ((us : List ℕ) × (xs ≡ zs ++ us))
cut [] ys zs ws e = inl (zs, refl, e)
cut (x ∷ xs) ys [] ws e = inr (x ∷ xs, refl)
cut (x ∷ xs) ys (z ∷ zs) ws e =
    let same : x ≡ z = cc in
    let rest : xs ++ ys ≡ zs ++ ws = cc in
    elim (cut xs ys zs ws rest) [ inl h ↦ inl (h.0, rw same (ap (λ (l : List ℕ). z ∷ l) h.1), h.2) | inr h ↦ inr (h.0, rw same (ap (λ (l : List ℕ). z ∷ l) h.1)) ]

-- a front of the answers to these: those to the first ones, and a front of the next
pub record EndsIn (exchanges : List Exchange) (front : List ℕ) : Type 0 where
  pub taken : List Exchange
  pub failed : Exchange
  pub behind : List Exchange
  pub part : List ℕ
  pub rest : List ℕ
  pub are : exchanges ≡ taken ++ failed ∷ behind
  pub frame : answer_frame failed.told ≡ part ++ rest
  pub front_is : front ≡ answer_bytes taken ++ part

behind_one : (e : Exchange) (es : List Exchange) (front more : List ℕ) → front ≡ answer_frame e.told ++ more → EndsIn es more → EndsIn (e ∷ es) front
behind_one e es front more is next = record {
  taken = e ∷ next.taken;
  failed = next.failed;
  behind = next.behind;
  part = next.part;
  rest = next.rest;
  are = ap (λ (l : List Exchange). e ∷ l) next.are;
  frame = next.frame;
  front_is = is ∙ ap (λ (l : List ℕ). answer_frame e.told ++ l) next.front_is ∙ sym (append_assoc (answer_frame e.told) (answer_bytes next.taken) next.part);
}

in_first : (e : Exchange) (es : List Exchange) (front rest : List ℕ) → answer_frame e.told ≡ front ++ rest → EndsIn (e ∷ es) front
in_first e es front rest is = record { taken = []; failed = e; behind = es; part = front; rest = rest; are = refl; frame = is; front_is = refl }

pub ends_in : (e : Exchange) (es : List Exchange) (front rest : List ℕ) → answer_bytes (e ∷ es) ≡ front ++ rest → EndsIn (e ∷ es) front
ends_in e [] front rest is = in_first e [] front rest (sym (append-nil (answer_frame e.told)) ∙ is)
ends_in e (next ∷ es) front rest is =
    elim (cut (answer_frame e.told) (answer_bytes (next ∷ es)) front rest is) [
      | inl h ↦ behind_one e (next ∷ es) front h.0 h.1 (ends_in next es h.0 rest h.2)
      | inr h ↦ in_first e (next ∷ es) front h.0 h.1
    ]

-- where any bytes of answers are held
pub held_ends_in : (held : List ℕ) (es : List Exchange) (front rest : List ℕ) → held ≡ answer_bytes es → 0 < length held → held ≡ front ++ rest → EndsIn es front
held_ends_in held [] front rest are some is = absurd (let none : length held ≡ 0 = ap (λ (l : List ℕ). length l) are in omega (arith, some, none))
held_ends_in held (e ∷ es) front rest are some is = ends_in e es front rest (sym are ∙ is)

pub reads_behind : (xs ys : List Exchange) → AllRead (xs ++ ys) → AllRead ys
reads_behind [] ys all = all
reads_behind (x ∷ xs) ys all = reads_behind xs ys (All-tail (λ (e : Exchange). AsksOnlyToRead e.body) x (xs ++ ys) all)
