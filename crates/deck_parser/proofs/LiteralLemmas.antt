-- The text that is cut out between two marks is the one that stands there.
use Rattle.std.proofs.Common.{◌≡◌, ℕ, ◌+◌, length, Bool, true, false, cond, eqb, List, [], ◌∷◌, ◌++◌, Option, Some, None, refl, sym, ap, ◌∙◌, subst, arith}
use Rattle.std.specs.Prelude.{flat_map}
use Rattle.std.specs.List.{list_all}
use Rattle.std.proofs.lemmas.Option.{cond_some, some_pair_parts}
use Rattle.std.proofs.lemmas.Bool.{eqb-true}
use Rattle.std.proofs.lemmas.Bool.Decides.{nat_tests}
use Rattle.deck_parser.specs.ByteClass.{is_mark, is_of_literal}
use Rattle.deck_parser.specs.Literal.{with_first, cut_literal}
use Rattle.deck_parser.proofs.TestLemmas.{both_true, both_are}

-- the text as it stands between two marks: a mark in it is doubled
abbrev pub doubled : ℕ → List ℕ → List ℕ
doubled mark text = flat_map (λ byte. cond (eqb byte mark) (mark ∷ mark ∷ []) (byte ∷ [])) text

-- a text of which a front is known
abbrev pub with_front : List ℕ → Option (List ℕ × List ℕ) → Option (List ℕ × List ℕ)
with_front front None = None
with_front front (Some cut) = Some (front ++ cut.0, cut.1)

same_byte : (b : ℕ) → eqb b b ≡ true
same_byte b = grind (arith, nat_tests)

pub mark_in_literal : (b : ℕ) → is_mark b ≡ true → is_of_literal b ≡ true
mark_in_literal b e = grind (arith, nat_tests)

with_first_some : (b : ℕ) (o : Option (List ℕ × List ℕ)) (text rest : List ℕ) → with_first b o ≡ Some (text, rest) → (front : List ℕ) × (o ≡ Some (front, rest)) × (text ≡ b ∷ front)
with_first_some b None text rest e = absurd (cc)
with_first_some b (Some cut) text rest e =
    let p = some_pair_parts (b ∷ cut.0) text cut.1 rest e in
    (cut.0, ap (λ (r : List ℕ). Some (cut.0, r)) p.1, sym p.0)

-- a byte that is no mark
cut_plain : (mark b : ℕ) (bytes : List ℕ) → eqb b mark ≡ false → is_of_literal b ≡ true → cut_literal mark (b ∷ bytes) ≡ with_first b (cut_literal mark bytes)
cut_plain mark b [] e i = rw e
cut_plain mark b (c ∷ bytes) e i = rw (e, i)

-- a doubled mark
cut_twice : (mark : ℕ) (bytes : List ℕ) → cut_literal mark (mark ∷ mark ∷ bytes) ≡ with_first mark (cut_literal mark bytes)
cut_twice mark bytes = rw (same_byte mark)

cut_end : (mark : ℕ) (rest : List ℕ) → ((b : ℕ) (more : List ℕ) → rest ≡ b ∷ more → eqb b mark ≡ false) → cut_literal mark (mark ∷ rest) ≡ Some ([], rest)
cut_end mark [] follows = rw (same_byte mark)
cut_end mark (b ∷ rest) follows = rw (same_byte mark, follows b rest refl)

pub cut_complete : (mark : ℕ) (text rest : List ℕ) → list_all is_of_literal text ≡ true → ((b : ℕ) (more : List ℕ) → rest ≡ b ∷ more → eqb b mark ≡ false) → cut_literal mark (doubled mark text ++ mark ∷ rest) ≡ Some (text, rest)
cut_complete mark [] rest fits follows = cut_end mark rest follows
cut_complete mark (b ∷ text) rest fits follows =
    let p = both_true (is_of_literal b) (list_all is_of_literal text) fits in
    let again = cut_complete mark text rest p.1 follows in
    elim (eqb b mark) as (λ v. eqb b mark ≡ v → cut_literal mark ((cond v (mark ∷ mark ∷ []) (b ∷ []) ++ doubled mark text) ++ mark ∷ rest) ≡ Some (b ∷ text, rest)) [
      | true ↦ λ e. let is_mark_byte : b ≡ mark = eqb-true b mark e in cut_twice mark (doubled mark text ++ mark ∷ rest) ∙ ap (with_first mark) again ∙ ap (λ (x : ℕ). Some (x ∷ text, rest)) (sym is_mark_byte)
      | false ↦ λ e. cut_plain mark b (doubled mark text ++ mark ∷ rest) e p.0 ∙ ap (with_first b) again
    ] refl

-- the bytes are a text as it stands before a mark, and what comes after
abbrev pub IsCutText : ℕ → List ℕ → List ℕ → List ℕ → Type 0
IsCutText mark bytes text rest = (bytes ≡ doubled mark text ++ mark ∷ rest) × (list_all is_of_literal text ≡ true)

behind_twice : (mark : ℕ) (bytes text rest : List ℕ) → is_of_literal mark ≡ true → IsCutText mark bytes text rest → IsCutText mark (mark ∷ mark ∷ bytes) (mark ∷ text) rest
behind_twice mark bytes text rest i s = (rw (same_byte mark) (ap (λ (r : List ℕ). mark ∷ mark ∷ r) s.0), both_are _ _ i s.1)

behind_plain : (mark b : ℕ) (bytes text rest : List ℕ) → eqb b mark ≡ false → is_of_literal b ≡ true → IsCutText mark bytes text rest → IsCutText mark (b ∷ bytes) (b ∷ text) rest
behind_plain mark b bytes text rest e i s = (rw e (ap (λ (r : List ℕ). b ∷ r) s.0), both_are _ _ i s.1)

abbrev CutsSoundly : ℕ → List ℕ → Type 0
CutsSoundly mark bytes = (text rest : List ℕ) → cut_literal mark bytes ≡ Some (text, rest) → IsCutText mark bytes text rest

sound_by : (mark b c : ℕ) (bytes text rest : List ℕ) (v w u : Bool) → is_of_literal mark ≡ true → eqb b mark ≡ v → eqb c mark ≡ w → is_of_literal b ≡ u → CutsSoundly mark bytes → CutsSoundly mark (c ∷ bytes) → cond v (cond w (with_first mark (cut_literal mark bytes)) (Some ([], c ∷ bytes))) (cond u (with_first b (cut_literal mark (c ∷ bytes))) None) ≡ Some (text, rest) → IsCutText mark (b ∷ c ∷ bytes) text rest
sound_by mark b c bytes text rest true true u i p q o one two e =
    let f = with_first_some mark (cut_literal mark bytes) text rest e in
    rw (eqb-true b mark p, eqb-true c mark q, f.2) (behind_twice mark bytes f.0 rest i (one f.0 rest f.1))
sound_by mark b c bytes text rest true false u i p q o one two e =
    let f = some_pair_parts {A = List ℕ} [] text (c ∷ bytes) rest e in
    let base : IsCutText mark (mark ∷ c ∷ bytes) [] (c ∷ bytes) = (refl, refl) in
    rw (eqb-true b mark p) (subst (λ r. IsCutText mark (mark ∷ c ∷ bytes) text r) f.1 (subst (λ t. IsCutText mark (mark ∷ c ∷ bytes) t (c ∷ bytes)) f.0 base))
sound_by mark b c bytes text rest false w true i p q o one two e =
    let f = with_first_some b (cut_literal mark (c ∷ bytes)) text rest e in
    rw f.2 (behind_plain mark b (c ∷ bytes) f.0 rest p o (two f.0 rest f.1))
sound_by mark b c bytes text rest false w false i p q o one two e = absurd (cc)

pub cut_sound : (mark : ℕ) (bytes text rest : List ℕ) → is_of_literal mark ≡ true → cut_literal mark bytes ≡ Some (text, rest) → IsCutText mark bytes text rest
cut_sound mark [] text rest i e = absurd (cc)
cut_sound mark (b ∷ []) text rest i e =
    let p = cond_some {A = List ℕ × List ℕ} (eqb b mark) ([], []) (text, rest) e in
    rw (← ap (λ q. q.0) p.1, ← ap (λ q. q.1) p.1) (ap (λ (x : ℕ). x ∷ []) (eqb-true b mark p.0), refl)
cut_sound mark (b ∷ c ∷ bytes) text rest i e =
    sound_by mark b c bytes text rest (eqb b mark) (eqb c mark) (is_of_literal b) i refl refl refl (λ t r. cut_sound mark bytes t r i) (λ t r. cut_sound mark (c ∷ bytes) t r i) e

-- so many bytes of a text are known
abbrev pub with_count : ℕ → Option (List ℕ × List ℕ) → Option (ℕ × List ℕ)
with_count count None = None
with_count count (Some cut) = Some (count + length cut.0, cut.1)

pub with_count-with_first : (count b : ℕ) (cut : Option (List ℕ × List ℕ)) → with_count count (with_first b cut) ≡ with_count (count + 1) cut
with_count-with_first count b None = refl
with_count-with_first count b (Some cut) = ap (λ (n : ℕ). Some (n, cut.1)) (omega arith)

-- ---- a byte at a time

apart : (b mark : ℕ) → (b ≡ mark → ⊥) → eqb b mark ≡ false
apart b mark other = grind (arith, nat_tests)

pub cut_refused : (mark b : ℕ) (bytes : List ℕ) → (b ≡ mark → ⊥) → is_of_literal b ≡ false → cut_literal mark (b ∷ bytes) ≡ None
cut_refused mark b [] other i = rw (apart b mark other)
cut_refused mark b (c ∷ bytes) other i = rw (apart b mark other, i)

pub counted_plain : (mark b count : ℕ) (bytes : List ℕ) → (b ≡ mark → ⊥) → is_of_literal b ≡ true → with_count count (cut_literal mark (b ∷ bytes)) ≡ with_count (count + 1) (cut_literal mark bytes)
counted_plain mark b count bytes other i =
    ap (with_count count) (cut_plain mark b bytes (apart b mark other) i) ∙ with_count-with_first count b (cut_literal mark bytes)

pub counted_twice : (mark count : ℕ) (bytes : List ℕ) → with_count count (cut_literal mark (mark ∷ mark ∷ bytes)) ≡ with_count (count + 1) (cut_literal mark bytes)
counted_twice mark count bytes =
    ap (with_count count) (cut_twice mark bytes) ∙ with_count-with_first count mark (cut_literal mark bytes)
