-- What a rule spells ends with the rest that it leaves.
use Rattle.std.proofs.Common.{◌≡◌, ℕ, Bool, List, [], ◌∷◌, ◌++◌, Option, Some, None, sym, ap, ◌∙◌, inl, inr, append_assoc}
use Rattle.deck_parser.specs.Word.{Word}
use Rattle.deck_parser.specs.Class.{Class, this, names, literals, periods}
use Rattle.deck_parser.specs.Rule.{Rule, one, in_turn, optional, onto, some_onto, SpellsTurns, each_behind, any_behind, unless_barred, where_it_gives, where_it_gives_or}
use Rattle.deck_parser.specs.Following.{followed}
use Rattle.deck_parser.specs.Notation.{the, name, literal, period, ◌∣◌}

abbrev pub EndsWith : List Word → List Word → Type 0
EndsWith words rest = (front : List Word) × (words ≡ front ++ rest)

pub record LeavesRest {A : Type 0} (r : Rule A) : Type 0 where
  pub ends : (x : A) (words rest : List Word) → r.Spells x words rest → EndsWith words rest

-- ---- ends of ends

nothing_taken : (words rest : List Word) → words ≡ rest → EndsWith words rest
nothing_taken words rest e = ([], e)

pub end_of_end : (words middle rest : List Word) → EndsWith words middle → EndsWith middle rest → EndsWith words rest
end_of_end words middle rest a b = (a.0 ++ b.0, a.1 ∙ (ap (λ ws. a.0 ++ ws) b.1 ∙ sym (append_assoc a.0 b.0 rest)))

-- ---- each rule

pub rest_one : (class : Class) → LeavesRest (one class)
rest_one class = record { ends = λ x words rest s. (s.0 ∷ [], s.1) }

pub rest_turn : {A B C : Type 0} (f : A → B → C) (p : Rule A) (q : Rule B) → LeavesRest p → LeavesRest q → LeavesRest (in_turn f p q)
rest_turn f p q h k = record { ends = λ z words rest s. end_of_end words s.2 rest (h.ends s.0 words s.2 s.4) (k.ends s.1 s.2 rest s.5) }

rest_of_optional : {A : Type 0} (p : Rule A) → LeavesRest p → (x : Option A) (words rest : List Word) → (optional p).Spells x words rest → EndsWith words rest
rest_of_optional p h None words rest s = nothing_taken words rest s
rest_of_optional p h (Some x) words rest s = h.ends x words rest s

pub rest_optional : {A : Type 0} (p : Rule A) → LeavesRest p → LeavesRest (optional p)
rest_optional p h = record { ends = rest_of_optional p h }

pub rest_either : {A : Type 0} (p q : Rule A) → LeavesRest p → LeavesRest q → LeavesRest (p ∣ q)
rest_either p q h k = record { ends = λ x words rest s. elim s [ inl s ↦ h.ends x words rest s | inr s ↦ k.ends x words rest s ] }

pub rest_as : {A B : Type 0} (code : A → ℕ) (f : A → Option B) (p : Rule A) → LeavesRest p → LeavesRest (where_it_gives_or code f p)
rest_as code f p h = record { ends = λ y words rest s. h.ends s.0 words rest s.2 }

rest_of_turns : {S : Type 0} (next : S → Rule S) → ((s : S) → LeavesRest (next s)) → (s : S) (us : List S) (t : S) (words rest : List Word) → SpellsTurns next s us t words rest → EndsWith words rest
rest_of_turns next h s [] t words rest k = nothing_taken words rest k.1
rest_of_turns next h s (u ∷ us) t words rest k = end_of_end words k.0 rest ((h s).ends u words k.0 k.1) (rest_of_turns next h u us t k.0 rest k.2)

pub rest_each : {S : Type 0} (next : S → Rule S) → ((s : S) → LeavesRest (next s)) → (s : S) → LeavesRest (each_behind next s)
rest_each next h s = record { ends = λ t words rest k. rest_of_turns next h s (k.0 ∷ k.1) t words rest k.2 }

pub rest_any : {S : Type 0} (next : S → Rule S) → ((s : S) → LeavesRest (next s)) → (s : S) → LeavesRest (any_behind next s)
rest_any next h s = record { ends = λ t words rest k. rest_of_turns next h s k.0 t words rest k.1 }

pub rest_followed : {A B : Type 0} (sample : A) (p : Rule A) (q : A → Rule B) → LeavesRest p → ((x : A) → LeavesRest (q x)) → LeavesRest (followed sample p q)
rest_followed sample p q h k = record { ends = λ y words rest s. end_of_end words s.1 rest (h.ends s.0 words s.1 s.2) ((k s.0).ends y s.1 rest s.3) }

pub rest_unless : {A : Type 0} (barred : Bool) (code : ℕ) (p : Rule A) → LeavesRest p → LeavesRest (unless_barred barred code p)
rest_unless barred code p h = record { ends = λ x words rest s. h.ends x words rest s.1 }

pub rest_onto : {A S : Type 0} (add : S → A → Option S) (s : S) (p : Rule A) → LeavesRest p → LeavesRest (onto add s p)
rest_onto add s p h = record { ends = λ t words rest k. rest_of_turns (λ u. where_it_gives (add u) p) (λ u. rest_as _ (add u) p h) s k.0 t words rest k.1 }

pub rest_some : {A S : Type 0} (add : S → A → Option S) (s : S) (p : Rule A) → LeavesRest p → LeavesRest (some_onto add s p)
rest_some add s p h = record { ends = λ t words rest k. rest_of_turns (λ u. where_it_gives (add u) p) (λ u. rest_as _ (add u) p h) s (k.0 ∷ k.1) t words rest k.2 }

-- ---- one word

pub rest_the : (text : List ℕ) → LeavesRest (the text)
unfolding the
rest_the text = rest_as _ _ _ (rest_one (this text))

pub rest_name : LeavesRest name
unfolding name
rest_name = rest_one names

pub rest_literal : LeavesRest literal
unfolding literal
rest_literal = rest_one literals

pub rest_period : LeavesRest period
unfolding period
rest_period = rest_as _ _ _ (rest_one periods)

pub ruleset steps = (rest_the, rest_name, rest_literal, rest_period, rest_one, rest_turn, rest_optional, rest_either, rest_unless, rest_onto, rest_some, rest_as)
