-- What is true of the values of a rule, and of what stands at a place.
use Rattle.std.proofs.Common.{◌≡◌, ℕ, zero, suc, cond, ◌<◌, Bool, true, false, inl, inr, List, [], ◌∷◌, length, Option, Some, None, refl, sym, subst, arith}
use Rattle.std.specs.Prelude.{position, slice_get, All}
use Rattle.std.proofs.Math.ListN.{get_or}
use Rattle.std.proofs.lemmas.List.Quantifiers.{position-Some}
use Rattle.std.proofs.lemmas.Option.{slice_get-get_or, get_or_from_slice_get, slice_get_within, same_Some}
use Rattle.deck_parser.specs.Word.{Word}
use Rattle.deck_parser.specs.Rule.{Rule, optional, where_it_gives, SpellsTurns}
use Rattle.deck_parser.specs.Notation.{◌▸◌, ◌◂◌, ◌⊗◌, ◌∣◌}
use Rattle.record_layout.specs.declared.item.Field.{Field}
use Rattle.record_layout.specs.declared.schema.KeyPart.{KeyPart}
use Rattle.record_layout.specs.Layout.{Placed, is_named, field_of}
use Rattle.record_layout.specs.Schema.{AreKeys}
use Rattle.deck_reader.specs.declared.placed.PlacedStatements.{PlacedStatements}
use Rattle.deck_parser.specs.Following.{followed}
use Rattle.deck_parser.specs.Located.{with_line}
use Rattle.deck_reader.specs.Placed.{nothing_placed, placed_behind}
use Rattle.deck_reader.specs.StatementRules.{joined_statements, some_of, key}

-- ---- what a rule's values are

abbrev pub Gives : {A : Type 0} → (A → Type 0) → Rule A → Type 0
Gives P r = (x : _) (words rest : List Word) → r.Spells x words rest → P x

pub gives_second : {A B : Type 0} (P : B → Type 0) (p : Rule A) (q : Rule B) → Gives P q → Gives P (p ▸ q)
gives_second P p q h z words rest s = subst P (sym s.3) (h s.1 s.2 rest s.5)

pub gives_first : {A B : Type 0} (P : A → Type 0) (p : Rule A) (q : Rule B) → Gives P p → Gives P (p ◂ q)
gives_first P p q h z words rest s = subst P (sym s.3) (h s.0 words s.2 s.4)

pub gives_pair : {A B : Type 0} (P : A → Type 0) (Q : B → Type 0) (p : Rule A) (q : Rule B) → Gives P p → Gives Q q → Gives (λ z. P z.0 × Q z.1) (p ⊗ q)
gives_pair P Q p q h k z words rest s = subst (λ z. P z.0 × Q z.1) (sym s.3) (h s.0 words s.2 s.4, k s.1 s.2 rest s.5)

pub gives_either : {A : Type 0} (P : A → Type 0) (p q : Rule A) → Gives P p → Gives P q → Gives P (p ∣ q)
gives_either P p q h k x words rest s = elim s [ inl s ↦ h x words rest s | inr s ↦ k x words rest s ]

pub gives_as : {A B : Type 0} (P : A → Type 0) (Q : B → Type 0) (f : A → Option B) (p : Rule A) → Gives P p → ((x : A) (y : B) → P x → f x ≡ Some y → Q y) → Gives Q (where_it_gives f p)
gives_as P Q f p h k y words rest s = k s.0 y (h s.0 words rest s.2) s.1

-- what a function makes of a rule's value
pub gives_one : {A B : Type 0} (P : A → Type 0) (Q : B → Type 0) (g : A → B) (p : Rule A) → Gives P p → ((x : A) → P x → Q (g x)) → Gives Q (where_it_gives (λ x. Some (g x)) p)
gives_one P Q g p h k = gives_as P Q (λ x. Some (g x)) p h (λ x y px e. subst Q (same_Some (g x) y e) (k x px))

pub gives_followed : {A B : Type 0} (P : A → Type 0) (Q : B → Type 0) (sample : A) (p : Rule A) (q : A → Rule B) → Gives P p → ((x : A) → P x → Gives Q (q x)) → Gives Q (followed sample p q)
gives_followed P Q sample p q h k y words rest s = k s.0 (h s.0 words s.1 s.2) y s.1 rest s.3

abbrev pub IfThere : {A : Type 0} → (A → Type 0) → Option A → Type 0
IfThere P None = Unit {0}
IfThere P (Some x) = P x

pub gives_optional : {A : Type 0} (P : A → Type 0) (p : Rule A) → Gives P p → Gives (IfThere P) (optional p)
gives_optional P p h None words rest s = tt
gives_optional P p h (Some x) words rest s = h x words rest s

-- of no statements it is true, and of those behind others where it is of both
module _ (P : PlacedStatements → Type 0) (nothing : P nothing_placed) (join : (before after : PlacedStatements) → P before → P after → P (placed_behind before after)) (p : Rule PlacedStatements) (h : Gives P p) where
  pub joined_all : (before after : PlacedStatements) (us : List PlacedStatements) (words rest : List Word) → P before → SpellsTurns (λ u. where_it_gives (joined_statements u) p) before us after words rest → P after
  joined_all before after [] words rest all s = subst P s.0 all
  joined_all before after (u ∷ us) words rest all s =
      joined_all u after us s.0 rest (subst P (same_Some (placed_behind before s.1.0) u s.1.1) (join before s.1.0 all (h s.1.0 words s.0 s.1.2))) s.2

  pub gives_some : Gives P (some_of p)
  gives_some after words rest s = joined_all nothing_placed after (s.0 ∷ s.1) words rest nothing s.2

pub gives_with_line : {A : Type 0} (P : A → Type 0) (p : Rule A) → Gives P p → Gives (λ x. P x.1) (with_line p)
gives_with_line P p h x words rest s = h x.1 words rest s.1

-- ---- places

pub found : {X : Type 0} (p : X → Bool) (xs : List X) (i : ℕ) → position p xs ≡ Some i → (x : X) × (slice_get xs i ≡ Some x) × (p x ≡ true)
found p [] i e = absurd (cc)
found p (y ∷ ys) i e =
    let h = position-Some p (y ∷ ys) i y e in (get_or (y ∷ ys) i y, slice_get-get_or (y ∷ ys) i y h.0, h.1)

pub all_at : {X : Type 0} (P : X → Type 0) (xs : List X) (i : ℕ) (x : X) → All P xs → slice_get xs i ≡ Some x → P x
all_at P xs i x all e = subst P (get_or_from_slice_get xs i x x e) (all i x (slice_get_within xs i x e))

pub one_all : {X : Type 0} (P : X → Type 0) (x : X) → P x → All P (x ∷ [])
one_all P x h zero d within = h
one_all P x h (suc i) d within = absurd (omega (arith, within))

-- the item of a name is one of the layout's
abbrev pub IsItem : List Placed → Field → Type 0
IsItem layout field = (item : Placed) × (i : ℕ) × (slice_get layout i ≡ Some item) × (item.field ≡ field)

field_found_by : (b : Bool) (item : Placed) (after : List Placed) (rest : Option Field) (field : Field) → (rest ≡ Some field → IsItem after field) → cond b (Some item.field) rest ≡ Some field → IsItem (item ∷ after) field
field_found_by true item after rest field again e = (item, 0, refl, same_Some item.field field e)
field_found_by false item after rest field again e = let f = again e in (f.0, suc f.1, f.2, f.3)

pub field_found : (layout : List Placed) (text : List ℕ) (field : Field) → field_of layout text ≡ Some field → IsItem layout field
field_found [] text field e = absurd (cc)
field_found (item ∷ after) text field e =
    field_found_by (is_named text item.name) item after (field_of after text) field (field_found after text field) e

pub keys_there : (keys : List KeyPart) → AreKeys keys → 0 < length keys
keys_there [] k = absurd k
keys_there (key ∷ keys) k = omega arith
