-- Each test of a header decides its fact.
use Rattle.std.proofs.Common.{◌≡◌, ◌≢◌, ℕ, ◌+◌, ◌<◌, ◌≤◌, ◌==◌, Bool, not, List, [], ◌∷◌, length, nat_le, nat_lt, inl, inr, All, AllPairs, Decides, refl, sym, ◌∙◌, arith}
use Rattle.std.specs.List.{list_all}
use Rattle.std.proofs.lemmas.Bool.{false≢true}
use Rattle.std.proofs.lemmas.Bool.Decides.{Decides-eqb, Decides-ltb, Decides-not, Decides-and, Decides-like, Decides-by_and, leb_tells}
use Rattle.std.proofs.lemmas.List.Kept.{AllPairs-cons}
use Rattle.record_layout.specs.declared.schema.KeyKind.TheVariants.{Prime}
use Rattle.record_layout.specs.declared.schema.KeyPart.{KeyPart}
use Rattle.record_layout.specs.Schema.{Schema, IsKey, AreKeys, IsSchema, same_kind}
use Rattle.record_layout.proofs.PartsLemmas.{first_below, later_rise}
use Rattle.record_layout.proofs.SchemaLemmas.{same_kind-Decides}
use Rattle.open_file.specs.declared.first_page.Header.{Header}
use Rattle.open_file.specs.declared.first_page.TreeNumbers.{TreeNumbers}
use Rattle.open_file.specs.Bounds.{AreTreeNumbers, AreLinksWithin, FitsItsBytes, IsHeader}
use Rattle.open_file.specs.BoundTests.{is_tree, are_numbers_within, has_room, is_key, rise, are_keys, is_schema, is_header}

le : (a b : ℕ) → Decides (nat_le a b) (a ≤ b)
le a b = elim (leb_tells a b) [
  | inl below ↦ (λ _. below.1, λ _. below.0)
  | inr above ↦ (λ e. absurd (false≢true (sym above.0 ∙ e)), λ h. absurd (omega (arith, above.1)))
]

each : {X : Type 0} (p : X → Bool) (P : X → Type 0) → ((x : X) → Decides (p x) (P x)) → (xs : List X) → Decides (list_all p xs) (All P xs)
each p P decides xs = Decides-by_and p P (list_all p) decides refl (λ _ _. refl) xs

is_tree-Decides : (pages : ℕ) (tree : TreeNumbers) → Decides (is_tree pages tree) (AreTreeNumbers pages tree)
is_tree-Decides pages tree =
    Decides-like (is_tree pages tree) (λ p. record { some = p.0.0.0; low = p.0.0.1; behind = p.0.1; within = p.1 }) (λ t. (((t.some, t.low), t.behind), t.within))
    (Decides-and _ _ (Decides-and _ _ (Decides-and _ _ (le 1 tree.height) (le tree.height 20)) (le 1 tree.root)) (Decides-ltb tree.root pages))

is_within-Decides : (header : Header) → Decides (are_numbers_within header) (AreLinksWithin header)
is_within-Decides header =
    Decides-like (are_numbers_within header)
    (λ p. record { counted = p.0.0.0.0.0.0.0; trees = p.0.0.0.0.0.0.1; first_free = p.0.0.0.0.0.1; free = p.0.0.0.0.1; first_heap = p.0.0.0.1; free_slot = p.0.0.1; stamped = p.0.1; limit = p.1 })
    (λ w. (((((((w.counted, w.trees), w.first_free), w.free), w.first_heap), w.free_slot), w.stamped), w.limit))
    (Decides-and _ _ (Decides-and _ _ (Decides-and _ _ (Decides-and _ _ (Decides-and _ _ (Decides-and _ _ (Decides-and _ _
    (le (1 + length header.schema.keys) header.pages)
    (each (is_tree header.pages) (AreTreeNumbers header.pages) (is_tree-Decides header.pages) header.trees.items))
    (Decides-ltb header.first_free header.pages))
    (Decides-ltb header.free header.pages))
    (Decides-ltb header.first_heap header.pages))
    (Decides-ltb header.free_slot_page header.pages))
    (le 1 header.next_stamp))
    (le header.next_stamp 9223372036854775808))

has_room-Decides : (header : Header) → Decides (has_room header) (FitsItsBytes header)
has_room-Decides header =
    Decides-like (has_room header) (λ p. record { pages = p.0.0; slot = p.0.1; records = p.1 }) (λ r. ((r.pages, r.slot), r.records))
    (Decides-and _ _ (Decides-and _ _ (Decides-ltb header.pages 4294967296) (Decides-ltb header.free_slot 65536)) (Decides-ltb header.records 18446744073709551616))

is_key-Decides : (least : ℕ) (part : KeyPart) → Decides (is_key least part) (IsKey least part)
is_key-Decides least part =
    Decides-like (is_key least part) (λ p. record { some = p.0.0; short = p.0.1; within = p.1 }) (λ k. ((k.some, k.short), k.within))
    (Decides-and _ _ (Decides-and _ _ (le 1 part.length) (le part.length 250)) (le (part.offset + part.length) least))

rise-Decides : (parts : List KeyPart) → Decides (rise parts) (AllPairs (λ a b. a.offset < b.offset) parts)
rise-Decides [] = (λ _ i j d up inside. absurd (omega arith), λ _. refl)
rise-Decides (part ∷ parts) =
    Decides-like (rise (part ∷ parts)) (λ p. AllPairs-cons (λ a b. a.offset < b.offset) part parts p.0 p.1) (λ r. (first_below part parts r, later_rise part parts r))
    (Decides-and _ _ (each (λ later. nat_lt part.offset later.offset) (λ later. part.offset < later.offset) (λ later. Decides-ltb part.offset later.offset) parts) (rise-Decides parts))

are_keys-Decides : (keys : List KeyPart) → Decides (are_keys keys) (AreKeys keys)
are_keys-Decides [] = (λ e. absurd (false≢true e), λ none. absurd none)
are_keys-Decides (prime ∷ alternates) =
    Decides-like (are_keys (prime ∷ alternates)) (λ p. (p.0.0.0, p.0.0.1, p.0.1, p.1)) (λ k. (((k.0, k.1), k.2), k.3))
    (Decides-and _ _ (Decides-and _ _ (Decides-and _ _ (same_kind-Decides prime.kind Prime)
    (each (λ part. not (part.offset == prime.offset)) (λ part. (part.offset ≡ prime.offset → ⊥)) (λ part. Decides-not _ (Decides-eqb part.offset prime.offset)) alternates))
    (rise-Decides alternates))
    (each (λ part. not (same_kind part.kind Prime)) (λ part. part.kind ≢ Prime) (λ part. Decides-not _ (same_kind-Decides part.kind Prime)) alternates))

is_schema-Decides : (schema : Schema) → Decides (is_schema schema) (IsSchema schema)
is_schema-Decides schema =
    Decides-like (is_schema schema)
    (λ p. record { some = p.0.0.0.0.0; ordered = p.0.0.0.0.1; limit = p.0.0.0.1; few = p.0.0.1; whole = p.0.1; keys = p.1 })
    (λ s. (((((s.some, s.ordered), s.limit), s.few), s.whole), s.keys))
    (Decides-and _ _ (Decides-and _ _ (Decides-and _ _ (Decides-and _ _ (Decides-and _ _
    (le 1 schema.least) (le schema.least schema.greatest)) (le schema.greatest 4000)) (le (length schema.keys) 9))
    (each (is_key schema.least) (IsKey schema.least) (is_key-Decides schema.least) schema.keys))
    (are_keys-Decides schema.keys))

pub is_header-Decides : (header : Header) → Decides (is_header header) (IsHeader header)
unfolding is_header
is_header-Decides header =
    Decides-like _ (λ p. record { schema = p.0.0.0; trees = p.0.0.1; within = p.0.1; room = p.1 }) (λ h. (((h.schema, h.trees), h.within), h.room))
    (Decides-and _ _ (Decides-and _ _ (Decides-and _ _ (is_schema-Decides header.schema) (Decides-eqb (length header.trees.items) (length header.schema.keys)))
    (is_within-Decides header)) (has_room-Decides header))
