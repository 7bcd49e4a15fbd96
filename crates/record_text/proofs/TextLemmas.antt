-- Texts that are put together from parts.
use Rattle.std.proofs.Common.{◌≡◌, ◌<◌, ℕ, ◌+◌, List, [], ◌∷◌, ◌++◌, length, take, get_or, flat_map, map, Vec, vec_len, Result, Ok, Err, refl, sym, ap, subst, ◌∙◌, arith, append_assoc, length-append}
use Rattle.std.proofs.lemmas.Grind.{flat_map-append}
use Rattle.std.proofs.lemmas.List.Folds.{flat_map-map, length-flat_map-take}
use Rattle.deck_runner.specs.Line.{shown_byte}
use Rattle.record_text.specs.Columns.{text_of}
use Rattle.record_text.specs.Room.{Grows, LacksTextRoom, AddsInRoom}

-- each byte as it is shown, and then changed
pub fused : (f : ℕ → List ℕ) (bytes : List ℕ) → flat_map (λ byte. flat_map f (shown_byte byte)) bytes ≡ flat_map f (text_of bytes)
fused f [] = refl
fused f (byte ∷ bytes) = ap (λ (l : List ℕ). flat_map f (shown_byte byte) ++ l) (fused f bytes) ∙ sym (flat_map-append f (shown_byte byte) (text_of bytes))

module _ {Z : Type 0} where
  len_is : (v : Vec ℕ Z) → vec_len v ≡ length v.items
  len_is v = v.ok.0

  pub grows_both : (a b c : Vec ℕ Z) (p q : List ℕ) → Grows a b p → Grows b c q → Grows a c (p ++ q)
  grows_both a b c p q first second = record {
    items = second.items ∙ ap (λ (l : List ℕ). l ++ q) first.items ∙ append_assoc a.items p q;
    capacity = (let one = first.capacity in let two = second.capacity in omega (arith, one, two));
  }

  -- there was no room behind what was added
  pub lacks_behind : (a b : Vec ℕ Z) (p q : List ℕ) → Grows a b p → LacksTextRoom b q → LacksTextRoom a (p ++ q)
  lacks_behind a b p q first lacks =
      let one = first.capacity in
      let long : length b.items ≡ length a.items + length p = ap length first.items ∙ length-append a.items p in
      let la = len_is a in
      let lb = len_is b in
      let both = length-append p q in
      omega (arith, one, long, la, lb, both, lacks)

  -- and none for more than what had no room
  pub lacks_more : (a : Vec ℕ Z) (p q : List ℕ) → LacksTextRoom a p → LacksTextRoom a (p ++ q)
  lacks_more a p q lacks = let both = length-append p q in omega (arith, both, lacks)

  -- one part, and then another one
  pub adds_both : {E : Type 0} (a b c : Vec ℕ Z) (p q : List ℕ) (result : Result Unit E) → Grows a b p → AddsInRoom b c q result → AddsInRoom a c (p ++ q) result
  adds_both a b c p q (Ok done) first second = grows_both a b c p q first second
  adds_both a b c p q (Err fault) first lacks = lacks_behind a b p q first lacks

  -- what is shown of bytes stands in quotes
  pub in_quotes : {E : Type 0} (f : ℕ → List ℕ) (bytes : List ℕ) (a b c d : Vec ℕ Z) (result : Result Unit E) → Grows a b (34 ∷ []) → Grows b c (flat_map (λ byte. flat_map f (shown_byte byte)) bytes) → AddsInRoom c d (34 ∷ []) result
      → AddsInRoom a d (34 ∷ (flat_map f (text_of bytes) ++ 34 ∷ [])) result
  in_quotes {E} f bytes a b c d result first shown last =
      adds_both a b d (34 ∷ []) (flat_map f (text_of bytes) ++ 34 ∷ []) result first
      (adds_both b c d (flat_map f (text_of bytes)) (34 ∷ []) result (subst (Grows b c) (fused f bytes) shown) last)

  -- there is no room for what is shown of bytes, behind a quote
  pub no_room_in_quotes : (f : ℕ → List ℕ) (bytes : List ℕ) (a b : Vec ℕ Z) → Grows a b (34 ∷ []) → LacksTextRoom b (flat_map (λ byte. flat_map f (shown_byte byte)) bytes)
      → LacksTextRoom a (34 ∷ (flat_map f (text_of bytes) ++ 34 ∷ []))
  no_room_in_quotes f bytes a b first lacks =
      lacks_behind a b (34 ∷ []) (flat_map f (text_of bytes) ++ 34 ∷ []) first
      (lacks_more b (flat_map f (text_of bytes)) (34 ∷ []) (subst (LacksTextRoom b) (fused f bytes) lacks))

  -- a first one, and the others each behind a comma
  pub with_commas : {A B E : Type 0} (f : B → List ℕ) (g : A → B) (a b c : Vec ℕ Z) (first : A) (rest : List A) (result : Result Unit E) → Grows a b (f (g first)) → AddsInRoom b c (flat_map (λ x. 44 ∷ f (g x)) rest) result
      → AddsInRoom a c (f (g first) ++ flat_map (λ y. 44 ∷ f y) (map g rest)) result
  with_commas {A} {B} {E} f g a b c first rest result one more =
      adds_both a b c (f (g first)) (flat_map (λ y. 44 ∷ f y) (map g rest)) result one
      (subst (λ (l : List ℕ). AddsInRoom b c l result) (sym (flat_map-map (λ y. 44 ∷ f y) g rest)) more)

  -- it was refused, since there was no room
  pub refused : {E : Type 0} (a b : Vec ℕ Z) (more : List ℕ) (result : Result Unit E) (fault : E) → result ≡ Err fault → LacksTextRoom a more → AddsInRoom a b more result
  refused a b more result fault is lacks = rw is lacks

  -- of the parts of some things, one after another, one had no room
  pub no_room : {A : Type 0} (f : A → List ℕ) (a b : Vec ℕ Z) (things : List A) (i : ℕ) (d x : A) → i < length things → x ≡ get_or things i d → Grows a b (flat_map f (take i things)) → LacksTextRoom b (f x) → LacksTextRoom a (flat_map f things)
  no_room f a b things i d x within is first lacks =
      let one = ap (λ y. length (f y)) is in
      let part = lacks_behind a b (flat_map f (take i things)) (f x) first lacks in
      let both = length-append (flat_map f (take i things)) (f x) in
      let long = length-flat_map-take f things i d within in
      omega (arith, one, part, both, long)
