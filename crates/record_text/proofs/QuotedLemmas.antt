-- Bytes as they stand in quotes: no two stand alike, and none as the front of another.
use Rattle.std.proofs.Common.{◌≡◌, ◌≢◌, ◌<◌, ℕ, ◌+◌, ◌/◌, ◌%◌, ◌==◌, ◌||◌, Bool, true, false, List, [], ◌∷◌, ◌++◌, flat_map, refl, sym, ap, ◌∙◌, arith, true≢false}
use Rattle.std.specs.Prelude.{if◌then◌else◌, nat_lt}
use Rattle.std.proofs.lemmas.Bool.{ne_eqb, eqb-true, ltb-true, ltb-false}
use Rattle.deck_runner.specs.Line.{is_plain, shown_byte}
use Rattle.streams.specs.Hex.{hex_digit}
use Rattle.record_text.specs.Csv.{doubled_quote}
use Rattle.record_text.specs.Json.{escaped}
use Rattle.record_text.specs.declared.quoted.Quoting.{Quoting}
use Rattle.record_text.specs.declared.quoted.Quoting.TheVariants.{Doubled, Escaped}
use Rattle.record_text.specs.Quoted.{quoted_byte, BeginsWithNoByte}
use Rattle.record_text.proofs.ShownLemmas.{shown_apart}

-- a byte is a quote, or another one that stands as itself, or one that is shown by its digits
pub data Look : Type 0 where
  Quote : Look
  Plain : Look
  Coded : Look

abbrev pub IsLook : Look → ℕ → Type 0
IsLook Quote byte = byte ≡ 34
IsLook Plain byte = (byte ≢ 34) × (is_plain byte ≡ true)
IsLook Coded byte = is_plain byte ≡ false

is_not : (a : ℕ) → (a == 34) ≡ false → a ≢ 34
is_not a e is = true≢false (sym (ap (λ (n : ℕ). n == 34) is) ∙ e)

look_by : (byte : ℕ) (quote plain : Bool) → (byte == 34) ≡ quote → is_plain byte ≡ plain → (look : Look) × IsLook look byte
look_by byte true plain q p = (Quote, eqb-true byte 34 q)
look_by byte false true q p = (Plain, (is_not byte q, p))
look_by byte false false q p = (Coded, p)

pub look_of : (byte : ℕ) → (look : Look) × IsLook look byte
look_of byte = look_by byte (byte == 34) (is_plain byte) refl refl

pub no_backslash : (byte : ℕ) → is_plain byte ≡ true → byte ≡ 92 → ⊥
no_backslash byte plain is = true≢false (sym plain ∙ ap is_plain is)

-- what is shown by its digits is no quote
pub coded_no_quote : (byte : ℕ) → is_plain byte ≡ false → byte ≢ 34
coded_no_quote byte coded is = true≢false (sym (ap is_plain is) ∙ coded)

-- ---- digits are no quotes and no backslashes

digit_no_quote : (n : ℕ) (low : Bool) → (if low then 48 + n else 87 + n) ≡ 34 → ⊥
digit_no_quote n true e = omega (arith, e)
digit_no_quote n false e = omega (arith, e)

digit_no_backslash : (n : ℕ) (low : Bool) → nat_lt n 10 ≡ low → (if low then 48 + n else 87 + n) ≡ 92 → ⊥
digit_no_backslash n true p e = let below = ltb-true n 10 p in omega (arith, below, e)
digit_no_backslash n false p e = let above = ltb-false n 10 p in omega (arith, above, e)

digit_34 : (n : ℕ) → (hex_digit n == 34) ≡ false
digit_34 n = ne_eqb (hex_digit n) 34 (λ e. digit_no_quote n (nat_lt n 10) e)

digit_92 : (n : ℕ) → (hex_digit n == 92) ≡ false
digit_92 n = ne_eqb (hex_digit n) 92 (λ e. digit_no_backslash n (nat_lt n 10) refl e)

-- ---- characters

one_doubled : (a : ℕ) → (a == 34) ≡ false → doubled_quote a ≡ a ∷ []
one_doubled a e = ap (λ (b : Bool). if b then 34 ∷ 34 ∷ [] else a ∷ []) e

one_escaped : (a : ℕ) → (a == 34) ≡ false → (a == 92) ≡ false → escaped a ≡ a ∷ []
one_escaped a e f =
    ap (λ (b : Bool). if b || (a == 92) then 92 ∷ a ∷ [] else a ∷ []) e
    ∙ ap (λ (b : Bool). if b then 92 ∷ a ∷ [] else a ∷ []) f

abbrev digits_of : ℕ → List ℕ
digits_of byte = hex_digit (byte / 16) ∷ hex_digit (byte % 16) ∷ []

pub shown_plain : (byte : ℕ) → is_plain byte ≡ true → shown_byte byte ≡ byte ∷ []
shown_plain byte p = ap (λ (b : Bool). if b then byte ∷ [] else 92 ∷ digits_of byte) p

pub shown_coded : (byte : ℕ) → is_plain byte ≡ false → shown_byte byte ≡ 92 ∷ digits_of byte
shown_coded byte p = ap (λ (b : Bool). if b then byte ∷ [] else 92 ∷ digits_of byte) p

-- the two digits, each as it is
two : (f : ℕ → List ℕ) (a b : ℕ) → f a ≡ a ∷ [] → f b ≡ b ∷ [] → flat_map f (a ∷ b ∷ []) ≡ a ∷ b ∷ []
two f a b e g = ap (λ (l : List ℕ). l ++ (f b ++ [])) e ∙ ap (λ (l : List ℕ). a ∷ (l ++ [])) g

-- ---- what a byte stands as

abbrev pub quote_in : (quoting : Quoting) → List ℕ
quote_in Doubled = 34 ∷ 34 ∷ []
quote_in Escaped = 92 ∷ 34 ∷ []

-- no quote, in CSV: as it is shown
pub doubled_other : (byte : ℕ) → byte ≢ 34 → quoted_byte Doubled byte ≡ shown_byte byte
doubled_other byte other = by_look (is_plain byte) refl
  where
    by_look : (plain : Bool) → is_plain byte ≡ plain → quoted_byte Doubled byte ≡ shown_byte byte
    by_look true p =
        ap (flat_map doubled_quote) (shown_plain byte p) ∙ ap (λ (l : List ℕ). l ++ []) (one_doubled byte (ne_eqb byte 34 other)) ∙ sym (shown_plain byte p)
    by_look false p =
        ap (flat_map doubled_quote) (shown_coded byte p)
        ∙ ap (λ (l : List ℕ). 92 ∷ l) (two doubled_quote (hex_digit (byte / 16)) (hex_digit (byte % 16)) (one_doubled _ (digit_34 (byte / 16))) (one_doubled _ (digit_34 (byte % 16))))
        ∙ sym (shown_coded byte p)

-- in JSON: a character that stands as itself, and one that is shown by its digits, whose backslash stands behind another one
pub escaped_plain : (byte : ℕ) → byte ≢ 34 → is_plain byte ≡ true → quoted_byte Escaped byte ≡ byte ∷ []
escaped_plain byte other p =
    ap (flat_map escaped) (shown_plain byte p) ∙ ap (λ (l : List ℕ). l ++ []) (one_escaped byte (ne_eqb byte 34 other) (ne_eqb byte 92 (no_backslash byte p)))

pub escaped_coded : (byte : ℕ) → is_plain byte ≡ false → quoted_byte Escaped byte ≡ 92 ∷ shown_byte byte
escaped_coded byte p =
    ap (flat_map escaped) (shown_coded byte p)
    ∙ ap (λ (l : List ℕ). 92 ∷ 92 ∷ l) (two escaped (hex_digit (byte / 16)) (hex_digit (byte % 16)) (one_escaped _ (digit_34 (byte / 16)) (digit_92 (byte / 16))) (one_escaped _ (digit_34 (byte % 16)) (digit_92 (byte % 16))))
    ∙ ap (λ (l : List ℕ). 92 ∷ l) (sym (shown_coded byte p))

pub quote_is : (quoting : Quoting) (byte : ℕ) → byte ≡ 34 → quoted_byte quoting byte ≡ quote_in quoting
quote_is Doubled byte is = ap (quoted_byte Doubled) is
quote_is Escaped byte is = ap (quoted_byte Escaped) is

-- ---- no byte stands where none of these does

pub no_doubled : (text : List ℕ) → ((rest : List ℕ) → text ≡ 34 ∷ 34 ∷ rest → ⊥) → ((byte : ℕ) (rest : List ℕ) → byte < 256 → byte ≢ 34 → text ≡ shown_byte byte ++ rest → ⊥)
    → BeginsWithNoByte Doubled text
no_doubled text quote other byte rest is_byte is = by_look (look_of byte).0 (look_of byte).1
  where
    other_text : byte ≢ 34 → text ≡ shown_byte byte ++ rest
    other_text not = is ∙ ap (λ (l : List ℕ). l ++ rest) (doubled_other byte not)

    by_look : (look : Look) → IsLook look byte → ⊥
    by_look Quote q = quote rest (is ∙ ap (λ (l : List ℕ). l ++ rest) (quote_is Doubled byte q))
    by_look Plain p = other byte rest is_byte p.0 (other_text p.0)
    by_look Coded p = other byte rest is_byte (coded_no_quote byte p) (other_text (coded_no_quote byte p))

pub no_escaped : (text : List ℕ) → ((rest : List ℕ) → text ≡ 92 ∷ 34 ∷ rest → ⊥) → ((byte : ℕ) (rest : List ℕ) → byte < 256 → byte ≢ 34 → is_plain byte ≡ true → text ≡ byte ∷ rest → ⊥)
    → ((byte : ℕ) (rest : List ℕ) → byte < 256 → is_plain byte ≡ false → text ≡ 92 ∷ (shown_byte byte ++ rest) → ⊥) → BeginsWithNoByte Escaped text
no_escaped text quote plain coded byte rest is_byte is = by_look (look_of byte).0 (look_of byte).1
  where
    by_look : (look : Look) → IsLook look byte → ⊥
    by_look Quote q = quote rest (is ∙ ap (λ (l : List ℕ). l ++ rest) (quote_is Escaped byte q))
    by_look Plain p = plain byte rest is_byte p.0 p.1 (is ∙ ap (λ (l : List ℕ). l ++ rest) (escaped_plain byte p.0 p.1))
    by_look Coded p = coded byte rest is_byte p (is ∙ ap (λ (l : List ℕ). l ++ rest) (escaped_coded byte p))

-- no byte begins with a quote that ends a value
pub no_byte_in_csv : (next : ℕ) (rest : List ℕ) → next ≢ 34 → BeginsWithNoByte Doubled (34 ∷ next ∷ rest)
no_byte_in_csv next rest other =
    no_doubled (34 ∷ next ∷ rest) (λ behind is. other (cc))
    (λ byte behind is_byte not is. not (sym (shown_apart 34 byte (next ∷ rest) behind is).0))

pub no_byte_in_json : (rest : List ℕ) → BeginsWithNoByte Escaped (34 ∷ rest)
no_byte_in_json rest =
    no_escaped (34 ∷ rest)
    (λ behind is. let e : ◌≡◌ {A = ℕ} 34 92 = cc in absurd (omega (arith, e)))
    (λ byte behind is_byte not plain is. not (cc))
    (λ byte behind is_byte coded is. let e : ◌≡◌ {A = ℕ} 34 92 = cc in absurd (omega (arith, e)))

-- ---- two texts that begin with a byte begin with the same one

quote_other : (a b : ℕ) (x y : List ℕ) → a ≡ 34 → b ≢ 34 → quoted_byte Doubled a ++ x ≡ quoted_byte Doubled b ++ y → ⊥
quote_other a b x y p q e =
    let both : 34 ∷ 34 ∷ x ≡ shown_byte b ++ y = sym (ap (λ (l : List ℕ). l ++ x) (quote_is Doubled a p)) ∙ e ∙ ap (λ (l : List ℕ). l ++ y) (doubled_other b q) in
    q (sym (shown_apart 34 b (34 ∷ x) y both).0)

others : (a b : ℕ) (x y : List ℕ) → a ≢ 34 → b ≢ 34 → quoted_byte Doubled a ++ x ≡ quoted_byte Doubled b ++ y → (a ≡ b) × (x ≡ y)
others a b x y p q e = shown_apart a b x y (sym (ap (λ (l : List ℕ). l ++ x) (doubled_other a p)) ∙ e ∙ ap (λ (l : List ℕ). l ++ y) (doubled_other b q))

apart_csv : (a b : ℕ) (x y : List ℕ) (l m : Look) → IsLook l a → IsLook m b → quoted_byte Doubled a ++ x ≡ quoted_byte Doubled b ++ y → (a ≡ b) × (x ≡ y)
apart_csv a b x y Quote Quote p q e =
    let both : 34 ∷ 34 ∷ x ≡ 34 ∷ 34 ∷ y = sym (ap (λ (l : List ℕ). l ++ x) (quote_is Doubled a p)) ∙ e ∙ ap (λ (l : List ℕ). l ++ y) (quote_is Doubled b q) in
    (p ∙ sym q, cc)
apart_csv a b x y Quote Plain p q e = absurd (quote_other a b x y p q.0 e)
apart_csv a b x y Quote Coded p q e = absurd (quote_other a b x y p (coded_no_quote b q) e)
apart_csv a b x y Plain Quote p q e = absurd (quote_other b a y x q p.0 (sym e))
apart_csv a b x y Coded Quote p q e = absurd (quote_other b a y x q (coded_no_quote a p) (sym e))
apart_csv a b x y Plain Plain p q e = others a b x y p.0 q.0 e
apart_csv a b x y Plain Coded p q e = others a b x y p.0 (coded_no_quote b q) e
apart_csv a b x y Coded Plain p q e = others a b x y (coded_no_quote a p) q.0 e
apart_csv a b x y Coded Coded p q e = others a b x y (coded_no_quote a p) (coded_no_quote b q) e

-- a byte of each look, in JSON
abbrev pub text_in : Look → ℕ → List ℕ
text_in Quote byte = 92 ∷ 34 ∷ []
text_in Plain byte = byte ∷ []
text_in Coded byte = 92 ∷ shown_byte byte

pub escaped_is : (look : Look) (byte : ℕ) → IsLook look byte → quoted_byte Escaped byte ≡ text_in look byte
escaped_is Quote byte p = quote_is Escaped byte p
escaped_is Plain byte p = escaped_plain byte p.0 p.1
escaped_is Coded byte p = escaped_coded byte p

quote_coded : (b : ℕ) (x y : List ℕ) → is_plain b ≡ false → 34 ∷ x ≡ shown_byte b ++ y → ⊥
quote_coded b x y q e = coded_no_quote b q (sym (shown_apart 34 b x y e).0)

apart_json : (a b : ℕ) (x y : List ℕ) (l m : Look) → IsLook l a → IsLook m b → text_in l a ++ x ≡ text_in m b ++ y → (a ≡ b) × (x ≡ y)
apart_json a b x y Quote Quote p q e = (p ∙ sym q, cc)
apart_json a b x y Quote Plain p q e = let is : b ≡ 92 = cc in absurd (no_backslash b q.1 is)
apart_json a b x y Quote Coded p q e = let is : 34 ∷ x ≡ shown_byte b ++ y = cc in absurd (quote_coded b x y q is)
apart_json a b x y Plain Quote p q e = let is : a ≡ 92 = cc in absurd (no_backslash a p.1 is)
apart_json a b x y Plain Plain p q e = (cc, cc)
apart_json a b x y Plain Coded p q e = let is : a ≡ 92 = cc in absurd (no_backslash a p.1 is)
apart_json a b x y Coded Quote p q e = let is : 34 ∷ y ≡ shown_byte a ++ x = cc in absurd (quote_coded a y x p is)
apart_json a b x y Coded Plain p q e = let is : b ≡ 92 = cc in absurd (no_backslash b q.1 is)
apart_json a b x y Coded Coded p q e = let is : shown_byte a ++ x ≡ shown_byte b ++ y = cc in shown_apart a b x y is

pub quoted_apart : (quoting : Quoting) (a b : ℕ) (x y : List ℕ) → quoted_byte quoting a ++ x ≡ quoted_byte quoting b ++ y → (a ≡ b) × (x ≡ y)
quoted_apart Doubled a b x y e = apart_csv a b x y (look_of a).0 (look_of b).0 (look_of a).1 (look_of b).1 e
quoted_apart Escaped a b x y e =
    apart_json a b x y (look_of a).0 (look_of b).0 (look_of a).1 (look_of b).1
    (sym (ap (λ (l : List ℕ). l ++ x) (escaped_is (look_of a).0 a (look_of a).1)) ∙ e ∙ ap (λ (l : List ℕ). l ++ y) (escaped_is (look_of b).0 b (look_of b).1))
