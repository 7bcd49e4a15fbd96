-- The keys of rows, one after another.
use Rattle.std.proofs.Common.{◌≡◌, ℕ, suc, ◌+◌, ◌-◌, ◌<◌, List, [], ◌∷◌, ◌++◌, Option, None, Some, option_map, drop, refl, sym, ap, ◌∙◌, append_assoc, arith}
use Rattle.record_layout.specs.declared.schema.KeyPart.{KeyPart}
use Rattle.serve.specs.Reading.{key_in, key_and, keys_in}

-- these keys, and then those
abbrev pub behind : List KeyPart → Option (List KeyPart) → Option (List KeyPart)
behind front later = option_map (λ keys. front ++ keys) later

pub none_behind : (later : Option (List KeyPart)) → behind [] later ≡ later
none_behind None = refl
none_behind (Some keys) = refl

pub one_behind : (front : List KeyPart) (key : KeyPart) (later : Option (List KeyPart))
    → behind front (key_and (Some key) later) ≡ behind (front ++ key ∷ []) later
one_behind front key None = refl
one_behind front key (Some keys) = ap (λ (l : List KeyPart). Some l) (sym (append_assoc front (key ∷ []) keys))

next_keys : (front : List KeyPart) (count k : ℕ) (rows : List ℕ) → k < count
    → behind front (keys_in k (count - k) rows) ≡ behind front (key_and (key_in k rows) (keys_in (k + 1) (count - (k + 1)) (drop 5 rows)))
next_keys front count k rows h =
    let e : count - k ≡ suc (count - (k + 1)) = omega (arith, h) in
    ap (λ (n : ℕ). behind front (keys_in k n rows)) e

-- one more row
pub more_keys : (front new : List KeyPart) (count k : ℕ) (rows later : List ℕ) (key : KeyPart) (whole : Option (List KeyPart)) → k < count
    → key_in k rows ≡ Some key → new ≡ front ++ key ∷ [] → later ≡ drop 5 rows → behind front (keys_in k (count - k) rows) ≡ whole
    → behind new (keys_in (k + 1) (count - (k + 1)) later) ≡ whole
more_keys front new count k rows later key whole h e pushed dropped before =
    let keys = keys_in (k + 1) (count - (k + 1)) (drop 5 rows) in
    (λ i. behind (pushed i) (keys_in (k + 1) (count - (k + 1)) (dropped i)))
    ∙ sym (one_behind front key keys) ∙ ap (λ (first : Option KeyPart). behind front (key_and first keys)) (sym e)
    ∙ sym (next_keys front count k rows h) ∙ before
