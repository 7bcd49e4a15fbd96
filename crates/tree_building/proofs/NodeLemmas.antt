-- The keys of nodes are as wide as they were, behind one more.
use Rattle.std.proofs.Common.{◌≡◌, ◌<◌, ℕ, suc, List, [], ◌∷◌, ◌++◌, length, get_or, sym, subst, arith, Result, Ok, Err}
use Rattle.std.specs.Prelude.{OnOk}
use Rattle.io_state.specs.declared.fault.Fault.{Fault}
use Rattle.pages.specs.Each.{Each}
use Rattle.tree_node.specs.declared.shape.NodeShape.{NodeShape}
use Rattle.tree_search.proofs.RowLemmas.{Each-append}
use Rattle.tree_node.specs.declared.separator.Separator.{Separator}
use Rattle.tree_building.specs.Level.{keys_of, HaveWidth, AreWide}
use Rattle.tree_node.proofs.OrderLemmas.{Each-get_or}

pub on_ok : {X : Type 0} (r : Result X Fault) {P Q : Type 0} → (P → Q) → OnOk r P → OnOk r Q
on_ok (Ok x) f h = f h
on_ok (Err e) f h = tt

of_keys : (width : ℕ) (nodes : List Separator) → Each (λ k. length k ≡ width) (keys_of nodes) → Each (λ (n : Separator). length n.key.items ≡ width) nodes
of_keys width [] h = tt
of_keys width (n ∷ ns) h = (h.0, of_keys width ns h.1)

to_keys : (width : ℕ) (nodes : List Separator) → Each (λ (n : Separator). length n.key.items ≡ width) nodes → Each (λ k. length k ≡ width) (keys_of nodes)
to_keys width [] h = tt
to_keys width (n ∷ ns) h = (h.0, to_keys width ns h.1)

pub wide_still : (shape : NodeShape) (old new : List Separator) (key : List ℕ) → length key ≡ shape.width → keys_of new ≡ keys_of old ++ key ∷ []
    → HaveWidth shape old → HaveWidth shape new
wide_still shape old new key wide keys had =
    of_keys shape.width new
    (subst (Each (λ k. length k ≡ shape.width)) (sym keys)
    (Each-append (λ k. length k ≡ shape.width) (keys_of old) (key ∷ []) (to_keys shape.width old had) (wide, tt)))

-- place by place, and all
pub all_wide : (width : ℕ) (nodes : List Separator) → ((i : ℕ) (d : Separator) → i < length nodes → length (get_or nodes i d).key.items ≡ width) → Each (λ (n : Separator). length n.key.items ≡ width) nodes
all_wide width [] h = tt
all_wide width (n ∷ ns) h = (h 0 n (omega arith), all_wide width ns (λ i d within. h (suc i) d (omega arith)))

pub each_wide : (shape : NodeShape) (nodes : List Separator) → HaveWidth shape nodes → AreWide shape nodes
each_wide shape nodes all i d within = Each-get_or (λ (n : Separator). length n.key.items ≡ shape.width) nodes i d within all
