-- A level that rises node by node over the trees of the level below.
use Rattle.std.proofs.Common.{◌≡◌, ℕ, suc, ◌+◌, ◌-◌, ◌/◌, ◌<◌, ◌≤◌, List, [], ◌∷◌, ◌++◌, length, take, drop, get_or, map, IsSome, refl, ap, sym, subst, ◌∙◌, arith, flat_map}
use Rattle.std.specs.List.{slice_range}
use Rattle.std.proofs.Math.Seq.{take-add}
use Rattle.std.proofs.lemmas.Grind.{flat_map-append}
use Rattle.std.proofs.lemmas.List.{map-append, length-append, length-map, length-drop, take-map, drop-map, length-take-le, take-append-drop}
use Rattle.tree_node.specs.declared.shape.NodeShape.{NodeShape}
use Rattle.tree_node.specs.Inner.{inner_room}
use Rattle.tree_node.proofs.OrderLemmas.{Each-weaker}
use Rattle.tree_node.specs.declared.separator.Separator.{Separator}
use Rattle.tree_node.specs.Fill.{least_entries}
use Rattle.pages.specs.Each.{Each}
use Rattle.pages.specs.PageMap.{PageMap}
use Rattle.pages.specs.Owners.{IsOutside, AreApart, ChangesPages}
use Rattle.tree_search.specs.Tree.{TreeOf, page_of, entries_of, pages_of}
use Rattle.tree_search.specs.Stored.{Holds}
use Rattle.tree_search.specs.Calls.{size_of, IsHalfFull}
use Rattle.tree_search.proofs.RowLemmas.{Each-append}
use Rattle.tree_search.proofs.DescentLemmas.{each_take, each_drop}
use Rattle.bplus_tree.proofs.PageLemmas.{each_both, each_pages, pages_live, rows_still, outside_symm, apart_across, apart_left}
use Rattle.tree_building.specs.Level.{keys_of, lead_of, IsLed, IsBelow, IsLevel}
use Rattle.tree_building.specs.Nodes.{HasAdded}
use Rattle.tree_building.specs.Rising.{HasNextLevel}
use Rattle.tree_building.specs.Filled.{child_counts}
use Rattle.tree_building.specs.Share.{IsShare}
use Rattle.tree_building.proofs.CountLemmas.{append_none, but_none, AreFull, none_full, one_full}
use Rattle.tree_building.proofs.LedLemmas.{some_entries}
use Rattle.tree_building.proofs.PageLemmas.{taken_keeps, changes_more, changes_same}

-- ---- parts of lists

pub slice_more : {X : Type 0} (xs : List X) (a e n : ℕ) → e ≡ a + n → take e xs ≡ take a xs ++ slice_range xs a e
slice_more xs a e n is =
    let left : e - a ≡ n = omega arith in
    ap (λ k. take k xs) is ∙ take-add a n xs ∙ ap (λ k. take a xs ++ take k (drop a xs)) (sym left)

pub length_slice : {X : Type 0} (xs : List X) (a e : ℕ) → a ≤ e → e ≤ length xs → length (slice_range xs a e) ≡ e - a
length_slice xs a e low high = let behind = length-drop a xs in length-take-le (e - a) (drop a xs) (omega arith)

pub each_slice : {X : Type 0} (P : X → Type 0) (xs : List X) (a e : ℕ) → Each P xs → Each P (slice_range xs a e)
each_slice P xs a e all = each_take P (e - a) (drop a xs) (each_drop P a xs all)

map_slice : {X Y Z : Type 0} (f : X → Z) (g : Y → Z) (xs : List X) (ys : List Y) (a n : ℕ) → map f xs ≡ map g ys
    → map f (take n (drop a xs)) ≡ map g (take n (drop a ys))
map_slice f g xs ys a n same =
    sym (take-map f n (drop a xs)) ∙ ap (take n) (sym (drop-map f a xs)) ∙ ap (λ l. take n (drop a l)) same ∙ ap (take n) (drop-map g a ys) ∙ take-map g n (drop a ys)

flat_flat : {X Y Z : Type 0} (f : Y → List Z) (g : X → List Y) (xs : List X) → flat_map f (flat_map g xs) ≡ flat_map (λ x. flat_map f (g x)) xs
flat_flat f g [] = refl
flat_flat f g (x ∷ xs) = flat_map-append f (g x) (flat_map g xs) ∙ ap (λ l. flat_map f (g x) ++ l) (flat_flat f g xs)

-- ---- parts of a level

pub level_slice : (shape : NodeShape) (pages : PageMap) (h : ℕ) (nodes : List Separator) (trees : List (TreeOf h)) (a e : ℕ) → IsLevel shape pages h nodes trees
    → IsLevel shape pages h (slice_range nodes a e) (slice_range trees a e)
level_slice shape pages h nodes trees a e level = record {
  holds = each_slice (Holds shape pages h) trees a e level.holds;
  below = each_slice (IsBelow shape h) trees a e level.below;
  keys = map_slice (λ (n : Separator). n.key.items) (lead_of shape.width h) nodes trees a (e - a) level.keys;
  leads = map_slice (λ (n : Separator). n.child) (page_of h) nodes trees a (e - a) level.leads;
}

pub level_length : (shape : NodeShape) (pages : PageMap) (h : ℕ) (nodes : List Separator) (trees : List (TreeOf h)) → IsLevel shape pages h nodes trees → length trees ≡ length nodes
level_length shape pages h nodes trees level =
    sym (length-map trees (page_of h)) ∙ sym (ap length level.leads) ∙ length-map nodes (λ (n : Separator). n.child)

first_of : (xs ys : List (List ℕ)) → 1 ≤ length xs → get_or (xs ++ ys) 0 [] ≡ get_or xs 0 []
first_of [] ys some = absurd (omega arith)
first_of (x ∷ xs) ys some = refl

lead_first : (shape : NodeShape) (h : ℕ) (kids : List (TreeOf h)) → Each (IsBelow shape h) kids → 1 ≤ length kids
    → take 1 (map (lead_of shape.width h) kids) ≡ take shape.width (get_or (flat_map (entries_of h) kids) 0 []) ∷ []
lead_first shape h [] below some = absurd (omega arith)
lead_first shape h (k ∷ ks) below some =
    ap (λ e. take shape.width e ∷ []) (sym (first_of (entries_of h k) (flat_map (entries_of h) ks) (some_entries shape h k below.0)))

-- ---- one node more

-- the tree that a node heads over these
abbrev pub tree_over : (h : ℕ) → ℕ → List (List ℕ) → List (TreeOf h) → TreeOf (suc h)
tree_over h page keys kids = (page, drop 1 keys, kids)

pub kids_live : (shape : NodeShape) (pages : PageMap) (h : ℕ) (kids : List (TreeOf h)) → Each (Holds shape pages h) kids → Each (λ n. IsSome (pages n)) (flat_map (pages_of h) kids)
kids_live shape pages h kids holds = each_pages (λ n. IsSome (pages n)) (Holds shape pages h) (pages_of h) (pages_live shape pages h) kids holds

pub node_holds : (shape : NodeShape) (before mid after : PageMap) (h : ℕ) (kids : List (TreeOf h)) (done new : List ℕ) (group old now : List Separator)
    → IsLevel shape before h group kids → ChangesPages before mid done new → AreApart (done ++ flat_map (pages_of h) kids)
    → (added : HasAdded shape group mid after old now) → Holds shape after (suc h) (tree_over h added.page (keys_of group) kids)
node_holds shape before mid after h kids done new group old now level changes apart added =
    let own = flat_map (pages_of h) kids in
    let live = kids_live shape before h kids level.holds in
    let same : Each (λ n. after n ≡ before n) own =
    each_both (λ n. IsSome (before n)) (IsOutside done) (λ n. after n ≡ before n)
    (λ n a b. let c = changes.others n a b in taken_keeps added.takes n (subst IsSome (sym c.0) a) ∙ c.0) own live
    (outside_symm done own (apart_across done own apart)) in (
      record { bytes = added.bytes; there = added.takes.page; inner = added.over.inner; rises = added.over.has; leads = added.over.leads ∙ level.leads },
      rows_still shape before after h kids level.holds same,
    )

pub kids_filled : (shape : NodeShape) (h : ℕ) (kids : List (TreeOf h)) → Each (IsBelow shape h) kids → Each (λ c. (least_entries shape h ≤ size_of h c) × IsHalfFull shape h c) kids
kids_filled shape h kids below = Each-weaker (IsBelow shape h) (λ c. (least_entries shape h ≤ size_of h c) × IsHalfFull shape h c) (λ c b. (b.large, b.filled)) kids below

pub kids_led : (shape : NodeShape) (pages : PageMap) (h : ℕ) (group : List Separator) (kids : List (TreeOf h)) → IsLevel shape pages h group kids
    → (drop 1 (keys_of group) ≡ map (lead_of shape.width h) (drop 1 kids)) × Each (IsLed shape.width h) kids
kids_led shape pages h group kids level =
    (ap (drop 1) level.keys ∙ drop-map (lead_of shape.width h) 1 kids, Each-weaker (IsBelow shape h) (IsLed shape.width h) (λ c b. b.led) kids level.below)

-- the nodes over the first `at` of `total` nodes
pub record RisesSoFar (shape : NodeShape) (before after : PageMap) (h total at : ℕ) (below : List (TreeOf h)) (above : List Separator) : Type 0 where
  pub risen : HasNextLevel shape before after h below above
  pub full : AreFull total (inner_room shape + 1) at (child_counts h risen.trees)

pub none_risen : (shape : NodeShape) (before : PageMap) (h total : ℕ) (below : List (TreeOf h)) (above : List Separator) → below ≡ [] → above ≡ [] → RisesSoFar shape before before h total 0 below above
none_risen shape before h total below above none none' =
    subst (λ (l : List (TreeOf h)). RisesSoFar shape before before h total 0 l above) (sym none)
    (subst (λ (l : List Separator). RisesSoFar shape before before h total 0 [] l) (sym none') (record {
      risen = record {
        trees = [];
        level = record { holds = tt; below = tt; keys = refl; leads = refl };
        over = refl;
        filled = but_none (inner_room shape + 1) [] 2 tt;
        changes = changes_same before [] tt;
      };
      full = none_full total (inner_room shape + 1);
    }))

pub risen_more : (shape : NodeShape) (before mid after : PageMap) (h total at n : ℕ) (done kids : List (TreeOf h)) (group old now : List Separator)
    → RisesSoFar shape before mid h total at done old → IsLevel shape before h group kids → inner_room shape / 2 + 1 ≤ length group → length group ≡ n
    → at < total → 16 ≤ inner_room shape + 1 → IsShare (inner_room shape + 1) (total - at) n
    → AreApart (flat_map (pages_of h) (done ++ kids)) → HasAdded shape group mid after old now
    → RisesSoFar shape before after h total (at + n) (done ++ kids) now
risen_more shape before mid after h total at n done kids group old now had level large many more some share apart added =
    let risen = had.risen in
    let own = flat_map (pages_of h) kids in
    let first = flat_map (pages_of h) done in
    let parts : flat_map (pages_of h) (done ++ kids) ≡ first ++ own = flat_map-append (pages_of h) done kids in
    let both : AreApart (first ++ own) = subst AreApart parts apart in
    let t = tree_over h added.page (keys_of group) kids in
    let held = kids_live shape mid (suc h) risen.trees risen.level.holds in
    let long = level_length shape before h group kids level in
    let keys = length-map group (λ (n : Separator). n.key.items) in
    let dropped = length-drop 1 (keys_of group) in
    let here : Holds shape after (suc h) t = node_holds shape before mid after h kids first (flat_map (pages_of (suc h)) risen.trees) group old now level risen.changes both added in
    let below : IsBelow shape (suc h) t = record { large = omega arith; filled = kids_filled shape h kids level.below; led = kids_led shape before h group kids level } in
    let counts : child_counts h (risen.trees ++ t ∷ []) ≡ child_counts h risen.trees ++ n ∷ [] =
    map-append (λ (s : TreeOf (suc h)). length s.2) risen.trees (t ∷ []) ∙ ap (λ (m : ℕ). child_counts h risen.trees ++ m ∷ []) (long ∙ many) in
    let full : AreFull total (inner_room shape + 1) (at + n) (child_counts h (risen.trees ++ t ∷ [])) =
    subst (AreFull total (inner_room shape + 1) (at + n)) (sym counts) (one_full total (inner_room shape + 1) at n (child_counts h risen.trees) some more share had.full) in
    let next : HasNextLevel shape before after h (done ++ kids) now = record {
      trees = risen.trees ++ t ∷ [];
      level = record {
        holds = Each-append (Holds shape after (suc h)) risen.trees (t ∷ [])
            (rows_still shape mid after (suc h) risen.trees risen.level.holds
            (Each-weaker (λ n. IsSome (mid n)) (λ n. after n ≡ mid n) (taken_keeps added.takes) (flat_map (pages_of (suc h)) risen.trees) held)) (here, tt);
        below = Each-append (IsBelow shape (suc h)) risen.trees (t ∷ []) risen.level.below (below, tt);
        keys = added.keys ∙ ap (λ l. keys_of old ++ l) (ap (take 1) level.keys ∙ lead_first shape h kids level.below (omega arith))
            ∙ ap (λ l. l ++ lead_of shape.width (suc h) t ∷ []) risen.level.keys ∙ sym (map-append (lead_of shape.width (suc h)) risen.trees (t ∷ []));
        leads = added.leads ∙ ap (λ l. l ++ added.page ∷ []) risen.level.leads ∙ sym (map-append (page_of (suc h)) risen.trees (t ∷ []));
      };
      over = flat_map-append (λ (s : TreeOf (suc h)). s.2) risen.trees (t ∷ []) ∙ ap (λ l. l ++ (kids ++ [])) risen.over ∙ ap (λ l. done ++ l) (append_none kids);
      filled = full.two;
      changes = subst (λ l. ChangesPages before after l (flat_map (pages_of (suc h)) (risen.trees ++ t ∷ []))) (sym parts)
          (subst (ChangesPages before after (first ++ own))
          (sym (flat_map-append (pages_of (suc h)) risen.trees (t ∷ []) ∙ ap (λ l. flat_map (pages_of (suc h)) risen.trees ++ l) (append_none (pages_of (suc h) t))))
          (changes_more before mid after first own (flat_map (pages_of (suc h)) risen.trees) added.page added.bytes risen.changes added.takes both (kids_live shape before h kids level.holds) held));
    } in
    record { risen = next; full = full }

-- the entries of a level are those of the level below
pub entries_over : (shape : NodeShape) (before after : PageMap) (h : ℕ) (below : List (TreeOf h)) (above : List Separator) → (risen : HasNextLevel shape before after h below above)
    → flat_map (entries_of (suc h)) risen.trees ≡ flat_map (entries_of h) below
entries_over shape before after h below above risen =
    sym (flat_flat (entries_of h) (λ (t : TreeOf (suc h)). t.2) risen.trees) ∙ ap (flat_map (entries_of h)) risen.over

-- a level has one page for each node, and those below
pub level_pages : (h : ℕ) (trees : List (TreeOf (suc h)))
    → length (flat_map (pages_of (suc h)) trees) ≡ length trees + length (flat_map (pages_of h) (flat_map (λ (t : TreeOf (suc h)). t.2) trees))
level_pages h [] = refl
level_pages h (t ∷ ts) =
    let rest = level_pages h ts in
    let kids = flat_map (λ (s : TreeOf (suc h)). s.2) ts in
    let here = length-append (flat_map (pages_of h) t.2) (flat_map (pages_of (suc h)) ts) in
    let there = ap length (flat_map-append (pages_of h) t.2 kids) in
    let parts = length-append (flat_map (pages_of h) t.2) (flat_map (pages_of h) kids) in
    omega arith

pub leaf_pages : (leaves : List (TreeOf 0)) → length (flat_map (pages_of 0) leaves) ≡ length leaves
leaf_pages [] = refl
leaf_pages (t ∷ ts) = let rest = leaf_pages ts in omega arith

pub apart_front : (h : ℕ) (trees : List (TreeOf h)) (i : ℕ) → AreApart (flat_map (pages_of h) trees) → AreApart (flat_map (pages_of h) (take i trees))
apart_front h trees i apart =
    apart_left (flat_map (pages_of h) (take i trees)) (flat_map (pages_of h) (drop i trees))
    (subst AreApart (ap (flat_map (pages_of h)) (sym (take-append-drop i trees)) ∙ flat_map-append (pages_of h) (take i trees) (drop i trees)) apart)

-- the next node of a level
pub level_more : (shape : NodeShape) (before mid after : PageMap) (h : ℕ) (trees : List (TreeOf h)) (nodes old now : List Separator) (at n : ℕ)
    → IsLevel shape before h nodes trees → AreApart (flat_map (pages_of h) trees) → at + n ≤ length nodes → inner_room shape / 2 + 1 ≤ n
    → at < length nodes → 16 ≤ inner_room shape + 1 → IsShare (inner_room shape + 1) (length nodes - at) n
    → RisesSoFar shape before mid h (length nodes) at (take at trees) old → HasAdded shape (slice_range nodes at (at + n)) mid after old now
    → RisesSoFar shape before after h (length nodes) (at + n) (take (at + n) trees) now
level_more shape before mid after h trees nodes old now at n level apart within large more some share risen added =
    let parts = slice_more trees at (at + n) n refl in
    let long = length_slice nodes at (at + n) (omega arith) within in
    let here : length (slice_range nodes at (at + n)) ≡ n = omega arith in
    subst (λ (l : List (TreeOf h)). RisesSoFar shape before after h (length nodes) (at + n) l now) (sym parts)
    (risen_more shape before mid after h (length nodes) at n (take at trees) (slice_range trees at (at + n)) (slice_range nodes at (at + n)) old now risen
    (level_slice shape before h nodes trees at (at + n) level) (omega arith) here more some share
    (subst (λ (l : List (TreeOf h)). AreApart (flat_map (pages_of h) l)) parts (apart_front h trees (at + n) apart)) added)
