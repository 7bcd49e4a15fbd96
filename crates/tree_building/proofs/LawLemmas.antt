-- What is being built is as it was while its own pages stay.
use Rattle.std.proofs.Common.{◌≡◌, ℕ, List, map, Option, Some, IsSome, sym, ap, subst, ◌∙◌}
use Rattle.std.specs.Prelude.{◌==◌, if◌then◌else◌}
use Rattle.std.proofs.lemmas.List.{length-map}
use Rattle.pages.specs.Each.{Each}
use Rattle.pages.specs.PageMap.{PageMap}
use Rattle.pages.specs.Owners.{IsOutside, ChangesPages}
use Rattle.tree_node.proofs.OrderLemmas.{Each-weaker}
use Rattle.bplus_tree.proofs.PageLemmas.{rows_still, each_both}
use Rattle.tree_building.specs.declared.builder.TreeBuilder.{TreeBuilder}
use Rattle.tree_building.specs.Building.{IsBuilding, builder_shape}
use Rattle.tree_building.proofs.RisingLemmas.{kids_live}
use Rattle.record_heap.specs.Filling.{with_page, built_heap}
use Rattle.record_heap.proofs.StandLemmas.{heap_kept}
use Rattle.key_index.specs.Stored.{prime_bytes, alt_bytes}
use Rattle.key_index.specs.Laws.{AreInUse}
use Rattle.tree_building.specs.Laws.{prime_building_is_live, prime_building_is_kept, prime_building_stands_aside, prime_building_counts}
use Rattle.tree_building.specs.Laws.{alt_building_is_live, alt_building_is_kept, alt_building_stands_aside, alt_building_counts}
use Rattle.tree_building.specs.Laws.{filling_is_apart, filling_is_kept, filling_stands_aside}

-- ---- trees

tree_kept : (builder : TreeBuilder) (before after : PageMap) (rows : List (List ℕ)) (own : List ℕ) → IsBuilding builder before rows own
    → Each (λ n. after n ≡ before n) own → IsBuilding builder after rows own
tree_kept builder before after rows own b same =
    let leaves = b.written.in_leaves in
    record {
      front = b.front;
      written = record {
        in_leaves = record {
          leaves = leaves.leaves;
          level = record {
            holds = rows_still (builder_shape builder) before after 0 leaves.leaves leaves.level.holds
                (subst (λ (l : List ℕ). Each (λ n. after n ≡ before n) l) (sym leaves.own_are) same);
            below = leaves.level.below;
            keys = leaves.level.keys;
            leads = leaves.level.leads;
          };
          own_are = leaves.own_are;
          apart = leaves.apart;
          has = leaves.has;
        };
        full = b.written.full;
        many = b.written.many;
      };
      has = b.has;
      count = b.count;
    }

tree_live : (builder : TreeBuilder) (pages : PageMap) (rows : List (List ℕ)) (own : List ℕ) → IsBuilding builder pages rows own → AreInUse pages own
tree_live builder pages rows own b =
    let leaves = b.written.in_leaves in
    record {
      live = subst (λ (l : List ℕ). Each (λ n. IsSome (pages n)) l) leaves.own_are (kids_live (builder_shape builder) pages 0 leaves.leaves leaves.level.holds);
      apart = leaves.apart;
    }

-- ---- a change of something else

aside : (before after : PageMap) (own old new : List ℕ) → Each (λ n. IsSome (before n)) own → ChangesPages before after old new → Each (IsOutside old) own
    → Each (λ n. after n ≡ before n) own × Each (IsOutside new) own
aside before after own old new live changes out =
    let stay = each_both (λ n. IsSome (before n)) (IsOutside old) (λ n. (after n ≡ before n) × IsOutside new n) changes.others own live out in (
      Each-weaker (λ n. (after n ≡ before n) × IsOutside new n) (λ n. after n ≡ before n) (λ n k. k.0) own stay,
      Each-weaker (λ n. (after n ≡ before n) × IsOutside new n) (IsOutside new) (λ n k. k.1) own stay,
    )

-- ---- the prime index

pub prime_live : prime_building_is_live
prime_live builder pages entries own b = tree_live builder.tree pages (map prime_bytes entries) own b.tree

pub prime_kept : prime_building_is_kept
prime_kept builder before after entries own b same =
    record { tree = tree_kept builder.tree before after (map prime_bytes entries) own b.tree same; each = b.each }

pub prime_aside : prime_building_stands_aside
prime_aside builder before after entries own old new b changes out =
    let stays = aside before after own old new (prime_live builder before entries own b).live changes out in
    (prime_kept builder before after entries own b stays.0, stays.1)

pub prime_counts : prime_building_counts
prime_counts builder pages entries own b = b.tree.count ∙ length-map entries prime_bytes

-- ---- an alternate index

pub alt_live : alt_building_is_live
alt_live builder pages entries own b = tree_live builder.tree pages (map alt_bytes entries) own b.tree

pub alt_kept : alt_building_is_kept
alt_kept builder before after entries own b same =
    record { tree = tree_kept builder.tree before after (map alt_bytes entries) own b.tree same; each = b.each }

pub alt_aside : alt_building_stands_aside
alt_aside builder before after entries own old new b changes out =
    let stays = aside before after own old new (alt_live builder before entries own b).live changes out in
    (alt_kept builder before after entries own b stays.0, stays.1)

pub alt_counts : alt_building_counts
alt_counts builder pages entries own b = b.tree.count ∙ length-map entries alt_bytes

-- ---- the heap

pub heap_apart : filling_is_apart
heap_apart builder pages slots own places f = record { live = f.live; apart = f.stands.apart }

pub heap_stays : filling_is_kept
heap_stays builder before after slots own places f same = record {
  stands = heap_kept (built_heap builder) (with_page before builder.first builder.page) (with_page after builder.first builder.page) slots own
      (Each-weaker (λ n. after n ≡ before n) (λ n. with_page after builder.first builder.page n ≡ with_page before builder.first builder.page n)
      (λ n e. ap (λ (o : Option (List ℕ)). if n == builder.first then Some builder.page else o) e) own same)
      f.stands;
  live = each_both (λ n. IsSome (before n)) (λ n. after n ≡ before n) (λ n. IsSome (after n)) (λ n some e. subst IsSome (sym e) some) own f.live same;
  some = f.some;
  begun = f.begun;
  order = f.order;
}

pub heap_aside : filling_stands_aside
heap_aside builder before after slots own old new places f changes out =
    let stays = aside before after own old new f.live changes out in
    (heap_stays builder before after slots own places f stays.0, stays.1)
