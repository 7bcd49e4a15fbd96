-- Conditions on a record. All of this is ours.
use Rattle.std.specs.Prelude.{ℕ, Bool, ◌&&◌, nat_le, List, length, take, drop}
use Rattle.std.specs.List.{list_all}
use Rattle.std.specs.Ordering.{is_eq, is_lt, is_le, is_gt, is_ge}
use Rattle.std.specs.declared.cmp.Ordering.{Ordering}
use Rattle.io_state.specs.Rank.{value_cmp}
use Rattle.record_listing.specs.declared.condition.Condition.{Condition}
use Rattle.record_listing.specs.declared.condition.Operator.{Operator}
use Rattle.record_listing.specs.declared.condition.Operator.TheVariants.{Equal, Less, NotGreater, Greater}
use Rattle.record_listing.specs.declared.condition.Operator.TheVariants.{NotLess}

-- bytes that compare so with others are so related to them
abbrev pub is_met : Operator → Ordering → Bool
is_met Equal order = is_eq order
is_met Less order = is_lt order
is_met NotGreater order = is_le order
is_met Greater order = is_gt order
is_met NotLess order = is_ge order

-- a record has the bytes of an item, and by unsigned bytes from the left they are so related to the
-- value, which has as many
abbrev pub holds : List ℕ → Condition → Bool
holds bytes condition =
    nat_le (length condition.value.items) (length (drop condition.offset bytes))
    && is_met condition.operator
    (value_cmp (take (length condition.value.items) (drop condition.offset bytes)) condition.value.items)

-- each of the conditions holds of a record
abbrev pub all_hold : List Condition → List ℕ → Bool
all_hold conditions bytes = list_all (holds bytes) conditions
