use Rattle.std.proofs.Common.{◌≡◌, List, ◌++◌, length, map}
use Rattle.record_layout.specs.Layout.{Placed, item_of}
use Rattle.file_control.specs.FieldPlaces.{AreFields}
use Rattle.file_control.proofs.field_places.fields_by_name.Given as goal

abbrev pub invariant-more : goal.invariant-more
invariant-more l = (behind : List Placed) × (l.fn.layout ≡ map item_of l.rest ++ behind) × AreFields l.fields behind

abbrev pub decreases-more : goal.decreases-more
decreases-more l = length l.rest
