-- A library to which one name was attached.
use Rattle.std.proofs.Common.{◌≡◌, ℕ, List, [], ◌∷◌, zero, suc, length, slice_index_or, refl, ap, ◌∙◌, arith}
use Rattle.std.specs.Prelude.{Result, Ok, Err, OnOk, bytes_eq}
use Rattle.std.specs.List.{IsDistinct}
use Rattle.indexed_file.specs.World.{World, FileUnit, Absent, Shut, is_open, attached}
use Rattle.indexed_file.specs.Clients.{IsNotOpen}

pub one_is_distinct : (name : List ℕ) → IsDistinct bytes_eq (name ∷ [])
unfolding IsDistinct
one_is_distinct name = (tt, tt)

abbrev no_unit : FileUnit
no_unit = record { name = []; named = Absent; holding = Shut }

pub one_is_shut : {X E : Type 0} (result : Result X E) (world new : World) (name : List ℕ)
    → OnOk result (new.units ≡ attached world (name ∷ [])) → OnOk result (IsNotOpen new 0)
one_is_shut (Ok x) world new name is = record {
  attached = rw is (omega arith);
  closed = ap (λ (units : List FileUnit). is_open (slice_index_or units 0 no_unit).holding) is;
}
one_is_shut (Err e) world new name is = tt
