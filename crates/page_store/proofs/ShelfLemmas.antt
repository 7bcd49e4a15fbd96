-- The file of a unit after calls, and the files of other names.
use Rattle.std.proofs.Common.{◌≡◌, ℕ, ◌∙◌, ap}
use Rattle.page_store.specs.ShelfState.{ShelfState, unit_name, unit_file, KeepsOthers}

-- the file of a unit in another state of the shelf
pub same_place : (a b : ShelfState) (unit : ℕ) → b.file ≡ a.file → b.names ≡ a.names → unit_file b unit ≡ unit_file a unit
same_place a b unit file names = ap (λ f. f (unit_name b unit)) file ∙ ap (λ n. a.file (unit_name (record a { names = n }) unit)) names

pub others_then : (unit : ℕ) (a b c : ShelfState) → KeepsOthers unit a b → KeepsOthers unit b c → KeepsOthers unit a c
others_then unit a b c ab bc =
    let name : unit_name b unit ≡ unit_name a unit = ap (λ names. unit_name (record a { names = names }) unit) ab.names in
    record {
      names = bc.names ∙ ab.names;
      others = λ other differs. bc.others other (λ e. differs (e ∙ name)) ∙ ab.others other differs;
      honest = λ h. ab.honest (bc.honest h);
    }
