-- Numbers of a tree that no pages can stand for.
use Rattle.std.specs.Prelude.{◌≡◌, ◌⊎◌, ◌-◌, ◌^◌, ◌≤◌, Result, Err}
use Rattle.io_state.specs.declared.fault.Fault.{Fault}
use Rattle.io_state.specs.declared.fault.Fault.TheVariants.{Damage}
use Rattle.bplus_tree.specs.declared.tree.Tree.{Tree}

-- it has 20 levels, or as many entries as a number of 64 bits can count
abbrev pub IsPastAll : Tree → Type 0
IsPastAll tree = (19 ≤ tree.levels) ⊎ (tree.count ≡ 2 ^ 64 - 1)

-- the call finds damage, and leaves what it is of, and the pages
pub record FindsDamage {X A Pages : Type 0} (old new : A) (before after : Pages)
    (result : Result X Fault) : Type 0 where
  pub damage : result ≡ Err Damage
  pub owner : new ≡ old
  pub pages : after ≡ before
