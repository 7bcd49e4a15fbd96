-- A function that passes on all that it was given: what a contract says of a parameter at exit is all that is had of it then. Assumes `Logic`.
use Rattle.std.proofs.Common.{ℕ, List, [], ◌∷◌}
use seplogic.Ra.Ura.{Ura}
use types.Logic.{Logic}
use denote.Exit.{left}
use denote.Signature.{Slot}
use denote.Triple.End.{Kepts}
use denote.Triple.Walked.{Stays, AllGo}

module _ {n : ℕ} where
  abbrev pub stays_said : (ss : List (Slot n)) (ks : Kepts ss) → Stays ss ks
  stays_said [] ks = tt
  stays_said (s ∷ ss) ks = (record { fit = λ κs x w. Unit {0}; has = λ κs x w vs. left ((s.row κs).exit ks.0) x w }, stays_said ss ks.1)

  pub all_said : {M : Type 1} {𝓤 : Ura M} (𝓛 : Logic 𝓤) (ss : List (Slot n)) (ks : Kepts ss) → AllGo 𝓛 n ss ks (stays_said ss ks)
  all_said 𝓛 [] ks = tt
  all_said 𝓛 (s ∷ ss) ks = (λ κs x w vs fits. 𝓛.laws.⇛_intro _, all_said 𝓛 ss ks.1)
