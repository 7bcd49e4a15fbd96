-- What an index answers to a look-up, from what its tree answers.
use Rattle.std.proofs.Common.{◌≡◌, ◌≢◌, ℕ, Bool, List, map, Option, Result, Ok, refl, sym, subst, ◌∙◌}
use Rattle.std.specs.Prelude.{find, option_map, IfSome, IsErrAnd}
use Rattle.std.proofs.lemmas.Result.{err_from_is_err_and}
use Rattle.arrayvec.specs.ArrayVec.{ArrayVec}
use Rattle.io_state.specs.declared.fault.Fault.{Fault}
use Rattle.io_state.specs.declared.fault.Fault.TheVariants.{Damage}
use Rattle.pages.specs.Each.{Each}
use Rattle.pages.specs.Answer.{IsAnswer}
use Rattle.tree_search.specs.Calls.{last_of}
use Rattle.key_index.specs.Calls.{filled_with}
use Rattle.key_index.proofs.ListLemmas.{found, found_fits, last, last_fits}

-- a fault that is handed on is no damage where it was none
pub fails : {X : Type 0} (r : Result X Fault) (fault : Fault) (P : X → Type 0) → IsErrAnd r (λ e. e ≡ fault) → fault ≢ Damage → IsAnswer r P
fails r fault P was sound =
    let p = err_from_is_err_and r was in
    rw (p.1, p.2) (record { answer = tt; no_damage = sound })

-- the same of a call that fills
pub fails_filled : {E : Type 0} (n : E) (r : Result Bool Fault) (fault : Fault) (P : Option E → Type 0) → IsErrAnd r (λ e. e ≡ fault) → fault ≢ Damage → IsAnswer (filled_with n r) P
fails_filled n r fault P was sound =
    let p = err_from_is_err_and r was in
    rw (p.1, p.2) (record { answer = tt; no_damage = sound })

module _ {X : Type 0} (bytes : X → List ℕ) (Fits : X → Type 0) (result : Result (Option X) Fault) (gave : Option (ArrayVec ℕ))
    (told : (e : Option X) → IfSome e Fits → option_map (λ b. b.items) gave ≡ option_map bytes e → result ≡ Ok e) where
  answered : (e : Option X) → IfSome e Fits → option_map (λ b. b.items) gave ≡ option_map bytes e → IsAnswer result (λ f. f ≡ e)
  answered e fits same =
      subst (λ (r : Result (Option X) Fault). IsAnswer r (λ f. f ≡ e)) (sym (told e fits same)) (record { answer = refl; no_damage = tt })

  -- the tree gave the first of the bytes that pass a test, and that entry is told
  pub finds : (p : List ℕ → Bool) (q : X → Bool) → ((e : X) → Fits e → p (bytes e) ≡ q e)
      → (entries : List X) → Each Fits entries → option_map (λ b. b.items) gave ≡ find p (map bytes entries) → IsAnswer result (λ f. f ≡ find q entries)
  finds p q alike entries fit same =
      answered (find q entries) (found_fits bytes Fits q entries fit) (same ∙ found bytes Fits p q alike entries fit)

  -- the tree gave the last of the bytes
  pub finds_last : (entries : List X) → Each Fits entries → option_map (λ b. b.items) gave ≡ last_of (map bytes entries) → IsAnswer result (λ f. f ≡ last_of entries)
  finds_last entries fit same =
      answered (last_of entries) (last_fits bytes Fits entries fit) (same ∙ last bytes Fits entries)
