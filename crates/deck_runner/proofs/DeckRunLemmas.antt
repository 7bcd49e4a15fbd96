-- What a run of the bytes of a deck tells.
use Rattle.std.proofs.Common.{◌≡◌, ◌≢◌, ◌≤◌, ℕ, true, List, Option, sym, ap, ◌∙◌, subst, arith}
use Rattle.deck_parser.specs.declared.fault.FaultCause.{FaultCause}
use Rattle.deck_parser.specs.declared.fault.FaultCause.TheVariants.{BadWord, Expected, Unknown, Twice, NotAllowed, Limit, Layout}
use Rattle.deck_parser.specs.declared.fault.DeckFault.{DeckFault}
use Rattle.deck_parser.specs.declared.fault.ParseRefusal.{ParseRefusal}
use Rattle.deck_parser.specs.declared.fault.ParseRefusal.TheVariants.{Memory as NoMemory, Fault}
use Rattle.deck_parser.specs.Fault.{cause_code, told, IsTold}
use Rattle.indexed_file.specs.Shown.{Shown}
use Rattle.deck_reader.specs.declared.deck.Deck.{Deck}
use Rattle.deck_reader.specs.Deck.{IsDeck}
use Rattle.deck_runner.specs.declared.fault.RunFault.{RunFault}
use Rattle.deck_runner.specs.declared.fault.RunFault.TheVariants.{Deck as DeckRefused, Output, Memory}
use Rattle.deck_runner.specs.declared.run_end.RunEnd.{RunEnd}
use Rattle.deck_runner.specs.Run.{Run}
use Rattle.deck_runner.specs.RunEnd.{end_of, TellsLines}
use Rattle.deck_runner.specs.Stretches.{IsRunOver}
use Rattle.deck_runner.specs.ExactRun.{run_before, RunsExactly}
use Rattle.deck_runner.specs.Beginning.{WorldIsLeft, WhereFilesAreTrue, DeckLeads}
use Rattle.deck_runner.specs.DeckRun.{IsRefusedDeck}
use Rattle.deck_runner.proofs.RunLaws.{clean_runs_are_exact, run_of_stretches}

-- a run whose end is clean is the definition's
pub exact :
    {S : Type 0} (library : Shown S) (old new : S) (written written_after : Option (List ℕ)) (end : RunEnd) (deck : Deck)
    → TellsLines written written_after end (DeckLeads library old new deck (IsRunOver library deck.statements)) → end.clean ≡ true
    → WhereFilesAreTrue library old new deck (RunsExactly written written_after (library.world old) (library.world new) end deck)
exact library old new written written_after end deck run clean = λ honest shown.
    let leads = run.3.steps honest shown in
    let first = run_before (library.world old) deck in
    let law = clean_runs_are_exact deck.statements first run.0 leads.1 (run_of_stretches library deck.statements _ run.0 _ leads.3) (sym (ap (λ (e : RunEnd). e.clean) run.2) ∙ clean) in
    record {
      transcript_is = rw (← law.0) run.1;
      end_is = run.2 ∙ ap end_of law.0;
      leaves = subst (λ (next : Run). WorldIsLeft (library.world new) deck next) law.1 leads.4;
    }

-- ---- refusals

code_within : (cause : FaultCause) → (1 ≤ cause_code cause) × (cause_code cause ≤ 7)
code_within BadWord = (omega arith, omega arith)
code_within (Expected what) = (omega arith, omega arith)
code_within (Unknown what) = (omega arith, omega arith)
code_within (Twice what) = (omega arith, omega arith)
code_within (NotAllowed what) = (omega arith, omega arith)
code_within (Limit which) = (omega arith, omega arith)
code_within (Layout what) = (omega arith, omega arith)

refused_by :
    (bytes : List ℕ) (fault : DeckFault) (result : RunFault) (refusal : ParseRefusal) → fault ≡ told refusal → (fault.code ≡ 8 → result ≡ Memory) → (fault.code ≢ 8 → result ≡ DeckRefused fault)
    → (fault.code ≢ 8 → (deck : Deck) → IsDeck bytes deck → ⊥) → IsRefusedDeck bytes result
refused_by bytes fault result NoMemory is memory deck none =
    let code : fault.code ≡ 8 = ap (λ (f : DeckFault). f.code) is in
    subst (IsRefusedDeck bytes) (sym (memory code)) tt
refused_by bytes fault result (Fault line place cause) is memory deck none =
    let code : fault.code ≡ cause_code cause = ap (λ (f : DeckFault). f.code) is in
    let within = code_within cause in
    let least = within.0 in
    let most = within.1 in
    let unlike : fault.code ≢ 8 = λ e. omega arith in
    subst (IsRefusedDeck bytes) (sym (deck unlike)) (omega arith, omega arith, none unlike)

-- a fault of reading a deck, as it is told
pub refused :
    (bytes : List ℕ) (fault : DeckFault) (result : RunFault) → IsTold fault → (fault.code ≡ 8 → result ≡ Memory) → (fault.code ≢ 8 → result ≡ DeckRefused fault)
    → (fault.code ≢ 8 → (deck : Deck) → IsDeck bytes deck → ⊥) → IsRefusedDeck bytes result
refused bytes fault result is_told memory deck none = refused_by bytes fault result is_told.0 is_told.1 memory deck none

-- a fault of a run of a deck that was read is no refusal
pub not_refused : (bytes : List ℕ) (fault : RunFault) → (fault ≢ Output → fault ≡ Memory) → IsRefusedDeck bytes fault
not_refused bytes (DeckRefused told) other = let is = other (λ e. absurd (cc)) in absurd (cc)
not_refused bytes fault other = tt
