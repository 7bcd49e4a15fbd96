-- Which numbers are exit statuses of outcomes, also where a strict run heeds its lines.
use Rattle.std.proofs.Common.{◌≡◌, ◌≢◌, ◌⊎◌, ◌≤◌, ℕ, zero, suc, nat_lt, Bool, true, false, ◌&&◌, if◌then◌else◌, List, Result, Ok, Err, IfErr, inl, inr, refl, sym, ◌∙◌, arith}
use Rattle.file_checker.specs.declared.verdict.Verdict.{Verdict}
use Rattle.file_checker.specs.declared.verdict.Verdict.TheVariants.{Sound, Unsound}
use Rattle.record_listing.specs.declared.file_list.FileList.{FileList}
use Rattle.record_listing.specs.declared.file_list.FileList.TheVariants as lists
use Rattle.file_reports.specs.declared.statistics_listing.FileStatisticsEnd.{FileStatisticsEnd}
use Rattle.file_reports.specs.declared.statistics_listing.FileStatisticsEnd.TheVariants as counts
use Rattle.file_reports.specs.declared.comparing.Comparison.{Comparison}
use Rattle.file_reports.specs.declared.comparing.Comparison.TheVariants.{Same, Different}
use Rattle.record_loading.specs.Answer.{is_loaded}
use Rattle.record_loading.specs.declared.shelf_end.ShelfEnd.{ShelfEnd}
use Rattle.record_loading.specs.declared.shelf_end.ShelfEnd.TheVariants as ends
use Rattle.salvaged_records.specs.declared.salvaging.Salvage.{Salvage}
use Rattle.salvaged_records.specs.declared.salvaging.Salvage.TheVariants as salvages
use Rattle.file_building.specs.declared.end.CopyEnd.{CopyEnd}
use Rattle.file_building.specs.declared.end.CopyEnd.TheVariants as copies
use Rattle.streams.specs.LineEnds.{has_failed_line}
use Rattle.command_support.specs.Status.{status_of, status_by, status_of_worst, status_of_list, status_where, status_of_comparison, status_of_load, status_of_count, status_of_salvage, status_of_copy, status_for, exit_status, IsExitStatus}
use Rattle.command_support.specs.declared.fault.CommandFault.{CommandFault}
use Rattle.command_support.specs.declared.fault.CommandFault.TheVariants as faults
use Rattle.command_support.specs.declared.outcome.Outcome.{Outcome}
use Rattle.command_support.specs.declared.outcome.Outcome.TheVariants as outcomes
use Rattle.command_support.specs.declared.outcome.WorstCheck.{WorstCheck}
use Rattle.command_support.specs.declared.outcome.WorstCheck.TheVariants as worst
use Rattle.command_line.specs.Answered.{is_ended, is_served, status_heeding}

-- what was done has one of the first two exit statuses, part by part
low_where : (b : Bool) → status_where b ≤ 1
low_where true = omega arith
low_where false = omega arith

low_verdict : (verdict : Verdict) → status_by verdict ≤ 1
low_verdict (Sound records pages) = omega arith
low_verdict (Unsound reason place) = omega arith

low_list : (list : FileList) → status_of_list list ≤ 1
low_list lists.Listed = omega arith
low_list lists.NoKey = omega arith
low_list (lists.Unsound reason) = omega arith

low_comparison : (told : Comparison) → status_of_comparison told ≤ 1
low_comparison Same = omega arith
low_comparison Different = omega arith

low_load : (end : ShelfEnd) → status_of_load end ≤ 1
low_load ends.IsThere = omega arith
low_load (ends.Loaded end) = low_where (is_loaded end)

low_count : (end : FileStatisticsEnd) → status_of_count end ≤ 1
low_count counts.Listed = omega arith
low_count (counts.Unsound reason place) = omega arith

low_salvage : (end : Salvage) → status_of_salvage end ≤ 1
low_salvage (salvages.All records) = omega arith
low_salvage (salvages.Slots records told) = omega arith
low_salvage (salvages.Unsound reason) = omega arith

-- and so has an outcome, but that of several files of which one cannot be read, and that of a copy for which there is no page
abbrev IsLow : ℕ → Type 0
IsLow status = (status ≤ 1) ⊎ (status ≡ 4)

low_worst : (found : WorstCheck) → IsLow (status_of_worst found)
low_worst worst.AllSound = inl (omega arith)
low_worst worst.Unsound = inl (omega arith)
low_worst worst.Unread = inr refl

low_copy : (end : CopyEnd) → IsLow (status_of_copy end)
low_copy (copies.Whole copied) = inl (omega arith)
low_copy copies.Refused = inl (omega arith)
low_copy copies.NoKey = inl (omega arith)
low_copy copies.Damaged = inl (omega arith)
low_copy copies.IsThere = inl (omega arith)
low_copy copies.Full = inr refl

low : (outcome : Outcome) → IsLow (status_for outcome)
low outcomes.Helped = inl (omega arith)
low (outcomes.Checked verdict) = inl (low_verdict verdict)
low (outcomes.CheckedAll found) = low_worst found
low (outcomes.Ended end) = inl (omega arith)
low outcomes.Served = inl (omega arith)
low outcomes.SchemaTold = inl (omega arith)
low (outcomes.SchemaCompared told) = inl (low_comparison told)
low (outcomes.SchemaRefused refusal) = inl (omega arith)
low outcomes.Explained = inl (omega arith)
low outcomes.Listed = inl (omega arith)
low (outcomes.Records list) = inl (low_list list)
low outcomes.OtherSchema = inl (omega arith)
low outcomes.InCobol = inl (omega arith)
low (outcomes.Loaded end) = inl (low_load end)
low (outcomes.Counted end) = inl (low_count end)
low (outcomes.Salvaged end) = inl (low_salvage end)
low (outcomes.Copied end) = low_copy end

few_is : (n : ℕ) → n ≤ 1 → IsExitStatus n
few_is zero few = inl refl
few_is (suc zero) few = inr (inl refl)
few_is (suc (suc n)) few = absurd (omega (arith, few))

low_is : (n : ℕ) → IsLow n → IsExitStatus n
low_is n (inl few) = few_is n few
low_is n (inr four) = inr (inr (inr (inr four)))

not_two : (n : ℕ) → IsLow n → n ≡ 2 → ⊥
not_two n (inl few) two = omega (arith, few, two)
not_two n (inr four) two = omega (arith, four, two)

not_three : (n : ℕ) → IsLow n → n ≡ 3 → ⊥
not_three n (inl few) three = omega (arith, few, three)
not_three n (inr four) three = omega (arith, four, three)

fault_is : (fault : CommandFault) → IsExitStatus (status_of fault)
fault_is (faults.Deck fault) = inr (inr (inl refl))
fault_is (faults.NotListed fault) = inr (inr (inl refl))
fault_is faults.NoSuchFile = inr (inr (inr (inl refl)))
fault_is (faults.NoSuchKey told) = inr (inl refl)
fault_is faults.LoneKeyName = inr (inr (inr (inl refl)))
fault_is (faults.Form fault) = inr (inr (inr (inl refl)))
fault_is (faults.Condition fault) = inr (inr (inr (inl refl)))
fault_is faults.Unexplained = inr (inr (inr (inl refl)))
fault_is faults.LongValue = inr (inr (inr (inl refl)))
fault_is faults.LoneRejects = inr (inr (inr (inl refl)))
fault_is faults.NoFileName = inr (inr (inr (inl refl)))
fault_is (faults.Usage text) = inr (inr (inr (inl refl)))
fault_is faults.Input = inr (inr (inr (inr refl)))
fault_is faults.Output = inr (inr (inr (inr refl)))
fault_is faults.Memory = inr (inr (inr (inr refl)))

exit_is : (outcome : Result Outcome CommandFault) → IsExitStatus (exit_status outcome)
exit_is (Ok outcome) = low_is (status_for outcome) (low outcome)
exit_is (Err fault) = fault_is fault

one_or : (fails : Bool) (n : ℕ) → IsExitStatus n → IsExitStatus (if fails then 1 else n)
one_or true n is = inr (inl refl)
one_or false n is = is

four_or : (fails : Bool) (n : ℕ) → IsExitStatus n → IsExitStatus (if fails then 4 else n)
four_or true n is = inr (inr (inr (inr refl)))
four_or false n is = is

pub heeding_is : (strict : Bool) (unclosed : ℕ) (bytes : List ℕ) (outcome : Result Outcome CommandFault) → IsExitStatus (status_heeding strict unclosed bytes outcome)
heeding_is strict unclosed bytes outcome =
    one_or (strict && is_ended outcome && has_failed_line bytes) _
    (four_or (is_served outcome && nat_lt 0 unclosed) (exit_status outcome) (exit_is outcome))

-- a status of 2 or 3 is that of a fault that is neither of the input, of the output, nor of memory
by_fault : (P : Type 0) (outcome : Result Outcome CommandFault) → IfErr outcome (λ fault. status_of fault ≢ 4 → P) → (exit_status outcome ≡ 2) ⊎ (exit_status outcome ≡ 3) → P
by_fault P (Ok outcome) kept (inl two) = absurd (not_two (status_for outcome) (low outcome) two)
by_fault P (Ok outcome) kept (inr three) = absurd (not_three (status_for outcome) (low outcome) three)
by_fault P (Err fault) kept (inl two) = kept (λ four. omega (arith, two, four))
by_fault P (Err fault) kept (inr three) = kept (λ four. omega (arith, three, four))

not_one : (fails : Bool) (n : ℕ) → ((if fails then 1 else n) ≡ 2) ⊎ ((if fails then 1 else n) ≡ 3) → (n ≡ 2) ⊎ (n ≡ 3)
not_one true n (inl two) = absurd (omega (arith, two))
not_one true n (inr three) = absurd (omega (arith, three))
not_one false n either = either

not_four : (fails : Bool) (n : ℕ) → ((if fails then 4 else n) ≡ 2) ⊎ ((if fails then 4 else n) ≡ 3) → (n ≡ 2) ⊎ (n ≡ 3)
not_four true n (inl two) = absurd (omega (arith, two))
not_four true n (inr three) = absurd (omega (arith, three))
not_four false n either = either

pub untouched_by : (P : Type 0) (strict : Bool) (unclosed : ℕ) (bytes : List ℕ) (outcome : Result Outcome CommandFault) → IfErr outcome (λ fault. status_of fault ≢ 4 → P) → (status : ℕ)
    → status ≡ status_heeding strict unclosed bytes outcome → (status ≡ 2) ⊎ (status ≡ 3) → P
untouched_by P strict unclosed bytes outcome kept status is either =
    let heeded : (status_heeding strict unclosed bytes outcome ≡ 2) ⊎ (status_heeding strict unclosed bytes outcome ≡ 3) = elim either [ inl two ↦ inl (sym is ∙ two) | inr three ↦ inr (sym is ∙ three) ] in
    by_fault P outcome kept (not_four (is_served outcome && nat_lt 0 unclosed) (exit_status outcome)
    (not_one (strict && is_ended outcome && has_failed_line bytes) (if is_served outcome && nat_lt 0 unclosed then 4 else exit_status outcome) heeded))
