use Rattle.std.proofs.Common.{◌≡◌, ◌-◌, ◌∙◌, ◌∷◌, length, drop, ap, arith, sym, subst, List, [], Option, Some, None, inl, inr}
use Rattle.std.proofs.lemmas.Result.{err_from_is_err_and}
use Rattle.deck_parser.specs.Word.{Word}
use Rattle.deck_parser.specs.Fault.{IsFault, told}
use Rattle.deck_parser.specs.Rule.{Stop, stop_at, stop_behind}
use Rattle.deck_parser.specs.Reading.{Refuses, TellsStop}
use Rattle.deck_parser.specs.declared.fault.ParseRefusal.{ParseRefusal}
use Rattle.deck_parser.specs.declared.fault.ParseRefusal.TheVariants.{Memory, Fault}
use Rattle.file_control.specs.declared.description.Description.{Description}
use Rattle.deck_entries.specs.Divisions.{SpellsDivisions, reads_divisions, divisions_stop}
use Rattle.deck_entries.specs.declared.divisions.Divisions.{Divisions}
use Rattle.file_control.specs.Whole.{IsDescription}
use Rattle.file_control.specs.FirstFault.{HasDivisions, entries_stop, IsEntriesFault, IsDescriptionFault}
use Rattle.std.specs.Prelude.{codes}
use Rattle.deck_parser.specs.Class.{this, begins}
use Rattle.deck_entries.proofs.DivisionRestLemmas.{rest_is}
use Rattle.file_control.proofs.WholeLemmas.{reads_sound, no_divisions, not_ended, nothing_described, no_end, no_contents}
use Rattle.file_control.proofs.description.describe.Goals as goal

none_read : {A : Type 0} (refusal : ParseRefusal) (read : Option A) → Refuses read refusal → IsFault refusal → read ≡ None
none_read Memory read r f = absurd f
none_read (Fault line place cause) read r f = r

-- where the reading stops, by what is read
stops_by : (words : List Word) (read : Option (Divisions × List Word)) → reads_divisions words ≡ read → entries_stop words ≡ stop_behind read (divisions_stop words) (λ (r : Divisions × List Word). stop_at r.1 2)
stops_by words read e = ap (λ (o : Option (Divisions × List Word)). stop_behind o (divisions_stop words) (λ (r : Divisions × List Word). stop_at r.1 2)) e

-- what is told of a refusal where the reading stops
fault_told : (words : List Word) (stop : Stop) (refusal : ParseRefusal) → ((divisions : Divisions) → HasDivisions words divisions → ⊥) → entries_stop words ≡ stop → TellsStop stop refusal → IsFault refusal → IsEntriesFault words (told refusal)
fault_told words stop Memory none at tells f = absurd f
fault_told words stop (Fault line place cause) none at tells f =
    let here = subst (λ (s : Stop). TellsStop s (Fault line place cause)) (sym at) tells in record { none = none; line = here.0; code = here.1 }

pub returns-in_err-divisions-clause-description : goal.returns-in_err-divisions-clause-description
returns-in_err-divisions-clause-description c =
    let p = err_from_is_err_and c.from_residual.result c.from_residual.ensures.1 in
    rw (p.1, p.2) (record {
      given = tt;
      none = λ f. subst (λ words. (description : Description) → IsDescription words description → ⊥) c.new-parser.ensures
          (nothing_described c.new-parser.result (none_read _ _ c.in_err-divisions.ensures.reads f));
    })

pub returns-then-not-sees-clause-description : goal.returns-then-not-sees-clause-description
returns-then-not-sees-clause-description c = record {
  given = tt;
  none = λ f. subst (λ words. (description : Description) → IsDescription words description → ⊥) c.new-parser.ensures
      (no_end c.in_ok-divisions.divisions c.new-parser.result c.read_divisions.new.parser c.in_ok-divisions.ensures.reads (sym c.sees.ensures ∙ c.if-not-sees.true));
}

pub returns-in_err-contents-clause-description : goal.returns-in_err-contents-clause-description
returns-in_err-contents-clause-description c =
    let p = err_from_is_err_and c.from_residual-in_err-contents.result c.from_residual-in_err-contents.ensures.1 in
    rw (p.1, p.2) (record {
      given = tt;
      none = λ f. subst (λ words. (description : Description) → IsDescription words description → ⊥) c.new-parser.ensures
          (no_contents c.in_ok-divisions.divisions c.new-parser.result c.read_divisions.new.parser c.in_ok-divisions.ensures.reads (c.in_err-contents.ensures.none f));
    })

pub returns-clause-description : goal.returns-clause-description
returns-clause-description c =
    let divisions = c.in_ok-divisions.divisions in
    let rest = c.read_divisions.new.parser in
    let spelled = subst (λ words. SpellsDivisions divisions words rest) c.new-parser.ensures (reads_sound divisions c.new-parser.result rest c.in_ok-divisions.ensures.reads) in
    let count = c.saturating_sub.ensures ∙ (ap (λ n. n - c.left.result) c.len.ensures.count ∙ ap (λ n. length c.args.words.now - n) c.left.ensures) in
    let left : drop c.saturating_sub.result c.args.words.now ≡ rest = ap (λ n. drop n c.args.words.now) count ∙ rest_is divisions c.args.words.now rest spelled in
    record {
      given = (
        divisions,
        omega (arith, count),
        subst (λ ws. SpellsDivisions divisions c.args.words.now ws) (sym left) spelled,
        ap (begins (this (codes "PROCEDURE") ∷ [])) left ∙ (sym c.sees.ensures ∙ c.if-not-sees.false),
        c.in_ok-contents.ensures.contents,
      );
      none = tt;
    }

pub returns-in_err-divisions-clause-fault : goal.returns-in_err-divisions-clause-fault
returns-in_err-divisions-clause-fault c =
    let words = c.new-parser.result in
    let p = err_from_is_err_and c.from_residual.result c.from_residual.ensures.1 in
    rw (p.1, p.2) (λ f.
    let nothing = none_read _ _ c.in_err-divisions.ensures.reads f in
    subst (λ (words : List Word). IsDescriptionFault words (told c.in_err-divisions.field-0.0)) c.new-parser.ensures
    (inl (fault_told words _ c.in_err-divisions.field-0.0 (no_divisions words nothing) (stops_by words None nothing) c.in_err-divisions.ensures.stops f)))

pub returns-then-not-sees-clause-fault : goal.returns-then-not-sees-clause-fault
returns-then-not-sees-clause-fault c =
    let divisions = c.in_ok-divisions.divisions in
    let words = c.new-parser.result in
    let rest = c.read_divisions.new.parser in
    let none = not_ended divisions words rest c.in_ok-divisions.ensures.reads (sym c.sees.ensures ∙ c.if-not-sees.true) in
    λ f. subst (λ (words : List Word). IsDescriptionFault words (told c.fault.result)) c.new-parser.ensures
    (inl (fault_told words _ c.fault.result none (stops_by words (Some (divisions, rest)) c.in_ok-divisions.ensures.reads) c.fault.ensures.stops f))

pub returns-in_err-contents-clause-fault : goal.returns-in_err-contents-clause-fault
returns-in_err-contents-clause-fault c =
    let p = err_from_is_err_and c.from_residual-in_err-contents.result c.from_residual-in_err-contents.ensures.1 in
    let divisions = c.in_ok-divisions.divisions in
    let rest = c.read_divisions.new.parser in
    let words = c.args.words.now in
    let spelled = subst (λ words. SpellsDivisions divisions words rest) c.new-parser.ensures (reads_sound divisions c.new-parser.result rest c.in_ok-divisions.ensures.reads) in
    let left = rest_is divisions words rest spelled in
    rw (p.1, p.2) (λ f. inr (
      divisions,
      (
        length words - length rest,
        omega arith,
        subst (λ ws. SpellsDivisions divisions words ws) (sym left) spelled,
        ap (begins (this (codes "PROCEDURE") ∷ [])) left ∙ (sym c.sees.ensures ∙ c.if-not-sees.false),
      ),
      c.in_err-contents.ensures.fault f,
    ))
