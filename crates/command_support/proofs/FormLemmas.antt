-- Why there is no form.
use Rattle.std.proofs.Common.{rules, ◌≡◌, ◌⊎◌, ℕ, true, List, [], Option, Some, None, Result, Ok, Err, IfErr, inl, inr, refl, sym, ap, subst}
use Rattle.clap.specs.Words.{Text}
use Rattle.record_text.specs.Parts.{do_rise}
use Rattle.command_words.specs.Asks.{FormText, form_text}
use Rattle.command_words.specs.declared.form_words.FormWords.{FormWords}
use Rattle.folder_shelf.specs.Calls.{Call}
use Rattle.command_support.specs.Cuts.{AreCuts}
use Rattle.command_support.specs.DeckFile.{IsDeckAsked, IsDeckFault, ComesOfDeck}
use Rattle.command_support.specs.Front.{IsDeckNamed, IsDeckReadBy}
use Rattle.command_support.specs.Forms.{IsFormRefused, AreColumns, AreColumnsAsked, AreColumnsBy, AreItemsAt, ComesOfForm}
use Rattle.command_support.specs.declared.forms.Columns.{Columns}
use Rattle.command_support.specs.Status.{status_of}
use Rattle.command_support.specs.declared.form_fault.FormFault.TheVariants.{Cuts}
use Rattle.command_support.specs.declared.fault.CommandFault.{CommandFault}
use Rattle.command_support.specs.declared.fault.CommandFault.TheVariants.{Deck as DeckRefused, NoSuchFile, Form as NoForm, Input, Output, Memory}

-- cuts that are none
pub cut_refused : {X : Type 0} (asked : FormText) (text : Text) (result : Result X CommandFault) → asked.cut ≡ Some text
    → (result ≡ Err (NoForm Cuts) → (cuts : List ℕ) → AreCuts text cuts → do_rise 0 cuts ≡ true → ⊥) → IfErr result (λ fault. (fault ≡ NoForm Cuts) ⊎ (fault ≡ Memory))
    → IfErr result (IsFormRefused asked)
cut_refused asked text (Ok columns) given none fault = tt
cut_refused asked text (Err f) given none (inl is) = subst (IsFormRefused asked) (sym is) (text, given, none (ap Err is))
cut_refused asked text (Err f) given none (inr is) = subst (IsFormRefused asked) (sym is) tt

-- the input or memory failed
pub form_not_read : (asked : FormText) (fault : CommandFault) → status_of fault ≡ 4 → IsFormRefused asked fault
form_not_read asked Input is = tt
form_not_read asked Output is = tt
form_not_read asked Memory is = tt
form_not_read asked fault is = absurd (cc)

-- and so are the faults of a file of a deck, where one is asked for
pub form_of_deck : (asked : FormText) (fault : CommandFault) → IsDeckAsked asked.deck asked.name → IsDeckFault fault → IsFormRefused asked fault
form_of_deck asked (DeckRefused why) both is = both
form_of_deck asked NoSuchFile both is = both
form_of_deck asked Input both is = tt
form_of_deck asked Output both is = tt
form_of_deck asked Memory both is = tt
form_of_deck asked fault both is = absurd is

-- columns for which no deck was read
pub without_deck : (input : Option (List ℕ)) (asked : FormWords) (result : Result Columns CommandFault) → (form_text asked).deck ≡ None
    → ComesOfForm (AreColumnsAsked (IsDeckNamed [] input)) asked result → ComesOfForm (AreColumnsBy [] input) asked result
without_deck input asked (Ok told) none came = record {
  form = (subst (λ (deck : Option Text). IsDeckReadBy [] input deck) (sym none) refl, came.form);
  refused = tt;
}
without_deck input asked (Err fault) none came = record { form = tt; refused = came.refused }

-- those of a file of a deck
pub with_deck : (calls : List Call) (input : Option (List ℕ)) (asked : FormWords) (result : Result Columns CommandFault) (deck name : Text) → (form_text asked).cut ≡ None
    → (form_text asked).deck ≡ Some deck → (form_text asked).name ≡ Some name → ComesOfDeck (AreItemsAt calls input deck name) result → ComesOfForm (AreColumnsBy calls input) asked result
with_deck calls input asked (Ok told) deck name no_cut a_deck a_name came = record {
  form = (
    subst (λ (d : Option Text). IsDeckReadBy calls input d) (sym a_deck) (came.right.1.bytes, came.right.1.is_read),
    subst (λ (cut : Option Text). AreColumns (IsDeckNamed calls input) cut (form_text asked).deck (form_text asked).name told.columns.items told.schema) (sym no_cut)
        (subst (λ (d : Option Text). AreColumns (IsDeckNamed calls input) None d (form_text asked).name told.columns.items told.schema) (sym a_deck)
        (subst (λ (n : Option Text). AreColumns (IsDeckNamed calls input) None (Some deck) n told.columns.items told.schema) (sym a_name) came.right)),
  );
  refused = tt;
}
with_deck calls input asked (Err fault) deck name no_cut a_deck a_name came = record {
  form = tt;
  refused = form_of_deck (form_text asked) fault
      (subst (λ (d : Option Text). IsDeckAsked d (form_text asked).name) (sym a_deck) (subst (λ (n : Option Text). IsDeckAsked (Some deck) n) (sym a_name) (search rules, search rules))) came.fault;
}
