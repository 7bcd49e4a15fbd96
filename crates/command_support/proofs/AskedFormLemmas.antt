-- The form of a list with a key and conditions.
use Rattle.std.proofs.Common.{◌≡◌, ◌⊎◌, inl, inr, ℕ, List, [], ◌∷◌, map, Option, Some, None, Result, Ok, Err, refl, sym, ap, subst}
use Rattle.std.specs.Prelude.{◌≢◌, IsSome}
use Rattle.clap.specs.Words.{Text as Word}
use Rattle.record_layout.specs.Layout.{Placed, item_of}
use Rattle.record_layout.specs.declared.item.Placed.{Placed as Declared}
use Rattle.file_control.specs.Description.{FileDesc}
use Rattle.folder_shelf.specs.Calls.{Call}
use Rattle.command_support.specs.declared.form_fault.FormFault.{FormFault}
use Rattle.command_support.specs.declared.form_fault.FormFault.TheVariants.{HalfDeck}
use Rattle.command_support.specs.declared.condition_fault.ConditionFault.TheVariants.{NoSign, NoDeck, NoItem, LongValue as LongItem}
use Rattle.command_support.specs.declared.fault.CommandFault.{CommandFault}
use Rattle.command_support.specs.declared.fault.CommandFault.TheVariants.{NoSuchKey, LoneKeyName, Form as NoForm, Condition as NoCondition, Memory}
use Rattle.command_support.specs.AskedKey.{IsKeyNumber, IsNoKeyNumber, IsKeyIn, IsKeyMissing, WantsDeck}
use Rattle.command_support.specs.AskedForm.{ListWords, IsWrittenAs, IsFormOfFile, IsAskedFormRefused, IsRefusedWhere, ComesOfAskedForm, ComesOfFormAlone, GivesFormOfFile, TellsDeckWanted}
use Rattle.command_support.specs.Conditions.{AreConditionsBy, AreWordsRefused, HaveConditionFault}
use Rattle.command_support.specs.DeckFile.{IsDeckAsked, IsHalf, IsOfDeck}
use Rattle.command_support.specs.Forms.{HasFormFault}
use Rattle.command_support.specs.Front.{IsDeckNamed}
use Rattle.command_support.specs.declared.asked_form.AskedForm.{AskedForm}
use Rattle.command_support.proofs.FormLemmas.{form_of_deck}

-- what was made by the record of a file of a deck
pub form_made : (calls : List Call) (input : Option (List ℕ)) (deck name : Word) (asked : ListWords) (told : AskedForm) (file : FileDesc)
    → IsOfDeck (IsDeckNamed calls input deck) name file → (items : List Declared) → map item_of items ≡ file.layout → IsWrittenAs asked.form.kind file.layout told.told.form
    → told.told.schema ≡ Some file.schema → IsKeyIn file asked.key told.key → AreConditionsBy (map item_of items) asked.conditions told.conditions.items
    → IsFormOfFile calls input deck name asked told
form_made calls input deck name asked told file of_deck items are written same key by = record {
  file = file;
  of_deck = of_deck;
  form_is = written;
  schema_is = same;
  key_is = key;
  conditions_are = subst (λ (layout : List Placed). AreConditionsBy layout asked.conditions told.conditions.items) are by;
}

-- words of which one has no deck are not missing one
not_no_deck : (layout : List Placed) (words : List Word) → HaveConditionFault layout words NoDeck → ⊥
not_no_deck layout [] h = h
not_no_deck layout (word ∷ words) (inl h) = h
not_no_deck layout (word ∷ words) (inr h) = not_no_deck layout words h

module _ (asked : ListWords) where
  -- the deck is refused, has no such file, or was not read; or a condition is refused
  refused_of : IsDeckAsked asked.form.deck asked.form.name → (fault : CommandFault) → (layout : List Placed) → AreWordsRefused layout asked.conditions fault → IsAskedFormRefused asked fault
  refused_of both (NoCondition NoSign) layout h = inr (inl (both, (layout, h)))
  refused_of both (NoCondition NoDeck) layout h = absurd (not_no_deck layout asked.conditions h)
  refused_of both (NoCondition NoItem) layout h = inr (inl (both, (layout, h)))
  refused_of both (NoCondition LongItem) layout h = inr (inl (both, (layout, h)))
  refused_of both Memory layout h = inl tt
  refused_of both fault layout h = absurd h

  -- or the file has no such key
  no_key_of : IsDeckAsked asked.form.deck asked.form.name → (fault : CommandFault) → (file : FileDesc) → IsKeyMissing file asked.key fault → IsAskedFormRefused asked fault
  no_key_of both (NoSuchKey told) file h = inr (inr (both, h.0, (file, h.1)))
  no_key_of both Memory file h = inl tt
  no_key_of both fault file h = absurd h

  refused_where : IsDeckAsked asked.form.deck asked.form.name → (fault : CommandFault) → IsRefusedWhere asked fault → IsAskedFormRefused asked fault
  refused_where both fault (inl is) = inl (form_of_deck asked.form fault both is)
  refused_where both fault (inr (inl is)) = no_key_of both fault is.0 is.1
  refused_where both fault (inr (inr is)) = refused_of both fault is.0 is.1

  -- there is no deck for the key or for the conditions
  pub no_deck : (fault : CommandFault) → TellsDeckWanted asked.conditions fault → WantsDeck asked.key asked.conditions → asked.form.deck ≡ None → asked.form.name ≡ None → IsAskedFormRefused asked fault
  no_deck fault (inl (none, is)) (inl some) deck name = absurd (some none)
  no_deck fault (inl (none, is)) (inr named) deck name = subst (IsAskedFormRefused asked) (sym is) (inr (inr (named, deck, name)))
  no_deck fault (inr (some, is)) wanted deck name = subst (IsAskedFormRefused asked) (sym is) (inr (inl (some, deck, name)))

  -- or half of one
  pub half_deck : IsHalf asked.form.deck asked.form.name → IsAskedFormRefused asked (NoForm HalfDeck)
  half_deck half = inl half

  -- or the form is none
  pub form_at_fault : (fault : FormFault) → HasFormFault asked.form fault → IsAskedFormRefused asked (NoForm fault)
  form_at_fault fault is = inl is

  module _ (calls : List Call) (input : Option (List ℕ)) where
    -- what came of words that ask for nothing that only a deck tells
    pub asked_alone : (key : ℕ) (result : Result AskedForm CommandFault) → IsKeyNumber asked.key key → asked.conditions ≡ [] → ComesOfFormAlone input asked.form key result calls
        → ComesOfAskedForm input asked result calls
    asked_alone key (Ok told) number none came =
        record { form = inl (record { key = key; key_given = number; unconditional = none; alone = came.form }); refused = tt }
    asked_alone key (Err fault) number none came = record { form = tt; refused = inl came.refused }

    -- what came of the file of a deck, where one is asked for
    pub asked_where : (deck name : Word) (result : Result AskedForm CommandFault) → WantsDeck asked.key asked.conditions
        → asked.form.deck ≡ Some deck → asked.form.name ≡ Some name → asked.form.cut ≡ None → GivesFormOfFile input deck name asked result calls
        → ComesOfAskedForm input asked result calls
    asked_where deck name (Ok told) wanted a_deck a_name uncut came = record {
      form = inr (record { deck = deck; name = name; wanted = wanted; deck_given = a_deck; name_given = a_name; uncut = uncut; of_file = came.right });
      refused = tt;
    }
    asked_where deck name (Err fault) wanted a_deck a_name uncut came =
        let both : IsDeckAsked asked.form.deck asked.form.name = (subst (λ (o : Option Word). IsSome o) (sym a_deck) refl, subst (λ (o : Option Word). IsSome o) (sym a_name) refl) in
        record { form = tt; refused = refused_where both fault came.fault }
