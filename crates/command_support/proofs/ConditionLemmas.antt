-- Conditions, read word after word.
use Rattle.std.proofs.Common.{◌≡◌, ◌<◌, inl, inr, ℕ, List, [], ◌∷◌, ◌++◌, length, take, drop, Bool, Option, Some, None, Result, Ok, Err, IfOk, IfErr, option_map, refl, sym, ap, subst, ◌∙◌, append_assoc, append-nil, arith}
use Rattle.std.specs.Prelude.{position, option_and_then}
use Rattle.std.specs.List.{list_all}
use Rattle.std.specs.Char.{is_ascii_digit}
use Rattle.record_layout.specs.Layout.{Placed}
use Rattle.record_listing.specs.declared.condition.Condition.{Condition}
use Rattle.record_listing.specs.declared.condition.Operator.{Operator}
use Rattle.command_support.specs.declared.fault.CommandFault.{CommandFault}
use Rattle.command_support.specs.declared.fault.CommandFault.TheVariants.{Condition as NoCondition, Memory}
use Rattle.command_support.specs.Bound.{unescaped}
use Rattle.command_support.specs.Conditions.{Said, is_sign, operator_in, said_in, are_digits, IsConditionBy, AddsConditions, AreWordsRefused, ComesOfWords}

-- digits, where there is a byte
pub digits_if_some : (bytes : List ℕ) (all : Bool) → 0 < length bytes → all ≡ list_all is_ascii_digit bytes → all ≡ are_digits bytes
digits_if_some [] all some is = absurd (omega (arith, some))
digits_if_some (byte ∷ bytes) all some is = is

-- what the word of a condition says, by its first sign
module _ (word : List ℕ) where
  pub nothing_said : position is_sign word ≡ None → said_in word ≡ None
  nothing_said none = rw none refl

  pub said_by : (at : ℕ) (found : Option (Operator × List ℕ)) → position is_sign word ≡ Some at → found ≡ operator_in (drop at word)
      → said_in word ≡ option_map (λ (pair : Operator × List ℕ). record { name = take at word; operator = pair.0; value = unescaped pair.1 }) found
  said_by at found first is = rw (first, is) refl

pub no_words : {X : Type 0} (words : List X) → length words ≡ 0 → words ≡ []
no_words [] none = refl
no_words (word ∷ words) none = absurd (omega arith)

module _ (layout : List Placed) where
  -- there are no words
  pub none_added : (old : List Condition) → AddsConditions layout [] old old
  none_added old = ([], sym (append-nil old), tt)

  -- the condition of one word more was added
  pub one_added : (word : List ℕ) (words : List (List ℕ)) (condition : Condition) (old between new : List Condition) → IsConditionBy layout word condition → between ≡ old ++ condition ∷ []
      → AddsConditions layout words between new → AddsConditions layout (word ∷ words) old new
  one_added word words condition old between new by is more =
      (condition ∷ more.0, more.1 ∙ ap (λ (l : List Condition). l ++ more.0) is ∙ append_assoc old (condition ∷ []) more.0, (by, more.2))

  -- the first word is refused, or one after it
  pub refused_first : (word : List ℕ) (words : List (List ℕ)) (fault : CommandFault) → AreWordsRefused layout (word ∷ []) fault → AreWordsRefused layout (word ∷ words) fault
  refused_first word words (NoCondition fault) (inl h) = inl h
  refused_first word words (NoCondition fault) (inr h) = absurd h
  refused_first word words Memory h = tt
  refused_first word words fault h = absurd h

  pub refused_later : (word : List ℕ) (words : List (List ℕ)) (fault : CommandFault) → AreWordsRefused layout words fault → AreWordsRefused layout (word ∷ words) fault
  refused_later word words (NoCondition fault) h = inr h
  refused_later word words Memory h = tt
  refused_later word words fault h = absurd h

  -- what came of the words after the first one
  pub with_first : {X : Type 0} (word : List ℕ) (words : List (List ℕ)) (condition : Condition) (old between new : List Condition) (result : Result X CommandFault) → IsConditionBy layout word condition → between ≡ old ++ condition ∷ []
      → ComesOfWords (λ _. AddsConditions layout words between new) layout words result → ComesOfWords (λ _. AddsConditions layout (word ∷ words) old new) layout (word ∷ words) result
  with_first word words condition old between new (Ok done) by is came = record { right = one_added word words condition old between new by is came.right; refused = tt }
  with_first word words condition old between new (Err fault) by is came = record { right = tt; refused = refused_later word words fault came.refused }
