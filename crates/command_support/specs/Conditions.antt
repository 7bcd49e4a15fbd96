-- The conditions of a list: what their words say, and what they are in a record. All of this is ours.
use Rattle.std.specs.Prelude.{◌≡◌, ℕ, ◌-◌, ◌<◌, ◌≤◌, ◌==◌, ◌||◌, ◌&&◌, Bool, false, List, [], ◌∷◌, ◌++◌}
use Rattle.std.specs.Prelude.{length, take, drop, replicate, map, position, bytes_eq, Option, Some, None}
use Rattle.std.specs.Prelude.{option_map, option_and_then, if◌then◌else◌, Result, IfOk, IfErr, ◌⊎◌, ⊤}
use Rattle.std.specs.Global.{Vec}
use Rattle.std.specs.List.{list_all}
use Rattle.std.specs.Char.{to_ascii_lowercase, is_ascii_digit}
use denote.Ref.{Bor}
use Rattle.clap.specs.Words.{Text}
use Rattle.record_layout.specs.Layout.{Placed}
use Rattle.record_layout.specs.declared.item.Field.{Field}
use Rattle.record_listing.specs.declared.condition.Condition.{Condition}
use Rattle.record_listing.specs.declared.condition.Operator.{Operator}
use Rattle.record_listing.specs.declared.condition.Operator.TheVariants.{Equal, Less, NotGreater, Greater}
use Rattle.record_listing.specs.declared.condition.Operator.TheVariants.{NotLess}
use Rattle.command_support.specs.declared.condition_fault.ConditionFault.{ConditionFault}
use Rattle.command_support.specs.declared.condition_fault.ConditionFault.TheVariants.{NoSign, NoDeck, NoItem}
use Rattle.command_support.specs.declared.condition_fault.ConditionFault.TheVariants.{LongValue}
use Rattle.command_support.specs.declared.fault.CommandFault.{CommandFault}
use Rattle.command_support.specs.declared.fault.CommandFault.TheVariants.{Condition as NoCondition, Memory}
use Rattle.command_support.specs.Bound.{unescaped}
use Rattle.command_support.specs.declared.conditions.ConditionWords.{ConditionWords}

-- ---- what a word says

-- a byte with which a sign begins: `<`, `=` or `>`
abbrev pub is_sign : ℕ → Bool
is_sign byte = byte == 60 || byte == 61 || byte == 62

-- a sign alone, or with `=` after it, and the text after that
abbrev pub or_equal : (alone wide : Operator) → List ℕ → Operator × List ℕ
or_equal alone wide [] = (alone, [])
or_equal alone wide (byte ∷ rest) = if byte == 61 then (wide, rest) else (alone, byte ∷ rest)

-- the relation for which the sign at the front of a text stands, and the text after it
abbrev pub operator_in : List ℕ → Option (Operator × List ℕ)
operator_in [] = None
operator_in (sign ∷ rest) = if sign == 61 then Some (Equal, rest)
    else (if sign == 60 then Some (or_equal Less NotGreater rest)
    else (if sign == 62 then Some (or_equal Greater NotLess rest) else None))

-- the name of an item, a relation, and a value
pub record Said : Type 0 where
  pub name : List ℕ
  pub operator : Operator
  pub value : List ℕ

-- the same of what was read of a word, in which the value may have escapes
abbrev pub said_of : ConditionWords → Said
said_of words = record {
  name = words.name.now;
  operator = words.operator;
  value = unescaped words.value.now;
}

-- what a word says: an item up to the first sign, the relation for which that stands, and the value
-- after it
abbrev pub said_in : List ℕ → Option Said
said_in word = option_and_then (λ at. option_map (λ found. record {
  name = take at word;
  operator = found.0;
  value = unescaped found.1;
}) (operator_in (drop at word))) (position is_sign word)

-- ---- the item

-- the item has this name, in capitals or small letters
abbrev pub is_item_named : List ℕ → Option (List ℕ) → Bool
is_item_named name None = false
is_item_named name (Some own) = bytes_eq (map to_ascii_lowercase own) (map to_ascii_lowercase name)

-- where the item of a name stands in a record
abbrev pub item_with_name : List Placed → List ℕ → Option Field
item_with_name [] name = None
item_with_name (item ∷ after) name =
    if is_item_named name item.name then Some item.field else item_with_name after name

-- ---- the value

-- bytes are digits alone, at least one
abbrev pub are_digits : List ℕ → Bool
are_digits [] = false
are_digits (byte ∷ bytes) = list_all is_ascii_digit (byte ∷ bytes)

-- a value of as many bytes as its item: digits have zeros before them, where the item is numeric, and
-- any other value has spaces after it
abbrev pub full_value : Field → List ℕ → List ℕ
full_value field value = if field.numeric && are_digits value
    then replicate (field.length - length value) 48 ++ value
    else value ++ replicate (field.length - length value) 32

-- ---- conditions

-- the condition is that of a word on a record with these items
pub record IsConditionBy (layout : List Placed) (word : List ℕ) (condition : Condition) : Type 0 where
  pub said : Said
  pub field : Field
  pub says : said_in word ≡ Some said
  pub item : item_with_name layout said.name ≡ Some field
  pub fits : length said.value ≤ field.length
  pub offset_is : condition.offset ≡ field.offset
  pub operator_is : condition.operator ≡ said.operator
  pub value_is : condition.value.items ≡ full_value field said.value

-- so each of these conditions, in the order of the words
abbrev pub AreConditionsBy : List Placed → (words : List (List ℕ)) → List Condition → Type 0
AreConditionsBy layout [] [] = ⊤
AreConditionsBy layout [] (condition ∷ conditions) = ⊥
AreConditionsBy layout (word ∷ words) [] = ⊥
AreConditionsBy layout (word ∷ words) (condition ∷ conditions) =
    IsConditionBy layout word condition × AreConditionsBy layout words conditions

-- a word has this fault: it has no sign, the record has no item of the name, or the value is longer
-- than the item
abbrev pub HasConditionFault : List Placed → (word : List ℕ) → ConditionFault → Type 0
HasConditionFault layout word NoSign = said_in word ≡ None
HasConditionFault layout word NoDeck = ⊥
HasConditionFault layout word NoItem =
    (said : Said) × (said_in word ≡ Some said) × (item_with_name layout said.name ≡ None)
HasConditionFault layout word LongValue = (said : Said) × (field : Field) × (said_in word ≡ Some said)
    × (item_with_name layout said.name ≡ Some field) × (field.length < length said.value)

-- one of these words has it
abbrev pub HaveConditionFault : List Placed → (words : List (List ℕ)) → ConditionFault → Type 0
HaveConditionFault layout [] fault = ⊥
HaveConditionFault layout (word ∷ words) fault =
    HasConditionFault layout word fault ⊎ HaveConditionFault layout words fault

-- why there are no conditions: a word has a fault, or memory was wanted
abbrev pub AreWordsRefused : List Placed → (words : List (List ℕ)) → CommandFault → Type 0
AreWordsRefused layout words (NoCondition fault) = HaveConditionFault layout words fault
AreWordsRefused layout words Memory = ⊤
AreWordsRefused layout words fault = ⊥

-- what came of words is so; or they are refused
pub record ComesOfWords {X : Type 0} (IsSo : X → Type 0) (layout : List Placed) (words : List (List ℕ))
    (result : Result X CommandFault) : Type 0 where
  pub right : IfOk result IsSo
  pub refused : IfErr result (AreWordsRefused layout words)

-- the conditions of words on a record with these items; or the words are refused
abbrev pub GivesConditions : List Placed → (words : List (List ℕ)) → Result (Vec Condition) CommandFault → Type 0
GivesConditions layout words result =
    ComesOfWords (λ conditions. AreConditionsBy layout words conditions.items) layout words result

-- the words of conditions
abbrev pub texts_of : List (Bor (List ℕ)) → List Text
texts_of words = map (λ word. word.now) words

-- the conditions of words were added to others
abbrev pub AddsConditions : List Placed → (words : List (List ℕ)) → (old new : List Condition) → Type 0
AddsConditions layout words old new = (added : List Condition) × (new ≡ old ++ added)
    × AreConditionsBy layout words added

-- so it was; or the words are refused
abbrev pub AddsOrRefuses : List Placed → (words : List (List ℕ)) → (old new : List Condition)
    → Result Unit CommandFault → Type 0
AddsOrRefuses layout words old new result =
    ComesOfWords (λ _. AddsConditions layout words old new) layout words result
