-- The classes of words that the grammar speaks of, and which of them no word is both of.
use Rattle.std.specs.Prelude.{ℕ, Bool, true, false, not, ◌&&◌, ◌||◌, List, [], ◌∷◌, length, nat_le, Option}
use Rattle.std.specs.Prelude.{Some, None, codes}
use Rattle.std.specs.List.{list_all, list_any}
use Rattle.std.specs.Str.{bytes_eq}
use Rattle.deck_parser.specs.Name.{is_name, is_number}
use Rattle.deck_parser.specs.Word.{Word, WordKind, word_of, is_same_kind}
use Rattle.deck_parser.specs.Word as kind

-- ---- words

-- this word, or names, numbers, level numbers, pictures, literals, this sign, or periods
pub data Class : Type 0 where
  this : List ℕ → Class
  names : Class
  numbers : Class
  levels : Class
  pictures : Class
  literals : Class
  signs : List ℕ → Class
  periods : Class

-- a level is a number of one or two digits, and a picture is any plain word but IS
abbrev pub is_in : Class → Word → Bool
is_in (this text) word = is_same_kind kind.Plain word.kind && bytes_eq text word.text
is_in names word = is_same_kind kind.Plain word.kind && is_name word.text
is_in numbers word = is_same_kind kind.Plain word.kind && is_number word.text
is_in levels word = is_same_kind kind.Plain word.kind && (is_number word.text && nat_le (length word.text) 2)
is_in pictures word = is_same_kind kind.Plain word.kind && not (bytes_eq (codes "IS") word.text)
is_in literals word = is_same_kind kind.Literal word.kind
is_in (signs text) word = is_same_kind kind.Sign word.kind && bytes_eq text word.text
is_in periods word = is_same_kind kind.Period word.kind

-- whether there is a next word, of one of these classes
abbrev pub begins : List Class → List Word → Bool
begins classes [] = false
begins classes (word ∷ words) = list_any (λ class. is_in class word) classes

-- ---- classes that are apart

-- the kind of its words
abbrev pub kind_of : Class → WordKind
kind_of (this text) = kind.Plain
kind_of names = kind.Plain
kind_of numbers = kind.Plain
kind_of levels = kind.Plain
kind_of pictures = kind.Plain
kind_of literals = kind.Literal
kind_of (signs text) = kind.Sign
kind_of periods = kind.Period

-- whether a word of its kind with this text is of the class
abbrev pub has_text : Class → List ℕ → Bool
has_text class text = is_in class (word_of 0 (kind_of class) text)

-- the only text that its words have
abbrev pub only_text : Class → Option (List ℕ)
only_text (this text) = Some text
only_text names = None
only_text numbers = None
only_text levels = None
only_text pictures = None
only_text literals = None
only_text (signs text) = Some text
only_text periods = None

-- whether all texts of its words have a capital letter, or none of them has
abbrev pub has_capitals : Class → Option Bool
has_capitals (this text) = None
has_capitals names = Some true
has_capitals numbers = Some false
has_capitals levels = Some false
has_capitals pictures = None
has_capitals literals = None
has_capitals (signs text) = None
has_capitals periods = None

abbrev pub lacks_text : Class → Option (List ℕ) → Bool
lacks_text class None = false
lacks_text class (Some text) = not (has_text class text)

abbrev pub differ : Option Bool → Option Bool → Bool
differ None other = false
differ (Some true) None = false
differ (Some true) (Some other) = not other
differ (Some false) None = false
differ (Some false) (Some other) = other

-- no text is of words of both: one is a text that the other lacks, or one has capitals and the other none
abbrev pub are_texts_apart : Class → Class → Bool
are_texts_apart class other =
    lacks_text other (only_text class) || (lacks_text class (only_text other)
    || differ (has_capitals class) (has_capitals other))

-- whether no word is of both classes
abbrev pub are_classes_apart : Class → Class → Bool
are_classes_apart class other = not (is_same_kind (kind_of class) (kind_of other))
    || are_texts_apart class other

abbrev pub all_apart : List Class → List Class → Bool
all_apart some others = list_all (λ class. list_all (are_classes_apart class) others) some
