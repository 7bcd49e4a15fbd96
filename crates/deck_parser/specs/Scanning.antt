-- What a function makes of an answer.
use Rattle.std.specs.Prelude.{Result, Ok, Err}
use Rattle.deck_parser.specs.declared.fault.ParseRefusal.{ParseRefusal}

abbrev pub map_result : {A B : Type 0} → (A → B) → Result A ParseRefusal → Result B ParseRefusal
map_result f (Ok x) = Ok (f x)
map_result f (Err refusal) = Err refusal
