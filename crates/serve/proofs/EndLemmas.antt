-- How the requests end.
use Rattle.std.proofs.Common.{◌≡◌, Bool, ◌⊎◌, ◌<◌, ◌≤◌, ◌-◌, ◌^◌, inl, inr, ℕ, List, [], ◌∷◌, ◌++◌, Option, refl, sym, ap, subst, ◌∙◌, append_assoc, append-nil, length, arith}
use Rattle.std.proofs.lemmas.List.Elements.{All-nil, All-cons, All-append}
use Rattle.std.specs.Prelude.{Result, Ok, Err}
use Rattle.std.specs.Io.KnownBytes.{Appends}
use Rattle.std.proofs.KnownBytes.{Appends-trans}
use Rattle.byteorder.specs.Endian.{big_bytes}
use Rattle.indexed_file.specs.Shown.{Shown}
use Rattle.serve.specs.Answer.{framed}
use Rattle.serve.specs.Files.{Files}
use Rattle.streams.specs.Source.{Source, GivesBytes, HasEnded, HasFailed}
use Rattle.serve.specs.Input.{NoLength, FrameBreaksOff, IsTooLongFrame}
use Rattle.serve.specs.Answers.{answer_frame}
use Rattle.serve.specs.Reads.{AsksOnlyToRead}
use Rattle.serve.specs.HeldAnswers.{HandsAllOver, RefusesHeld, RefusesNext}
use Rattle.serve.specs.Serving.{Exchange, requests, answer_bytes, too_long, Serving, streams, Serves, IsUnanswered, Less, PastLimit, NotPerformed}
use Rattle.serve.specs.Answering.{outgoing, FailsOne, Finishes, RefusesLength}
use Rattle.serve.specs.declared.fault.ServeFault.{ServeFault}
use Rattle.serve.specs.declared.fault.ServeFault.TheVariants.{Input, Output, Memory}
use Rattle.serve.proofs.InputLemmas.{gives_on, gives_none}
use Rattle.serve.proofs.ServingLemmas.{AllRead, HasServed, answers_both, requests_both, requests_then, taken_too, behind_all, join}
use Rattle.serve.proofs.HeldLemmas.{held_ends_in, reads_behind}

module _ {S : Type 0} (shown : Shown S) (keeps_open : S → ℕ → Bool) (a b c : Source) (x y z : Option (List ℕ)) (held after : List ℕ) (old between new : Files S) (made : ℕ)
    (had : HasServed shown keeps_open (streams a b x y) held old between made) where
  -- the writer refused what was held: perhaps one more request was performed, which only reads
  refused : (others : List Exchange) (more : List ℕ) → Serving shown keeps_open between others new → AllRead others → IsUnanswered more
      → GivesBytes b c (requests others ++ more) → RefusesHeld y z held → Serves shown keeps_open (streams a c x z) old new (Err Output)
  refused others more serving reads unanswered gives (some, (front, rest, is, took)) =
      let at = held_ends_in held had.kept front rest had.held_is some is in
      let every : List Exchange = (had.taken ++ had.kept) ++ others in
      record {
        exchanges = every;
        serving = join shown keeps_open (had.taken ++ had.kept) others old between new had.serving serving;
        read = requests every ++ more;
        written = answer_bytes (had.taken ++ at.taken) ++ at.part;
        gives = gives_on a b c (requests (had.taken ++ had.kept)) (requests others ++ more) (requests every ++ more) had.gives gives
            (ap (λ (l : List ℕ). l ++ more) (requests_both (had.taken ++ had.kept) others) ∙ append_assoc (requests (had.taken ++ had.kept)) (requests others) more);
        appends = subst (λ (l : List ℕ). Appends x z l)
            (ap (λ (l : List ℕ). answer_bytes had.taken ++ l) at.front_is ∙ sym (append_assoc (answer_bytes had.taken) (answer_bytes at.taken) at.part) ∙ ap (λ (l : List ℕ). l ++ at.part) (sym (answers_both had.taken at.taken)))
            (Appends-trans x y z (answer_bytes had.taken) front had.appends took);
        ends = inr (inl (record {
          before = had.taken ++ at.taken;
          failed = at.failed;
          behind = at.behind ++ others;
          are = ap (λ (l : List Exchange). (had.taken ++ l) ++ others) at.are ∙ append_assoc had.taken (at.taken ++ at.failed ∷ at.behind) others
              ∙ ap (λ (l : List Exchange). had.taken ++ l) (append_assoc at.taken (at.failed ∷ at.behind) others) ∙ sym (append_assoc had.taken at.taken (at.failed ∷ (at.behind ++ others)));
          reads = All-append (λ (e : Exchange). AsksOnlyToRead e.body) (at.failed ∷ at.behind) others (reads_behind at.taken (at.failed ∷ at.behind) (subst AllRead at.are had.reads)) reads;
          front = at.part;
          rest = at.rest;
          frame = at.frame;
          more = more;
          unanswered = unanswered;
          read_is = refl;
          written_is = refl;
        }));
      }

  -- the writer refused an answer that was not held
  answer_refused : (e : Exchange) (front rest : List ℕ) → Serving shown keeps_open between (e ∷ []) new → GivesBytes b c (framed e.body) → answer_frame e.told ≡ front ++ rest → Appends y z (held ++ front)
      → Serves shown keeps_open (streams a c x z) old new (Err Output)
  answer_refused e front rest serving gives is took = record {
    exchanges = (had.taken ++ had.kept) ++ e ∷ [];
    serving = join shown keeps_open (had.taken ++ had.kept) (e ∷ []) old between new had.serving serving;
    read = requests ((had.taken ++ had.kept) ++ e ∷ []);
    written = answer_bytes (had.taken ++ had.kept) ++ front;
    gives = requests_then a b c (had.taken ++ had.kept) e had.gives gives;
    appends = behind_all x y z had.taken had.kept held front had.held_is had.appends took;
    ends = inl (record { before = had.taken ++ had.kept; last = e; are = refl; front = front; rest = rest; frame = is; read_is = refl; written_is = refl });
  }

  pub one_failed : (body : List ℕ) → GivesBytes b c (framed body) → FailsOne shown keeps_open body (outgoing y z held after) between new → Serves shown keeps_open (streams a c x z) old new (Err Output)
  one_failed body gives (inl (held_refused, same)) = refused [] (framed body) same (All-nil (λ (e : Exchange). AsksOnlyToRead e.body)) (NotPerformed body) gives held_refused
  one_failed body gives (inr (told, answer, inl (reads, held_refused))) =
      let e : Exchange = record { body = body; told = told } in
      refused (e ∷ []) [] (new, answer, refl) (All-cons (λ (e : Exchange). AsksOnlyToRead e.body) e [] reads (All-nil (λ (e : Exchange). AsksOnlyToRead e.body))) (Less [] (NoLength [] (omega arith)))
      (subst (λ (l : List ℕ). GivesBytes b c l) (sym (append-nil (framed body ++ []) ∙ append-nil (framed body))) gives) held_refused
  one_failed body gives (inr (told, answer, inr (front, rest, is, took))) = answer_refused (record { body = body; told = told }) front rest (new, answer, refl) gives is took

-- no request was answered since
module _ {S : Type 0} (shown : Shown S) (keeps_open : S → ℕ → Bool) (a b c : Source) (x y z : Option (List ℕ)) (held after : List ℕ) (old new : Files S) (made : ℕ)
    (had : HasServed shown keeps_open (streams a b x y) held old new made) where
  -- the writer refused what was held, and this was read
  pub held_refused : (more : List ℕ) → IsUnanswered more → GivesBytes b c more → RefusesHeld y z held → Serves shown keeps_open (streams a c x z) old new (Err Output)
  held_refused more unanswered gives is = refused shown keeps_open a b c x y z held after old new new made had [] more refl (All-nil (λ (e : Exchange). AsksOnlyToRead e.body)) unanswered gives is

  length_refused : (size : ℕ) → 8192 < size → GivesBytes b c (big_bytes 2 size) → Appends y z (held ++ too_long) → Serves shown keeps_open (streams a c x z) old new (Ok tt)
  length_refused size past gives took = record {
    exchanges = had.taken ++ had.kept;
    serving = had.serving;
    read = requests (had.taken ++ had.kept) ++ big_bytes 2 size;
    written = answer_bytes (had.taken ++ had.kept) ++ too_long;
    gives = gives_on a b c (requests (had.taken ++ had.kept)) (big_bytes 2 size) _ had.gives gives refl;
    appends = behind_all x y z had.taken had.kept held too_long had.held_is had.appends took;
    ends = inr (record { size = size; past = past; read_is = refl; written_is = refl });
  }

  refusal_refused : (size : ℕ) → 8192 < size → GivesBytes b c (big_bytes 2 size) → RefusesNext y z held too_long → Serves shown keeps_open (streams a c x z) old new (Err Output)
  refusal_refused size past gives (front, rest, is, took) = record {
    exchanges = had.taken ++ had.kept;
    serving = had.serving;
    read = requests (had.taken ++ had.kept) ++ big_bytes 2 size;
    written = answer_bytes (had.taken ++ had.kept) ++ front;
    gives = gives_on a b c (requests (had.taken ++ had.kept)) (big_bytes 2 size) _ had.gives gives refl;
    appends = behind_all x y z had.taken had.kept held front had.held_is had.appends took;
    ends = inr (inr (record { size = size; past = past; front = front; rest = rest; frame = is; read_is = refl; written_is = refl }));
  }

  pub length_told : (result : Result Unit ServeFault) → IsTooLongFrame b c → RefusesLength y z held result → Serves shown keeps_open (streams a c x z) old new result
  length_told (Ok _) (size, past, gives) took = length_refused size past gives took
  length_told (Err Input) long none = absurd none
  length_told (Err Output) (size, past, gives) (inl is) = held_refused (big_bytes 2 size) (PastLimit size past) gives is
  length_told (Err Output) (size, past, gives) (inr is) = refusal_refused size past gives is
  length_told (Err Memory) long none = absurd none

  ended : FrameBreaksOff b c → HasEnded c → HandsAllOver y z held after → Serves shown keeps_open (streams a c x z) old new (Ok tt)
  ended (cut, is_cut, gives) at_end (took, none) = record {
    exchanges = had.taken ++ had.kept;
    serving = had.serving;
    read = requests (had.taken ++ had.kept) ++ cut;
    written = answer_bytes (had.taken ++ had.kept);
    gives = gives_on a b c (requests (had.taken ++ had.kept)) cut _ had.gives gives refl;
    appends = taken_too x y z had.taken had.kept held had.held_is had.appends took;
    ends = inl (record { cut = cut; is_cut = is_cut; read_is = refl; ended = at_end; written_is = refl });
  }

  failed : FrameBreaksOff b c → HasFailed c ⊎ (2 ^ 64 - 1 ≤ length (had.taken ++ had.kept)) → HandsAllOver y z held after → Serves shown keeps_open (streams a c x z) old new (Err Input)
  failed (cut, is_cut, gives) why (took, none) = record {
    exchanges = had.taken ++ had.kept;
    serving = had.serving;
    read = requests (had.taken ++ had.kept) ++ cut;
    written = answer_bytes (had.taken ++ had.kept);
    gives = gives_on a b c (requests (had.taken ++ had.kept)) cut _ had.gives gives refl;
    appends = taken_too x y z had.taken had.kept held had.held_is had.appends took;
    ends = record { cut = cut; is_cut = is_cut; read_is = refl; why = why; written_is = refl };
  }

  -- what was held is refused, or handed over and this is the end
  finished : (end result : Result Unit ServeFault) → FrameBreaksOff b c → (HandsAllOver y z held after → Serves shown keeps_open (streams a c x z) old new end)
      → Finishes end (outgoing y z held after) result → Serves shown keeps_open (streams a c x z) old new result
  finished end result broken on (inl (is, over)) = subst (λ (r : Result Unit ServeFault). Serves shown keeps_open (streams a c x z) old new r) (sym is) (on over)
  finished end result (cut, is_cut, gives) on (inr (is, refusal)) =
      subst (λ (r : Result Unit ServeFault). Serves shown keeps_open (streams a c x z) old new r) (sym is) (held_refused cut (Less cut is_cut) gives refusal)

  pub input_ended : (result : Result Unit ServeFault) → FrameBreaksOff b c → HasEnded c → Finishes (Ok tt) (outgoing y z held after) result → Serves shown keeps_open (streams a c x z) old new result
  input_ended result broken at_end is = finished (Ok tt) result broken (ended broken at_end) is

  pub read_failed : (result : Result Unit ServeFault) → FrameBreaksOff b c → HasFailed c → Finishes (Err Input) (outgoing y z held after) result → Serves shown keeps_open (streams a c x z) old new result
  read_failed result broken at_fault is = finished (Err Input) result broken (failed broken (inl at_fault)) is

-- more requests than are counted
pub worn_out : {S : Type 0} (shown : Shown S) (keeps_open : S → ℕ → Bool) (a b : Source) (x y z : Option (List ℕ)) (held after : List ℕ) (old new : Files S) (made : ℕ)
    (had : HasServed shown keeps_open (streams a b x y) held old new made) → 2 ^ 64 - 1 ≤ made → (result : Result Unit ServeFault) → Finishes (Err Input) (outgoing y z held after) result
    → Serves shown keeps_open (streams a b x z) old new result
worn_out shown keeps_open a b x y z held after old new made had all result is =
    let nothing : FrameBreaksOff b b = ([], NoLength [] (omega arith), gives_none b) in
    finished shown keeps_open a b b x y z held after old new made had (Err Input) result nothing
    (failed shown keeps_open a b b x y z held after old new made had nothing (inr (let few = had.counted in omega arith))) is
