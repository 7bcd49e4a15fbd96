-- Requests that were answered, and then one more.
use Rattle.std.proofs.Common.{◌≡◌, Bool, ◌≤◌, ◌+◌, inl, inr, ℕ, length, length-append, arith, List, [], ◌∷◌, ◌++◌, All, Option, refl, sym, ap, subst, ◌∙◌, append_assoc, append-nil}
use Rattle.std.proofs.lemmas.Grind.{flat_map-append}
use Rattle.std.proofs.lemmas.List.Elements.{All-nil, All-cons, All-append}
use Rattle.std.specs.Io.KnownBytes.{Appends}
use Rattle.std.proofs.KnownBytes.{Appends-nil, Appends-trans}
use Rattle.indexed_file.specs.Shown.{Shown}
use Rattle.serve.specs.Answer.{framed}
use Rattle.serve.specs.Files.{Files}
use Rattle.streams.specs.Source.{Source, GivesBytes}
use Rattle.serve.specs.Answers.{answer_frame}
use Rattle.serve.specs.Reads.{AsksOnlyToRead}
use Rattle.serve.specs.HeldAnswers.{HandsAllOver, MakesWayForInput}
use Rattle.serve.specs.Serving.{Exchange, requests, answer_bytes, Serving, Streams, streams}
use Rattle.serve.specs.Answering.{outgoing, AnswersAs, SendsAnswer}
use Rattle.serve.proofs.InputLemmas.{gives_on, gives_none}

abbrev pub AllRead : List Exchange → Type 0
AllRead exchanges = All (λ e. AsksOnlyToRead e.body) exchanges

-- requests were answered so far, so many at least: the writer took the answers to the first ones, and those to the others, which only read, are held
pub record HasServed {S : Type 0} (shown : Shown S) (keeps_open : S → ℕ → Bool) (s : Streams) (held : List ℕ) (old new : Files S) (made : ℕ) : Type 0 where
  pub taken : List Exchange
  pub kept : List Exchange
  pub serving : Serving shown keeps_open old (taken ++ kept) new
  pub gives : GivesBytes s.input s.input_after (requests (taken ++ kept))
  pub appends : Appends s.output s.output_after (answer_bytes taken)
  pub held_is : held ≡ answer_bytes kept
  pub reads : AllRead kept
  pub counted : made ≤ length (taken ++ kept)

pub answers_both : (es more : List Exchange) → answer_bytes (es ++ more) ≡ answer_bytes es ++ answer_bytes more
answers_both es more = flat_map-append (λ e. answer_frame e.told) es more

pub requests_both : (es more : List Exchange) → requests (es ++ more) ≡ requests es ++ requests more
requests_both es more = flat_map-append (λ e. framed e.body) es more

pub answer_alone : (e : Exchange) → answer_frame e.told ≡ answer_bytes (e ∷ [])
answer_alone e = sym (append-nil (answer_frame e.told))

pub requests_then : (a b c : Source) (es : List Exchange) (e : Exchange) → GivesBytes a b (requests es) → GivesBytes b c (framed e.body) → GivesBytes a c (requests (es ++ e ∷ []))
requests_then a b c es e first then =
    gives_on a b c (requests es) (framed e.body) (requests (es ++ e ∷ [])) first then
    (requests_both es (e ∷ []) ∙ ap (λ l. requests es ++ l) (append-nil (framed e.body)))

-- the answers to these too
pub taken_too : (x y z : Option (List ℕ)) (es more : List Exchange) (bytes : List ℕ) → bytes ≡ answer_bytes more → Appends x y (answer_bytes es) → Appends y z bytes → Appends x z (answer_bytes (es ++ more))
taken_too x y z es more bytes is first then =
    subst (λ (l : List ℕ). Appends x z l) (sym (answers_both es more)) (Appends-trans x y z (answer_bytes es) (answer_bytes more) first (subst (λ (l : List ℕ). Appends y z l) is then))

pub behind_all : (x y z : Option (List ℕ)) (es more : List Exchange) (held front : List ℕ) → held ≡ answer_bytes more → Appends x y (answer_bytes es) → Appends y z (held ++ front)
    → Appends x z (answer_bytes (es ++ more) ++ front)
behind_all x y z es more held front is first then =
    subst (λ (l : List ℕ). Appends x z l)
    (ap (λ (l : List ℕ). answer_bytes es ++ (l ++ front)) is ∙ sym (append_assoc (answer_bytes es) (answer_bytes more) front) ∙ ap (λ (l : List ℕ). l ++ front) (sym (answers_both es more)))
    (Appends-trans x y z (answer_bytes es) (held ++ front) first then)

module _ {S : Type 0} (shown : Shown S) (keeps_open : S → ℕ → Bool) where
  pub join : (es more : List Exchange) (old between new : Files S) → Serving shown keeps_open old es between → Serving shown keeps_open between more new → Serving shown keeps_open old (es ++ more) new
  join [] more old between new first then = subst (λ (from : Files S). Serving shown keeps_open from more new) first then
  join (e ∷ es) more old between new (mid, one, rest) then = (mid, one, join es more mid between new rest then)

  -- no request so far
  pub begins_served : (a : Source) (x : Option (List ℕ)) (held : List ℕ) (files : Files S) → held ≡ [] → HasServed shown keeps_open (streams a a x x) held files files 0
  begins_served a x held files none = record {
    taken = [];
    kept = [];
    serving = refl;
    gives = gives_none a;
    appends = Appends-nil x;
    held_is = none;
    reads = All-nil (λ (e : Exchange). AsksOnlyToRead e.body);
    counted = omega arith;
  }

  module _ (a b : Source) (x y z : Option (List ℕ)) (held after : List ℕ) (old new : Files S) (made : ℕ) (had : HasServed shown keeps_open (streams a b x y) held old new made) where
    -- all that was held is handed over
    handed : HandsAllOver y z held after → HasServed shown keeps_open (streams a b x z) after old new made
    handed (took, none) = record {
      taken = had.taken ++ had.kept;
      kept = [];
      serving = subst (λ (es : List Exchange). Serving shown keeps_open old es new) (sym (append-nil (had.taken ++ had.kept))) had.serving;
      gives = subst (λ (es : List Exchange). GivesBytes a b (requests es)) (sym (append-nil (had.taken ++ had.kept))) had.gives;
      appends = taken_too x y z had.taken had.kept held had.held_is had.appends took;
      held_is = none;
      reads = All-nil (λ (e : Exchange). AsksOnlyToRead e.body);
      counted = subst (λ (es : List Exchange). made ≤ length es) (sym (append-nil (had.taken ++ had.kept))) had.counted;
    }

    pub way_made : (ahead : List ℕ) → MakesWayForInput ahead y z held after → HasServed shown keeps_open (streams a b x z) after old new made
    way_made ahead (inl (whole, kept, same)) = record {
      taken = had.taken;
      kept = had.kept;
      serving = had.serving;
      gives = had.gives;
      appends = subst (λ (l : List ℕ). Appends x z l) (append-nil (answer_bytes had.taken)) (Appends-trans x y z (answer_bytes had.taken) [] had.appends kept);
      held_is = same ∙ had.held_is;
      reads = had.reads;
      counted = had.counted;
    }
    way_made ahead (inr over) = handed over

  module _ (a b c : Source) (x y z : Option (List ℕ)) (held after : List ℕ) (old between new : Files S) (made : ℕ) (had : HasServed shown keeps_open (streams a b x y) held old between made) where
    -- one more: of all requests the writer took the answers to the first ones
    more : (e : Exchange) (taken kept : List Exchange) → taken ++ kept ≡ (had.taken ++ had.kept) ++ e ∷ [] → Serving shown keeps_open between (e ∷ []) new → GivesBytes b c (framed e.body)
        → Appends x z (answer_bytes taken) → after ≡ answer_bytes kept → AllRead kept → HasServed shown keeps_open (streams a c x z) after old new (made + 1)
    more e taken kept are serving gives took is reads = record {
      taken = taken;
      kept = kept;
      serving = subst (λ (es : List Exchange). Serving shown keeps_open old es new) (sym are) (join (had.taken ++ had.kept) (e ∷ []) old between new had.serving serving);
      gives = subst (λ (es : List Exchange). GivesBytes a c (requests es)) (sym are) (requests_then a b c (had.taken ++ had.kept) e had.gives gives);
      appends = took;
      held_is = is;
      reads = reads;
      counted =
          let few = had.counted in
          let long = length-append (had.taken ++ had.kept) (e ∷ []) in
          let same = ap (λ (es : List Exchange). length es) are in omega arith;
    }

    pub one_more : (body : List ℕ) → GivesBytes b c (framed body) → AnswersAs shown keeps_open body (SendsAnswer body (outgoing y z held after)) between new → HasServed shown keeps_open (streams a c x z) after old new (made + 1)
    one_more body gives (told, answer, inl (reads, inl (kept, is))) =
        let e : Exchange = record { body = body; told = told } in
        more e had.taken (had.kept ++ e ∷ []) (sym (append_assoc had.taken had.kept (e ∷ []))) (new, answer, refl) gives
        (subst (λ (l : List ℕ). Appends x z l) (append-nil (answer_bytes had.taken)) (Appends-trans x y z (answer_bytes had.taken) [] had.appends kept))
        (is ∙ (λ i. had.held_is i ++ answer_alone e i) ∙ sym (answers_both had.kept (e ∷ [])))
        (All-append (λ (e : Exchange). AsksOnlyToRead e.body) had.kept (e ∷ []) had.reads (All-cons (λ (e : Exchange). AsksOnlyToRead e.body) e [] reads (All-nil (λ (e : Exchange). AsksOnlyToRead e.body))))
    one_more body gives (told, answer, inl (reads, inr (took, is))) =
        let e : Exchange = record { body = body; told = told } in
        more e (had.taken ++ had.kept) (e ∷ []) refl (new, answer, refl) gives
        (taken_too x y z had.taken had.kept held had.held_is had.appends took)
        (is ∙ answer_alone e)
        (All-cons (λ (e : Exchange). AsksOnlyToRead e.body) e [] reads (All-nil (λ (e : Exchange). AsksOnlyToRead e.body)))
    one_more body gives (told, answer, inr (took, none)) =
        let e : Exchange = record { body = body; told = told } in
        let all : List Exchange = had.kept ++ e ∷ [] in
        more e (had.taken ++ all) [] (append-nil (had.taken ++ all) ∙ sym (append_assoc had.taken had.kept (e ∷ []))) (new, answer, refl) gives
        (taken_too x y z had.taken all (held ++ answer_frame told) ((λ i. had.held_is i ++ answer_alone e i) ∙ sym (answers_both had.kept (e ∷ []))) had.appends took)
        none
        (All-nil (λ (e : Exchange). AsksOnlyToRead e.body))
