-- Lines that are held, and those that come behind them.
use Rattle.std.proofs.Common.{◌≡◌, ◌<◌, ℕ, ◌+◌, List, [], ◌∷◌, ◌++◌, All, length, flat_map, Option, IsTrue, refl, sym, ap, ◌∙◌, subst, inl, inr, append_assoc, append-nil, length-append, arith}
use Rattle.std.specs.Io.KnownBytes.{Appends}
use Rattle.std.proofs.KnownBytes.{Appends-trans}
use Rattle.std.proofs.lemmas.Grind.{flat_map-append}
use Rattle.std.proofs.lemmas.List.Elements.{All-nil, All-cons, All-append, All-tail}
use Rattle.io_state.specs.declared.statement.FileStatement.{FileStatement}
use Rattle.deck_runner.specs.Line.{Line, transcript_line}
use Rattle.streams.specs.Output.{AppendsFront, AddsText}
use Rattle.deck_runner.specs.Reads.{only_reads, IsOfReading}
use Rattle.deck_runner.proofs.FrontLemmas.{cut}
use Rattle.deck_runner.specs.HeldLines.{MakesWay, SoFar, so_far, ReadBehindFirst, AreHeld, GoOut, AreRefused}

-- ---- the lines that are held

pub none_held : (held : List ℕ) → held ≡ [] → AreHeld held []
none_held held none = record { text = none; reads = tt }

one_held : (held : List ℕ) (line : Line) → held ≡ transcript_line line → AreHeld held (line ∷ [])
one_held held line is = record { text = is ∙ sym (append-nil (transcript_line line)); reads = All-nil IsOfReading }

reads_more : (lines : List Line) (line : Line) → ReadBehindFirst lines → IsOfReading line → ReadBehindFirst (lines ++ line ∷ [])
reads_more [] line all reads = All-nil IsOfReading
reads_more (first ∷ lines) line all reads = All-append IsOfReading lines (line ∷ []) all (All-cons IsOfReading line [] reads (All-nil IsOfReading))

one_more_held : (held after : List ℕ) (lines : List Line) (line : Line) → AreHeld held lines → after ≡ held ++ transcript_line line → IsOfReading line → AreHeld after (lines ++ line ∷ [])
one_more_held held after lines line are is reads = record {
  text = is ∙ ap (λ (l : List ℕ). l ++ transcript_line line) are.text ∙ ap (λ (l : List ℕ). flat_map transcript_line lines ++ l) (sym (append-nil (transcript_line line))) ∙ sym (flat_map-append transcript_line lines (line ∷ []));
  reads = reads_more lines line are.reads reads;
}

-- ---- where a writer stops among them

-- a front of the text of lines: of the first ones, and a proper front of the next
record IsCut (lines : List Line) (front : List ℕ) : Type 0 where
  taken : List Line
  failed : Line
  behind : List Line
  part : List ℕ
  rest : List ℕ
  lines_are : lines ≡ taken ++ failed ∷ behind
  text : transcript_line failed ≡ part ++ rest
  some : 0 < length rest
  front_is : front ≡ flat_map transcript_line taken ++ part

abbrev Cuts : List Line → Type 0
Cuts lines = (front rest : List ℕ) → flat_map transcript_line lines ≡ front ++ rest → 0 < length rest → IsCut lines front

cut_behind : (line : Line) (lines : List Line) (front more : List ℕ) → front ≡ transcript_line line ++ more → IsCut lines more → IsCut (line ∷ lines) front
cut_behind line lines front more is next = record {
  taken = line ∷ next.taken;
  failed = next.failed;
  behind = next.behind;
  part = next.part;
  rest = next.rest;
  lines_are = ap (λ (l : List Line). line ∷ l) next.lines_are;
  text = next.text;
  some = next.some;
  front_is = is ∙ ap (λ (l : List ℕ). transcript_line line ++ l) next.front_is ∙ sym (append_assoc (transcript_line line) (flat_map transcript_line next.taken) next.part);
}

cut_here : (line : Line) (lines : List Line) (front rest : List ℕ) → Cuts lines → (left : List ℕ) → transcript_line line ≡ front ++ left → rest ≡ left ++ flat_map transcript_line lines → 0 < length rest → IsCut (line ∷ lines) front
cut_here line lines front rest more [] text is some =
    cut_behind line lines front [] (sym (append-nil front) ∙ sym text ∙ sym (append-nil (transcript_line line))) (more [] rest (sym is) some)
cut_here line lines front rest more (byte ∷ left) text is some = record {
  taken = [];
  failed = line;
  behind = lines;
  part = front;
  rest = byte ∷ left;
  lines_are = refl;
  text = text;
  some = omega arith;
  front_is = refl;
}

cuts : (lines : List Line) → Cuts lines
cuts [] front rest e some = absurd (let none : 0 ≡ length front + length rest = ap (λ (l : List ℕ). length l) e ∙ length-append front rest in omega (arith, some, none))
cuts (line ∷ lines) front rest e some =
    elim (cut (transcript_line line) (flat_map transcript_line lines) front rest e) [
      | inl h ↦ cut_behind line lines front h.0 h.1 (cuts lines h.0 rest h.2 some)
      | inr h ↦ cut_here line lines front rest (cuts lines) h.0 h.1 h.2 some
    ]

pub all_behind : (xs ys : List Line) → All IsOfReading (xs ++ ys) → All IsOfReading ys
all_behind [] ys all = all
all_behind (x ∷ xs) ys all = all_behind xs ys (All-tail IsOfReading x (xs ++ ys) all)

read_behind : (lines taken : List Line) (failed : Line) (behind : List Line) → lines ≡ taken ++ failed ∷ behind → ReadBehindFirst lines → All IsOfReading behind
read_behind lines [] failed behind is reads = subst ReadBehindFirst is reads
read_behind lines (first ∷ taken) failed behind is reads =
    All-tail IsOfReading failed behind (all_behind taken (failed ∷ behind) (subst ReadBehindFirst is reads))

-- a writer that refuses the text that is held refuses one of its lines
pub held_refused : (a b : Option (List ℕ)) (held : List ℕ) (lines : List Line) → AreHeld held lines → AppendsFront a b held → AreRefused a b lines
held_refused a b held lines are front =
    let at = cuts lines front.0 front.1 (sym are.text ∙ front.2) front.3 in
    record {
      taken = at.taken;
      failed = at.failed;
      behind = at.behind;
      front = at.part;
      rest = at.rest;
      lines_are = at.lines_are;
      text = at.text;
      some = at.some;
      appends = subst (λ (l : List ℕ). Appends a b l) at.front_is front.4;
      reads = read_behind lines at.taken at.failed at.behind at.lines_are are.reads;
    }

-- the same, with a line behind that only reads
refused_before : (a b : Option (List ℕ)) (lines : List Line) (line : Line) → AreRefused a b lines → IsOfReading line → AreRefused a b (lines ++ line ∷ [])
refused_before a b lines line is reads = record {
  taken = is.taken;
  failed = is.failed;
  behind = is.behind ++ line ∷ [];
  front = is.front;
  rest = is.rest;
  lines_are = ap (λ (l : List Line). l ++ line ∷ []) is.lines_are ∙ append_assoc is.taken (is.failed ∷ is.behind) (line ∷ []);
  text = is.text;
  some = is.some;
  appends = is.appends;
  reads = All-append IsOfReading is.behind (line ∷ []) is.reads (All-cons IsOfReading line [] reads (All-nil IsOfReading));
}

-- ---- one statement

module _ (a b c : Option (List ℕ)) (old between : List ℕ) (statement : FileStatement) (line : Line) (is : line.statement ≡ statement) where
  reads_too : IsTrue (only_reads statement) → IsOfReading line
  reads_too reads = ap only_reads is ∙ reads

  -- its line goes behind those that are held, or is held alone
  pub line_goes : (new text : List ℕ) → text ≡ transcript_line line → MakesWay a b old between statement → AddsText b c between new text
      → (held : List Line) → AreHeld old held → GoOut (so_far a old) (so_far c new) (held ++ line ∷ [])
  line_goes new text text_is (inl (reads, kept, same)) (inl (added, after)) held are = record {
    taken = [];
    kept = held ++ line ∷ [];
    lines_are = refl;
    appends = Appends-trans a b c [] [] kept added;
    held = one_more_held old new held line are (after ∙ λ i. same i ++ text_is i) (reads_too reads);
  }
  line_goes new text text_is (inl (reads, kept, same)) (inr (taken, after)) held are = record {
    taken = held;
    kept = line ∷ [];
    lines_are = refl;
    appends = subst (λ (l : List ℕ). Appends a c l) (same ∙ are.text) (Appends-trans a b c [] between kept taken);
    held = one_held new line (after ∙ text_is);
  }
  line_goes new text text_is (inr (taken, none)) (inl (added, after)) held are = record {
    taken = held;
    kept = line ∷ [];
    lines_are = refl;
    appends = subst (λ (l : List ℕ). Appends a c l) (append-nil old ∙ are.text) (Appends-trans a b c old [] taken added);
    held = one_held new line (after ∙ λ i. none i ++ text_is i);
  }
  line_goes new text text_is (inr (taken, none)) (inr (added, after)) held are = record {
    taken = held;
    kept = line ∷ [];
    lines_are = refl;
    appends = subst (λ (l : List ℕ). Appends a c l) (ap (λ (l : List ℕ). old ++ l) none ∙ append-nil old ∙ are.text) (Appends-trans a b c old between taken added);
    held = one_held new line (after ∙ text_is);
  }

  -- where the writer refuses a line that was held, the statement was one that only reads
  pub line_behind_refused : MakesWay a b old between statement → AppendsFront b c between → (held : List Line) → AreHeld old held → AreRefused a c (held ++ line ∷ [])
  line_behind_refused (inl (reads, kept, same)) front held are =
      refused_before a c held line (held_refused a c old held are (front.0, front.1, sym same ∙ front.2, front.3, Appends-trans a b c [] front.0 kept front.4)) (reads_too reads)
  line_behind_refused (inr (taken, none)) front held are =
      absurd (let some = front.3 in let no : 0 ≡ length front.0 + length front.1 = ap (λ (l : List ℕ). length l) (sym none ∙ front.2) ∙ length-append front.0 front.1 in omega (arith, some, no))

-- ---- one part of a run behind another

pub go_then : (a b c : SoFar) (held xs ys : List Line) → GoOut a b (held ++ xs) → ((kept : List Line) → AreHeld b.held kept → GoOut b c (kept ++ ys)) → GoOut a c (held ++ (xs ++ ys))
go_then a b c held xs ys first more =
    let next = more first.kept first.held in
    record {
      taken = first.taken ++ next.taken;
      kept = next.kept;
      lines_are = sym (append_assoc held xs ys) ∙ ap (λ (l : List Line). l ++ ys) first.lines_are ∙ append_assoc first.taken first.kept ys
          ∙ ap (λ (l : List Line). first.taken ++ l) next.lines_are ∙ sym (append_assoc first.taken next.taken next.kept);
      appends = rw (flat_map-append transcript_line first.taken next.taken)
          (Appends-trans a.written b.written c.written (flat_map transcript_line first.taken) (flat_map transcript_line next.taken) first.appends next.appends);
      held = next.held;
    }

pub refused_then : (a b : SoFar) (c : Option (List ℕ)) (held xs ys : List Line) → GoOut a b (held ++ xs) → ((kept : List Line) → AreHeld b.held kept → AreRefused b.written c (kept ++ ys))
    → AreRefused a.written c (held ++ (xs ++ ys))
refused_then a b c held xs ys first more =
    let next = more first.kept first.held in
    record {
      taken = first.taken ++ next.taken;
      failed = next.failed;
      behind = next.behind;
      front = next.front;
      rest = next.rest;
      lines_are = sym (append_assoc held xs ys) ∙ ap (λ (l : List Line). l ++ ys) first.lines_are ∙ append_assoc first.taken first.kept ys
          ∙ ap (λ (l : List Line). first.taken ++ l) next.lines_are ∙ sym (append_assoc first.taken next.taken (next.failed ∷ next.behind));
      text = next.text;
      some = next.some;
      appends = rw (flat_map-append transcript_line first.taken next.taken, append_assoc (flat_map transcript_line first.taken) (flat_map transcript_line next.taken) next.front)
          (Appends-trans a.written b.written c (flat_map transcript_line first.taken) (flat_map transcript_line next.taken ++ next.front) first.appends next.appends);
      reads = next.reads;
    }
