-- Statements with their places, behind others.
use Rattle.std.proofs.Common.{◌≡◌, ℕ, ◌+◌, List, [], ◌∷◌, ◌++◌, length, map, refl, sym, ap, ◌∙◌, arith, length-append}
use Rattle.std.proofs.lemmas.List.{append-nil, append_assoc}
use Rattle.deck_reader.specs.declared.placed.PlacedStatements.{PlacedStatements}
use Rattle.deck_reader.specs.declared.statement.Statement.{Statement}
use Rattle.deck_reader.specs.StatementPlaces.{Paragraph}
use Rattle.deck_reader.specs.Placed.{with_places, nothing_placed, placed_statement, placed_paragraph, paragraph_behind, placed_behind}

-- ---- one more

pub one_more_statement : (before : PlacedStatements) (line : ℕ) (statement : Statement) → placed_behind before (placed_statement line statement) ≡ with_places (before.statements ++ statement ∷ []) (before.places.lines ++ line ∷ []) before.places.paragraphs
one_more_statement before line statement =
    ap (λ (ps : List Paragraph). with_places (before.statements ++ statement ∷ []) (before.places.lines ++ line ∷ []) ps) (append-nil before.places.paragraphs)

pub one_more_paragraph : (before : PlacedStatements) (line : ℕ) (name : List ℕ) → placed_behind before (placed_paragraph line name) ≡ with_places before.statements before.places.lines (before.places.paragraphs ++ record { name = name; line = line; at = length before.statements } ∷ [])
one_more_paragraph before line name =
    let at : length before.statements + 0 ≡ length before.statements = omega arith in
    rw (append-nil before.statements, append-nil before.places.lines, at) refl

-- ---- some behind others

-- paragraphs behind some statements, and then behind others
behind_both : (n m : ℕ) (ps : List Paragraph) → map (paragraph_behind n) (map (paragraph_behind m) ps) ≡ map (paragraph_behind (n + m)) ps
behind_both n m [] = refl
behind_both n m (p ∷ ps) =
    let at : n + (m + p.at) ≡ (n + m) + p.at = omega arith in
    ap (λ (k : ℕ). record { name = p.name; line = p.line; at = k } ∷ map (paragraph_behind n) (map (paragraph_behind m) ps)) at
    ∙ ap (λ (qs : List Paragraph). paragraph_behind (n + m) p ∷ qs) (behind_both n m ps)

-- those of two lists
behind_lists : (n : ℕ) (ps qs : List Paragraph) → map (paragraph_behind n) (ps ++ qs) ≡ map (paragraph_behind n) ps ++ map (paragraph_behind n) qs
behind_lists n [] qs = refl
behind_lists n (p ∷ ps) qs = ap (λ (rs : List Paragraph). paragraph_behind n p ∷ rs) (behind_lists n ps qs)

-- paragraphs behind no statements
behind_none : (ps : List Paragraph) → map (paragraph_behind 0) ps ≡ ps
behind_none [] = refl
behind_none (p ∷ ps) =
    let at : 0 + p.at ≡ p.at = omega arith in
    ap (λ (k : ℕ). record { name = p.name; line = p.line; at = k } ∷ map (paragraph_behind 0) ps) at ∙ ap (λ (qs : List Paragraph). p ∷ qs) (behind_none ps)

pub nothing_behind : (after : PlacedStatements) → placed_behind nothing_placed after ≡ after
nothing_behind after = ap (λ (ps : List Paragraph). with_places after.statements after.places.lines ps) (behind_none after.places.paragraphs)

pub behind_nothing : (before : PlacedStatements) → placed_behind before nothing_placed ≡ before
behind_nothing before = rw (append-nil before.statements, append-nil before.places.lines, append-nil before.places.paragraphs) refl

pub behind_assoc : (a b c : PlacedStatements) → placed_behind (placed_behind a b) c ≡ placed_behind a (placed_behind b c)
behind_assoc a b c =
    let n = length a.statements in
    let m = length b.statements in
    let many : length (a.statements ++ b.statements) ≡ n + m = length-append a.statements b.statements in
    let behind = map (paragraph_behind n) b.places.paragraphs in
    let last : map (paragraph_behind (length (a.statements ++ b.statements))) c.places.paragraphs ≡ map (paragraph_behind n) (map (paragraph_behind m) c.places.paragraphs) =
    ap (λ (k : ℕ). map (paragraph_behind k) c.places.paragraphs) many ∙ sym (behind_both n m c.places.paragraphs) in
    let paragraphs = append_assoc a.places.paragraphs behind (map (paragraph_behind (length (a.statements ++ b.statements))) c.places.paragraphs)
    ∙ (ap (λ (ps : List Paragraph). a.places.paragraphs ++ (behind ++ ps)) last ∙ ap (λ (ps : List Paragraph). a.places.paragraphs ++ ps) (sym (behind_lists n b.places.paragraphs (map (paragraph_behind m) c.places.paragraphs)))) in
    let statements = append_assoc a.statements b.statements c.statements in
    let lines = append_assoc a.places.lines b.places.lines c.places.lines in
    λ j. with_places (statements j) (lines j) (paragraphs j)
