use Rattle.std.proofs.Common.{◌≡◌, take, map, flat_map, string_bytes, All}
use Rattle.cobol_program.specs.Layout.{laid, FitsLine}
use Rattle.cobol_program.proofs.lines.laid_out.Given as goal

-- the lines so far, and that each fits
abbrev pub invariant-loop-line : goal.invariant-loop-line
invariant-loop-line l =
    (string_bytes l.text ≡ flat_map (laid l.form) (map (λ line. line.bytes) (take l.line-index l.lines)))
    × All FitsLine (map (λ line. line.bytes) (take l.line-index l.lines))
