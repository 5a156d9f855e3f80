use Rattle.std.proofs.Common.{◌∙◌, sym, ap, ◌∷◌, [], drop, take, length, arith, ◌≡◌, ◌+◌, ◌-◌, List, ℕ}
use Rattle.std.specs.Str.Lines.{lines}
use Rattle.std.proofs.lemmas.Grind.{common_steps}
use Rattle.std.proofs.lemmas.List.{take_rest}
use Rattle.file_lines.proofs.FileLines.{lines-cut, lines-one}
use Rattle.file_lines.proofs.cut.cut_line.Goals as goal

pub returns-in-None-clause-lines : goal.returns-in-None-clause-lines
returns-in-None-clause-lines c =
    let one = lines-one c.args.bytes.now (sym c.line_feed.ensures ∙ c.in-None.is) c.requires in
    let rest : take (length c.args.bytes.now - length c.args.bytes.now)
    (drop (length c.args.bytes.now) c.args.bytes.now) ≡ [] = grind (arith, common_steps) in
    one ∙ ap (λ (rest : List ℕ). c.args.bytes.now ∷ lines rest) (sym rest)

pub returns-in-Some-clause-lines : goal.returns-in-Some-clause-lines
returns-in-Some-clause-lines c =
    let cut = lines-cut c.args.bytes.now c.in-Some.end (sym c.line_feed.ensures ∙ c.in-Some.is) in
    let rest = take_rest c.args.bytes.now (c.in-Some.end + 1) in
    rw (c.without_return.ensures, rest) cut
