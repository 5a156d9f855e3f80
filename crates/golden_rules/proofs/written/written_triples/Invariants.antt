use Rattle.std.proofs.Common.{◌≡◌, ◌++◌, length, map, option_map}
use Rattle.golden_rules.specs.RuleLines.{written_triples}
use Rattle.golden_rules.proofs.written.written_triples.Given as goal

-- the triples read and those of the words that are left are the triples of all words
abbrev pub invariant-loop-left : goal.invariant-loop-left
invariant-loop-left l =
    option_map (λ rest. l.triples.items ++ rest) (written_triples (map (λ word. word.now) l.left))
    ≡ written_triples (map (λ word. word.now) l.fn.words)

abbrev pub decreases-loop-left : goal.decreases-loop-left
decreases-loop-left l = length l.left
