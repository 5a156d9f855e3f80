use Rattle.std.proofs.Common.{sym, ◌∙◌, []}
use Rattle.golden_rules.proofs.TripleWords.{triples-more, triples-short}
use Rattle.golden_rules.proofs.written.written_triples.Goals as goal

pub loop-left-preserved : goal.loop-left-preserved
loop-left-preserved c =
    triples-more (λ word. word.now) c.loop-left.left.now (record { ref_ptr = (0, 0); now = [] })
    c.loop-left.triples.items _ c.in-Some.triple _
    c.in-len3-up.len_at_least c.loop-left.invariant (sym c.written_triple.ensures ∙ c.in-Some.is)
    c.in_ok-push-in-Some.ensures.items

pub returns-else-is_empty : goal.returns-else-is_empty
returns-else-is_empty c =
    triples-short (λ word. word.now) c.loop-left.left.now c.loop-left.triples.items _
    c.in_default.len_below (c.if-is_empty.ensures) c.loop-left.invariant
