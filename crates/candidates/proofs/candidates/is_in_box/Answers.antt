use Rattle.std.proofs.Common.{true, sym, ap, ◌∙◌}
use Rattle.candidates.specs.PeakFormulas.{items_of}
use Rattle.candidates.specs.Tokens.{has_only, fits}
use Rattle.candidates.proofs.TokenCounts.{box-tested}
use Rattle.candidates.proofs.candidates.is_in_box.Goals as goal

pub returns-then-has_only-clause-in_box : goal.returns-then-has_only-clause-in_box
returns-then-has_only-clause-in_box c =
    let alphabet = c.args.alphabet.now in
    let formula = c.args.formula.now in
    box-tested alphabet formula true c.fits.result
    (sym c.if-has_only.true ∙ c.has_only.ensures.only ∙ ap (λ items. has_only items formula) c.items-items.ensures.items)
    (c.fits.ensures ∙ ap (λ items. fits items c.limits.result.now formula) c.items-items.ensures.items
    ∙ ap (λ limits. fits (items_of alphabet) limits formula) c.limits.ensures.limits)
