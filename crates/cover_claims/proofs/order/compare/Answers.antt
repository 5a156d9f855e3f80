-- Counts in a row compare as the counts of each element do.
use Rattle.std.proofs.Common.{◌≡◌, ℕ, List, sym, ap, ◌∙◌}
use Rattle.std.specs.Ordering.{nat_cmp, ordering_then}
use Rattle.std.specs.declared.cmp.Ordering.TheVariants.{Equal}
use Rattle.std.specs.Cmp.Lexicographic.{slice_cmp}
use Rattle.isotopologue_sets.specs.Layers.{lo_of}
use Rattle.cover_claims.specs.CountsInRow.{counts_by_element}
use Rattle.cover_claims.specs.Claims.{isotopologues_in, member_at}
use Rattle.cover_claims.proofs.Comparison.{cmp_by_element}
use Rattle.cover_claims.proofs.order.compare.Goals as goal

pub returns-in-Equal : goal.returns-in-Equal
returns-in-Equal c =
    let es = c.args.claimed.now.elements in
    let member = member_at (isotopologues_in c.args.claimed.now.members) c.args.place in
    let rows : slice_cmp nat_cmp c.row.result.now c.args.counts.now
    ≡ slice_cmp (slice_cmp nat_cmp) (counts_by_element es c.row.result.now) (counts_by_element es c.args.counts.now) =
    cmp_by_element es c.row.result.now c.args.counts.now c.row.ensures.length c.requires.places in
    let counts : slice_cmp (slice_cmp nat_cmp) (counts_by_element es c.row.result.now) (counts_by_element es c.args.counts.now)
    ≡ slice_cmp (slice_cmp nat_cmp) member (counts_by_element es c.args.counts.now) =
    ap (λ (m : List (List ℕ)). slice_cmp (slice_cmp nat_cmp) m (counts_by_element es c.args.counts.now))
    c.row.ensures.counts in
    let equal : nat_cmp c.args.lo (lo_of es member) ≡ Equal =
    ap (nat_cmp c.args.lo) (sym c.enclosure.ensures.lo) ∙ sym c.cmp.ensures ∙ c.in-Equal.is in
    c.cmp-in-Equal.ensures ∙ rows ∙ counts
    ∙ ap (λ o. ordering_then o (slice_cmp (slice_cmp nat_cmp) member (counts_by_element es c.args.counts.now))) (sym equal)
