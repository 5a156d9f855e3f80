use Rattle.std.proofs.Common.{◌≡◌, ℕ, List, ap, ◌∙◌, arith}
use Rattle.std.specs.List.{concat}
use Rattle.multinomial_bounds.specs.Isotopologue.{Element}
use Rattle.isotopologue_sets.specs.Layers.{mode_of_each}
use Rattle.cover_claims.specs.CountsInRow.{counts_by_element}
use Rattle.cover_claims.specs.Claims.{isotopologues_in, is_member}
use Rattle.cover_claims.proofs.RowLemmas.{length-concat}
use Rattle.cover_claims.proofs.ModeRow.{modes-IsIsotopologue, modes-by_element}
use Rattle.cover_claims.proofs.claim.has_mode.Goals as goal

pub enclosure_of-requires-clause-isotopologue : goal.enclosure_of-requires-clause-isotopologue
enclosure_of-requires-clause-isotopologue c =
    let ok = c.elements-elements.ensures.within_limits.weights in
    rw (c.deref.ensures.value, c.in_ok-row.ensures, c.elements-elements.ensures.value, modes-by_element c.args.claimed.now.elements ok)
    (modes-IsIsotopologue c.args.claimed.now.elements ok)

pub enclosure_of-requires-clause-enough : goal.enclosure_of-requires-clause-enough
enclosure_of-requires-clause-enough c =
    let ok = c.elements-elements.ensures.within_limits.weights in
    let es = c.args.claimed.now.elements in
    let long = length-concat es (mode_of_each es) (modes-IsIsotopologue es ok) in
    rw (c.deref.ensures.value, c.in_ok-row.ensures, c.elements-elements.ensures.value) (omega (arith, long))

pub is_member-requires-clause-places : goal.is_member-requires-clause-places
is_member-requires-clause-places c =
    let ok = c.elements-elements.ensures.within_limits.weights in
    let es = c.args.claimed.now.elements in
    rw (c.deref-2.ensures.value, c.in_ok-row.ensures, c.elements-elements.ensures.value)
    (length-concat es (mode_of_each es) (modes-IsIsotopologue es ok))

pub returns-clause-value : goal.returns-clause-value
returns-clause-value c =
    let ok = c.elements-elements.ensures.within_limits.weights in
    let es = c.args.claimed.now.elements in
    let row : c.deref-2.result.now ≡ concat (mode_of_each es) =
    c.deref-2.ensures.value ∙ c.in_ok-row.ensures
    ∙ ap (λ (ds : List Element). concat (mode_of_each ds)) c.elements-elements.ensures.value in
    c.is_member.ensures
    ∙ ap (λ (xs : List ℕ). is_member (isotopologues_in c.args.claimed.now.members) (counts_by_element es xs)) row
    ∙ ap (is_member (isotopologues_in c.args.claimed.now.members)) (modes-by_element es ok)
