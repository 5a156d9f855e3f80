-- No product is above 1, so the list begins empty.
use Rattle.std.proofs.Common.{◌≡◌, refl, rules}
use Rattle.multinomial_bounds.specs.Bounds.{certainty}
use Rattle.sub_isotopologues.specs.Listings.{listing_of}
use Rattle.sub_isotopologues.proofs.KeptLists.{items_of-certainty, listed-none}
use Rattle.sub_isotopologues.proofs.sub_isos.SubIsos.start.Goals as goal

pub invariant_of-result : goal.invariant_of-result
invariant_of-result c =
    let after : c.in_ok-to_vec.field-0.items ≡ c.args.others.after.now = search rules in
    rw (after, c.in_ok-start.ensures)
    (listed-none (listing_of c.args.weights.now c.args.atoms c.args.others.before c.args.others.after.now certainty) _
    c.requires.weights_in_range c.requires.others_in_range refl refl)

pub returns-clause-empty : goal.returns-clause-empty
returns-clause-empty c =
    let after : c.in_ok-to_vec.field-0.items ≡ c.args.others.after.now = search rules in
    rw (after, c.in_ok-start.ensures)
    (items_of-certainty (listing_of c.args.weights.now c.args.atoms c.args.others.before c.args.others.after.now
    certainty)
    c.requires.weights_in_range c.requires.others_in_range refl)
