use Rattle.std.proofs.Common.{◌<◌, ◌≤◌, fold, sym, ◌∙◌, ap, subst, arith, All}
use Rattle.std.proofs.lemmas.Result.{err_from_is_err_and}
use Rattle.layered_envelope.specs.Layerings.{end_within_limit}
use Rattle.layered_envelope.proofs.StartedLists.{modes-some, modes-most}
use Rattle.layered_envelope.proofs.RoundedProducts.{fold-upper-most}
use Rattle.layered_envelope.proofs.ListedLayers.{walk-falls, walk-modes}
use Rattle.layered_envelope.proofs.LoweredLists.{AreLists-kinds, kinds-elements, fault-gives, counted-layer, Gives-same}
use Rattle.layered_envelope.specs.LayerLists.{elements_of, AreLists}
use Rattle.multinomial_bounds.specs.Bounds.{certainty}
use Rattle.layered_envelope.specs.Walks.{upper}
use Rattle.layered_envelope.specs.Cutoffs.{AreCutoffs}
use Rattle.layered_envelope.proofs.lists.next_end.Goals as goal

pub find_cutoffs-requires-clause-some : goal.find_cutoffs-requires-clause-some
find_cutoffs-requires-clause-some g c =
    rw c.requires.lists.modes_are (modes-some (elements_of c.args.lists.now) c.requires.lists.elements.weights)

pub find_cutoffs-requires-clause-most : goal.find_cutoffs-requires-clause-most
find_cutoffs-requires-clause-most g c =
    rw c.requires.lists.modes_are (modes-most (elements_of c.args.lists.now) c.requires.lists.elements.weights)

pub find_cutoffs-requires-clause-at_most_one : goal.find_cutoffs-requires-clause-at_most_one
find_cutoffs-requires-clause-at_most_one g c =
    let most : All (λ b. b ≤ certainty) c.args.modes.now =
    rw c.requires.lists.modes_are (modes-most (elements_of c.args.lists.now) c.requires.lists.elements.weights) in
    omega (arith, c.requires.below, fold-upper-most c.args.modes.now certainty (omega arith) most)

pub lower_lists-requires-clause-lists : goal.lower_lists-requires-clause-lists
lower_lists-requires-clause-lists g c = subst (AreLists c.args.lists.now) c.requires.lists.modes_are c.requires.lists

pub lower_lists-requires-clause-cutoffs : goal.lower_lists-requires-clause-cutoffs
lower_lists-requires-clause-cutoffs g c =
    subst (λ ms. AreCutoffs c.args.threshold ms c.find_cutoffs.new.cutoffs) c.requires.lists.modes_are
    c.find_cutoffs.ensures.cutoffs

pub returns-in_err-lower_lists-clause-gives : goal.returns-in_err-lower_lists-clause-gives
returns-in_err-lower_lists-clause-gives g c =
    let p = err_from_is_err_and c.from_residual.result c.from_residual.ensures.1 in
    rw (p.1, p.2)
    (fault-gives c.args.lists.now c.args.modes.now c.requires.lists c.args.threshold c.in_err-lower_lists.field-0.0
    c.in_err-lower_lists.ensures.too_long)

pub count_members-requires-clause-falling : goal.count_members-requires-clause-falling
count_members-requires-clause-falling g c =
    let new = c.lower_lists.new.lists in
    let are = AreLists-kinds new c.args.lists.now c.in_ok-lower_lists.ensures.kinds c.args.modes.now c.requires.lists in
    walk-falls new c.args.modes.now are c.args.threshold c.in_ok-lower_lists.ensures.ok c.requires.below

pub count_members-requires-clause-cutoffs : goal.count_members-requires-clause-cutoffs
count_members-requires-clause-cutoffs g c =
    let new = c.lower_lists.new.lists in
    let are = AreLists-kinds new c.args.lists.now c.in_ok-lower_lists.ensures.kinds c.args.modes.now c.requires.lists in
    subst (λ ms. AreCutoffs c.args.threshold ms c.find_cutoffs.new.cutoffs)
    (walk-modes new c.args.modes.now are c.args.threshold c.in_ok-lower_lists.ensures.ok c.requires.below)
    c.find_cutoffs.ensures.cutoffs

pub count_members-requires-clause-above : goal.count_members-requires-clause-above
count_members-requires-clause-above g c =
    let new = c.lower_lists.new.lists in
    let are = AreLists-kinds new c.args.lists.now c.in_ok-lower_lists.ensures.kinds c.args.modes.now c.requires.lists in
    subst (λ ms. c.args.threshold < fold upper certainty ms)
    (walk-modes new c.args.modes.now are c.args.threshold c.in_ok-lower_lists.ensures.ok c.requires.below)
    c.requires.below

pub count_members-requires-clause-last : goal.count_members-requires-clause-last
count_members-requires-clause-last g c =
    c.requires.last c.lower_lists.new.lists c.in_ok-lower_lists.ensures.kinds c.in_ok-lower_lists.ensures.ok

pub returns-clause-gives : goal.returns-clause-gives
returns-clause-gives g c =
    let new = c.lower_lists.new.lists in
    let are = AreLists-kinds new c.args.lists.now c.in_ok-lower_lists.ensures.kinds c.args.modes.now c.requires.lists in
    let counted =
    counted-layer new c.args.modes.now are c.args.threshold c.in_ok-lower_lists.ensures.ok c.requires.below in
    Gives-same c.count_members.result (end_within_limit (elements_of c.args.lists.now) c.args.threshold)
    (ap (λ es. end_within_limit es c.args.threshold)
    (sym (kinds-elements new c.args.lists.now c.in_ok-lower_lists.ensures.kinds))
    ∙ sym counted ∙ sym c.count_members.ensures.counted)
