-- What is grown has the items of the lower threshold in front.
use Rattle.std.proofs.Common.{◌≡◌, ◌≤◌, ◌<◌, length, sym, ap, arith, ◌∙◌}
use Rattle.std.proofs.lemmas.Result.{err_from_is_err_and}
use Rattle.sub_isotopologues.specs.Listings.{Listing, items_of, lowered, max_sub_isotopologues}
use Rattle.sub_isotopologues.specs.Growth.{items_over}
use Rattle.sub_isotopologues.proofs.CutoffLemmas.{cuts_beside}
use Rattle.sub_isotopologues.proofs.FaultLemmas.{OnlyTooMany-weaker}
use Rattle.sub_isotopologues.proofs.ListLaws.{items_of-cut}
use Rattle.sub_isotopologues.proofs.KeptLists.{longer_is, longer_listed, longer_length, older_first, gives_fault, gives_list}
use Rattle.sub_isotopologues.proofs.sub_isos.SubIsos.lower_beside.Goals as goal

pub returns-in_err-grow_to-clause-gives : goal.returns-in_err-grow_to-clause-gives
returns-in_err-grow_to-clause-gives c =
    let p = err_from_is_err_and c.from_residual.result c.from_residual.ensures.1 in
    let cuts =
    cuts_beside c.args.threshold c.args.later c.cutoff_of_factor-above.result _ _ c.self.view_is
    c.self.invariant.others.before_most c.requires.later c.cutoff_of_factor-above.ensures.cuts in
    let e = c.self.inside.grown.element in
    let l : Listing =
    record {
      element = e;
      before = c.self.inside.before;
      after = c.self.inside.after.items;
      threshold = c.args.threshold;
      given = c.self.inside.given;
    } in
    let items : items_of (lowered c.args.self.now c.args.threshold) ≡ items_over e.weights e.atoms
    c.cutoff_of_factor-above.result =
    ap (λ (l : Listing). items_of (lowered l c.args.threshold)) (sym c.self.view_is)
    ∙ items_of-cut l c.cutoff_of_factor-above.result c.self.invariant.weights cuts in
    rw (p.1, p.2)
    (gives_fault (lowered c.args.self.now c.args.threshold) c.args.self.now c.in_err-grow_to.field-0.0
    (OnlyTooMany-weaker (max_sub_isotopologues < length (items_over e.weights e.atoms c.cutoff_of_factor-above.result)) _ _
    (λ many. rw items many)
    c.in_err-grow_to.ensures.cause))

pub invariant_of-self-2 : goal.invariant_of-self-2
invariant_of-self-2 c =
    let cuts =
    cuts_beside c.args.threshold c.args.later c.cutoff_of_factor-above.result _ _ c.self.view_is
    c.self.invariant.others.before_most c.requires.later c.cutoff_of_factor-above.ensures.cuts in
    longer_listed _ _ _ _ _ _ c.cutoff_of_factor-above.result c.self.invariant c.in_ok-grow_to.ensures.element
    (omega (arith, c.requires.lower, ap (λ (l : Listing). l.threshold) c.self.view_is))
    c.cutoff_of_factor-above.ensures.at_most_one cuts
    c.count_above-self-inside.ensures.within c.count_above-self-inside.ensures.first

pub returns-clause-gives : goal.returns-clause-gives
returns-clause-gives c =
    let lower : c.args.threshold ≤ c.self.inside.threshold =
    omega (arith, c.requires.lower, ap (λ (l : Listing). l.threshold) c.self.view_is) in
    let cuts =
    cuts_beside c.args.threshold c.args.later c.cutoff_of_factor-above.result _ _ c.self.view_is
    c.self.invariant.others.before_most c.requires.later c.cutoff_of_factor-above.ensures.cuts in
    let is = longer_is _ _ _ _ _ c.args.threshold c.cutoff_of_factor-above.result c.self.invariant
    c.in_ok-grow_to.ensures.element lower c.cutoff_of_factor-above.ensures.at_most_one cuts
    c.count_above-self-inside.ensures.within c.count_above-self-inside.ensures.first in
    let many = longer_length _ _ _ _ _ c.args.threshold c.cutoff_of_factor-above.result c.self.invariant
    c.in_ok-grow_to.ensures.element lower c.cutoff_of_factor-above.ensures.at_most_one cuts
    c.count_above-self-inside.ensures.within c.count_above-self-inside.ensures.first in
    let old = is ∙ ap (λ (l : Listing). lowered l c.args.threshold) c.self.view_is in
    gives_list (lowered c.args.self.now c.args.threshold) _ old
    (omega (arith, many, ap (λ (l : Listing). length (items_of l)) old, c.count_above-self-inside.ensures.few))

pub returns-clause-older_first : goal.returns-clause-older_first
returns-clause-older_first c =
    let lower : c.args.threshold ≤ c.self.inside.threshold =
    omega (arith, c.requires.lower, ap (λ (l : Listing). l.threshold) c.self.view_is) in
    let cuts =
    cuts_beside c.args.threshold c.args.later c.cutoff_of_factor-above.result _ _ c.self.view_is
    c.self.invariant.others.before_most c.requires.later c.cutoff_of_factor-above.ensures.cuts in
    rw (← c.self.view_is)
    (older_first _ _ _ _ _ c.args.threshold c.cutoff_of_factor-above.result c.self.invariant c.in_ok-grow_to.ensures.element lower
    c.cutoff_of_factor-above.ensures.at_most_one cuts
    c.count_above-self-inside.ensures.within c.count_above-self-inside.ensures.first)
