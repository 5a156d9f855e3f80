-- All elements are listed, and the products of their counts are all isotopologues.
use Rattle.std.proofs.Common.{◌≡◌, ◌<◌, All, length, map, ◌∙◌, ap, arith, take}
use Rattle.std.proofs.lemmas.List.{take_all}
use Rattle.std.proofs.lemmas.List.Elements.{All-more}
use Rattle.multinomial_bounds.specs.Weight.{IsWeights}
use Rattle.multinomial_bounds.specs.Isotopologue.{Element}
use Rattle.multinomial_bounds.specs.Compositions.{choices, isotopologues_of}
use Rattle.isotopologue_sets.specs.Covers.{member_of}
use Rattle.isotopologue_list.specs.ListedParts.{isotopologue_from}
use Rattle.isotopologue_list.proofs.ListingLemmas.{bounded_counts_of, listed, listed_complete, listed_in_order}
use Rattle.isotopologue_list.proofs.ListingLemmas.{listed-IsEnclosure, listed-IsIsotopologue, listed-elements}
use Rattle.isotopologue_list.proofs.ListingLemmas.{next_listed, all_ends}
use Rattle.isotopologue_list.proofs.list.IsotopologueList.of.Goals as goal
use Rattle.isotopologue_list.proofs.list.IsotopologueList.of.Goals.{In_ok-append_products}

pub loop-element-preserved : goal.loop-element-preserved
loop-element-preserved c =
    let within : c.loop-element.element-index < length c.args.elements.now = omega arith in
    record {
      listed = next_listed c.args.elements.now c.loop-element.element-index c.element-item.result c.loop-element.lists.items
          c.push.new.self.items c.in_ok-of.field-0 within c.element-item.is c.loop-element.invariant.listed
          c.in_ok-of.ensures.all c.in_ok-push.ensures.items;
      in_range = All-more (λ (e : Element). IsWeights e.weights) c.args.elements.now c.loop-element.element-index c.element-item.result
          within c.loop-element.invariant.in_range (rw (← c.element-item.is) c.in_ok-of.ensures.weights_in_range);
    }

whole : (c : In_ok-append_products) → take c.loop-element.element-index c.args.elements.now ≡ c.args.elements.now
whole c = take_all c.loop-element.element-index c.args.elements.now (omega arith)

view_is : (c : In_ok-append_products) →
    map isotopologue_from (choices c.loop-element.lists.items)
    ≡ map (member_of c.args.elements.now) (isotopologues_of c.args.elements.now)
view_is c =
    ap (λ lists. map isotopologue_from (choices lists))
    (c.loop-element.invariant.listed ∙ ap (map bounded_counts_of) (whole c))
    ∙ listed c.args.elements.now

in_range : (c : In_ok-append_products) → All (λ (e : Element). IsWeights e.weights) c.args.elements.now
in_range c = rw (whole c) at c.loop-element.invariant.in_range

pub invariant_of-result : goal.invariant_of-result
invariant_of-result c =
    let ends = rw (c.new-enclosures.ensures.items, c.certain.ensures.lo, c.certain.ensures.hi, c.deref.ensures.value)
    at c.in_ok-append_products.ensures in
    ends ∙ all_ends c.loop-element.lists.items

pub returns-clause-all : goal.returns-clause-all
returns-clause-all c = view_is c

pub returns-clause-isotopologues : goal.returns-clause-isotopologues
returns-clause-isotopologues c =
    rw (view_is c) (listed-IsIsotopologue c.args.elements.now)

pub returns-clause-encloses : goal.returns-clause-encloses
returns-clause-encloses c =
    rw (view_is c) (listed-IsEnclosure c.args.elements.now (in_range c))

pub returns-clause-each : goal.returns-clause-each
returns-clause-each c = λ i is. rw (view_is c) (listed_complete c.args.elements.now i is)

pub returns-clause-in_order : goal.returns-clause-in_order
returns-clause-in_order c = rw (view_is c) (listed_in_order c.args.elements.now)

pub returns-clause-elements : goal.returns-clause-elements
returns-clause-elements c = rw (view_is c) (listed-elements c.args.elements.now)
