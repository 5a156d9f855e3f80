-- The choice at a place has of an element the counts that division tells.
use Rattle.std.proofs.Common.{◌≡◌, ◌<◌, ◌/◌, ◌%◌, [], ℕ, length, get_or, sym, ◌∙◌, ap, rules}
use Rattle.std.proofs.Math.Nat.{mod-lt}
use Rattle.isotopologue_list.specs.Listed.{BoundedCounts}
use Rattle.isotopologue_list.proofs.ChoicesByPlace.{is_item, items-some, after, all_after, place_inside, element_inside, element_counts}
use Rattle.isotopologue_list.proofs.list.IsotopologueList.counts.Goals as goal
use Rattle.isotopologue_list.proofs.list.IsotopologueList.counts.Goals.{After-as_slice-elements, After-choice_of}

inside : (c : After-as_slice-elements) → c.args.element < length c.as_slice-elements.result.now
inside c =
    rw c.as_slice-elements.ensures.value
    (element_inside c.self.inside.elements.items c.args.self.now c.self.view_is c.args.place c.requires.place_within
    c.args.element c.requires.element_within)

pub offset_bounds-elements-element : goal.offset_bounds-elements-element
offset_bounds-elements-element c = let h = inside c in search rules

pub bounds-elements-element : goal.bounds-elements-element
bounds-elements-element c = inside c

pub choice_of-requires-clause-element_within : goal.choice_of-requires-clause-element_within
choice_of-requires-clause-element_within c =
    inside (goal.at.choice_of-requires-clause-element_within c).After-as_slice-elements

list_is : (c : After-choice_of) → c.index-elements-element.result ≡ get_or c.self.inside.elements.items c.args.element []
list_is c =
    is_item c.as_slice-elements.result.now c.args.element c.index-elements-element.result
    (inside (goal.at.counts-requires c).After-as_slice-elements) c.index-elements-element.is
    ∙ ap (λ xs. get_or xs c.args.element []) c.as_slice-elements.ensures.value

choice_is : (c : After-choice_of) →
    c.choice_of.result
    ≡ c.args.place / after c.self.inside.elements.items c.args.element % length (get_or c.self.inside.elements.items c.args.element [])
choice_is c =
    rw (c.as_slice-elements.ensures.value, ← all_after c.self.inside.elements.items c.args.element) at c.choice_of.ensures

pub counts-requires : goal.counts-requires
counts-requires c =
    let within : c.args.element < length c.self.inside.elements.items =
    element_inside c.self.inside.elements.items c.args.self.now c.self.view_is c.args.place c.requires.place_within
    c.args.element c.requires.element_within in
    rw (choice_is c, list_is c)
    (mod-lt (c.args.place / after c.self.inside.elements.items c.args.element)
    (items-some c.self.inside.elements.items c.args.element c.args.place within
    (place_inside c.self.inside.elements.items c.args.self.now c.self.view_is c.args.place c.requires.place_within)))

pub returns : goal.returns
returns c d =
    let at = (goal.at.returns c).After-choice_of in
    let none : BoundedCounts = record { counts = []; lo = 0; hi = 0 } in
    let within : c.args.element < length c.self.inside.elements.items =
    element_inside c.self.inside.elements.items c.args.self.now c.self.view_is c.args.place c.requires.place_within
    c.args.element c.requires.element_within in
    c.counts.ensures none
    ∙ ap (λ items. (get_or items c.choice_of.result none).counts) (list_is at)
    ∙ ap (λ (i : ℕ). (get_or (get_or c.self.inside.elements.items c.args.element []) i none).counts) (choice_is at)
    ∙ sym (element_counts c.self.inside.elements.items c.args.self.now c.self.view_is c.args.place c.requires.place_within
    c.args.element d none c.counts.result.now within)
