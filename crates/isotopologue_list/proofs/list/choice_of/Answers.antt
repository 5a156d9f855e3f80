-- Each division leaves out the choices of one element more.
use Rattle.std.proofs.Common.{◌≡◌, ◌<◌, ◌+◌, ◌-◌, ◌/◌, ◌%◌, [], ℕ, length, get_or, ◌∙◌, ap, arith, drop}
use Rattle.multinomial_bounds.specs.Compositions.{choices}
use Rattle.isotopologue_list.proofs.ChoicesByPlace.{is_item, items-some, none_after, one_more_after}
use Rattle.isotopologue_list.proofs.list.choice_of.Goals as goal
use Rattle.isotopologue_list.proofs.list.choice_of.Goals.{After-len-choice, After-len}

pub loop-later-init : goal.loop-later-init
loop-later-init c = record {
  behind = omega (arith, c.requires.element_within);
  choice = none_after c.args.elements.now (length c.args.elements.now) c.args.place (omega arith);
}

later_items : (c : After-len-choice) → c.len-choice.result ≡ length (get_or c.args.elements.now (c.loop-later.later - 1) [])
later_items c =
    let within : c.loop-later.later - 1 < length c.args.elements.now = omega arith in
    c.len-choice.ensures
    ∙ ap length (is_item c.args.elements.now (c.loop-later.later - 1) c.index-elements-later.result within c.index-elements-later.is)

pub nonzero_div-choice : goal.nonzero_div-choice
nonzero_div-choice c =
    let within : c.loop-later.later - 1 < length c.args.elements.now = omega arith in
    rw (later_items c) (items-some c.args.elements.now (c.loop-later.later - 1) c.args.place within c.requires.place_within)

pub loop-later-preserved : goal.loop-later-preserved
loop-later-preserved c =
    let at = (goal.at.loop-later-preserved c).After-len-choice in
    let within : c.loop-later.later - 1 < length c.args.elements.now = omega arith in
    record {
      behind = omega arith;
      choice = one_more_after c.args.elements.now (c.loop-later.later - 1) c.loop-later.later c.args.place c.loop-later.choice
          c.len-choice.result (omega arith) within c.loop-later.invariant.choice (later_items at);
    }

items : (c : After-len) → c.len.result ≡ length (get_or c.args.elements.now c.args.element [])
items c =
    c.len.ensures
    ∙ ap length (is_item c.args.elements.now c.args.element c.index-elements-element.result c.requires.element_within c.index-elements-element.is)

pub nonzero_rem-result : goal.nonzero_rem-result
nonzero_rem-result c =
    rw (items c) (items-some c.args.elements.now c.args.element c.args.place c.requires.element_within c.requires.place_within)

pub returns : goal.returns
returns c =
    let at = (goal.at.returns c).After-len in
    let last : c.loop-later.later ≡ c.args.element + 1 = omega arith in
    ap (λ (n : ℕ). c.loop-later.choice % n) (items at)
    ∙ ap (λ (x : ℕ). x % length (get_or c.args.elements.now c.args.element []))
    (c.loop-later.invariant.choice ∙ ap (λ (j : ℕ). c.args.place / length (choices (drop j c.args.elements.now))) last)
