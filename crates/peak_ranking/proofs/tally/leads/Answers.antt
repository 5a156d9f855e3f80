use Rattle.std.proofs.Common.{ap, ◌∙◌, List, ℕ, arith}
use Rattle.written_items.specs.declared.item.Item.{Item}
use Rattle.peak_ranking.specs.Tallies.{formula_eq}
use Rattle.peak_ranking.proofs.FirstPlaces.{first-leads, first-within, none-leads}
use Rattle.peak_ranking.proofs.tally.leads.Goals as goal

pub offset_bounds-found-place : goal.offset_bounds-found-place
offset_bounds-found-place c =
    let within = first-within c.args.found.now c.deref.result.now c.in-Some.place.now
    (c.deref.ensures.value ∙ c.in_ok-in_places.ensures) c.in-Some.ensures.value in
    omega (arith, within, c.requires)

pub bounds-found-place : goal.bounds-found-place
bounds-found-place c =
    first-within c.args.found.now c.deref.result.now c.in-Some.place.now
    (c.deref.ensures.value ∙ c.in_ok-in_places.ensures) c.in-Some.ensures.value

pub returns-in-Some : goal.returns-in-Some
returns-in-Some c =
    c.is_same.ensures ∙ ap (λ (f : List (Item × ℕ)). formula_eq f c.args.formula.now) c.formula.ensures
    ∙ first-leads c.args.found.now c.deref.result.now c.in-Some.place.now c.index-found-place.result c.args.formula.now
    (c.deref.ensures.value ∙ c.in_ok-in_places.ensures) c.in-Some.ensures.value c.index-found-place.is

pub returns : goal.returns
returns c =
    none-leads c.args.found.now c.deref.result.now c.args.formula.now
    (c.deref.ensures.value ∙ c.in_ok-in_places.ensures) c.in-None.ensures.value
