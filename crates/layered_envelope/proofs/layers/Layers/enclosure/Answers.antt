use Rattle.std.proofs.Common.{◌∙◌, ap}
use Rattle.isotopologue_sets.specs.Layers.{lo_of, hi_of}
use Rattle.layered_envelope.specs.PlacedLayers.{counts_at}
use Rattle.layered_envelope.specs.CountedWalks.{lo_at, hi_at}
use Rattle.layered_envelope.proofs.ListedLayers.{lo-at, hi-at}
use Rattle.layered_envelope.proofs.GivenLayers.{given-ArePlaces, given-elements}
use Rattle.layered_envelope.proofs.layers.Layers.enclosure.Goals as goal

pub product_at-requires : goal.product_at-requires
product_at-requires c =
    let s = c.self.inside in
    rw (c.as_slice.ensures.value, c.places.ensures)
    (given-ArePlaces s.lists.items s.modes.items s.mode_hi s.given c.self.invariant.0 c.args.self.now c.self.view_is
    c.requires.given c.args.member.now c.requires.member)

pub returns-clause-lo : goal.returns-clause-lo
unfolding lo_at
returns-clause-lo c =
    let s = c.self.inside in
    let places =
    given-ArePlaces s.lists.items s.modes.items s.mode_hi s.given c.self.invariant.0 c.args.self.now c.self.view_is
    c.requires.given c.args.member.now c.requires.member in
    let es = given-elements s.lists.items s.modes.items s.mode_hi s.given c.self.invariant.0 c.args.self.now
    c.self.view_is
    c.requires.given in
    c.product_at.ensures.lo
    ∙ ap (λ ls. lo_at ls c.places.result.now) c.as_slice.ensures.value
    ∙ ap (lo_at s.lists.items) c.places.ensures
    ∙ lo-at s.lists.items s.modes.items c.self.invariant.0.lists_are c.args.member.now places
    ∙ ap (λ xs. lo_of xs (counts_at xs c.args.member.now)) es

pub returns-clause-hi : goal.returns-clause-hi
unfolding hi_at
returns-clause-hi c =
    let s = c.self.inside in
    let places =
    given-ArePlaces s.lists.items s.modes.items s.mode_hi s.given c.self.invariant.0 c.args.self.now c.self.view_is
    c.requires.given c.args.member.now c.requires.member in
    let es = given-elements s.lists.items s.modes.items s.mode_hi s.given c.self.invariant.0 c.args.self.now
    c.self.view_is
    c.requires.given in
    c.product_at.ensures.hi
    ∙ ap (λ ls. hi_at ls c.places.result.now) c.as_slice.ensures.value
    ∙ ap (hi_at s.lists.items) c.places.ensures
    ∙ hi-at s.lists.items s.modes.items c.self.invariant.0.lists_are c.args.member.now places
    ∙ ap (λ xs. hi_of xs (counts_at xs c.args.member.now)) es
