use Rattle.std.proofs.Common.{◌<◌, length, get_or, ◌∙◌, ap, arith}
use Rattle.std.proofs.lemmas.List.{length-map}
use Rattle.sub_isotopologues.specs.Listings.{Listing}
use Rattle.layered_envelope.specs.Walks.{his_of}
use Rattle.layered_envelope.specs.PlacedLayers.{counts_at}
use Rattle.layered_envelope.proofs.KeptLists.{length-ArePlaces}
use Rattle.layered_envelope.proofs.PlacesOfLists.{ArePlaces-at, his-many}
use Rattle.layered_envelope.proofs.GivenLayers.{given-ArePlaces, given-elements}
use Rattle.layered_envelope.proofs.MemberWalks.{counts-at}
use Rattle.layered_envelope.proofs.layers.Layers.spread.Goals as goal

pub bounds-places-element : goal.bounds-places-element
bounds-places-element c =
    let s = c.self.inside in
    let places =
    given-ArePlaces s.lists.items s.modes.items s.mode_hi s.given c.self.invariant.0 c.args.self.now c.self.view_is
    c.requires.given c.args.member.now c.requires.member in
    let es = given-elements s.lists.items s.modes.items s.mode_hi s.given c.self.invariant.0 c.args.self.now
    c.self.view_is
    c.requires.given in
    rw c.places.ensures
    (omega (
      arith,
      c.requires.element,
      ap length es,
      length-map s.lists.items (λ (l : Listing). l.element),
      his-many s.lists.items,
      length-ArePlaces (his_of s.lists.items) c.args.member.now places,
    ))

pub counts_of-requires-clause-within : goal.counts_of-requires-clause-within
counts_of-requires-clause-within c =
    let s = c.self.inside in
    let places =
    given-ArePlaces s.lists.items s.modes.items s.mode_hi s.given c.self.invariant.0 c.args.self.now c.self.view_is
    c.requires.given c.args.member.now c.requires.member in
    let es = given-elements s.lists.items s.modes.items s.mode_hi s.given c.self.invariant.0 c.args.self.now
    c.self.view_is
    c.requires.given in
    let n = length-map s.lists.items (λ (l : Listing). l.element) in
    let within : c.args.element < length s.lists.items = omega (arith, c.requires.element, ap length es, n) in
    rw (c.as_slice.ensures.value, c.places.ensures)
    (ArePlaces-at (his_of s.lists.items) c.args.member.now c.args.element places
    (omega (arith, his-many s.lists.items)))

pub returns : goal.returns
returns c =
    let s = c.self.inside in
    let places =
    given-ArePlaces s.lists.items s.modes.items s.mode_hi s.given c.self.invariant.0 c.args.self.now c.self.view_is
    c.requires.given c.args.member.now c.requires.member in
    let es = given-elements s.lists.items s.modes.items s.mode_hi s.given c.self.invariant.0 c.args.self.now
    c.self.view_is
    c.requires.given in
    let n = length-map s.lists.items (λ (l : Listing). l.element) in
    let within : c.args.element < length s.lists.items = omega (arith, c.requires.element, ap length es, n) in
    let place = ap (λ ps. get_or ps c.args.element 0) c.places.ensures in
    counts-at s.lists.items s.modes.items c.self.invariant.0.lists_are c.args.member.now places c.args.element
    (get_or c.places.result.now c.args.element 0) c.counts_of.result.now within place
    (rw c.as_slice.ensures.value at c.counts_of.ensures)
    ∙ ap (λ xs. get_or (counts_at xs c.args.member.now) c.args.element c.counts_of.result.now) es
