use Rattle.std.proofs.Common.{length, drop, ◌∙◌}
use Rattle.std.proofs.lemmas.List.{take_at}
use Rattle.layered_envelope.proofs.GivenLayers.{given-falls}
use Rattle.layered_envelope.proofs.GatheredLayers.{gathered-some, gathered-most, gathered-small, gathered-cutoffs, gathered-above}
use Rattle.layered_envelope.proofs.GatheredLayers.{gathered-counts, gathered-rows}
use Rattle.layered_envelope.proofs.layers.Layers.gathered.Goals as goal

pub find_cutoffs-requires-clause-some : goal.find_cutoffs-requires-clause-some
find_cutoffs-requires-clause-some c =
    let s = c.self.inside in
    rw c.deref.ensures.value
    (gathered-some s.lists.items s.modes.items s.mode_hi s.given c.self.invariant.0 c.args.self.now c.self.view_is
    c.requires)

pub find_cutoffs-requires-clause-most : goal.find_cutoffs-requires-clause-most
find_cutoffs-requires-clause-most c =
    let s = c.self.inside in
    rw c.deref.ensures.value
    (gathered-most s.lists.items s.modes.items s.mode_hi s.given c.self.invariant.0 c.args.self.now c.self.view_is
    c.requires)

pub find_cutoffs-requires-clause-at_most_one : goal.find_cutoffs-requires-clause-at_most_one
find_cutoffs-requires-clause-at_most_one c =
    let s = c.self.inside in
    gathered-small s.lists.items s.modes.items s.mode_hi s.given c.self.invariant.0 c.args.self.now c.self.view_is
    c.requires

pub gather_chosen-requires-clause-falling : goal.gather_chosen-requires-clause-falling
gather_chosen-requires-clause-falling c =
    let s = c.self.inside in
    rw c.as_slice-lists.ensures.value
    (given-falls s.lists.items s.modes.items s.mode_hi s.given c.self.invariant.0 c.args.self.now c.self.view_is
    c.requires)

pub gather_chosen-requires-clause-cutoffs : goal.gather_chosen-requires-clause-cutoffs
gather_chosen-requires-clause-cutoffs c =
    let s = c.self.inside in
    let cut = c.find_cutoffs.new.cutoffs in
    let written = take_at cut (drop (length cut) c.in_ok-cutoffs.cutoffs.items) c.in_ok-cutoffs.cutoffs.len
    (c.find_cutoffs.auto.cutoffs ∙ c.deref_mut.ensures.len) in
    rw (c.as_slice-lists.ensures.value, c.deref-2.ensures.value, written)
    (gathered-cutoffs s.lists.items s.modes.items s.mode_hi s.given c.self.invariant.0 c.args.self.now c.self.view_is
    c.requires cut (rw c.deref.ensures.value at c.find_cutoffs.ensures.cutoffs))

pub gather_chosen-requires-clause-above : goal.gather_chosen-requires-clause-above
gather_chosen-requires-clause-above c =
    let s = c.self.inside in
    rw c.as_slice-lists.ensures.value
    (gathered-above s.lists.items s.modes.items s.mode_hi s.given c.self.invariant.0 c.args.self.now c.self.view_is
    c.requires c.certain-certain.result.hi c.certain-certain.ensures.hi)

pub returns-clause-counts : goal.returns-clause-counts
returns-clause-counts c =
    let s = c.self.inside in
    gathered-counts s.lists.items s.modes.items s.mode_hi s.given c.self.invariant.0 c.args.self.now c.self.view_is
    c.requires c.in_ok-gathering.gathering c.gather_chosen.new.gathering c.certain-certain.result.lo
    c.certain-certain.result.hi c.certain-certain.ensures.lo c.certain-certain.ensures.hi
    (rw c.as_slice-lists.ensures.value at c.in_ok-gather_chosen.ensures) c.in_ok-gathering.ensures.chosen
    c.in_ok-gathering.ensures.counts

pub returns-clause-rows : goal.returns-clause-rows
returns-clause-rows c =
    let s = c.self.inside in
    gathered-rows s.lists.items s.modes.items s.mode_hi s.given c.self.invariant.0 c.args.self.now c.self.view_is
    c.requires c.in_ok-gathering.gathering c.gather_chosen.new.gathering c.certain-certain.result.lo
    c.certain-certain.result.hi c.certain-certain.ensures.lo c.certain-certain.ensures.hi
    (rw c.as_slice-lists.ensures.value at c.in_ok-gather_chosen.ensures) c.in_ok-gathering.ensures.chosen
    c.in_ok-gathering.ensures.counts c.in_ok-gathering.ensures.rows
