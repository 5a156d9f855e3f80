-- The members are gone through in turn.
use Rattle.std.proofs.Common.{◌<◌, ◌≤◌, length, sym, ◌∙◌, arith}
use Rattle.std.proofs.lemmas.List.{length-map}
use Rattle.cover_claims.specs.Claims.{isotopologues_in}
use Rattle.cover_claims.proofs.Exits.{fault-all, fault-none, fault-some, fault-end}
use Rattle.cover_claims.proofs.boundary.boundary_fault.Goals as goal

pub loop-place-init : goal.loop-place-init
loop-place-init c = fault-all c.args.claimed.now.elements c.args.threshold (isotopologues_in c.args.claimed.now.members)

pub returns-in-Some : goal.returns-in-Some
returns-in-Some c =
    let members = isotopologues_in c.args.claimed.now.members in
    let within : c.loop-place.place < length members =
    omega (arith, c.loop-place-test.true, c.len-place-end.ensures, length-map c.args.claimed.now.members (λ m. m.counts)) in
    sym
    (sym c.loop-place.invariant
    ∙ fault-some c.args.claimed.now.elements c.args.threshold members c.loop-place.place (c.in-Some.neighbour, c.in-Some.hi)
    within (sym c.in-Some.is ∙ c.in_ok-neighbour.ensures))

pub loop-place-preserved : goal.loop-place-preserved
loop-place-preserved c =
    let members = isotopologues_in c.args.claimed.now.members in
    let within : c.loop-place.place < length members =
    omega (arith, c.loop-place-test.true, c.len-place-end.ensures, length-map c.args.claimed.now.members (λ m. m.counts)) in
    sym
    (fault-none c.args.claimed.now.elements c.args.threshold members c.loop-place.place within
    (sym c.in_default.is ∙ c.in_ok-neighbour.ensures))
    ∙ c.loop-place.invariant

pub returns : goal.returns
returns c =
    let members = isotopologues_in c.args.claimed.now.members in
    let past : length members ≤ c.loop-place.place =
    omega (arith, c.loop-place-test.false, c.len-place-end.ensures, length-map c.args.claimed.now.members (λ m. m.counts)) in
    sym (fault-end c.args.claimed.now.elements c.args.threshold members c.loop-place.place past) ∙ c.loop-place.invariant
