-- Each giver's moves are tried in turn.
use Rattle.std.proofs.Common.{length, sym, ap, ◌∙◌, arith, refl}
use Rattle.cover_claims.specs.Claims.{isotopologues_in, member_at}
use Rattle.cover_claims.specs.Surroundings.{left_out_among}
use Rattle.cover_claims.proofs.FirstFound.{moves-all, giver-none, giver-some, giver-skip}
use Rattle.cover_claims.proofs.boundary.left_out_by.Goals as goal
use Rattle.cover_claims.proofs.boundary.left_out_by.Goals.{then-around-giver-gt0+in_ok-found+in_default, else-around-giver-gt0}

pub loop-giver-init : goal.loop-giver-init
loop-giver-init c =
    let es = c.args.claimed.now.elements in
    let members = isotopologues_in c.args.claimed.now.members in
    let member = member_at members c.args.around.place in
    record {
      parts = refl;
      room = ap length c.as_mut_slice-changed.ensures.value ∙ omega (arith, c.in_ok-counts.ensures.len, c.in_ok-counts.counts.ok);
      rest =
          ap (left_out_among es c.args.threshold members member c.args.around.element)
          (sym (moves-all es c.args.threshold members member c.args.around.element c.args.around.own.now));
    }

pub returns-in-Some-clause-found : goal.returns-in-Some-clause-found
returns-in-Some-clause-found c =
    let es = c.args.claimed.now.elements in
    let members = isotopologues_in c.args.claimed.now.members in
    let member = member_at members c.args.around.place in
    sym
    (sym c.loop-giver.invariant.rest
    ∙ giver-some es c.args.threshold members member c.args.around.element
    c.args.around.own.now c.loop-giver.giver c.in-Some.found c.loop-giver-test.true c.if-around-giver-gt0.true
    (sym c.in-Some.is ∙ c.in_ok-found.ensures.found))

pub loop-giver-preserved : goal.loop-giver-preserved
loop-giver-preserved c =
    let es = c.args.claimed.now.elements in
    let members = isotopologues_in c.args.claimed.now.members in
    let member = member_at members c.args.around.place in
    elim c.if-around-giver-gt0.branch [
      | then-around-giver-gt0+in_ok-found+in_default w ↦ record {
        parts = w.parts-is ∙ w.left_out_from.ensures.parts ∙ c.loop-giver.invariant.parts;
        room =
            ap length w.changed-is ∙ w.left_out_from.ensures.room ∙ c.loop-giver.invariant.room;
        rest =
            sym
            (giver-none es c.args.threshold members member c.args.around.element
            c.args.around.own.now c.loop-giver.giver c.loop-giver-test.true w.if-around-giver-gt0.true
            (sym w.in_default.is ∙ w.in_ok-found.ensures.found))
            ∙ c.loop-giver.invariant.rest;
      }
      | else-around-giver-gt0 w ↦ record {
        parts = w.parts-is ∙ c.loop-giver.invariant.parts;
        room = ap length w.changed-is ∙ c.loop-giver.invariant.room;
        rest =
            sym
            (giver-skip es c.args.threshold members member c.args.around.element
            c.args.around.own.now c.loop-giver.giver c.loop-giver-test.true w.if-around-giver-gt0.false)
            ∙ c.loop-giver.invariant.rest;
      }
    ]
