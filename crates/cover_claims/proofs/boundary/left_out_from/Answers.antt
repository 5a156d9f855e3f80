-- Each taker's isotopologue is tried in turn.
use Rattle.std.proofs.Common.{ℕ, List, [], ◌∷◌, length, sym, ap, ◌∙◌}
use Rattle.multinomial_bounds.proofs.PathLemmas.{length-moved}
use Rattle.cover_claims.specs.Claims.{isotopologues_in, member_at}
use Rattle.cover_claims.specs.Surroundings.{left_out_among}
use Rattle.cover_claims.proofs.FirstFound.{taker-none, taker-some, taker-skip}
use Rattle.cover_claims.proofs.boundary.left_out_from.Goals as goal
use Rattle.cover_claims.proofs.boundary.left_out_from.Goals.{then-taker-giver+in_ok-found+in_default, else-taker-giver}

pub returns-in-Some-clause-found : goal.returns-in-Some-clause-found
returns-in-Some-clause-found c =
    let es = c.args.claimed.now.elements in
    let members = isotopologues_in c.args.claimed.now.members in
    let member = member_at members c.args.around.place in
    sym
    (sym c.loop-taker.invariant.rest
    ∙ taker-some es c.args.threshold members member c.args.around.element
    c.args.around.own.now c.args.giver c.loop-taker.taker c.in-Some.found c.loop-taker-test.true c.if-taker-giver.true
    (sym c.in-Some.is ∙ c.in_ok-found.ensures.found
    ∙ ap (λ (x : List ℕ). left_out_among es c.args.threshold members member c.args.around.element (x ∷ []))
    c.write_moved.ensures))

pub loop-taker-preserved : goal.loop-taker-preserved
loop-taker-preserved c =
    let es = c.args.claimed.now.elements in
    let members = isotopologues_in c.args.claimed.now.members in
    let member = member_at members c.args.around.place in
    elim c.if-taker-giver.branch [
      | then-taker-giver+in_ok-found+in_default w ↦ record {
        parts = w.parts-is ∙ w.left_out_with.ensures.parts ∙ c.loop-taker.invariant.parts;
        room =
            ap length w.changed-is ∙ ap length w.write_moved.ensures
            ∙ length-moved c.args.around.own.now c.args.giver c.loop-taker.taker;
        rest =
            sym
            (taker-none es c.args.threshold members member c.args.around.element
            c.args.around.own.now c.args.giver c.loop-taker.taker c.loop-taker-test.true w.if-taker-giver.true
            (sym w.in_default.is ∙ w.in_ok-found.ensures.found
            ∙ ap (λ (x : List ℕ). left_out_among es c.args.threshold members member c.args.around.element (x ∷ []))
            w.write_moved.ensures))
            ∙ c.loop-taker.invariant.rest;
      }
      | else-taker-giver w ↦ record {
        parts = w.parts-is ∙ c.loop-taker.invariant.parts;
        room = ap length w.changed-is ∙ c.loop-taker.invariant.room;
        rest =
            sym
            (taker-skip es c.args.threshold members member c.args.around.element
            c.args.around.own.now c.args.giver c.loop-taker.taker c.loop-taker-test.true w.if-taker-giver.false)
            ∙ c.loop-taker.invariant.rest;
      }
    ]
