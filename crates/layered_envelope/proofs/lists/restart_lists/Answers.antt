use Rattle.std.proofs.Common.{ℕ, ◌+◌, get_or, refl, ◌∙◌, ap, arith, length-set}
use Rattle.std.proofs.lemmas.List.{take_rest, get_or_default}
use Rattle.sub_isotopologues.specs.Listings.{Listing}
use Rattle.layered_envelope.specs.LayerLists.{elements_of}
use Rattle.layered_envelope.proofs.StartedLists.{others_in_range, before-most, most, before_more, modes-length}
use Rattle.layered_envelope.proofs.StartedLists.{AreStarted_more}
use Rattle.layered_envelope.proofs.lists.restart_lists.Goals as goal

pub restart-requires : goal.restart-requires
restart-requires c =
    record {
      others_in_range = others_in_range (elements_of c.args.lists.now) c.requires.elements c.args.modes.now
          c.requires.modes c.loop-place.place c.loop-place.before c.loop-place.invariant.before;
    }

pub times_upper-before-requires-clause-x : goal.times_upper-before-requires-clause-x
times_upper-before-requires-clause-x c =
    before-most (elements_of c.args.lists.now) c.requires.elements c.args.modes.now c.requires.modes
    c.loop-place.place c.loop-place.before c.loop-place.invariant.before

pub times_upper-before-requires-clause-y : goal.times_upper-before-requires-clause-y
times_upper-before-requires-clause-y c =
    most (elements_of c.args.lists.now) c.requires.elements c.args.modes.now c.requires.modes
    c.loop-place.place c.loop-place.before c.loop-place.invariant.before c.loop-place.place 0
    (omega (arith, modes-length c.args.lists.now c.args.modes.now c.requires.modes))

pub loop-place-preserved : goal.loop-place-preserved
loop-place-preserved c =
    let lists = c.loop-place.lists in
    let es = elements_of c.args.lists.now in
    let modes = c.args.modes.now in
    let place : ℕ = c.loop-place.place in
    let older = get_or lists place c.index-lists-place.result in
    let is = get_or_default lists place c.index-lists-place.result older (omega arith) in
    let restarted = c.in_ok-restart.ensures.restarted in
    record {
      started =
          AreStarted_more lists place c.restart.new.self older (omega arith) is es modes
          (ap (λ (l : Listing). l.element) restarted)
          (ap (λ (l : Listing). l.before) restarted ∙ c.loop-place.invariant.before)
          (ap (λ (l : Listing). l.after) restarted ∙ take_rest modes (place + 1))
          (ap (λ (l : Listing). l.threshold) restarted) c.loop-place.invariant.started;
      many = length-set lists place c.restart.new.self ∙ c.loop-place.invariant.many;
      before =
          before_more es c.requires.elements modes c.requires.modes place c.loop-place.before
          c.loop-place.invariant.before (get_or modes place 0) c.times_upper-before.result
          (omega (arith, modes-length c.args.lists.now modes c.requires.modes)) refl c.times_upper-before.ensures.value;
    }
