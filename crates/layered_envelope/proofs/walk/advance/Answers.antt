use Rattle.std.proofs.Common.{◌≡◌, ℕ, ◌+◌, ◌-◌, ◌<◌, ◌≤◌, suc, List, [], ◌∷◌, ◌++◌, length, take, drop, get_or, map}
use Rattle.std.proofs.Common.{fold, replicate, refl, sym, ◌∙◌, ap, arith, ⊎_elim}
use Rattle.std.proofs.lemmas.Bool.{cases_lt, false≢true}
use Rattle.std.proofs.lemmas.List.{length-map}
use Rattle.sub_isotopologues.specs.Listings.{Listing, items_of}
use Rattle.layered_envelope.specs.ChosenPlaces.{firsts}
use Rattle.layered_envelope.specs.Walks.{upper, his_of, reached, places_of, left_after}
use Rattle.layered_envelope.proofs.RoundedProducts.{upper-rises}
use Rattle.layered_envelope.proofs.WalkSteps.{risen, risen_places, place_at, upper_at}
use Rattle.layered_envelope.proofs.NextOfWalk.{none_at_end, none_at, next_at, firsts-drop, none_of_all, none_before, next_is}
use Rattle.layered_envelope.proofs.walk.advance.Goals as goal

pub loop-element-init : goal.loop-element-init
loop-element-init g c =
    let lists = c.args.lists.now in
    let choices = c.args.choices.now in
    let his : length (his_of lists) ≡ length lists =
    length-map lists (λ (l : Listing). map (λ i. i.hi) (items_of l)) in (
      refl,
      omega (arith, c.requires.walk.as_many),
      none_at_end upper upper-rises c.args.threshold (his_of lists) (places_of choices)
          (omega (arith, length-map choices (λ c. c.place), c.requires.walk.as_many)) c.requires.falling
          (length choices) _
          (omega (arith, c.requires.walk.as_many)),
    )

pub choose_firsts-requires-clause-walk : goal.choose_firsts-requires-clause-walk
choose_firsts-requires-clause-walk g c =
    let lists = c.args.lists.now in
    let e : ℕ = c.loop-element.element - 1 in
    let choice = c.index-choices-element.result in
    let walk = rw (← c.loop-element.invariant.0) at c.requires.walk in
    risen lists c.loop-element.choices e choice (omega (arith, c.requires.walk.as_many)) walk
    c.index-choices-element.is (c.if-has_next.ensures.above.0 refl).0

pub returns-then-has_next-clause-next : goal.returns-then-has_next-clause-next
returns-then-has_next-clause-next g c =
    let lists = c.args.lists.now in
    let choices = c.loop-element.choices in
    let e : ℕ = c.loop-element.element - 1 in
    let choice = c.index-choices-element.result in
    let his : List (List ℕ) = his_of lists in
    let ps : List ℕ = places_of choices in
    let as_many : length choices ≡ length lists = omega (arith, c.requires.walk.as_many, c.loop-element.auto.choices) in
    let his_many : length his ≡ length lists = length-map lists (λ (l : Listing). map (λ i. i.hi) (items_of l)) in
    let ps_many : length ps ≡ length choices = length-map choices (λ c. c.place) in
    let within : e < length choices = omega arith in
    let is = c.index-choices-element.is in
    let walk = rw (← c.loop-element.invariant.0) at c.requires.walk in
    let above = c.if-has_next.ensures.above.0 refl in
    let place : get_or ps e 0 ≡ choice.place = place_at choices e choice within is in
    let before : choice.before.hi ≡ reached upper his ps e =
    sym (upper_at choices e choice within is) ∙ walk.walk.uppers e (omega arith) in
    let modes : drop (e + 1) c.args.modes.now ≡ firsts (drop (suc e) his) =
    ap (drop (e + 1)) c.requires.modes ∙ sym (firsts-drop his (e + 1))
    ∙ ap (λ (k : ℕ). firsts (drop k his)) (let one : e + 1 ≡ suc e = omega arith in one) in
    let room : get_or ps e 0 + 1 < length (get_or his e []) = rw place above.0 in
    let over : c.args.threshold < fold upper
    (upper (reached upper his ps e) (get_or (get_or his e []) (get_or ps e 0 + 1) 0)) (firsts (drop (suc e) his)) =
    rw (place, ← before, ← modes) above.1 in
    let next = next_at upper upper-rises c.args.threshold his ps (omega arith) c.requires.falling e (omega arith)
    (none_before his ps upper c.args.threshold c.loop-element.element (omega arith) c.loop-element.invariant.2) room
    over in
    let new_is = c.choose_firsts.ensures.places
    ∙ risen_places choices e (length lists) choice (record {
      before = choice.before;
      place =
          choice.place + 1;
    }) within in
    let zeros : List ℕ = replicate (length lists - (e + 1)) 0 in
    let named : take e ps ++ ((get_or ps e 0 + 1) ∷ replicate (length his - (e + 1)) 0)
    ≡ take e ps ++ ((choice.place + 1) ∷ zeros) =
    ap (λ (p : ℕ). take e ps ++ ((p + 1) ∷ replicate (length his - (e + 1)) 0)) place
    ∙ ap (λ (n : ℕ). take e ps ++ ((choice.place + 1) ∷ replicate (n - (e + 1)) 0)) his_many in
    next_is (left_after c.args.threshold lists) (places_of c.args.choices.now) ps
    (take e ps ++ ((get_or ps e 0 + 1) ∷ replicate (length his - (e + 1)) 0))
    (take e ps ++ ((choice.place + 1) ∷ zeros)) (places_of c.choose_firsts.new.choices)
    (ap places_of c.loop-element.invariant.0) named new_is next

pub loop-element-preserved : goal.loop-element-preserved
loop-element-preserved g c =
    let lists = c.args.lists.now in
    let choices = c.loop-element.choices in
    let e : ℕ = c.loop-element.element - 1 in
    let choice = c.index-choices-element.result in
    let his : List (List ℕ) = his_of lists in
    let ps : List ℕ = places_of choices in
    let as_many : length choices ≡ length lists = omega (arith, c.requires.walk.as_many, c.loop-element.auto.choices) in
    let his_many : length his ≡ length lists = length-map lists (λ (l : Listing). map (λ i. i.hi) (items_of l)) in
    let ps_many : length ps ≡ length choices = length-map choices (λ c. c.place) in
    let within : e < length choices = omega arith in
    let is = c.index-choices-element.is in
    let walk = rw (← c.loop-element.invariant.0) at c.requires.walk in
    let place : get_or ps e 0 ≡ choice.place = place_at choices e choice within is in
    let before : choice.before.hi ≡ reached upper his ps e =
    sym (upper_at choices e choice within is) ∙ walk.walk.uppers e (omega arith) in
    let modes : drop (e + 1) c.args.modes.now ≡ firsts (drop (suc e) his) =
    ap (drop (e + 1)) c.requires.modes ∙ sym (firsts-drop his (e + 1))
    ∙ ap (λ (k : ℕ). firsts (drop k his)) (let one : e + 1 ≡ suc e = omega arith in one) in
    let below = λ (room : get_or ps e 0 + 1 < length (get_or his e [])).
    ⊎_elim
    (λ (over : c.args.threshold < fold upper
    (upper (reached upper his ps e) (get_or (get_or his e []) (get_or ps e 0 + 1) 0)) (firsts (drop (suc e) his))).
    absurd (false≢true (c.if-has_next.ensures.above.1 (rw (← place) room, rw (← place, before, modes) over))))
    (λ (under : fold upper (upper (reached upper his ps e) (get_or (get_or his e []) (get_or ps e 0 + 1) 0))
    (firsts (drop (suc e) his)) ≤ c.args.threshold).
    under)
    (cases_lt c.args.threshold
    (fold upper (upper (reached upper his ps e) (get_or (get_or his e []) (get_or ps e 0 + 1) 0))
    (firsts (drop (suc e) his)))) in (
      c.loop-element.invariant.0,
      omega (arith, c.loop-element.invariant.1, c.has_next.ensures.steps),
      none_at upper upper-rises c.args.threshold his ps (omega arith) c.requires.falling e (omega arith)
          (none_before his ps upper c.args.threshold c.loop-element.element (omega arith) c.loop-element.invariant.2)
          below,
    )

pub returns-clause-next : goal.returns-clause-next
returns-clause-next g c =
    let lists = c.args.lists.now in (
      none_of_all upper c.args.threshold (his_of lists) (places_of c.loop-element.choices)
          (places_of c.args.choices.now)
          c.loop-element.element (omega arith) (ap places_of c.loop-element.invariant.0) c.loop-element.invariant.2,
      c.loop-element.invariant.0,
    )
