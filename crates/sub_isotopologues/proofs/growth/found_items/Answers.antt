-- The children of the items are found in the items' order.
use Rattle.sub_isotopologues.proofs.ChildBounds.{none_wanted}
use Rattle.sub_isotopologues.proofs.KeptLists.{get_or_front}
use Rattle.std.proofs.Common.{◌≡◌, ◌+◌, ◌<◌, ◌++◌, [], ℕ, Bool, true, ltb, leb, List, length, sum, get_or, sym, ◌∙◌, ap}
use Rattle.std.proofs.Common.{arith, length-append, rules, refl, subst, All, ◌≤◌}
use Rattle.std.specs.Prelude.{◌&&◌}
use Rattle.std.proofs.lemmas.List.{length-map, append-nil, take_at}
use Rattle.std.proofs.lemmas.Result.{err_from_is_err_and}
use Rattle.multinomial_bounds.specs.Weight.{IsCounts}
use Rattle.multinomial_bounds.specs.Bounds.{floor_of, ceiling_of}
use Rattle.multinomial_bounds.specs.Mode.{mode_of_atoms}
use Rattle.multinomial_bounds.specs.Path.{bound_of}
use Rattle.sub_isotopologues.specs.Children.{wanted_of, children, IsBoundUpTo}
use Rattle.sub_isotopologues.proofs.FaultLemmas.{OnlyTooMany-weaker}
use Rattle.sub_isotopologues.proofs.ItemLists.{counts_in, step-counts, step-is, step-items, step-inside, step-found}
use Rattle.sub_isotopologues.proofs.ItemLists.{step-values, step-few, counts-at, lo-at, hi-at, mode_counts_at}
use Rattle.sub_isotopologues.proofs.ItemLists.{mode_counts_are, found_first, first_few, found_last, found_below}
use Rattle.sub_isotopologues.proofs.growth.found_items.Goals as goal
use Rattle.sub_isotopologues.proofs.growth.found_items.Goals.{After-deref-in-loop-place, After-node_of-node}

pub first_found-requires : goal.first_found-requires
first_found-requires c =
    let places : length c.args.mode.now.counts ≡ length c.args.weights.now =
    mode_counts_at c.args.weights.now (sum c.args.mode.now.counts) c.args.mode.now c.requires.mode in
    omega (arith, c.requires.weights_in_range.few)

pub returns-in_err-found-clause-cause : goal.returns-in_err-found-clause-cause
returns-in_err-found-clause-cause c =
    let p = err_from_is_err_and c.from_residual.result c.from_residual.ensures.1 in
    let band : Bool = ltb c.args.wanted.above c.args.mode.now.hi && leb c.args.mode.now.hi c.args.wanted.up_to in
    rw (p.1, p.2)
    (OnlyTooMany-weaker _ _ _
    (λ (many : (band ≡ true) × (c.args.wanted.most ≡ 0)).
    omega (
      arith,
      c.requires.room,
      many.1,
      first_few c.args.weights.now (sum c.args.mode.now.counts) c.args.wanted.above c.args.wanted.up_to
          c.requires.weights_in_range
          c.args.items.now c.args.mode.now c.requires.older c.requires.mode c.requires.lower many.0,
    ))
    c.in_err-found.ensures.cause)

pub loop-place-init : goal.loop-place-init
loop-place-init c =
    let first = found_first c.args.weights.now (sum c.args.mode.now.counts) c.args.wanted.above c.args.wanted.up_to
    c.requires.weights_in_range c.args.items.now c.args.mode.now c.requires.older c.requires.mode
    c.in_ok-found.found.items
    c.in_ok-found.ensures.found in
    record {
      values = first.0;
      found = first.1;
      fits = c.in_ok-found.ensures.fits;
      room = search rules;
      within = omega arith;
    }

pub read_item-enclosure-requires-clause-room : goal.read_item-enclosure-requires-clause-room
read_item-enclosure-requires-clause-room c =
    λ d.
    let ws = c.args.weights.now in
    let n = sum c.args.mode.now.counts in
    let a = c.args.wanted.above in
    let u = c.args.wanted.up_to in
    let items = c.args.items.now in
    let found = c.loop-place.found.items in
    let p = c.loop-place.place in
    let inside : p < length items + length found = omega arith in
    let counts = step-counts ws n a u p c.requires.weights_in_range c.requires.lower items found found c.requires.older
    c.loop-place.invariant.values c.loop-place.invariant.found inside in
    rw c.deref.ensures.value
    (ap length c.deref_mut.ensures.value
    ∙ c.loop-place.invariant.room
    ∙ sym counts.places_agree
    ∙ ap (λ (xs : List (List ℕ)). length (get_or xs p []))
    (sym (step-is ws n a u p c.requires.weights_in_range c.requires.lower items found found c.requires.older
    c.loop-place.invariant.values c.loop-place.invariant.found inside))
    ∙ ap length
    (sym (counts-at ws (items ++ found)
    (step-items ws n a u p c.requires.weights_in_range c.requires.lower items found found c.requires.older
    c.loop-place.invariant.values c.loop-place.invariant.found inside) p
    (step-inside ws n a u p c.requires.weights_in_range c.requires.lower items found found c.requires.older
    c.loop-place.invariant.values c.loop-place.invariant.found inside) d)))

-- the counts that are read, and their bounds
record IsRead (ws : List ℕ) (n : ℕ) (x y : List ℕ) (lo hi : ℕ) : Type 0 where
  pub counts : x ≡ y
  pub is : IsCounts ws n y
  pub low : lo ≡ bound_of floor_of ws x
  pub high : hi ≡ bound_of ceiling_of ws x

read : (c : After-deref-in-loop-place) →
    IsRead c.args.weights.now (sum c.args.mode.now.counts) c.deref-in-loop-place.result.now
    (get_or (counts_in c.args.items.now ++ counts_in c.loop-place.found.items) c.loop-place.place [])
    c.read_item-enclosure.result.lo c.read_item-enclosure.result.hi
read c =
    let ws = c.args.weights.now in
    let n = sum c.args.mode.now.counts in
    let a = c.args.wanted.above in
    let u = c.args.wanted.up_to in
    let items = c.args.items.now in
    let found = c.loop-place.found.items in
    let p = c.loop-place.place in
    let d = c.args.mode.now in
    let inside : p < length items + length found = omega arith in
    let are = step-items ws n a u p c.requires.weights_in_range c.requires.lower items found found c.requires.older
    c.loop-place.invariant.values c.loop-place.invariant.found inside in
    let within = step-inside ws n a u p c.requires.weights_in_range c.requires.lower items found found c.requires.older
    c.loop-place.invariant.values c.loop-place.invariant.found inside in
    let places : get_or (counts_in (items ++ found)) p [] ≡ get_or (counts_in items ++ counts_in found) p [] =
    ap (λ (xs : List (List ℕ)). get_or xs p [])
    (step-is ws n a u p c.requires.weights_in_range c.requires.lower items found found c.requires.older
    c.loop-place.invariant.values c.loop-place.invariant.found inside) in
    let x_is : c.deref-in-loop-place.result.now ≡ get_or (counts_in items ++ counts_in found) p [] =
    c.deref-in-loop-place.ensures.value
    ∙ take_at _ _ c.loop-place.counts.len (omega (arith, c.read_item-enclosure.auto.counts, c.deref_mut.ensures.len))
    ∙ rw c.deref.ensures.value at (c.read_item-enclosure.ensures.counts d)
    ∙ counts-at ws (items ++ found) are p within d
    ∙ places in
    record {
      counts = x_is;
      is = step-counts ws n a u p c.requires.weights_in_range c.requires.lower items found found c.requires.older
          c.loop-place.invariant.values c.loop-place.invariant.found inside;
      low =
          rw c.deref.ensures.value at (c.read_item-enclosure.ensures.lo d)
          ∙ lo-at ws (items ++ found) are p within d
          ∙ ap (bound_of floor_of ws) (places ∙ sym x_is);
      high =
          rw c.deref.ensures.value at (c.read_item-enclosure.ensures.hi d)
          ∙ hi-at ws (items ++ found) are p within d
          ∙ ap (bound_of ceiling_of ws) (places ∙ sym x_is);
    }

atoms : (c : After-deref-in-loop-place) → sum c.deref-in-loop-place.result.now ≡ sum c.args.mode.now.counts
atoms c = let r = read c in ap sum r.counts ∙ r.is.atoms_agree

pub node_of-node-requires-clause-few_atoms : goal.node_of-node-requires-clause-few_atoms
node_of-node-requires-clause-few_atoms c =
    rw (atoms (goal.at.node_of-node-requires-clause-few_atoms c).After-deref-in-loop-place) c.requires.few_atoms

pub node_of-node-requires-clause-mode : goal.node_of-node-requires-clause-mode
node_of-node-requires-clause-mode c =
    c.counts.ensures
    ∙ mode_counts_are c.args.weights.now (sum c.args.mode.now.counts) c.args.mode.now c.requires.mode
    ∙ ap (mode_of_atoms c.args.weights.now)
    (sym (atoms (goal.at.node_of-node-requires-clause-mode c).After-deref-in-loop-place))

pub node_of-node-requires-clause-lo : goal.node_of-node-requires-clause-lo
node_of-node-requires-clause-lo c = (read (goal.at.node_of-node-requires-clause-lo c).After-deref-in-loop-place).low

pub node_of-node-requires-clause-hi : goal.node_of-node-requires-clause-hi
node_of-node-requires-clause-hi c = (read (goal.at.node_of-node-requires-clause-hi c).After-deref-in-loop-place).high

-- the children that are appended
appended_is : (c : After-node_of-node) →
    wanted_of c.node_of-node.result.weights.now c.args.wanted.above c.args.wanted.up_to
    (children c.node_of-node.result.mode.now c.node_of-node.result.counts.now)
    ≡ wanted_of c.args.weights.now c.args.wanted.above c.args.wanted.up_to
    (children (mode_of_atoms c.args.weights.now (sum c.args.mode.now.counts)) c.deref-in-loop-place.result.now)
appended_is c =
    let a = c.args.wanted.above in
    let u = c.args.wanted.up_to in
    let mode : c.node_of-node.result.mode.now ≡ mode_of_atoms c.args.weights.now (sum c.args.mode.now.counts) =
    c.node_of-node.ensures.mode
    ∙ c.counts.ensures
    ∙ mode_counts_are c.args.weights.now (sum c.args.mode.now.counts) c.args.mode.now c.requires.mode in
    ap (λ (ws : List ℕ). wanted_of ws a u (children c.node_of-node.result.mode.now c.node_of-node.result.counts.now))
    c.node_of-node.ensures.weights
    ∙ ap (λ (m : List ℕ). wanted_of c.args.weights.now a u (children m c.node_of-node.result.counts.now)) mode
    ∙ ap
    (λ (x : List ℕ).
    wanted_of c.args.weights.now a u (children (mode_of_atoms c.args.weights.now (sum c.args.mode.now.counts)) x))
    c.node_of-node.ensures.counts

pub returns-in_err-append_children-clause-cause : goal.returns-in_err-append_children-clause-cause
returns-in_err-append_children-clause-cause c =
    let at = (goal.at.returns-in_err-append_children-clause-cause c).After-node_of-node in
    let r = read (goal.at.returns-in_err-append_children-clause-cause c).After-deref-in-loop-place in
    let p = err_from_is_err_and c.from_residual-in_err-append_children.result
    c.from_residual-in_err-append_children.ensures.1 in
    let ws = c.args.weights.now in
    let n = sum c.args.mode.now.counts in
    let a = c.args.wanted.above in
    let u = c.args.wanted.up_to in
    let items = c.args.items.now in
    let found = c.loop-place.found.items in
    let inside : c.loop-place.place < length items + length found = omega arith in
    rw (p.1, p.2)
    (OnlyTooMany-weaker _ _ _
    (λ (many : c.args.wanted.most < length found + length (wanted_of c.node_of-node.result.weights.now a u
    (children c.node_of-node.result.mode.now c.node_of-node.result.counts.now))).
    omega (
      arith,
      c.requires.room,
      ap length (appended_is at),
      step-few ws n a u c.loop-place.place c.requires.weights_in_range c.requires.lower items found found
          c.requires.older
          c.loop-place.invariant.values c.loop-place.invariant.found inside c.deref-in-loop-place.result.now r.counts,
    ))
    c.in_err-append_children.ensures.cause)

pub loop-place-preserved-then-is_searched : goal.loop-place-preserved-then-is_searched
loop-place-preserved-then-is_searched c =
    let ws = c.args.weights.now in
    let n = sum c.args.mode.now.counts in
    let a = c.args.wanted.above in
    let u = c.args.wanted.up_to in
    let items = c.args.items.now in
    let found = c.loop-place.found.items in
    let p = c.loop-place.place in
    let unlisted = c.args.unlisted.now in
    let inside : p < length items + length found = omega arith in
    let x = get_or (counts_in items ++ counts_in found) p [] in
    let known : (p < length unlisted) × (get_or unlisted p 0 ≤ a) = c.if-is_searched.ensures in
    let within : p < length (counts_in items) = rw length-map (omega (arith, c.requires.searched.few, known.0)) in
    let mode : c.args.mode.now.counts ≡ mode_of_atoms ws n = mode_counts_are ws n c.args.mode.now c.requires.mode in
    let P : List ℕ → Type 0 = λ m. All (λ y. IsBoundUpTo ws u (get_or unlisted p 0) y) (children m x) in
    let bounds : All (λ y. IsBoundUpTo ws u (get_or unlisted p 0) y) (children (mode_of_atoms ws n) x) =
    subst P mode (rw (get_or_front (counts_in items) (counts_in found) p [] within)
    (c.requires.searched.bounds p known.0)) in
    let none : wanted_of ws a u (children (mode_of_atoms ws n) x) ≡ [] =
    none_wanted ws a u (get_or unlisted p 0) (children (mode_of_atoms ws n) x) known.1 bounds in
    let is : found ≡ found ++ wanted_of ws a u (children (mode_of_atoms ws n) x) =
    sym (append-nil found) ∙ ap (λ ys. found ++ ys) (sym none) in
    record {
      values = c.loop-place.invariant.values;
      found = step-found ws n a u p c.requires.weights_in_range c.requires.lower items found found c.requires.older
          c.loop-place.invariant.values c.loop-place.invariant.found inside x refl is;
      fits = c.loop-place.invariant.fits;
      room = c.loop-place.invariant.room;
      within = omega arith;
    }

pub loop-place-preserved : goal.loop-place-preserved
loop-place-preserved c =
    let at = (goal.at.loop-place-preserved c).After-node_of-node in
    let r = read (goal.at.loop-place-preserved c).After-deref-in-loop-place in
    let ws = c.args.weights.now in
    let n = sum c.args.mode.now.counts in
    let a = c.args.wanted.above in
    let u = c.args.wanted.up_to in
    let items = c.args.items.now in
    let found = c.loop-place.found.items in
    let then = c.append_children.new.found.items in
    let inside : c.loop-place.place < length items + length found = omega arith in
    let is : then ≡ found ++ wanted_of ws a u (children (mode_of_atoms ws n) c.deref-in-loop-place.result.now) =
    c.in_ok-append_children.ensures.appended ∙ ap (λ ys. found ++ ys) (appended_is at) in
    record {
      values = step-values ws n a u c.loop-place.place c.requires.weights_in_range c.requires.lower items found then
          c.requires.older
          c.loop-place.invariant.values c.loop-place.invariant.found inside c.deref-in-loop-place.result.now r.counts
          is;
      found = step-found ws n a u c.loop-place.place c.requires.weights_in_range c.requires.lower items found then
          c.requires.older
          c.loop-place.invariant.values c.loop-place.invariant.found inside c.deref-in-loop-place.result.now r.counts
          is;
      fits = c.in_ok-append_children.ensures.fits c.loop-place.invariant.fits;
      room = ap length (sym c.deref-in-loop-place.ensures.value) ∙ ap length r.counts ∙ r.is.places_agree;
      within =
          omega (
            arith,
            ap length is,
            length-append found (wanted_of ws a u (children (mode_of_atoms ws n) c.deref-in-loop-place.result.now)),
          );
    }

pub returns-clause-all : goal.returns-clause-all
returns-clause-all c =
    found_last c.args.weights.now (sum c.args.mode.now.counts) c.args.wanted.above c.args.wanted.up_to
    c.args.items.now c.loop-place.found.items c.loop-place.invariant.values c.loop-place.place
    c.loop-place.invariant.found c.requires.weights_in_range c.requires.lower c.requires.older (omega arith)

pub returns-clause-below : goal.returns-clause-below
returns-clause-below c =
    found_below c.args.weights.now (sum c.args.mode.now.counts) c.args.wanted.above c.args.wanted.up_to
    c.args.items.now c.loop-place.found.items c.loop-place.invariant.values c.loop-place.place
    c.loop-place.invariant.found
