-- The parent is nearer to the mode, so its enclosure is known, and the definition gives that of the counts.
use Rattle.std.proofs.Common.{◌≡◌, ℕ, ◌<◌, length, sum, sym, ◌∙◌, ap, arith}
use Rattle.std.proofs.lemmas.List.{get_or-map}
use Rattle.multinomial_bounds.specs.declared.enclosure.Enclosure.{Enclosure}
use Rattle.multinomial_bounds.specs.Bounds.{floor_of, ceiling_of}
use Rattle.multinomial_bounds.specs.Path.{bound_of, atoms_above}
use Rattle.multinomial_bounds.proofs.ModeLemmas.{length-mode_of_atoms}
use Rattle.multinomial_bounds.specs.Compositions.{compositions}
use Rattle.isotopologue_list.specs.Nearest.{composition_at}
use Rattle.isotopologue_list.specs.ListedParts.{ends_of_counts}
use Rattle.isotopologue_list.proofs.ParentLemmas.{IsMoveDown, IsMoveDown-from}
use Rattle.isotopologue_list.proofs.enclosures.enclosure_by_parent.Goals as goal
use Rattle.isotopologue_list.proofs.enclosures.enclosure_by_parent.Goals.{After-write_parent-from, After-move_down}

pub write_parent-from-requires-clause-same_places : goal.write_parent-from-requires-clause-same_places
write_parent-from-requires-clause-same_places c =
    ap length c.requires.mode
    ∙ length-mode_of_atoms c.args.weights.now (sum c.args.mode.now)
    ∙ sym c.requires.row.places_agree

down : (c : After-write_parent-from) →
    IsMoveDown c.args.weights.now c.args.mode.now c.args.row.now c.write_parent-from.new.parent
    c.write_parent-from.result.0 c.write_parent-from.result.1
down c =
    IsMoveDown-from c.args.weights.now c.args.mode.now c.args.row.now c.write_parent-from.new.parent
    c.write_parent-from.result.0 c.write_parent-from.result.1 c.requires.weights_in_range c.requires.mode c.requires.row
    c.requires.not_the_mode c.write_parent-from.ensures.parent c.write_parent-from.ensures.from c.write_parent-from.ensures.to

pub place_of-requires-clause-all : goal.place_of-requires-clause-all
place_of-requires-clause-all c =
    let move = down (goal.at.place_of-requires-clause-all c).After-write_parent-from in
    rw (move.places, move.atoms) c.requires.all

pub bounds-enclosures-place_of : goal.bounds-enclosures-place_of
bounds-enclosures-place_of c =
    let move = down (goal.at.bounds-enclosures-place_of c).After-write_parent-from in
    rw (c.requires.one_each, ← move.places, ← move.atoms) c.place_of.ensures.within

pub offset_bounds-enclosures-place_of : goal.offset_bounds-enclosures-place_of
offset_bounds-enclosures-place_of c =
    let move = down (goal.at.offset_bounds-enclosures-place_of c).After-write_parent-from in
    let inside : c.place_of.result < length c.args.enclosures.now =
    rw (c.requires.one_each, ← move.places, ← move.atoms) c.place_of.ensures.within in
    omega arith

pub move_down-requires : goal.move_down-requires
move_down-requires c =
    let move = down (goal.at.move_down-requires c).After-write_parent-from in
    record {
      weights_in_range = c.requires.weights_in_range;
      same_places = move.places;
      few_atoms = rw move.atoms c.requires.few_atoms;
      from_within = move.from_within;
      to_within = move.to_within;
      apart = move.apart;
      has_atom = move.has_atom;
      falls = move.falls;
    }

-- the enclosure of the parent
before_is : (c : After-move_down) →
    IsMoveDown c.args.weights.now c.args.mode.now c.args.row.now c.write_parent-from.new.parent
    c.write_parent-from.result.0 c.write_parent-from.result.1 →
    (c.index-enclosures-place_of.result.lo, c.index-enclosures-place_of.result.hi)
    ≡ ends_of_counts c.args.weights.now c.write_parent-from.new.parent
before_is c move =
    let there : composition_at (length c.args.weights.now) (sum c.args.mode.now) c.place_of.result ≡ c.write_parent-from.new.parent =
    rw (move.places, move.atoms) at c.place_of.ensures.is in
    let within : c.place_of.result < length (compositions (length c.args.weights.now) (sum c.args.mode.now)) =
    rw (move.places, move.atoms) at c.place_of.ensures.within in
    let inside : c.place_of.result < length c.args.enclosures.now = rw c.requires.one_each within in
    let ends : Enclosure → ℕ × ℕ = λ e. (e.lo, e.hi) in
    let nearer : atoms_above c.args.mode.now (composition_at (length c.args.weights.now) (sum c.args.mode.now) c.place_of.result)
    < atoms_above c.args.mode.now c.args.row.now =
    rw there move.nearer in
    sym
    (get_or-map {Y = ℕ × ℕ} ends c.args.enclosures.now c.place_of.result c.index-enclosures-place_of.result (0, 0) inside
    ∙ ap ends (sym c.index-enclosures-place_of.is))
    ∙ c.requires.nearer_known c.place_of.result within nearer
    ∙ ap (ends_of_counts c.args.weights.now) there

pub returns-clause-lo : goal.returns-clause-lo
returns-clause-lo c =
    let at = (goal.at.returns-clause-lo c).After-move_down in
    let move = down (goal.at.returns-clause-lo c).After-write_parent-from in
    let lo : c.index-enclosures-place_of.result.lo ≡ bound_of floor_of c.args.weights.now c.write_parent-from.new.parent =
    ap (λ (p : ℕ × ℕ). p.0) (before_is at move) in
    c.move_down.ensures.lo ∙ rw lo (sym (move.bound floor_of))

pub returns-clause-hi : goal.returns-clause-hi
returns-clause-hi c =
    let at = (goal.at.returns-clause-hi c).After-move_down in
    let move = down (goal.at.returns-clause-hi c).After-write_parent-from in
    let hi : c.index-enclosures-place_of.result.hi ≡ bound_of ceiling_of c.args.weights.now c.write_parent-from.new.parent =
    ap (λ (p : ℕ × ℕ). p.1) (before_is at move) in
    c.move_down.ensures.hi ∙ rw hi (sym (move.bound ceiling_of))
