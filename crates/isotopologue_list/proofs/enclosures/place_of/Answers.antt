-- The counts stay among those that are left, which become fewer, until only they are left.
use Rattle.std.proofs.Common.{◌≡◌, ◌+◌, ◌-◌, ◌/◌, true, false, length, sum, arith, sym, ◌∙◌}
use Rattle.isotopologue_list.specs.Nearest.{composition_at}
use Rattle.isotopologue_list.proofs.SearchLemmas.{upto, le_upto, IsBetween-start, IsBetween-upper, IsBetween-lower}
use Rattle.isotopologue_list.proofs.SearchLemmas.{IsBetween-one, row_count, row_inside, row_at_place}
use Rattle.isotopologue_list.proofs.enclosures.place_of.Goals as goal
use Rattle.isotopologue_list.proofs.enclosures.place_of.Goals.{After-row_at}

pub loop-high-init : goal.loop-high-init
loop-high-init c =
    IsBetween-start c.args.row.now (length c.args.counts.now / length c.args.row.now)
    (row_count c.args.row.now c.args.counts.now (sum c.args.row.now) c.requires.all c.requires.some)

pub row_at-requires : goal.row_at-requires
row_at-requires c =
    row_inside c.args.row.now c.args.counts.now (sum c.args.row.now) c.requires.all
    (c.loop-high.low + (c.loop-high.high - c.loop-high.low) / 2)
    (omega (arith, c.loop-high.invariant.within))

row_is : (c : After-row_at) →
    c.row_at.result.now
    ≡ composition_at (length c.args.row.now) (sum c.args.row.now) (c.loop-high.low + (c.loop-high.high - c.loop-high.low) / 2)
row_is c =
    c.row_at.ensures
    ∙ row_at_place c.args.row.now c.args.counts.now (sum c.args.row.now) c.requires.all
    (c.loop-high.low + (c.loop-high.high - c.loop-high.low) / 2)
    (omega (arith, c.loop-high.invariant.within))

pub loop-high-preserved-then-le : goal.loop-high-preserved-then-le
loop-high-preserved-then-le c =
    let test : true ≡ upto c.row_at.result.now c.args.row.now = le_upto c.row_at.result.now c.args.row.now true c.if-le.ensures in
    IsBetween-upper (length c.args.row.now) (sum c.args.row.now) c.args.row.now c.loop-high.low c.loop-high.high
    (c.loop-high.low + (c.loop-high.high - c.loop-high.low) / 2) c.loop-high.invariant (omega arith) (omega arith)
    (sym (rw (row_is (goal.at.loop-high-preserved-then-le c).After-row_at) at test))

pub loop-high-preserved : goal.loop-high-preserved
loop-high-preserved c =
    let test : false ≡ upto c.row_at.result.now c.args.row.now = le_upto c.row_at.result.now c.args.row.now false c.if-le.ensures in
    IsBetween-lower (length c.args.row.now) (sum c.args.row.now) c.args.row.now c.loop-high.low c.loop-high.high
    (c.loop-high.low + (c.loop-high.high - c.loop-high.low) / 2) c.loop-high.invariant (omega arith) (omega arith)
    (sym (rw (row_is (goal.at.loop-high-preserved c).After-row_at) at test))

pub returns : goal.returns
returns c =
    let last = IsBetween-one (length c.args.row.now) (sum c.args.row.now) c.args.row.now c.loop-high.low c.loop-high.high
    c.loop-high.invariant (omega arith) in
    record { within = last.0; is = last.1 }
