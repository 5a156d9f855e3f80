use Rattle.std.proofs.Common.{◌<◌, length, refl, rules, arith}
use Rattle.residue_table.proofs.Cycles.{round_of}
use Rattle.residue_table.proofs.CarriedRows.{complete, none_of_it, one_cycle_more}
use Rattle.residue_table.proofs.round_robin.add_mass.Goals as goal

pub close_cycle-requires-clause-round : goal.close_cycle-requires-clause-round
close_cycle-requires-clause-round c =
    let within : c.loop-start.start < length c.args.entries.now = search rules in
    round_of _ _ _ c.common_divisor-cycles.ensures _ c.loop-start.start c.requires.some c.loop-start.auto.entries within

pub loop-start-preserved : goal.loop-start-preserved
loop-start-preserved c =
    record {
      limited = c.close_cycle.ensures.limited;
      lowered = λ k. omega (arith, c.loop-start.invariant.lowered k, c.close_cycle.ensures.lowered k);
      closed = one_cycle_more _ _ c.loop-start.start _ _ _ _ _ _ c.loop-start.auto.entries
          c.loop-start.invariant.lowered c.close_cycle.ensures.lowered c.close_cycle.ensures.closed
          c.loop-start.invariant.closed;
      sound = λ masses s. c.close_cycle.ensures.sound masses (c.loop-start.invariant.sound masses s);
    }

pub returns : goal.returns
returns c =
    record {
      row = λ masses is. record {
        limited = c.loop-start.invariant.limited;
        sound = c.loop-start.invariant.sound masses
            (λ value small reached. none_of_it c.args.mass masses value (is.sound value small reached));
        complete = complete c.args.mass masses _ _ _ _ c.common_divisor-cycles.ensures c.requires.some
            c.loop-start.auto.entries refl is.complete
            (λ p less. c.loop-start.invariant.closed p (omega (arith, c.loop-start-test.false)));
      };
    }
