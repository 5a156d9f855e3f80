use Rattle.std.proofs.Common.{◌≡◌, length, ap, ◌∙◌, None, refl, arith}
use Rattle.decompose.specs.Enumeration.{left}
use Rattle.decompose.specs.Levels.{symbols_of}
use Rattle.decompose.specs.Probes.{AreTables}
use Rattle.decompose.proofs.EachListOnce.{each_list, lists_rise}
use Rattle.decompose.proofs.LevelsOfSymbols.{limits_are, length_are}
use Rattle.decompose.proofs.WalkKept.{IsWalk-made, made_symbols_ok, scaled_length}
use Rattle.decompose.proofs.enumerate.Decomps.start.Goals as goal
use Rattle.decompose.proofs.enumerate.Decomps.start.Goals.{After-scaled_window_of}

module _ (c : After-scaled_window_of) where
  tables_ok : AreTables c.args.tables.now c.tables.inside.scale c.tables.inside.residues
  tables_ok = rw c.tables.view_is at c.tables.invariant

  symbols_are : c.in_ok-symbols.symbols.items ≡
      symbols_of c.args.tables.now c.tables.inside.scale.scaled c.args.limits.now
  symbols_are =
      c.in_ok-symbols.ensures ∙ rw (c.deref.ensures.value, c.tables.view_is, c.scaled.ensures) refl

  scaled_as_many : length c.tables.inside.scale.scaled ≡ length c.args.tables.now
  scaled_as_many =
      scaled_length c.args.tables.now c.tables.inside.scale c.tables.inside.residues c.args.limits.now c.args.window
      c.scaled_window_of.result tables_ok c.requires.one_limit_each c.requires.limits c.requires.window
      c.scaled_window_of.ensures.loses_nothing c.scaled_window_of.ensures.exact

  length_is : length c.in_ok-levels.levels.items ≡ length c.args.tables.now
  length_is =
      omega (
        arith,
        c.in_ok-levels.ensures.len,
        c.in_ok-levels.levels.ok.0,
        c.len.ensures,
        c.in_ok-symbols.symbols.ok.0,
        ap length symbols_are,
        length_are c.args.tables.now c.tables.inside.scale.scaled c.args.limits.now scaled_as_many
            c.requires.one_limit_each,
      )

pub of_last-strides-requires : goal.of_last-strides-requires
of_last-strides-requires c =
    let tables : AreTables c.args.tables.now c.tables.inside.scale c.tables.inside.residues =
    rw c.tables.view_is at c.tables.invariant in
    rw (c.deref-2.ensures.value, c.in_ok-symbols.ensures, c.deref.ensures.value, c.tables.view_is, c.scaled.ensures)
    (made_symbols_ok c.args.tables.now c.tables.inside.scale c.tables.inside.residues c.args.limits.now tables
    c.requires.one_limit_each c.requires.limits)

pub invariant_of-result : goal.invariant_of-result
invariant_of-result c = (
  rw (symbols_are c)
      (IsWalk-made c.args.tables.now c.tables.inside.scale c.tables.inside.residues c.args.limits.now c.args.window
      c.scaled_window_of.result (tables_ok c) c.requires.one_limit_each c.requires.limits c.requires.window
      c.scaled_window_of.ensures.loses_nothing c.scaled_window_of.ensures.exact c.in_ok-levels.levels.items None
      (length_is c) tt tt),
  rw c.deref-2.ensures.value at c.of_last-strides.ensures,
)

pub returns-clause-start : goal.returns-clause-start
returns-clause-start c =
    rw (
      symbols_are c,
      limits_are c.args.tables.now c.tables.inside.scale.scaled c.args.limits.now (scaled_as_many c)
          c.requires.one_limit_each,
    ) refl

pub returns-clause-all_left : goal.returns-clause-all_left
unfolding left
returns-clause-all_left c =
    rw (
      symbols_are c,
      limits_are c.args.tables.now c.tables.inside.scale.scaled c.args.limits.now (scaled_as_many c)
          c.requires.one_limit_each,
    ) refl

pub returns-in_err-symbols-clause-each : goal.returns-in_err-symbols-clause-each
returns-in_err-symbols-clause-each c = each_list c.args.tables.now c.args.limits.now c.args.window

pub returns-in_err-symbols-clause-rising : goal.returns-in_err-symbols-clause-rising
returns-in_err-symbols-clause-rising c = lists_rise c.args.tables.now c.args.limits.now c.args.window

pub returns-in_err-levels-clause-each : goal.returns-in_err-levels-clause-each
returns-in_err-levels-clause-each c = each_list c.args.tables.now c.args.limits.now c.args.window

pub returns-in_err-levels-clause-rising : goal.returns-in_err-levels-clause-rising
returns-in_err-levels-clause-rising c = lists_rise c.args.tables.now c.args.limits.now c.args.window

pub returns-clause-each : goal.returns-clause-each
returns-clause-each c = each_list c.args.tables.now c.args.limits.now c.args.window

pub returns-clause-rising : goal.returns-clause-rising
returns-clause-rising c = lists_rise c.args.tables.now c.args.limits.now c.args.window
