use Rattle.std.proofs.Common.{◌≡◌, ◌/◌, ◌++◌, length, take, drop, ap, ◌∙◌, sym, refl, Some}
use Rattle.std.proofs.lemmas.List.{length-map}
use Rattle.mass_scaling.specs.Masses.{base_of}
use Rattle.mass_scaling.specs.Scales.{grain_for}
use Rattle.decompose.specs.CountLists.{IsInBox}
use Rattle.decompose.specs.Enumeration.{Enumeration, left}
use Rattle.decompose.specs.Search.{enumeration}
use Rattle.decompose.specs.Levels.{symbols_of, limits_of, counts_of}
use Rattle.decompose.specs.Probes.{AreTables}
use Rattle.decompose.specs.Walk.{StandsAt}
use Rattle.decompose.proofs.FirstOfBox.{IsInBox-length}
use Rattle.decompose.proofs.LevelsOfSymbols.{limits_are, length_are, counts_are}
use Rattle.decompose.proofs.WalkKept.{IsWalk-resumed, made_symbols_ok, resumed_is}
use Rattle.decompose.proofs.enumerate.Decomps.resume.Goals as goal
use Rattle.decompose.proofs.enumerate.Decomps.resume.Goals.{After-deref_mut, After-scaled_window_of}

-- what is handed in, and what is made of it
module _ (c : After-deref_mut) where
  in_box : IsInBox c.args.limits.now c.args.after.now
  in_box = rw c.counts.ensures at c.if-not-is_in_box.ensures.0 refl

  symbols_are : c.in_ok-symbols.symbols.items ≡
      symbols_of c.args.tables.now c.tables.inside.scale.scaled c.args.limits.now
  symbols_are =
      c.in_ok-symbols.ensures ∙ rw (c.deref.ensures.value, c.tables.view_is, c.scaled.ensures) refl

  tables_ok : AreTables c.args.tables.now c.tables.inside.scale c.tables.inside.residues
  tables_ok = rw c.tables.view_is at c.tables.invariant

  scaled_as_many : length c.tables.inside.scale.scaled ≡ length c.args.tables.now
  scaled_as_many =
      ap length tables_ok.scale_is.scaled
      ∙ length-map c.args.tables.now (λ m. m / grain_for (base_of c.args.tables.now))

  limits_kept : limits_of c.in_ok-symbols.symbols.items ≡ c.args.limits.now
  limits_kept =
      ap limits_of symbols_are
      ∙ limits_are c.args.tables.now c.tables.inside.scale.scaled c.args.limits.now scaled_as_many
      c.requires.one_limit_each

  counts_kept : counts_of c.in_ok-levels.levels.items ≡ c.args.after.now
  counts_kept =
      ap counts_of c.in_ok-levels.ensures ∙ counts_are c.args.window c.counts-2.result.now ∙ c.counts-2.ensures

  levels_length : length c.in_ok-levels.levels.items ≡ length c.args.limits.now
  levels_length =
      sym (length-map c.in_ok-levels.levels.items (λ level. level.count)) ∙ ap length counts_kept
      ∙ IsInBox-length c.args.limits.now c.args.after.now in_box

pub stand_at-depth-requires-clause-one_level_each : goal.stand_at-depth-requires-clause-one_level_each
stand_at-depth-requires-clause-one_level_each c =
    rw (c.deref_mut.ensures.value, c.deref-2.ensures.value)
    (levels_length c ∙ c.requires.one_limit_each
    ∙ sym
    (ap length (symbols_are c)
    ∙ length_are c.args.tables.now c.tables.inside.scale.scaled c.args.limits.now (scaled_as_many c)
    c.requires.one_limit_each))

pub stand_at-depth-requires-clause-in_box : goal.stand_at-depth-requires-clause-in_box
stand_at-depth-requires-clause-in_box c =
    rw (c.deref_mut.ensures.value, c.deref-2.ensures.value, limits_kept c, counts_kept c) (in_box c)

pub of_last-strides-requires : goal.of_last-strides-requires
of_last-strides-requires c =
    let tables : AreTables c.args.tables.now c.tables.inside.scale c.tables.inside.residues =
    rw c.tables.view_is at c.tables.invariant in
    rw (c.deref-3.ensures.value, c.in_ok-symbols.ensures, c.deref.ensures.value, c.tables.view_is, c.scaled.ensures)
    (made_symbols_ok c.args.tables.now c.tables.inside.scale c.tables.inside.residues c.args.limits.now tables
    c.requires.one_limit_each c.requires.limits)

-- what the levels are behind `stand_at`
module _ (c : After-scaled_window_of) where
  now_tables : AreTables c.args.tables.now c.tables.inside.scale c.tables.inside.residues
  now_tables = rw c.tables.view_is at c.tables.invariant

  now_symbols : c.in_ok-symbols.symbols.items ≡
      symbols_of c.args.tables.now c.tables.inside.scale.scaled c.args.limits.now
  now_symbols =
      c.in_ok-symbols.ensures ∙ rw (c.deref.ensures.value, c.tables.view_is, c.scaled.ensures) refl

  now_length : length c.stand_at-depth.new.levels ≡ length c.in_ok-levels.levels.items
  now_length = c.stand_at-depth.auto.levels ∙ ap length c.deref_mut.ensures.value

  now_counts : counts_of c.stand_at-depth.new.levels ≡ c.args.after.now
  now_counts =
      c.stand_at-depth.ensures.counts
      ∙ ap counts_of (c.deref_mut.ensures.value ∙ c.in_ok-levels.ensures)
      ∙ counts_are c.args.window c.counts-2.result.now ∙ c.counts-2.ensures

  now_in_box : IsInBox c.args.limits.now c.args.after.now
  now_in_box = rw c.counts.ensures at c.if-not-is_in_box.ensures.0 refl

  now_stands : StandsAt c.in_ok-symbols.symbols.items c.args.window c.stand_at-depth.new.levels c.stand_at-depth.result
  now_stands = rw c.deref-2.ensures.value at c.stand_at-depth.ensures.stands

pub invariant_of-result : goal.invariant_of-result
invariant_of-result c = (
  IsWalk-resumed c.args.tables.now c.tables.inside.scale c.tables.inside.residues c.args.limits.now c.args.window
      c.scaled_window_of.result (now_tables c) c.requires.one_limit_each c.requires.limits c.requires.window
      c.scaled_window_of.ensures.loses_nothing c.scaled_window_of.ensures.exact c.args.after.now
      c.in_ok-symbols.symbols.items c.in_ok-levels.levels.items
      c.stand_at-depth.new.levels c.in_ok-levels.levels.len c.stand_at-depth.result (now_in_box c) (now_symbols c)
      c.in_ok-levels.levels.ok.0 (now_length c) (now_counts c) (now_stands c),
  rw c.deref-3.ensures.value at c.of_last-strides.ensures,
)

now_resumed : (c : After-scaled_window_of) →
    enumeration c.args.tables.now (limits_of c.in_ok-symbols.symbols.items) c.args.window
    (Some (counts_of (take c.in_ok-levels.levels.len
    (c.stand_at-depth.new.levels ++ drop (length c.stand_at-depth.new.levels) c.in_ok-levels.levels.items)))) ≡
    enumeration c.args.tables.now c.args.limits.now c.args.window (Some c.args.after.now)
now_resumed c =
    resumed_is c.args.tables.now c.tables.inside.scale c.tables.inside.residues c.args.limits.now c.args.window
    c.scaled_window_of.result (now_tables c) c.requires.one_limit_each c.requires.limits c.requires.window
    c.scaled_window_of.ensures.loses_nothing c.scaled_window_of.ensures.exact c.args.after.now
    c.in_ok-symbols.symbols.items c.in_ok-levels.levels.items
    c.stand_at-depth.new.levels c.in_ok-levels.levels.len c.stand_at-depth.result (now_in_box c) (now_symbols c)
    c.in_ok-levels.levels.ok.0 (now_length c) (now_counts c) (now_stands c)

pub returns-clause-resumed : goal.returns-clause-resumed
returns-clause-resumed c = now_resumed c

pub returns-clause-rest_left : goal.returns-clause-rest_left
unfolding left
returns-clause-rest_left c = ap (λ (e : Enumeration). left e) (now_resumed c)
