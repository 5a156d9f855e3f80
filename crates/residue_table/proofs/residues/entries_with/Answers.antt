use Rattle.std.proofs.Common.{◌≡◌, ℕ, List, length, subst, sym, rules}
use Rattle.residue_table.specs.Rows.{IsRow}
use Rattle.residue_table.proofs.LevelRows.{written}
use Rattle.residue_table.proofs.residues.entries_with.Goals as goal

pub returns-clause-row : goal.returns-clause-row
returns-clause-row c masses row =
    let heavier = c.in_ok-heavier.heavier in
    let new = c.add_mass.new.entries in
    let copied : c.deref_mut.result.now ≡ c.args.entries.now = search rules in
    let all : heavier.len ≡ length heavier.items = search rules in
    let same : length new ≡ length heavier.items = search rules in
    rw (written new heavier.items heavier.len all same)
    (c.add_mass.ensures.row masses (subst (λ (xs : List ℕ). IsRow masses xs) (sym copied) row))
