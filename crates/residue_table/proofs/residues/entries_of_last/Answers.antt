use Rattle.std.proofs.Common.{◌≡◌, replicate, rules}
use Rattle.residue_table.specs.declared.rows.TheConstants.{UNREACHED}
use Rattle.residue_table.proofs.LevelRows.{last_row}
use Rattle.residue_table.proofs.residues.entries_of_last.Goals as goal

pub returns-clause-row : goal.returns-clause-row
returns-clause-row c =
    let is : c.in_ok-entries.entries.items ≡ replicate c.args.modulus UNREACHED = search rules in
    rw is (last_row c.args.modulus c.requires)
