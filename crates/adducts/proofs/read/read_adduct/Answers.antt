use Rattle.adducts.proofs.OneReading.{reading-meaning, reading-only}
use Rattle.adducts.proofs.KnownItems.{added-known, lost-known}
use Rattle.adducts.proofs.read.read_adduct.Goals as goal

pub returns-clause-meaning : goal.returns-clause-meaning
returns-clause-meaning c = reading-meaning c.args.table.now c.args.text.now

pub returns-clause-only : goal.returns-clause-only
returns-clause-only c = reading-only c.args.table.now c.args.text.now

pub returns-clause-added_known : goal.returns-clause-added_known
returns-clause-added_known c = added-known c.args.table.now c.args.text.now c.adduct_of.result c.adduct_of.ensures

pub returns-clause-lost_known : goal.returns-clause-lost_known
returns-clause-lost_known c = lost-known c.args.table.now c.args.text.now c.adduct_of.result c.adduct_of.ensures
