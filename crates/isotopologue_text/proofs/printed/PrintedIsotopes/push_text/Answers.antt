use Rattle.std.proofs.Common.{rules}
use Rattle.isotopologue_text.proofs.PrintedLabels.{labels-pushed}
use Rattle.isotopologue_text.proofs.printed.PrintedIsotopes.push_text.Goals as goal

pub returns : goal.returns
returns c =
    labels-pushed c.push_counts.result c.args.text.now.items c.push_counts.new.text.items c.args.self.now
    c.deref.result.now c.args.counts.now (search rules) (search rules) c.push_counts.ensures
