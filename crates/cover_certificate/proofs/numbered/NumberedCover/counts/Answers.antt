use Rattle.std.proofs.Common.{◌≡◌, ◌<◌, ◌≤◌, ◌++◌, ◌∙◌, length, get_or, sum, sym, ap, subst}
use Rattle.std.specs.List.{concat}
use Rattle.cover_certificate.specs.FormulaCovers.{CoverEntries}
use Rattle.isotopologue_text.specs.Printed.{printed_text, printed_mass}
use Rattle.cover_certificate.proofs.PrintedMembers.{none, inside, counts_at}
use Rattle.cover_certificate.proofs.numbered.NumberedCover.counts.Goals as goal

pub counts-requires : goal.counts-requires
counts-requires c =
    inside c.self.inside.formula c.self.inside.coverage c.self.inside.printed c.self.inside.numbers c.args.self.now
    c.self.view_is c.args.place c.requires

pub returns : goal.returns
returns c d =
    c.counts.ensures none
    ∙ counts_at c.self.inside.formula c.self.inside.coverage c.self.inside.printed c.self.inside.numbers c.args.self.now
    c.self.view_is c.args.place c.requires d
