use Rattle.std.proofs.Common.{◌≡◌, ◌<◌, ◌≤◌, ◌++◌, ◌∙◌, length, get_or, sum, sym, ap, subst}
use Rattle.std.specs.List.{concat}
use Rattle.cover_certificate.specs.FormulaCovers.{CoverEntries}
use Rattle.isotopologue_text.specs.Printed.{printed_text, printed_mass}
use Rattle.cover_certificate.proofs.PrintedMembers.{none, inside, lo_at, hi_at}
use Rattle.cover_certificate.proofs.numbered.NumberedCover.enclosure.Goals as goal

pub enclosure-requires : goal.enclosure-requires
enclosure-requires c =
    inside c.self.inside.formula c.self.inside.coverage c.self.inside.printed c.self.inside.numbers c.args.self.now
    c.self.view_is c.args.place c.requires

pub returns-clause-lo : goal.returns-clause-lo
returns-clause-lo c d =
    c.enclosure.ensures.lo none
    ∙ lo_at c.self.inside.formula c.self.inside.coverage c.self.inside.printed c.self.inside.numbers c.args.self.now
    c.self.view_is c.args.place c.requires d

pub returns-clause-hi : goal.returns-clause-hi
returns-clause-hi c d =
    c.enclosure.ensures.hi none
    ∙ hi_at c.self.inside.formula c.self.inside.coverage c.self.inside.printed c.self.inside.numbers c.args.self.now
    c.self.view_is c.args.place c.requires d
