use Rattle.std.proofs.Common.{◌≡◌, ◌<◌, ◌≤◌, ◌++◌, ◌∙◌, length, get_or, sum, sym, ap, subst}
use Rattle.std.specs.List.{concat}
use Rattle.cover_certificate.specs.FormulaCovers.{CoverEntries}
use Rattle.isotopologue_text.specs.Printed.{printed_text, printed_mass}
use Rattle.cover_certificate.proofs.PrintedMembers.{none, inside, mass_at}
use Rattle.cover_certificate.proofs.numbered.NumberedCover.mass.Goals as goal

pub counts-requires : goal.counts-requires
counts-requires c =
    inside c.self.inside.formula c.self.inside.coverage c.self.inside.printed c.self.inside.numbers c.args.self.now
    c.self.view_is c.args.place c.requires

pub mass-requires-clause-agree : goal.mass-requires-clause-agree
mass-requires-clause-agree c =
    ap length (c.counts.ensures none)
    ∙ (c.self.invariant c.args.place none (inside c.self.inside.formula c.self.inside.coverage c.self.inside.printed c.self.inside.numbers c.args.self.now
    c.self.view_is c.args.place c.requires)).0

pub mass-requires-clause-few_atoms : goal.mass-requires-clause-few_atoms
mass-requires-clause-few_atoms c =
    subst (λ counts. sum counts ≤ 20000) (sym (c.counts.ensures none))
    (c.self.invariant c.args.place none (inside c.self.inside.formula c.self.inside.coverage c.self.inside.printed c.self.inside.numbers c.args.self.now
    c.self.view_is c.args.place c.requires)).1

pub returns : goal.returns
returns c d =
    c.mass.ensures
    ∙ ap (printed_mass c.self.inside.printed) (c.counts.ensures none)
    ∙ mass_at c.self.inside.formula c.self.inside.coverage c.self.inside.printed c.self.inside.numbers c.args.self.now
    c.self.view_is c.args.place c.requires d
