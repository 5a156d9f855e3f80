use Rattle.std.proofs.Common.{◌≡◌, ◌<◌, ◌≤◌, ◌++◌, ◌∙◌, length, get_or, sum, sym, ap, subst}
use Rattle.std.specs.List.{concat}
use Rattle.cover_certificate.specs.FormulaCovers.{CoverEntries}
use Rattle.isotopologue_text.specs.Printed.{printed_text, printed_mass}
use Rattle.cover_certificate.proofs.PrintedMembers.{none, inside, text_at, text_told}
use Rattle.cover_certificate.proofs.numbered.NumberedCover.push_text.Goals as goal

pub counts-requires : goal.counts-requires
counts-requires c =
    inside c.self.inside.formula c.self.inside.coverage c.self.inside.printed c.self.inside.numbers c.args.self.now
    c.self.view_is c.args.place c.requires

pub push_text-requires : goal.push_text-requires
push_text-requires c =
    ap length (c.counts.ensures none)
    ∙ (c.self.invariant c.args.place none (inside c.self.inside.formula c.self.inside.coverage c.self.inside.printed c.self.inside.numbers c.args.self.now
    c.self.view_is c.args.place c.requires)).0

pub returns : goal.returns
returns c =
    text_told c.push_text.result c.push_text.new.text.items c.args.text.now.items
    (printed_text c.self.inside.printed c.counts.result.now) c.args.self.now.layer c.args.place c.push_text.ensures
    (λ d. ap (printed_text c.self.inside.printed) (c.counts.ensures none)
    ∙ text_at c.self.inside.formula c.self.inside.coverage c.self.inside.printed c.self.inside.numbers c.args.self.now
    c.self.view_is c.args.place c.requires d)
