use Rattle.std.proofs.Common.{refl, ap}
use Rattle.element_table.specs.Gathering.{IsIsotopeRow}
use Rattle.element_table.proofs.FaultSteps.{GivesAs-within}
use Rattle.element_table.proofs.RowRanges.{is_electron-symbol}
use Rattle.element_table.proofs.gathering.Gathered.add.Goals as goal

-- an isotope's symbol is not the electron's
pub returns-in-OfIsotope : goal.returns-in-OfIsotope
returns-in-OfIsotope c =
    let row : IsIsotopeRow c.in-OfIsotope.symbol c.in-OfIsotope.valence c.in-OfIsotope.isotope =
    rw c.in-OfIsotope.is at c.requires in
    let other = is_electron-symbol c.in-OfIsotope.symbol row.symbol_ok in
    GivesAs-within c.add_isotope.result
    (rw (c.in-OfIsotope.is, other, ← c.self.view_is) refl)
    (λ is. rw (c.in-OfIsotope.is, other, ← c.self.view_is)
    (ap (λ es. record { electron = c.self.inside.electron; elements = es }) is))
    c.add_isotope.ensures.added
