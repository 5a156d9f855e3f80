use Rattle.std.proofs.Common.{◌≡◌, Bool, true, false, sym, ap, ◌∙◌}
use Rattle.std.specs.Prelude.{◌&&◌, is_some}
use Rattle.adducts.specs.Ions.{ion_of}
use Rattle.adducts.specs.IonTests.{are_within_limits, finds_what_is_lost}
use Rattle.adducts.proofs.IonAnswers.{finds-lost}
use Rattle.adducts.proofs.IonLimits.{ion-tested, ion-defined}
use Rattle.adducts.proofs.ion.has_ion.Goals as goal
use Rattle.adducts.proofs.ion.has_ion.Goals.{After-is_within_limits, Else-has_what_is_lost}

within : (c : After-is_within_limits)
    → c.is_within_limits.result ≡ is_some (ion_of c.args.adduct.now c.args.counts.now)
within c =
    c.is_within_limits.ensures
    ∙ ap (λ b. b && are_within_limits c.args.adduct.now c.args.counts.now)
    (sym c.if-has_what_is_lost.true ∙ c.has_what_is_lost.ensures.test
    ∙ finds-lost c.args.adduct.now c.args.counts.now c.requires)
    ∙ sym (ion-tested c.args.adduct.now c.args.counts.now c.has_what_is_lost.ensures.adduct c.requires)

lost : (c : Else-has_what_is_lost)
    → c.has_what_is_lost.result ≡ is_some (ion_of c.args.adduct.now c.args.counts.now)
lost c =
    c.if-has_what_is_lost.false
    ∙ ap (λ b. b && are_within_limits c.args.adduct.now c.args.counts.now)
    (sym c.if-has_what_is_lost.false ∙ c.has_what_is_lost.ensures.test
    ∙ finds-lost c.args.adduct.now c.args.counts.now c.requires)
    ∙ sym (ion-tested c.args.adduct.now c.args.counts.now c.has_what_is_lost.ensures.adduct c.requires)

pub returns-then-has_what_is_lost-clause-ion : goal.returns-then-has_what_is_lost-clause-ion
returns-then-has_what_is_lost-clause-ion c = within c

pub returns-then-has_what_is_lost-clause-defined : goal.returns-then-has_what_is_lost-clause-defined
returns-then-has_what_is_lost-clause-defined c =
    ion-defined c.args.adduct.now c.args.counts.now c.is_within_limits.result c.has_what_is_lost.ensures.adduct c.requires
    (within c)

pub returns-else-has_what_is_lost-clause-ion : goal.returns-else-has_what_is_lost-clause-ion
returns-else-has_what_is_lost-clause-ion c = lost c

pub returns-else-has_what_is_lost-clause-defined : goal.returns-else-has_what_is_lost-clause-defined
returns-else-has_what_is_lost-clause-defined c =
    ion-defined c.args.adduct.now c.args.counts.now c.has_what_is_lost.result c.has_what_is_lost.ensures.adduct c.requires
    (lost c)
