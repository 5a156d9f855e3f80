use Rattle.std.proofs.Common.{◌∙◌, refl, sym}
use Rattle.golden_rules.proofs.MetRules.{IsVerdict-pass, IsVerdict-fails, meets_all-pass, meets_all-fails}
use Rattle.golden_rules.proofs.OneVerdict.{one-verdict}
use Rattle.golden_rules.proofs.rules.Rules.holds.Goals as goal

pub returns-in-None-clause-meaning : goal.returns-in-None-clause-meaning
returns-in-None-clause-meaning c = IsVerdict-pass _ _ _ (sym c.first_failing.ensures.place ∙ c.in-None.is)

pub returns-in-None-clause-passes : goal.returns-in-None-clause-passes
returns-in-None-clause-passes c = (
  λ _. meets_all-pass c.args.table.now c.args.self.now c.args.formula.now
      (sym c.first_failing.ensures.place ∙ c.in-None.is),
  λ _. refl,
)

pub returns-in-None-clause-only : goal.returns-in-None-clause-only
returns-in-None-clause-only c =
    λ other is. one-verdict _ _ _ other _ is (IsVerdict-pass _ _ _ (sym c.first_failing.ensures.place ∙ c.in-None.is))

pub returns-in-Some-clause-meaning : goal.returns-in-Some-clause-meaning
returns-in-Some-clause-meaning c = IsVerdict-fails _ _ _ _ (sym c.first_failing.ensures.place ∙ c.in-Some.is)

pub returns-in-Some-clause-passes : goal.returns-in-Some-clause-passes
returns-in-Some-clause-passes c = (
  λ same. absurd (cc),
  λ all.
      absurd (meets_all-fails c.args.table.now c.args.self.now c.args.formula.now _
      (sym c.first_failing.ensures.place ∙ c.in-Some.is) all),
)

pub returns-in-Some-clause-only : goal.returns-in-Some-clause-only
returns-in-Some-clause-only c =
    λ other is. one-verdict _ _ _ other _ is
    (IsVerdict-fails _ _ _ _ (sym c.first_failing.ensures.place ∙ c.in-Some.is))
