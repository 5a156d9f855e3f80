use Rattle.std.proofs.Common.{refl, subst, inl, inr}
use Rattle.mass_scaling.specs.Windows.{IsWindowOf, NoMassIsWithin}
use Rattle.candidates.proofs.CandidateWindows.{window-covers, none-covers, window-admits, none-admits}
use Rattle.candidates.proofs.candidates.peak_window.Goals as goal

pub returns-in-Some-clause-covers : goal.returns-in-Some-clause-covers
returns-in-Some-clause-covers c =
    let premises = c.args.premises.now in
    window-covers premises c.args.mz c.in-Some.window c.charged.ensures.premises
    (subst (λ ion. IsWindowOf c.args.mz premises.tolerance ion c.in-Some.window) c.charged.ensures.charged
    (subst (λ t. IsWindowOf c.args.mz t c.charged.result c.in-Some.window) c.tolerance.ensures.tolerance
    c.in-Some.ensures.exact))

pub returns-in-None-clause-covers : goal.returns-in-None-clause-covers
returns-in-None-clause-covers c =
    let premises = c.args.premises.now in
    none-covers premises c.args.mz (record { lo = 1; hi = 1 }) c.charged.ensures.premises
    (subst (λ ion. NoMassIsWithin c.args.mz premises.tolerance ion) c.charged.ensures.charged
    (subst (λ t. NoMassIsWithin c.args.mz t c.charged.result) c.tolerance.ensures.tolerance
    (c.in-None.ensures.none.0 refl)))

pub returns-in-None-clause-admits : goal.returns-in-None-clause-admits
returns-in-None-clause-admits c = none-admits c.args.premises.now c.args.mz c.charged.ensures.premises

pub returns-in-Some-clause-admits : goal.returns-in-Some-clause-admits
returns-in-Some-clause-admits c =
    let premises = c.args.premises.now in
    window-admits premises c.args.mz c.in-Some.window
    (subst (λ ion. IsWindowOf c.args.mz premises.tolerance ion c.in-Some.window) c.charged.ensures.charged
    (subst (λ t. IsWindowOf c.args.mz t c.charged.result c.in-Some.window) c.tolerance.ensures.tolerance
    c.in-Some.ensures.exact))

pub returns-in-Some-clause-searched : goal.returns-in-Some-clause-searched
returns-in-Some-clause-searched c =
    let premises = c.args.premises.now in
    inl (record {
      is_window = c.in-Some.ensures.window;
      of_peak = subst (λ ion. IsWindowOf c.args.mz premises.tolerance ion c.in-Some.window) c.charged.ensures.charged
          (subst (λ t. IsWindowOf c.args.mz t c.charged.result c.in-Some.window) c.tolerance.ensures.tolerance
          c.in-Some.ensures.exact);
    })

pub returns-in-None-clause-searched : goal.returns-in-None-clause-searched
returns-in-None-clause-searched c =
    let premises = c.args.premises.now in
    inr (
      subst (λ ion. NoMassIsWithin c.args.mz premises.tolerance ion) c.charged.ensures.charged
          (subst (λ t. NoMassIsWithin c.args.mz t c.charged.result) c.tolerance.ensures.tolerance
          (c.in-None.ensures.none.0 refl)),
      refl,
    )
