use Rattle.std.proofs.Common.{sym, ◌∙◌, rules, tests}
use Rattle.std.proofs.lemmas.Bool.{eqb-true}
use Rattle.std.proofs.lemmas.Iterator.{YieldsList-from_slice, YieldsList-from_zip}
use Rattle.std.proofs.lemmas.Iterator.Search.{all_from_yields_List}
use Rattle.decompose.proofs.FirstOfBox.{is_within_limit, IsInBox-from_all, all-from_IsInBox, IsInBox-length}
use Rattle.decompose.proofs.enumerate.is_in_box.Goals as goal

pub returns-then-limits-counts : goal.returns-then-limits-counts
returns-then-limits-counts c =
    let limits = c.args.limits.now in
    let counts = c.args.counts.now in
    let all =
    all_from_yields_List is_within_limit c.all.new.self _ c.all.result c.all.ensures.ran
    (YieldsList-from_zip (YieldsList-from_slice limits cc) (YieldsList-from_slice counts cc))
    (λ x b q k. search (rules, tests)) in (
      λ h. IsInBox-from_all limits counts c.if-limits-counts.true (sym all ∙ h),
      λ h. all ∙ all-from_IsInBox limits counts h,
    )

pub returns-else-limits-counts : goal.returns-else-limits-counts
returns-else-limits-counts c = (
  λ h. absurd (c.if-limits-counts.false (eqb-true _ _ h)),
  λ h. absurd (c.if-limits-counts.false (sym (IsInBox-length c.args.limits.now c.args.counts.now h))),
)
