use Rattle.std.proofs.Common.{arith, ap, length, List, ℕ}
use Rattle.std.specs.Str.Lines.{lines}
use Rattle.golden_rules.proofs.ProfileLines.{golden-lines, profile-lines}
use Rattle.golden_rules.specs.declared.rule.Rule.{Rule}
use Rattle.golden_rules.proofs.profile.golden.Goals as goal

pub loop-left-init : goal.loop-left-init
loop-left-init c =
    let none = ap (λ (rules : List Rule). length rules) c.new-rules.ensures.items in
    let few = ap (λ (text : List ℕ). length (lines text)) c.as_bytes-left.ensures.value in
    record {
      all = golden-lines c.args.table.now _ _ c.new-rules.ensures.items c.as_bytes-left.ensures.value;
      few = omega (arith, none, few, profile-lines);
    }
