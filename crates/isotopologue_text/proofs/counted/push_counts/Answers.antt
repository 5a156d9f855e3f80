use Rattle.std.proofs.Common.{List, ℕ, ◌++◌, ap, ◌∙◌, append_assoc, arith}
use Rattle.isotopologue_text.specs.Labels.{labels_text}
use Rattle.isotopologue_text.proofs.PrintedLabels.{labels-joined}
use Rattle.isotopologue_text.proofs.counted.push_counts.Goals as goal

pub loop-rest-preserved : goal.loop-rest-preserved
loop-rest-preserved c =
    let before : List ℕ = c.loop-rest.text.items in
    let labels = c.split_at in
    let counts = c.split_at-in-loop-rest in
    let others : List ℕ = labels_text labels.result.1.now counts.result.1.now in
    record {
      as_many = omega (arith, labels.ensures.back_len, counts.ensures.back_len, c.loop-rest.invariant.as_many);
      text =
          ap (λ (t : List ℕ). t ++ others) c.in_ok-push_group.ensures
          ∙ append_assoc before (labels_text labels.result.0.now counts.result.0.now) others
          ∙ ap (λ (t : List ℕ). before ++ t)
          (labels-joined 16 c.loop-rest.rest.now labels.result.0.now labels.result.1.now c.loop-rest.left.now
          counts.result.0.now counts.result.1.now labels.ensures.front labels.ensures.back counts.ensures.front
          counts.ensures.back)
          ∙ c.loop-rest.invariant.text;
    }
