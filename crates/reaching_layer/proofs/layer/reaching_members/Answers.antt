use Rattle.std.proofs.Common.{◌≡◌, ◌-◌, ◌≤◌, ℕ, List, map, sym, ◌∙◌, ap, arith}
use Rattle.multinomial_bounds.specs.Isotopologue.{Element}
use Rattle.isotopologue_sets.specs.Layers.{threshold_at}
use Rattle.isotopologue_sets.specs.Covers.{Member, member_of, ordered_layer}
use Rattle.reaching_layer.proofs.EarlierLayers.{earlier-kept}
use Rattle.reaching_layer.proofs.SearchSteps.{earlier-lower}
use Rattle.reaching_layer.proofs.layer.reaching_members.Goals as goal
use Rattle.reaching_layer.proofs.layer.reaching_members.Goals.{then-number-given, else-number-given}

pub returns-clause-members : goal.returns-clause-members
returns-clause-members c =
    let es : List Element = c.args.elements.now in
    let l = c.args.layers.now in
    let n : ℕ = c.reaching_number-number.result in
    let same = c.requires.past.elements_are in
    let all : c.in_ok-members.members ≡ map (member_of es) (ordered_layer es (threshold_at es (l.given - 1))) =
    c.in_ok-members.ensures
    ∙ ap (λ (xs : List Element). map (member_of es) (ordered_layer es (threshold_at xs (l.given - 1)))) same in
    elim c.if-number-given.branch [
      | then-number-given w ↦
          let to : n ≤ l.given = c.reaching_number-number.ensures.within in
          let lower = earlier-lower es c.requires.elements c.args.coverage c.requires.below_one c.args.first l
          c.requires.past n c.reaching_number-number.ensures.some to in
          let here : w.threshold_of.result ≡ threshold_at es (n - 1) =
          w.threshold_of.ensures ∙ ap (λ (xs : List Element). threshold_at xs (n - 1)) same in
          w.members-is
          ∙ earlier-kept es (threshold_at es (l.given - 1)) (threshold_at es (n - 1)) lower c.in_ok-members.members
          w.retain_above.new.self w.threshold_of.result all here w.retain_above.ensures
      | else-number-given w ↦
          let last : l.given ≡ n =
          omega (arith, w.if-number-given.false, c.given.ensures.value, c.reaching_number-number.ensures.within) in
          w.members-is ∙ all ∙ ap (λ (k : ℕ). map (member_of es) (ordered_layer es (threshold_at es (k - 1)))) last
    ]
