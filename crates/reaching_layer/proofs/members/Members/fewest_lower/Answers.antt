use Rattle.std.proofs.Common.{◌≡◌, ℕ, List, length, map, sum, take, sym, ◌∙◌, ap}
use Rattle.std.specs.List.{sum_by}
use Rattle.std.proofs.Math.Path.{fun_ext}
use Rattle.std.proofs.lemmas.List.{length-map, take-map}
use Rattle.std.proofs.lemmas.List.Sums.{sum-map}
use Rattle.isotopologue_sets.specs.Covers.{fewest}
use Rattle.layered_envelope.specs.declared.gathering.MemberRow.{MemberRow}
use Rattle.reaching_layer.proofs.MemberRowLaws.{members_lo}
use Rattle.reaching_layer.proofs.members.Members.fewest_lower.Goals as goal

-- the bounds of the rows are those of the members
same_fewest : (n coverage : ℕ) (rows : List MemberRow) (lows : List ℕ) → lows ≡ map (λ (r : MemberRow). r.enclosure.lo) rows →
    n ≡ fewest (λ k. sum_by (λ (r : MemberRow). r.enclosure.lo) (take k rows)) coverage (length rows) →
    n ≡ fewest (λ k. sum (take k lows)) coverage (length lows)
same_fewest n coverage rows lows are is =
    let lo : MemberRow → ℕ = λ r. r.enclosure.lo in
    let same : (λ (k : ℕ). sum_by lo (take k rows)) ≡ (λ k. sum (take k (map lo rows))) =
    fun_ext (λ k. sym (ap sum (take-map lo k rows) ∙ sum-map lo (take k rows))) in
    is ∙ ap (λ (total : ℕ → ℕ). fewest total coverage (length rows)) same
    ∙ ap (fewest (λ k. sum (take k (map lo rows))) coverage) (sym (length-map rows lo))
    ∙ ap (λ (bs : List ℕ). fewest (λ k. sum (take k bs)) coverage (length bs)) (sym are)

pub returns : goal.returns
returns c =
    let rows : List MemberRow = c.self.inside.rows.items in
    same_fewest c.fewest_lower.result c.args.coverage rows (map (λ m. m.lo) c.args.self.now)
    (members_lo c.self.inside.isotopes.items c.self.inside.counts.items rows c.args.self.now c.self.view_is)
    (c.fewest_lower.ensures
    ∙ ap (λ (xs : List MemberRow). fewest (λ k. sum_by (λ (r : MemberRow). r.enclosure.lo) (take k xs)) c.args.coverage (length xs))
    c.deref.ensures.value)
