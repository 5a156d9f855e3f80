use Rattle.std.proofs.Common.{◌≡◌, ℕ, length, drop, map, ap, ◌∙◌, sym, ltb, rules}
use Rattle.std.proofs.lemmas.List.{take_at}
use Rattle.sorted_lists.specs.SortedLists.{sorted_by}
use Rattle.layered_envelope.specs.declared.gathering.MemberRow.{MemberRow}
use Rattle.reaching_layer.proofs.FewestBounds.{falling-sorted_by}
use Rattle.reaching_layer.proofs.MemberRowLaws.{members_hi}
use Rattle.reaching_layer.proofs.members.Members.greatest_upper_bounds.Goals as goal

pub returns : goal.returns
returns c =
    let bounds_are : c.in_ok-bounds.bounds.items ≡ map (λ (r : MemberRow). r.enclosure.hi) c.self.inside.rows.items =
    search rules in
    let new = c.sort_falling.new.bounds in
    let written = take_at new (drop (length new) c.in_ok-bounds.bounds.items) c.in_ok-bounds.bounds.len
    (c.sort_falling.auto.bounds ∙ c.deref_mut.ensures.len) in
    written
    ∙ falling-sorted_by c.in_ok-bounds.bounds.items new
    (rw c.deref_mut.ensures.value at c.sort_falling.ensures.same_bounds) c.sort_falling.ensures.falling
    ∙ ap (sorted_by (λ (a b : ℕ). ltb b a))
    (bounds_are
    ∙ sym (members_hi c.self.inside.isotopes.items c.self.inside.counts.items c.self.inside.rows.items c.args.self.now
    c.self.view_is))
