use Rattle.std.proofs.Common.{refl, ◌∙◌, ap, arith}
use Rattle.std.proofs.lemmas.Bool.{false≢true}
use Rattle.decompose.specs.Levels.{counts_of}
use Rattle.decompose.proofs.FirstOfSlice.{written}
use Rattle.decompose.proofs.NextGiven.{none_left}
use Rattle.decompose.proofs.WalkKept.{gives_next, gives_in_window}
use Rattle.decompose.proofs.enumerate.Decomps.next_into.Goals as goal

pub returns-then-not-walk_on-clause-end : goal.returns-then-not-walk_on-clause-end
returns-then-not-walk_on-clause-end g c = (λ _. none_left c.args.self.now c.if-not-walk_on.ensures.walks.0, λ _. refl)

pub returns-clause-next : goal.returns-clause-next
returns-clause-next g c =
    let same =
    written c.write_counts.new.counts c.out.inside.counts.items _ c.out.inside.counts.ok.0
    (omega (arith, c.write_counts.auto.counts, c.deref_mut.ensures.len)) in
    rw same
    (gives_next c.args.self.now c.walk_on.new.self _ _ _ c.self.inside.stands _ c.write_counts.new.counts c.self.view_is
    (c.write_counts.ensures ∙ ap counts_of c.deref.ensures.value) c.if-not-walk_on.ensures.walks)

pub returns-clause-end : goal.returns-clause-end
returns-clause-end g c =
    let next =
    gives_next c.args.self.now c.walk_on.new.self _ _ _ c.self.inside.stands _ c.write_counts.new.counts c.self.view_is
    (c.write_counts.ensures ∙ ap counts_of c.deref.ensures.value) c.if-not-walk_on.ensures.walks in
    (λ h. absurd (false≢true h), λ h. absurd (cc))

pub returns-clause-in_window : goal.returns-clause-in_window
returns-clause-in_window g c =
    let same =
    written c.write_counts.new.counts c.out.inside.counts.items _ c.out.inside.counts.ok.0
    (omega (arith, c.write_counts.auto.counts, c.deref_mut.ensures.len)) in
    rw same
    (gives_in_window c.args.self.now c.walk_on.new.self _ _ _ c.self.inside.stands _ c.write_counts.new.counts
    c.self.view_is (c.write_counts.ensures ∙ ap counts_of c.deref.ensures.value) c.if-not-walk_on.ensures.walks)
