use Rattle.std.proofs.Common.{List, ℕ, length, drop, sym, ◌∙◌, ap, subst}
use Rattle.std.specs.Prelude.{Contains}
use Rattle.std.proofs.lemmas.List.{take_at}
use Rattle.layered_envelope.specs.Walks.{places_of}
use Rattle.layered_envelope.specs.PlacedLayers.{layer_places}
use Rattle.layered_envelope.proofs.MemberWalks.{last-is}
use Rattle.layered_envelope.proofs.members.Members.next_into.Goals as goal

pub returns-clause-member : goal.returns-clause-member
returns-clause-member g c =
    let s = c.self.inside in
    let members : List (List ℕ) = layer_places c.args.self.now.elements c.args.self.now.threshold in
    let e = take_at c.write_places.new.places (drop (length c.write_places.new.places) c.out.inside.places.items)
    c.out.inside.places.len (c.write_places.auto.places ∙ c.deref_mut.ensures.len) in
    let is = e ∙ c.write_places.ensures ∙ ap places_of c.deref.ensures.value in
    subst (Contains members) (sym is)
    (last-is s.lists.now s.threshold s.choices.items s.has_given c.step_on.new.self (Contains members) c.self.view_is
    c.if-not-step_on.ensures.given c.if-not-step_on.ensures.member)
