-- One item more is given.
use Rattle.std.proofs.Common.{◌≡◌, ◌+◌, ◌<◌, ◌∷◌, length, sym, ◌∙◌, ap, arith}
use Rattle.sub_isotopologues.specs.Listings.{Listing, items_of, places_left, with_given}
use Rattle.sub_isotopologues.proofs.KeptLists.{IsListed-given, listed-length, places_left-next}
use Rattle.sub_isotopologues.proofs.sub_isos.SubIsos.next.Goals as goal

pub invariant_of-self : goal.invariant_of-self
invariant_of-self c =
    IsListed-given _ _ _ (c.self.inside.given + 1) c.self.invariant
    (omega (arith, c.self.invariant.given, c.if-self.false))

pub returns-clause-next : goal.returns-clause-next
returns-clause-next c =
    let left : c.self.inside.given < length (items_of c.args.self.now) =
    omega (
      arith,
      c.self.invariant.given,
      c.if-self.false,
      listed-length _ _ _ c.self.invariant,
      ap (λ (l : Listing). length (items_of l)) c.self.view_is,
    ) in
    let given : c.self.inside.given ≡ c.args.self.now.given = ap (λ (l : Listing). l.given) c.self.view_is in
    places_left-next c.args.self.now (rw given at left)
    ∙ ap (λ (l : Listing). l.given ∷ places_left (with_given l (l.given + 1))) (sym c.self.view_is)
