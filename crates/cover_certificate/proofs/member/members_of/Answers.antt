use Rattle.std.proofs.Common.{◌≡◌, ◌<◌, ◌++◌, ◌∷◌, [], length, get_or, take, ◌∙◌, sym, ap, arith}
use Rattle.std.proofs.lemmas.List.{take_more, take_all}
use Rattle.cover_certificate.specs.FormulaCovers.{MemberEntry}
use Rattle.cover_certificate.proofs.member.members_of.Goals as goal

none : MemberEntry
none = record { counts = []; text = []; mass = 0; lo = 0; hi = 0 }

pub loop-place-preserved : goal.loop-place-preserved
loop-place-preserved c =
    let layer = c.args.cover.now.layer in
    let place = c.loop-place.place in
    let within : place < length layer = omega (arith, c.loop-place-test.true, c.len-place-end.ensures) in
    c.in_ok-push.ensures.items
    ∙ ap (λ found. found ++ c.in_ok-member_at.field-0 ∷ []) c.loop-place.invariant
    ∙ ap (λ (e : MemberEntry). take place layer ++ e ∷ []) (c.in_ok-member_at.ensures none)
    ∙ sym (take_more layer place none within)

pub returns : goal.returns
returns c =
    c.loop-place.invariant
    ∙ take_all c.loop-place.place c.args.cover.now.layer (omega (arith, c.loop-place-test.false, c.len-place-end.ensures))
