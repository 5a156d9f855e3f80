use Rattle.std.proofs.Common.{◌≡◌, ◌∙◌, ◌++◌, ◌+◌, [], ◌∷◌, List, map, take, sym, ap, rules}
use Rattle.std.specs.List.{enumerate_from}
use Rattle.std.proofs.lemmas.List.{map_push}
use Rattle.report_text.specs.declared.rank_entries.PlaceEntry.{PlaceEntry}
use Rattle.report_text.specs.JsonReports.{place_entry}
use Rattle.report_text.proofs.Places.{numbered_all, numbered_more}
use Rattle.report_text.proofs.rank_entries.place_entries.Goals as goal

pub loop-i-preserved : goal.loop-i-preserved
loop-i-preserved c =
    let r = c.index-order-i.result in
    let so_far = take c.loop-i.i (enumerate_from 1 (map (λ x. x.now) c.args.order.now)) in
    let entry : c.in_ok-of.field-0 ≡ place_entry (c.loop-i.i + 1, r.now) = search rules in
    c.in_ok-push.ensures.pushed
    ∙ ap (λ (l : List PlaceEntry). l ++ c.in_ok-of.field-0 ∷ []) c.loop-i.invariant
    ∙ ap (λ (e : PlaceEntry). map place_entry so_far ++ e ∷ []) entry
    ∙ sym (map_push place_entry so_far (c.loop-i.i + 1, r.now))
    ∙ ap (map place_entry)
    (sym (numbered_more (λ x. x.now) c.args.order.now c.loop-i.i r c.loop-i-test.true c.index-order-i.is))

pub returns : goal.returns
returns c =
    c.loop-i.invariant
    ∙ ap (map place_entry) (numbered_all (λ x. x.now) c.args.order.now c.loop-i.i c.loop-i-test.false)
