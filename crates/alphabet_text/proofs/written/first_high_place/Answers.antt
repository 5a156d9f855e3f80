use Rattle.std.proofs.Common.{◌≡◌, ◌+◌, drop, Some, None, get_or, ap, sym, ◌∙◌}
use Rattle.std.specs.Option.{option_or}
use Rattle.alphabet_text.specs.declared.written.WrittenEntry.{WrittenEntry}
use Rattle.alphabet_text.specs.WrittenEntries.{first_high_place}
use Rattle.alphabet_text.proofs.HighPlaces.{first_high_place-step}
use Rattle.alphabet_text.proofs.written.first_high_place.Goals as goal

pub returns-in-Some : goal.returns-in-Some
returns-in-Some c =
    let es = c.args.entries.now in
    let i = c.loop-entry.entry-index in
    let here : (get_or es i c.entry-item.result).range.high_place ≡ Some c.in-Some.place =
    ap (λ (w : WrittenEntry). w.range.high_place) (sym c.entry-item.is) ∙ c.in-Some.is in
    sym (c.loop-entry.invariant ∙ first_high_place-step es i c.entry-item.result c.loop-entry-test.true
    ∙ ap (λ o. option_or o (first_high_place (drop (i + 1) es))) here)

pub loop-entry-preserved : goal.loop-entry-preserved
loop-entry-preserved c =
    let es = c.args.entries.now in
    let i = c.loop-entry.entry-index in
    let here : (get_or es i c.entry-item.result).range.high_place ≡ None =
    ap (λ (w : WrittenEntry). w.range.high_place) (sym c.entry-item.is) ∙ c.in_default.is in
    c.loop-entry.invariant ∙ first_high_place-step es i c.entry-item.result c.loop-entry-test.true
    ∙ ap (λ o. option_or o (first_high_place (drop (i + 1) es))) here
