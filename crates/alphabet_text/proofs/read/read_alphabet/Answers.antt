use Rattle.std.proofs.Common.{◌≡◌, ◌<◌, ◌≤◌, [], length, Ok, Err, All, rules, sym, ap, subst, ◌∙◌, arith}
use Rattle.decompose.specs.declared.limits.TheConstants.{MAX_COUNT}
use Rattle.reader_answers.specs.Answers.{◌>>=◌}
use Rattle.alphabet_text.specs.declared.written.WrittenEntry.{WrittenEntry}
use Rattle.alphabet_text.specs.WrittenEntries.{first_high_place, entries_behind}
use Rattle.alphabet_text.proofs.OneReading.{meaning, only}
use Rattle.alphabet_text.proofs.FirstFaults.{of-table, empty-text, some-byte, read-row, bad-text, high-limit}
use Rattle.alphabet_text.proofs.FirstFaults.{low-limits, low-numbers}
use Rattle.alphabet_text.proofs.FirstFaults.{some-written, unless_many, too-many, few-enough, Gives-passed}
use Rattle.alphabet_text.proofs.GatheredEntries.{length-entries_behind}
use Rattle.alphabet_text.proofs.SortedEntries.{IsAlphabet-sorted}
use Rattle.alphabet_text.proofs.read.read_alphabet.Goals as goal
use Rattle.alphabet_text.specs.declared.entries.TheConstants.{MAX_ENTRIES}

pub returns-then-is_empty-clause-gives : goal.returns-then-is_empty-clause-gives
returns-then-is_empty-clause-gives c = empty-text c.args.table.now c.args.text.now (sym c.if-is_empty.ensures)

pub returns-then-is_empty-clause-meaning : goal.returns-then-is_empty-clause-meaning
returns-then-is_empty-clause-meaning c = meaning c.args.table.now c.args.text.now

pub returns-then-is_empty-clause-only : goal.returns-then-is_empty-clause-only
returns-then-is_empty-clause-only c = only c.args.table.now c.args.text.now

pub returns-in_err-written-clause-gives : goal.returns-in_err-written-clause-gives
returns-in_err-written-clause-gives c =
    let fault = c.in_err-written.field-0.0 in
    let refused : c.from_residual.result ≡ Err fault = search rules in
    rw refused (Gives-passed fault _ _ (bad-text c.args.table.now c.args.text.now fault) c.in_err-written.ensures)

pub returns-in_err-written-clause-meaning : goal.returns-in_err-written-clause-meaning
returns-in_err-written-clause-meaning c = meaning c.args.table.now c.args.text.now

pub returns-in_err-written-clause-only : goal.returns-in_err-written-clause-only
returns-in_err-written-clause-only c = only c.args.table.now c.args.text.now

pub returns-in-Some-clause-gives : goal.returns-in-Some-clause-gives
returns-in-Some-clause-gives c =
    let table = c.args.table.now in
    let text = c.args.text.now in
    let ws = c.in_ok-written.written.items in
    let row = read-row text ws (some-byte text c.if-is_empty.ensures) c.in_ok-written.ensures in
    high-limit table text ws c.in-Some.place row (ap first_high_place (sym c.deref.ensures.value)
    ∙ sym c.in-Some.ensures)

pub returns-in-Some-clause-meaning : goal.returns-in-Some-clause-meaning
returns-in-Some-clause-meaning c = meaning c.args.table.now c.args.text.now

pub returns-in-Some-clause-only : goal.returns-in-Some-clause-only
returns-in-Some-clause-only c = only c.args.table.now c.args.text.now

pub entries_behind-requires : goal.entries_behind-requires
entries_behind-requires c =
    let table = c.args.table.now in
    let text = c.args.text.now in
    let ws = c.in_ok-written.written.items in
    let row = read-row text ws (some-byte text c.if-is_empty.ensures) c.in_ok-written.ensures in
    let low = ap first_high_place (sym c.deref.ensures.value) ∙ sym c.first_high_place.ensures ∙ c.in_default.is in
    subst (All (λ (w : WrittenEntry). w.range.limit.high ≤ MAX_COUNT)) (sym c.deref-2.ensures.value)
    (low-numbers text ws row low)

pub returns-in_err-entries-clause-gives : goal.returns-in_err-entries-clause-gives
returns-in_err-entries-clause-gives c =
    let table = c.args.table.now in
    let text = c.args.text.now in
    let ws = c.in_ok-written.written.items in
    let row = read-row text ws (some-byte text c.if-is_empty.ensures) c.in_ok-written.ensures in
    let low = ap first_high_place (sym c.deref.ensures.value) ∙ sym c.first_high_place.ensures ∙ c.in_default.is in
    let some = subst (λ vs. 0 < length vs) (sym c.deref-2.ensures.value) (some-written text ws row) in
    let steps =
    low-limits table text ws (c.in_err-entries.ensures.table some) row low
    ∙ ap (λ vs. entries_behind table [] vs >>= unless_many) (sym c.deref-2.ensures.value) in
    let fault = c.in_err-entries.field-0.0 in
    let refused : c.from_residual-in_err-entries.result ≡ Err fault = search rules in
    rw refused (Gives-passed fault _ _ (λ e. steps ∙ ap (λ r. r >>= unless_many) e) c.in_err-entries.ensures.entries)

pub returns-in_err-entries-clause-meaning : goal.returns-in_err-entries-clause-meaning
returns-in_err-entries-clause-meaning c = meaning c.args.table.now c.args.text.now

pub returns-in_err-entries-clause-only : goal.returns-in_err-entries-clause-only
returns-in_err-entries-clause-only c = only c.args.table.now c.args.text.now

pub returns-then-len-gt-MAX_ENTRIES-clause-gives : goal.returns-then-len-gt-MAX_ENTRIES-clause-gives
returns-then-len-gt-MAX_ENTRIES-clause-gives c =
    let table = c.args.table.now in
    let text = c.args.text.now in
    let ws = c.in_ok-written.written.items in
    let row = read-row text ws (some-byte text c.if-is_empty.ensures) c.in_ok-written.ensures in
    let low = ap first_high_place (sym c.deref.ensures.value) ∙ sym c.first_high_place.ensures ∙ c.in_default.is in
    let some = subst (λ vs. 0 < length vs) (sym c.deref-2.ensures.value) (some-written text ws row) in
    let steps =
    low-limits table text ws (c.in_ok-entries.ensures.table some) row low
    ∙ ap (λ vs. entries_behind table [] vs >>= unless_many) (sym c.deref-2.ensures.value) in
    let es = c.in_ok-entries.entries.items in
    let above : MAX_ENTRIES < length es = omega (arith, c.in_ok-entries.entries.ok.0) in
    steps ∙ ap (λ r. r >>= unless_many) c.in_ok-entries.ensures.entries ∙ too-many es above

pub returns-then-len-gt-MAX_ENTRIES-clause-meaning : goal.returns-then-len-gt-MAX_ENTRIES-clause-meaning
returns-then-len-gt-MAX_ENTRIES-clause-meaning c = meaning c.args.table.now c.args.text.now

pub returns-then-len-gt-MAX_ENTRIES-clause-only : goal.returns-then-len-gt-MAX_ENTRIES-clause-only
returns-then-len-gt-MAX_ENTRIES-clause-only c = only c.args.table.now c.args.text.now

pub returns-in_err-entries-2-clause-meaning : goal.returns-in_err-entries-2-clause-meaning
returns-in_err-entries-2-clause-meaning c = meaning c.args.table.now c.args.text.now

pub returns-in_err-entries-2-clause-only : goal.returns-in_err-entries-2-clause-only
returns-in_err-entries-2-clause-only c = only c.args.table.now c.args.text.now

pub of-requires : goal.of-requires
of-requires c =
    let table = c.args.table.now in
    let text = c.args.text.now in
    let ws = c.in_ok-written.written.items in
    let row = read-row text ws (some-byte text c.if-is_empty.ensures) c.in_ok-written.ensures in
    let low = ap first_high_place (sym c.deref.ensures.value) ∙ sym c.first_high_place.ensures ∙ c.in_default.is in
    let es = c.in_ok-entries.entries.items in
    let count = length-entries_behind table [] c.deref-2.result.now es c.in_ok-entries.ensures.entries in
    let written = ap length c.deref-2.ensures.value in
    let some = some-written text ws row in
    let few : length es ≤ MAX_ENTRIES = omega (arith, c.in_ok-entries.entries.ok.0) in
    rw (c.deref-3.ensures.value
    ∙ c.in_ok-entries-2.ensures) (IsAlphabet-sorted es
    (omega (arith, count, written, some)) few c.in_ok-entries.ensures.sound)

pub returns-in_err-of-clause-meaning : goal.returns-in_err-of-clause-meaning
returns-in_err-of-clause-meaning c = meaning c.args.table.now c.args.text.now

pub returns-in_err-of-clause-only : goal.returns-in_err-of-clause-only
returns-in_err-of-clause-only c = only c.args.table.now c.args.text.now

pub returns-clause-gives : goal.returns-clause-gives
returns-clause-gives c =
    let table = c.args.table.now in
    let text = c.args.text.now in
    let ws = c.in_ok-written.written.items in
    let row = read-row text ws (some-byte text c.if-is_empty.ensures) c.in_ok-written.ensures in
    let low = ap first_high_place (sym c.deref.ensures.value) ∙ sym c.first_high_place.ensures ∙ c.in_default.is in
    let some = subst (λ vs. 0 < length vs) (sym c.deref-2.ensures.value) (some-written text ws row) in
    let steps =
    low-limits table text ws (c.in_ok-entries.ensures.table some) row low
    ∙ ap (λ vs. entries_behind table [] vs >>= unless_many) (sym c.deref-2.ensures.value) in
    let es = c.in_ok-entries.entries.items in
    let few : length es ≤ MAX_ENTRIES = omega (arith, c.in_ok-entries.entries.ok.0) in
    steps ∙ ap (λ r. r >>= unless_many) c.in_ok-entries.ensures.entries ∙ few-enough es few
    ∙ sym (ap Ok (c.in_ok-of.ensures ∙ c.deref-3.ensures.value ∙ c.in_ok-entries-2.ensures))

pub returns-clause-meaning : goal.returns-clause-meaning
returns-clause-meaning c = meaning c.args.table.now c.args.text.now

pub returns-clause-only : goal.returns-clause-only
returns-clause-only c = only c.args.table.now c.args.text.now

pub returns-clause-of_table : goal.returns-clause-of_table
returns-clause-of_table c =
    let table = c.args.table.now in
    let text = c.args.text.now in
    let ws = c.in_ok-written.written.items in
    let row = read-row text ws (some-byte text c.if-is_empty.ensures) c.in_ok-written.ensures in
    let low = ap first_high_place (sym c.deref.ensures.value) ∙ sym c.first_high_place.ensures ∙ c.in_default.is in
    let some = subst (λ vs. 0 < length vs) (sym c.deref-2.ensures.value) (some-written text ws row) in
    let steps =
    low-limits table text ws (c.in_ok-entries.ensures.table some) row low
    ∙ ap (λ vs. entries_behind table [] vs >>= unless_many) (sym c.deref-2.ensures.value) in
    let es = c.in_ok-entries.entries.items in
    let few : length es ≤ MAX_ENTRIES = omega (arith, c.in_ok-entries.entries.ok.0) in
    of-table table text c.in_ok-of.field-0
    (steps ∙ ap (λ r. r >>= unless_many) c.in_ok-entries.ensures.entries ∙ few-enough es few
    ∙ sym (ap Ok (c.in_ok-of.ensures ∙ c.deref-3.ensures.value ∙ c.in_ok-entries-2.ensures)))
