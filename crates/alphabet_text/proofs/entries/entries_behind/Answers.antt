use Rattle.std.proofs.Common.{◌≡◌, ◌++◌, ◌∷◌, [], Err, rules, sym, ap, ◌∙◌, false, subst, ◌≤◌}
use Rattle.decompose.specs.declared.limits.Limit.{Limit}
use Rattle.decompose.specs.declared.limits.TheConstants.{MAX_COUNT}
use Rattle.alphabet_text.specs.declared.written.WrittenEntry.{WrittenEntry}
use Rattle.alphabet_text.specs.WrittenEntries.{entry_behind, has_item}
use Rattle.alphabet_text.proofs.GatheredEntries.{entries_behind-step, entries_behind-stop, Gives-same, AreEntries-push}
use Rattle.alphabet_text.proofs.entries.entries_behind.Goals as goal

pub returns-in_err-entry-clause-entries : goal.returns-in_err-entry-clause-entries
returns-in_err-entry-clause-entries c =
    let es = c.loop-part.entries.items in
    let fault = c.in_err-entry.field-0.0 in
    let here : c.deref.result.now ≡ es = c.deref.ensures.value in
    let refused : c.from_residual.result ≡ Err fault = search rules in
    let stops = c.loop-part.invariant.read
    ∙ entries_behind-stop c.args.table.now es c.args.written.now c.loop-part.part-index c.part-item.result fault
    c.loop-part-test.true c.part-item.is
    (c.in_err-entry.ensures.entry ∙ ap (λ l. entry_behind c.args.table.now l c.part-item.result) here) in
    rw refused (Gives-same (Err fault) _ stops)

pub loop-part-preserved : goal.loop-part-preserved
loop-part-preserved c =
    let es = c.loop-part.entries.items in
    let entry = c.in_ok-entry.entry in
    let told = c.in_ok-entry.ensures in
    let put : c.push.new.self.items ≡ es ++ entry ∷ [] = search rules in
    let here : c.deref.result.now ≡ es = c.deref.ensures.value in
    let new : has_item es entry.item ≡ false = ap (λ l. has_item l entry.item) (sym here) ∙ told.new in
    let high = c.requires c.loop-part.part-index c.part-item.result c.loop-part-test.true in
    rw put record {
      read = c.loop-part.invariant.read
          ∙ entries_behind-step c.args.table.now es c.args.written.now c.loop-part.part-index c.part-item.result entry
          c.loop-part-test.true c.part-item.is
          (told.entry ∙ ap (λ l. entry_behind c.args.table.now l c.part-item.result) here);
      sound = AreEntries-push es entry c.loop-part.invariant.sound told.isotope
          (record {
            ordered = told.ordered;
            bounded = subst (λ (l : Limit). l.high ≤ MAX_COUNT)
                (sym (told.limit ∙ ap (λ (w : WrittenEntry). w.range.limit) c.part-item.is)) high;
          }) new;
      table = λ _. told.table;
    }
