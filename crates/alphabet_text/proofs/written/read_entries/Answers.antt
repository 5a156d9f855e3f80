use Rattle.std.proofs.Common.{◌≡◌, ◌++◌, ◌∷◌, [], Err, rules, ap, ◌∙◌, arith, drop}
use Rattle.alphabet_text.proofs.ReadRows.{with_front, no-more, some-left, read-on, read-end}
use Rattle.alphabet_text.proofs.GatheredEntries.{Gives-same}
use Rattle.alphabet_text.proofs.written.read_entries.Goals as goal

pub returns-in_err-entry : goal.returns-in_err-entry
returns-in_err-entry c =
    let text = c.args.text.now in
    let at = c.loop-at.at in
    let fault = c.in_err-entry.field-0.0 in
    let refused : c.from_residual.result ≡ Err fault = search rules in
    rw refused (Gives-same (Err fault) _ (c.loop-at.invariant.read
    ∙ ap (with_front c.loop-at.entries.items)
    (no-more at (drop at text) fault (some-left at text c.loop-at-test.true) c.in_err-entry.ensures.entry)))

pub loop-at-preserved : goal.loop-at-preserved
loop-at-preserved c =
    let entries = c.loop-at.entries.items in
    let entry = c.in_ok-entry.entry in
    let put : c.push.new.self.items ≡ entries ++ entry ∷ [] = search rules in
    rw put record {
      within = let w = c.in_ok-entry.ensures.within in omega (arith, w);
      read =
          c.loop-at.invariant.read
          ∙ read-on c.args.text.now c.loop-at.at entries entry c.loop-at-test.true c.in_ok-entry.ensures.entry;
    }

pub returns : goal.returns
returns c =
    c.loop-at.invariant.read ∙ read-end c.args.text.now c.loop-at.at c.loop-at.entries.items c.loop-at-test.false
