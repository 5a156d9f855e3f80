use Rattle.std.proofs.Common.{◌≡◌, None, refl, sym, ◌∙◌, ap}
use Rattle.adducts.proofs.IonSteps.{bad-at, neutral-read, neutral-fails, nothing-fails}
use Rattle.adducts.proofs.written.read_written.Goals as goal

pub returns-then-not-begins_with : goal.returns-then-not-begins_with
returns-then-not-begins_with c =
    bad-at _ c.bad_text.result 0 c.bad_text.ensures
    (nothing-fails c.args.text.now (sym c.begins_with.ensures ∙ c.if-begins_with.false)
    (sym c.begins_with-2.ensures ∙ c.if-not-begins_with.true))

pub returns-then-text-gt1 : goal.returns-then-text-gt1
returns-then-text-gt1 c =
    bad-at _ c.bad_text-then-text-gt1.result 1 c.bad_text-then-text-gt1.ensures
    (neutral-fails c.args.text.now (sym c.begins_with-2.ensures ∙ c.if-not-begins_with.false) c.if-text-gt1.true)

pub returns : goal.returns
returns c =
    record {
      written = None;
      read = neutral-read c.args.text.now (sym c.begins_with-2.ensures ∙ c.if-not-begins_with.false) c.if-text-gt1.false;
      copies = refl;
      parts = c.new.ensures.items;
      charge = refl;
    }
