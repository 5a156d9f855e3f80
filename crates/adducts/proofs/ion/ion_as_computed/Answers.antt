use Rattle.std.proofs.Common.{◌≡◌, List, ℕ, sym, ap, ◌∙◌, subst}
use Rattle.std.specs.Prelude.{Option, Result, IfOk}
use Rattle.std.proofs.lemmas.Result.{err_from_is_err_and}
use Rattle.written_items.specs.declared.item.Item.{Item}
use Rattle.adducts.specs.Ions.{ion_of}
use Rattle.adducts.specs.IonTests.{finds_what_is_lost, kept_counts}
use Rattle.adducts.proofs.IonCounts.{formula-AreCounts}
use Rattle.adducts.proofs.IonAnswers.{made-ion, no-ion, answer-from}
use Rattle.adducts.proofs.ion.ion_as_computed.Goals as goal

pub returns-then-not-has_what_is_lost-clause-ion : goal.returns-then-not-has_what_is_lost-clause-ion
returns-then-not-has_what_is_lost-clause-ion c =
    no-ion c.args.adduct.now c.args.formula.now c.has_what_is_lost.result
    (formula-AreCounts c.args.formula.now c.items.ensures.formula)
    (c.has_what_is_lost.ensures.test ∙ ap (finds_what_is_lost c.args.adduct.now) c.items.ensures.items)
    c.if-not-has_what_is_lost.true

pub returns-clause-ion : goal.returns-clause-ion
returns-clause-ion c =
    answer-from c.of.result c.deref.result.now (ion_of c.args.adduct.now c.args.formula.now) c.of.ensures.sum
    (made-ion c.args.adduct.now c.args.formula.now c.has_what_is_lost.result c.deref.result.now
    (formula-AreCounts c.args.formula.now c.items.ensures.formula)
    (c.has_what_is_lost.ensures.test ∙ ap (finds_what_is_lost c.args.adduct.now) c.items.ensures.items)
    c.if-not-has_what_is_lost.false
    (c.deref.ensures.value ∙ c.in_ok-counts.ensures
    ∙ ap (kept_counts c.args.adduct.now) c.items-2.ensures.items))
