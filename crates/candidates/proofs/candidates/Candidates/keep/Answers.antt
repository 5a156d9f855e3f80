use Rattle.std.proofs.Common.{◌≡◌, ◌+◌, ◌*◌, ℕ, List, [], ◌++◌, length, refl, sym, ap, ◌∙◌, arith}
use Rattle.std.proofs.lemmas.List.{length-append}
use Rattle.candidates.specs.Enumeration.{counts_left}
use Rattle.candidates.specs.KeptLists.{lists_in}
use Rattle.candidates.proofs.KeptCounts.{few_last, keeps-one, number-kept, number-passed, passes-one}
use Rattle.candidates.proofs.candidates.Candidates.keep.Goals as goal

pub loop-many-preserved : goal.loop-many-preserved
loop-many-preserved g c =
    let old = c.loop-many.self in
    let new = c.advance.new.self in
    let width = length c.counts_given-width.result.now in
    let kept = c.loop-many.counts.items in
    let last = c.counts_given.result.now in
    let same = c.advance.ensures.premises ∙ c.loop-many.invariant.premises in
    let one : length last ≡ width =
    c.counts_given.ensures.length ∙ ap (λ (p : _). length p.alphabet) same ∙ sym c.loop-many.invariant.width in
    let items : c.push_counts.new.kept.items ≡ kept ++ last = c.in_ok-push_counts.ensures in
    let size : (c.loop-many.many + 1) * width ≡ c.loop-many.many * width + width = omega arith in
    record {
      premises = same;
      peak = c.advance.ensures.peak ∙ c.loop-many.invariant.peak;
      width = c.loop-many.invariant.width;
      size = omega (arith, ap (λ (l : List ℕ). length l) items, length-append kept last, one, size, c.loop-many.invariant.size);
      parts =
          keeps-one (counts_left c.args.self.now) (counts_left old) (counts_left new) new.given c.loop-many.many width
          kept last c.loop-many.invariant.parts c.if-not-advance.ensures.next c.loop-many.invariant.size one
          c.counts_given.ensures.given
          ∙ ap (λ l. lists_in (c.loop-many.many + 1) width l ++ counts_left new) (sym items);
    }

pub push_counts-requires : goal.push_counts-requires
push_counts-requires g c =
    few_last c.advance.new.self.given c.counts_given.result.now (counts_left c.advance.new.self)
    (counts_left c.loop-many.self) c.if-not-advance.ensures.next c.counts_given.ensures.given
    c.counts_given.ensures.few

pub returns-then-not-advance-clause-none : goal.returns-then-not-advance-clause-none
returns-then-not-advance-clause-none g c =
    let left : counts_left c.loop-many.self ≡ [] = c.if-not-advance.ensures.end.0 refl in
    let all =
    number-kept (counts_left c.args.self.now) (counts_left c.loop-many.self) c.loop-many.many _
    c.loop-many.counts.items c.loop-many.invariant.parts in
    let none = ap (λ (l : List (List ℕ)). length l) left in
    (λ e. absurd (cc), λ more. absurd (omega (arith, all, none, more, c.loop-many-test.true)))

pub returns-in_err-push_counts-clause-goes_on : goal.returns-in_err-push_counts-clause-goes_on
returns-in_err-push_counts-clause-goes_on g c =
    let passed =
    passes-one (counts_left c.args.self.now) _ (counts_left c.loop-many.self) (counts_left c.advance.new.self)
    c.advance.new.self.given c.loop-many.invariant.parts c.if-not-advance.ensures.next in
    (_, passed.2)

pub returns-then-advance-clause-none : goal.returns-then-advance-clause-none
returns-then-advance-clause-none g c =
    let all =
    number-kept (counts_left c.args.self.now) (counts_left c.loop-many.self) c.loop-many.many _
    c.loop-many.counts.items c.loop-many.invariant.parts in
    let one =
    number-passed (counts_left c.loop-many.self) (counts_left c.advance-2.new.self) c.advance-2.new.self.given
    c.if-advance.ensures.next in
    (λ e. omega (arith, all, one, c.loop-many-test.false), λ more. refl)

pub returns-then-advance-clause-more : goal.returns-then-advance-clause-more
returns-then-advance-clause-more g c =
    let all =
    number-kept (counts_left c.args.self.now) (counts_left c.loop-many.self) c.loop-many.many _
    c.loop-many.counts.items c.loop-many.invariant.parts in
    let one =
    number-passed (counts_left c.loop-many.self) (counts_left c.advance-2.new.self) c.advance-2.new.self.given
    c.if-advance.ensures.next in
    λ e. omega (arith, all, one, c.loop-many-test.false, c.loop-many.auto.many-end)

pub returns-then-advance-clause-goes_on : goal.returns-then-advance-clause-goes_on
returns-then-advance-clause-goes_on g c =
    let passed =
    passes-one (counts_left c.args.self.now) _ (counts_left c.loop-many.self) (counts_left c.advance-2.new.self)
    c.advance-2.new.self.given c.loop-many.invariant.parts c.if-advance.ensures.next in
    (_, passed.2)

pub returns-clause-none : goal.returns-clause-none
returns-clause-none g c =
    let left : counts_left c.loop-many.self ≡ [] = c.if-advance.ensures.end.0 refl in
    let all =
    number-kept (counts_left c.args.self.now) (counts_left c.loop-many.self) c.loop-many.many _
    c.loop-many.counts.items c.loop-many.invariant.parts in
    let none = ap (λ (l : List (List ℕ)). length l) left in
    (λ e. absurd (cc), λ more. absurd (omega (arith, all, none, more, c.loop-many-test.false, c.loop-many.auto.many-end)))
