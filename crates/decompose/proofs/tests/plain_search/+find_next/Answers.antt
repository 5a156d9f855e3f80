use Rattle.std.proofs.Common.{length, Option, Bool, true, false, ◌&&◌, not, eqb, refl, Bor, ◌≡◌, ℕ, suc, ◌-◌, ◌<◌, List}
use Rattle.std.proofs.Common.{◌∷◌, Some, None, sym, ◌∙◌, take, drop, length-take, length-drop, arith, rules}
use Rattle.std.specs.List.{slice_index_or}
use Rattle.std.specs.Option.{option_copied, is_some, IfSome}
use Rattle.std.proofs.lemmas.Slice.{first_rest}
use Rattle.decompose.specs.CountLists.{IsInBox}
use Rattle.decompose.specs.declared.limits.Limit.{Limit}
use Rattle.decompose.proofs.FirstOfSlice.{put_first, put_back}
use Rattle.decompose.proofs.SearchSteps.{search_first, search_raise, search_found, search_on, search_end, search_empty}
use Rattle.std.proofs.lemmas.Bool.{ne_eqb, eqb-true}
use Rattle.decompose.proofs.FirstOfBox.{IsInBox-length}
use Rattle.decompose.proofs.tests.plain_search.+find_next.Goals.{then-is_empty+then-count-least}
use Rattle.decompose.proofs.tests.plain_search.+find_next.Goals.{then-is_empty+else-count-least, else-is_empty}
use Rattle.decompose.proofs.tests.plain_search.+find_next.Goals as goal

none_given : (lo : ℕ) (given : Option (Bor (List ℕ))) (r : Bool) → lo ≡ 0 → is_some given ≡ not r →
    r ≡ (eqb lo 0 && not (is_some (option_copied given)))
none_given lo None true e h = rw e refl
none_given lo None false e h = cc
none_given lo (Some g) true e h = cc
none_given lo (Some g) false e h = rw e refl

pub returns-then-window-eq0 : goal.returns-then-window-eq0
returns-then-window-eq0 t c =
    search_empty c.args.window _ _ _ _ c.is_none.result c.in_default.ensures.cases c.requires.one_limit_each
    c.requires.one_count_each c.requires.given_in_box
    (none_given _ _ _ c.if-window-eq0.true c.is_none.ensures)

pub returns-else-window-eq0 : goal.returns-else-window-eq0
returns-else-window-eq0 t c =
    search_empty c.args.window _ _ _ _ _ c.in_default.ensures.cases c.requires.one_limit_each
    c.requires.one_count_each c.requires.given_in_box
    (rw (ne_eqb c.args.window.lo 0 c.if-window-eq0.false) refl)

limits_are : (limits : List Limit) → 0 < length limits →
    limits ≡ slice_index_or limits 0 record { low = 0; high = 0 } ∷ take (length limits - 1) (drop 1 limits)
limits_are limits h = first_rest limits record { low = 0; high = 0 } h

some_counts : (limits : List Limit) (given : Option (List ℕ)) → 0 < length limits → IfSome given (IsInBox limits) →
    IfSome given (λ counts. 0 < length counts)
some_counts limits None some h = tt
some_counts limits (Some cs) some h = omega (arith, IsInBox-length limits cs h)

pub first_count-count-requires : goal.first_count-count-requires
first_count-count-requires t c =
    some_counts c.args.limits.now _ (omega (arith, c.in-Some.ensures.cases.1, c.requires.one_limit_each))
    c.requires.given_in_box

pub loop-count-init : goal.loop-count-init
loop-count-init t c =
    let some : 0 < length c.args.limits.now = omega (arith, c.in-Some.ensures.cases.1, c.requires.one_limit_each) in
    let first =
    search_first c.in-Some.mass.now c.in-Some.masses.now _ _ c.args.window _ _ _ _ (limits_are _ some)
    c.requires.given_in_box c.first_count-count.ensures in
    let positive = rw c.in-Some.ensures.cases.0 at c.requires.positive in
    elim c.if-is_empty.branch [
      | then-is_empty+then-count-least w ↦ record {
        searched = rw (w.count-is, w.given-is)
            (search_raise _ _ _ _ _ _ _ _ _ first (eqb-true _ 0 (sym w.if-is_empty.ensures))
            (simp (length-take, length-drop) (omega (arith, c.in-Some.ensures.cases.1, c.requires.one_limit_each)))
            (positive 0 0 (omega arith)) w.div_ceil-least.ensures w.if-count-least.true);
        unchanged = refl;
      }
      | then-is_empty+else-count-least w ↦ record { searched = rw (w.count-is, w.given-is) first; unchanged = refl }
      | else-is_empty w ↦ record { searched = rw (w.count-is, w.given-is) first; unchanged = refl }
    ]

pub find_next-requires : goal.find_next-requires
find_next-requires t c =
    let positive = rw c.in-Some.ensures.cases.0 at c.requires.positive in (
      search rules,
      (
        search rules,
        (search rules, (λ k d h. positive (suc k) d (omega arith), c.loop-count.invariant.searched.in_box)),
      ),
    )

pub returns-then-find_next : goal.returns-then-find_next
returns-then-find_next t c =
    let some : 0 < length c.args.limits.now = omega (arith, c.in-Some.ensures.cases.1, c.requires.one_limit_each) in
    rw (put_first c.loop-count.out c.find_next.new.out c.loop-count.count
    (omega (arith, simp (length-take, length-drop) at c.find_next.auto.out))
    (omega (arith, c.in-Some.ensures.cases.1, c.requires.one_count_each)))
    (search_found _ _ _ _ _ _ _ _ c.loop-count.invariant.searched _ _ c.in-Some.ensures.cases.0 (limits_are _ some)
    _ _ c.saturating_sub.ensures (omega arith) c.if-find_next.ensures)

pub loop-count-preserved : goal.loop-count-preserved
loop-count-preserved t c =
    let some : 0 < length c.args.limits.now = omega (arith, c.in-Some.ensures.cases.1, c.requires.one_limit_each) in
    record {
      searched = search_on _ _ _ _ _ _ _ _ c.loop-count.invariant.searched _ _ c.in-Some.ensures.cases.0
          (limits_are _ some) _ c.saturating_sub.ensures (omega arith) c.if-find_next.ensures.0;
      unchanged = rw (c.if-find_next.ensures.1) (put_back c.loop-count.out ∙ c.loop-count.invariant.unchanged);
    }

pub returns : goal.returns
returns t c =
    let some : 0 < length c.args.limits.now = omega (arith, c.in-Some.ensures.cases.1, c.requires.one_limit_each) in
    let positive = rw c.in-Some.ensures.cases.0 at c.requires.positive in (
      search_end _ _ _ _ _ _ _ _ c.loop-count.invariant.searched _ _ c.in-Some.ensures.cases.0 (limits_are _ some)
          (positive 0 0 (omega arith)) (omega arith),
      c.loop-count.invariant.unchanged,
    )
