-- What the window of a peak and the number of masses in it tell of each mass.
use Rattle.std.proofs.Common.{◌≡◌, ℕ, ◌+◌, ◌-◌, ◌<◌, ◌≤◌, ◌&&◌, ◌++◌, ◌∷◌, [], true, Bool, List, length}
use Rattle.std.proofs.Common.{get_or, take, drop, arith, ap, sym, subst, ◌∙◌, inl, inr, cond}
use Rattle.std.specs.Prelude.{ℤ, pos, Option, Some, None, IfSome, nat_le}
use Rattle.std.specs.List.{count_by}
use Rattle.std.proofs.Math.Seq.{get_or-append_seam}
use Rattle.std.proofs.Math.ListN.{get_or-append}
use Rattle.std.proofs.lemmas.List.{get_or-take, get_or-drop, get_or_default, length-take, length-append}
use Rattle.std.proofs.lemmas.List.Sums.{get_or-le-sum_by}
use Rattle.std.proofs.lemmas.Bool.{cases_lt}
use Rattle.std.proofs.lemmas.Bool.Decides.{nat_tests}
use Rattle.std.proofs.lemmas.Int.{ints}
use Rattle.mass_scaling.specs.Tolerances.{Within}
use Rattle.mass_scaling.specs.Windows.{Holds, IsMassWithin, IsWindowOf, NoMassIsWithin, ion_mass}
use Rattle.mass_scaling.specs.declared.tolerances.Tolerance.{Tolerance}
use Rattle.mass_scaling.specs.declared.windows.Charged.{Charged}
use Rattle.mass_scaling.specs.declared.windows.Window.{Window}
use Rattle.prediction_score.specs.declared.columns.Asked.{Asked}
use Rattle.prediction_score.specs.declared.order.Entry.{Entry}
use Rattle.prediction_score.specs.Columns.{AreAsked, AreKnown, AreReaches, IsKnown, IsReach, IsReachAt, IsReachOf}

-- the ions are the masses themselves
abbrev pub bare : ℕ → Charged
bare divisor = record { copies = 1; divisor = divisor; shift = pos 0 }

bare-mass : (divisor mass : ℕ) → ion_mass (bare divisor) mass ≡ pos mass
bare-mass divisor mass = omega (arith, ints)

module _ (column : List ℕ) (mz divisor : ℕ) (tolerance : Tolerance) where
  of_mass : (mass : ℕ) → Within (pos mass) mz tolerance divisor → IsMassWithin mz tolerance (bare divisor) mass
  of_mass mass near = subst (λ (m : ℤ). Within m mz tolerance divisor) (sym (bare-mass divisor mass)) near

  to_mass : (mass : ℕ) → IsMassWithin mz tolerance (bare divisor) mass → Within (pos mass) mz tolerance divisor
  to_mass mass near = subst (λ (m : ℤ). Within m mz tolerance divisor) (bare-mass divisor mass) near

  pub reach-none : NoMassIsWithin mz tolerance (bare divisor) → IsReach column mz divisor tolerance None
  reach-none none = record { each = λ k inside some near. none (get_or column k 0) some (of_mass _ near) }

  module _ (window : Window) (is : IsWindowOf mz tolerance (bare divisor) window) where
    held : (mass : ℕ) → 1 ≤ mass → Within (pos mass) mz tolerance divisor → Holds window mass
    held mass some near = (
      elim (cases_lt mass window.lo) [
        | inl below ↦ absurd (is.none_below mass some below (of_mass mass near))
        | inr from ↦ from
      ],
      elim (cases_lt window.hi mass) [
        | inl above ↦ absurd (is.none_above mass above (of_mass mass near))
        | inr to ↦ to
      ],
    )

    pub reach-window : IsReach column mz divisor tolerance (Some window)
    reach-window = record {
      each = λ k inside some. (
        held (get_or column k 0) some,
        λ within. to_mass (get_or column k 0) (is.all_between (get_or column k 0) within.0 within.1),
      );
    }

    pub reach-empty : count_by (λ m. nat_le window.lo m && nat_le m window.hi) column ≡ 0
        → IsReach column mz divisor tolerance None
    reach-empty empty = record {
      each = λ k inside some near.
          let p : ℕ → Bool = λ m. nat_le window.lo m && nat_le m window.hi in
          let mass = get_or column k 0 in
          let holds = held mass some near in
          let passes : p mass ≡ true = grind (arith, nat_tests) in
          let counted : cond (p mass) 1 0 ≤ count_by p column =
          get_or-le-sum_by (λ m. cond (p m) 1 0) column k 0 inside in
          let one : 1 ≤ count_by p column =
          subst (λ b. cond b 1 0 ≤ count_by p column) passes counted in absurd (omega arith);
    }

module _ (column : List ℕ) (divisor : ℕ) (tolerance : Tolerance) where
  -- one entry more
  pub reaches-push : (entries : List Entry) (reaches : List (Option Window)) (i : ℕ) (d : Entry) (reach : Option Window)
      → i < length entries → AreReaches (take i entries) column divisor tolerance reaches
      → IsReach column (get_or entries i d).mz divisor tolerance reach
      → AreReaches (take (i + 1) entries) column divisor tolerance (reaches ++ reach ∷ [])
  reaches-push entries reaches i d reach inside are is =
      let short : length (take i entries) ≡ i = omega (arith, length-take i entries) in
      let longer : length (take (i + 1) entries) ≡ i + 1 = omega (arith, length-take (i + 1) entries) in
      let more : length (reaches ++ reach ∷ []) ≡ length reaches + 1 = length-append reaches (reach ∷ []) in
      let Reach : Entry → Option Window → Type 0 = λ e r. IsReach column e.mz divisor tolerance r in
      record {
        many = omega (arith, are.many);
        each = λ k e r within. elim (cases_lt k i) [
          | inl before ↦
              subst (λ x. Reach x (get_or (reaches ++ reach ∷ []) k r))
              (get_or-take i entries k e before ∙ sym (get_or-take (i + 1) entries k e (omega arith)))
              (subst (Reach (get_or (take i entries) k e))
              (sym (get_or-append reaches (reach ∷ []) r k (omega (arith, are.many))))
              (are.each k e r (omega (arith, are.many))))
          | inr from ↦
              let last : k ≡ length reaches = omega (arith, are.many) in
              let here : k ≡ i = omega (arith, are.many) in
              subst (λ x. Reach x (get_or (reaches ++ reach ∷ []) k r))
              (get_or_default entries i d e inside ∙ sym (get_or-take (i + 1) entries i e (omega arith))
              ∙ ap (λ n. get_or (take (i + 1) entries) n e) (sym here))
              (subst (Reach (get_or entries i d))
              (sym (ap (λ n. get_or (reaches ++ reach ∷ []) n r) last ∙ get_or-append_seam reaches reach [] r)) is)
        ];
      }

  -- some of the entries were asked
  pub asked-slice : (entries : List Entry) (first many : ℕ) (asked : Asked) → asked.first ≡ first
      → AreReaches (take many (drop first entries)) column divisor tolerance asked.reaches.items
      → AreAsked entries column divisor tolerance asked
  asked-slice entries first many asked begins are = record {
    each = λ i e r inside.
        let within : i < many = omega (arith, are.many, length-take many (drop first entries)) in
        subst (λ (x : Entry). IsReach column x.mz divisor tolerance (get_or asked.reaches.items i r))
        (get_or-take many (drop first entries) i e within ∙ get_or-drop first entries i e
        ∙ ap (λ n. get_or entries (n + i) e) (sym begins))
        (are.each i e r inside);
  }

  -- what a column told is known of each of its masses
  pub asked-known : (entries : List Entry) (asked : Asked) (k : ℕ) → AreAsked entries column divisor tolerance asked
      → k < length column → 1 ≤ get_or column k 0 → AreKnown entries (get_or column k 0) divisor tolerance asked
  asked-known entries asked k are inside some = record {
    each = λ i e r within. (are.each i e r within).each k inside some;
  }

-- what is known at an index is known of the entry there
pub known-at : (entries : List Entry) (mass divisor : ℕ) (tolerance : Tolerance) (asked : Asked) (index : ℕ) (e : Entry)
    (known : Option (Option Window)) → AreKnown entries mass divisor tolerance asked
    → IfSome known (IsReachAt asked index) → IsKnown mass (get_or entries index e).mz divisor tolerance known
known-at entries mass divisor tolerance asked index e None are at = tt
known-at entries mass divisor tolerance asked index e (Some reach) are at =
    let i : ℕ = index - asked.first in
    let there : asked.first + i ≡ index = omega (arith, at.from) in
    subst (λ n. IsReachOf mass (get_or entries n e).mz divisor tolerance reach) there
    (subst (IsReachOf mass (get_or entries (asked.first + i) e).mz divisor tolerance) (sym at.is)
    (are.each i e reach (omega (arith, at.from, at.within))))
