-- Runs of entries that are passed over by their minima, and the parts of a row that are looked through.
use Rattle.std.proofs.Common.{◌≡◌, ℕ, ◌+◌, ◌-◌, ◌*◌, ◌/◌, ◌<◌, ◌≤◌, min, max, List, [], ◌∷◌, ◌++◌, length, get_or, take, drop, arith, ◌∙◌, inl, inr}
use Rattle.std.proofs.lemmas.Bool.{cases_lt}
use Rattle.std.proofs.lemmas.List.{get_or-drop, get_or-take, get_or_append_left, get_or_push}
use Rattle.residue_table.specs.Rows.{BoundsRuns, NoneReached}

pub in_part : (xs : List ℕ) (first number j : ℕ) → j < number →
    get_or (take number (drop first xs)) j 0 ≡ get_or xs (first + j) 0
in_part xs first number j less = get_or-take number (drop first xs) j 0 less ∙ get_or-drop first xs j 0

-- entries of runs whose minima are too great are so too
pub passed_runs : (minima entries : List ℕ) (at run number count highest : ℕ) → BoundsRuns minima entries →
    count ≤ number → ((k : ℕ) → at ≤ k → k < run * 16 → k < length entries → highest < get_or entries k 0) →
    ((j : ℕ) → j < count → highest + j < get_or (take number (drop run minima)) j 0) → (k : ℕ) → at ≤ k →
    k < (run + count) * 16 → k < length entries → highest < get_or entries k 0
passed_runs minima entries at run number count highest bounds few before above k from to within =
    elim (cases_lt k (run * 16)) [
      | inl lt ↦ before k from lt within
      | inr ge ↦
          let j = k / 16 - run in
          let place : run + j ≡ k / 16 = omega arith in
          let less : j < count = omega arith in
          let part = rw (in_part minima run number j (omega arith), place) at (above j less) in
          omega (arith, part, bounds k within)
    ]

-- entries of groups of runs whose minima are too great are so too
pub passed_groups : (groups minima entries : List ℕ) (at run stop first highest : ℕ) → BoundsRuns minima entries →
    BoundsRuns groups minima → length entries ≤ 16 * length minima →
    ((k : ℕ) → at ≤ k → k < run * 16 → k < length entries → highest < get_or entries k 0) →
    ((group : ℕ) → run / 16 ≤ group → group < stop → highest < get_or groups group 0) → first ≤ max run (stop * 16) →
    (k : ℕ) → at ≤ k → k < first * 16 → k < length entries → highest < get_or entries k 0
passed_groups groups minima entries at run stop first highest bounds bounds_groups runs before above is_first k from
    to within = elim (cases_lt k (run * 16)) [
      | inl lt ↦ before k from lt within
      | inr ge ↦
          let part = bounds_groups (k / 16) (omega arith) in
          omega (arith, above (k / 16 / 16) (omega arith) (omega arith), part, bounds k within)
    ]

-- no number is reached up to the end of a part that was looked through
pub none_until : (entries : List ℕ) (start end from at first number count highest : ℕ) → start ≤ at → at ≤ first →
    first ≤ end → highest ≡ from + (end - start) → count ≤ number → NoneReached entries start at from →
    ((k : ℕ) → at ≤ k → k < first → highest < get_or entries k 0) →
    ((j : ℕ) → j < count → from + (first - start) + j < get_or (take number (drop first entries)) j 0) →
    NoneReached entries start (first + count) from
none_until entries start end from at first number count highest after on few is_highest short none passed above k k_from
    k_to = elim (cases_lt k at) [
      | inl lt ↦ none k k_from lt
      | inr ge ↦ elim (cases_lt k first) [
        | inl lt ↦ omega (arith, passed k ge lt)
        | inr later ↦
            let j = k - first in
            let place : first + j ≡ k = omega arith in
            let part = rw (in_part entries first number j (omega arith), place) at (above j (omega arith)) in
            omega (arith, part)
      ]
    ]

-- the minimum of one run more
pub pushed_bounds : (minima entries : List ℕ) (least run stop : ℕ) → length minima ≡ run →
    stop ≡ min (length entries) (run * 16 + 16) →
    ((k : ℕ) → k < length entries → k / 16 < run → get_or minima (k / 16) 0 ≤ get_or entries k 0) →
    ((j : ℕ) → j < stop - run * 16 → least ≤ get_or (take (stop - run * 16) (drop (run * 16) entries)) j 0) → (k : ℕ) →
    k < length entries → k / 16 < run + 1 → get_or (minima ++ least ∷ []) (k / 16) 0 ≤ get_or entries k 0
pushed_bounds minima entries least run stop same is_stop before here k within less = elim (cases_lt (k / 16) run) [
  | inl lt ↦
      let earlier : k / 16 < length minima = omega arith in
      rw (get_or_append_left minima (least ∷ []) 0 (k / 16) earlier) (before k within lt)
  | inr ge ↦
      let last : length minima ≡ k / 16 = omega arith in
      let j = k - run * 16 in
      let j_less : j < stop - run * 16 = omega arith in
      let place : run * 16 + j ≡ k = omega arith in
      let part = rw (in_part entries (run * 16) (stop - run * 16) j j_less, place) at (here j j_less) in
      rw (get_or_push minima least 0 (k / 16) last) part
]
