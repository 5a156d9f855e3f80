-- A part of a row that is looked through answers for a range of numbers, and rows answer for sums.
use Rattle.std.proofs.Common.{◌≡◌, ℕ, ◌+◌, ◌-◌, ◌*◌, ◌/◌, ◌%◌, ◌^◌, ◌<◌, ◌≤◌, ◌↔◌, min, List, length, get_or, Option}
use Rattle.std.proofs.Common.{Some, None, ap, arith, sym, subst, refl, ◌∙◌}
use Rattle.std.specs.Prelude.{Bool, true, false, IfSome, IsNone, IsTrue}
use Rattle.std.specs.Bool.{OnTrue, OnFalse}
use Rattle.std.proofs.lemmas.Nat.{div-add-mod', mod-mul-add, mod_below}
use Rattle.residue_table.specs.Sums.{IsSum, IsLeastIn, HoldsNowhereIn, HoldsSomewhereIn}
use Rattle.residue_table.specs.Rows.{IsFirstPlace, IsReached, IsRow, IsSomeReached, NoneReached}

module _ (entries : List ℕ) (lo residue : ℕ) (is : residue ≡ lo % length entries) (some : 1 ≤ length entries) where
  within : residue < length entries
  within = rw is (mod_below lo (length entries) some)

  -- the residue of a number before the next multiple of the modulus
  residue_of : (i : ℕ) → residue + i < length entries → (lo + i) % length entries ≡ residue + i
  residue_of i less =
      let whole : lo / length entries * length entries + residue ≡ lo = rw is (div-add-mod' lo (length entries)) in
      ap (λ (z : ℕ). z % length entries) (omega (arith, whole))
      ∙ mod-mul-add (lo / length entries) (length entries) (residue + i) less

  unreached : (number i : ℕ) → residue + number ≤ length entries → NoneReached entries residue (residue + number) lo →
      i < number → IsReached entries (lo + i) → ⊥
  unreached number i room none less reached =
      let here = rw (residue_of i (omega arith)) at reached in
      omega (arith, here, none (residue + i) (omega arith) (omega arith))

  none_to : (number : ℕ) → residue + number ≤ length entries → NoneReached entries residue (residue + number) lo →
      (other : ℕ) → lo ≤ other → other < lo + number → IsReached entries other → ⊥
  none_to number room none other from less reached =
      let e : other ≡ lo + (other - lo) = omega arith in
      unreached number (other - lo) room none (omega arith) (subst (λ (z : ℕ). IsReached entries z) e reached)

  -- the first place that is reached is that of the least number
  pub found : (hi number place : ℕ) → residue + number ≤ length entries → lo + number ≤ hi + 1 →
      IsFirstPlace entries residue (residue + number) lo place →
      IsLeastIn (IsReached entries) lo hi (lo + (place - residue))
  found hi number place room few first =
      let before = place - residue in
      let e : residue + before ≡ place = omega (arith, first.from_start) in
      let at_place : (lo + before) % length entries ≡ place =
      residue_of before (omega (arith, first.from_start, first.to_end)) ∙ e in
      record {
        not_below = omega arith;
        not_above = omega (arith, first.to_end, first.from_start);
        holds = rw at_place (omega (arith, first.reached, first.from_start));
        none_before = λ other from less.
            none_to before (omega (arith, first.to_end, first.from_start))
            (λ k start end. first.none_before k start (omega (arith, e))) other from less;
      }

  -- the next multiple of the modulus is reached
  pub multiple_reached : get_or entries 0 0 ≡ 0 → IsReached entries (lo + (length entries - residue))
  multiple_reached from_zero =
      let whole : lo / length entries * length entries + residue ≡ lo = rw is (div-add-mod' lo (length entries)) in
      let multiple : (lo + (length entries - residue)) % length entries ≡ 0 =
      ap (λ (z : ℕ). z % length entries) (omega (arith, whole, within))
      ∙ mod-mul-add (lo / length entries + 1) (length entries) 0 some in
      rw multiple (omega (arith, from_zero))

  -- where none is before it, it is the least
  pub at_multiple : (hi : ℕ) → get_or entries 0 0 ≡ 0 → length entries - residue ≤ hi - lo → lo ≤ hi →
      NoneReached entries residue (residue + (length entries - residue)) lo →
      IsLeastIn (IsReached entries) lo hi (lo + (length entries - residue))
  at_multiple hi from_zero reach ordered none =
      record {
        not_below = omega arith;
        not_above = omega (arith, reach, ordered);
        holds = multiple_reached from_zero;
        none_before = none_to (length entries - residue) (omega (arith, within)) none;
      }

  pub nowhere : (hi number : ℕ) → residue + number ≤ length entries → hi < lo + number →
      NoneReached entries residue (residue + number) lo → HoldsNowhereIn (IsReached entries) lo hi
  nowhere hi number room reach none value from to = none_to number room none value from (omega arith)

  -- whether a number is reached before the next multiple of the modulus
  pub somewhere : (hi last : ℕ) (r : Bool) → lo ≤ hi → last ≡ residue + (hi - lo) → last < length entries →
      OnTrue r (IsSomeReached entries residue (last + 1) lo) →
      OnFalse r (NoneReached entries residue (last + 1) lo) → IsTrue r ↔ HoldsSomewhereIn (IsReached entries) lo hi
  somewhere hi last true ordered is_last room found none = (
    λ h.
        let before = found.0 - residue in
        let e : residue + before ≡ found.0 = omega (arith, found.1) in
        let at_place : (lo + before) % length entries ≡ found.0 = residue_of before (omega (arith, found.2)) ∙ e in (
          lo + before,
          omega arith,
          omega (arith, found.2, found.1, is_last, ordered),
          rw at_place (omega (arith, found.3, found.1)),
        ),
    λ h. refl,
  )
  somewhere hi last false ordered is_last room found none =
      let number : residue + (hi - lo + 1) ≡ last + 1 = omega (arith, is_last) in
      let nothing = nowhere hi (hi - lo + 1) (omega (arith, room)) (omega arith) (rw number none) in (
        λ h. absurd (cc),
        λ h. absurd (nothing h.0 h.1 h.2 h.3),
      )

-- what a row says of a range holds of sums
module _ (masses entries : List ℕ) (row : IsRow masses entries) (lo hi : ℕ) (small : hi < 2 ^ 63) where
  least_sum : (value : ℕ) → IsLeastIn (IsReached entries) lo hi value → IsLeastIn (IsSum masses) lo hi value
  least_sum value least = record {
    not_below = least.not_below;
    not_above = least.not_above;
    holds = row.sound value (omega (arith, least.not_above)) least.holds;
    none_before = λ other from less s. least.none_before other from less (row.complete other s);
  }

  pub least_of_row : (found : Option ℕ) → IfSome found (IsLeastIn (IsReached entries) lo hi) →
      IfSome found (IsLeastIn (IsSum masses) lo hi)
  least_of_row None h = tt
  least_of_row (Some value) h = least_sum value h

  pub none_of_row : (found : Option ℕ) → IfSome found (IsLeastIn (IsReached entries) lo hi) →
      (IsNone found → HoldsNowhereIn (IsReached entries) lo hi) → IsNone found ↔ HoldsNowhereIn (IsSum masses) lo hi
  none_of_row None least none = (λ h value from to s. none refl value from to (row.complete value s), λ h. refl)
  none_of_row (Some value) least none = (
    λ h. absurd (cc),
    λ h. absurd (h value least.not_below least.not_above (least_sum value least).holds),
  )

  pub somewhere_of_row : (r : Bool) → IsTrue r ↔ HoldsSomewhereIn (IsReached entries) lo hi →
      IsTrue r ↔ HoldsSomewhereIn (IsSum masses) lo hi
  somewhere_of_row r h = (
    λ t. let found = h.0 t in (found.0, found.1, found.2, row.sound found.0 (omega (arith, found.2)) found.3),
    λ found. h.1 (found.0, found.1, found.2, row.complete found.0 found.3),
  )

-- the same, where the modulus is known to be the row's length
module _ (entries : List ℕ) (lo hi modulus number : ℕ) (is_modulus : modulus ≡ length entries)
    (some : 1 ≤ length entries) (ordered : lo ≤ hi) where
  pub multiple_of : get_or entries 0 0 ≡ 0 → number ≡ min (hi - lo + 1) (modulus - lo % modulus) →
      modulus - lo % modulus ≤ hi - lo → NoneReached entries (lo % modulus) (lo % modulus + number) lo →
      IsLeastIn (IsReached entries) lo hi (lo + (modulus - lo % modulus))
  multiple_of from_zero =
      let at_length : number ≡ min (hi - lo + 1) (length entries - lo % length entries) →
      length entries - lo % length entries ≤ hi - lo →
      NoneReached entries (lo % length entries) (lo % length entries + number) lo →
      IsLeastIn (IsReached entries) lo hi (lo + (length entries - lo % length entries)) =
      λ is reach none. at_multiple entries lo (lo % length entries) refl some hi from_zero reach ordered
      (subst (λ (n : ℕ). NoneReached entries (lo % length entries) (lo % length entries + n) lo)
      (omega (arith, is, reach)) none) in
      subst
      (λ (z : ℕ). number ≡ min (hi - lo + 1) (z - lo % z) → z - lo % z ≤ hi - lo →
      NoneReached entries (lo % z) (lo % z + number) lo → IsLeastIn (IsReached entries) lo hi (lo + (z - lo % z)))
      (sym is_modulus) at_length

  pub nowhere_of : number ≡ min (hi - lo + 1) (modulus - lo % modulus) → hi - lo < modulus - lo % modulus →
      NoneReached entries (lo % modulus) (lo % modulus + number) lo → HoldsNowhereIn (IsReached entries) lo hi
  nowhere_of =
      let at_length : number ≡ min (hi - lo + 1) (length entries - lo % length entries) →
      hi - lo < length entries - lo % length entries →
      NoneReached entries (lo % length entries) (lo % length entries + number) lo →
      HoldsNowhereIn (IsReached entries) lo hi =
      λ is short none. nowhere entries lo (lo % length entries) refl some hi number
      (omega (arith, is, mod_below lo (length entries) some)) (omega (arith, is, short, ordered)) none in
      subst
      (λ (z : ℕ). number ≡ min (hi - lo + 1) (z - lo % z) → hi - lo < z - lo % z →
      NoneReached entries (lo % z) (lo % z + number) lo → HoldsNowhereIn (IsReached entries) lo hi)
      (sym is_modulus) at_length
