-- Equal counts have carbon alike.
use Rattle.std.proofs.Common.{◌≡◌, ℕ, ◌<◌, Bool, true, false, cond, ltb, ◌&&◌, ◌||◌, List, [], ◌∷◌, refl, sym, ap, ◌∙◌}
use Rattle.std.proofs.Common.{arith}
use Rattle.std.specs.Str.{bytes_eq}
use Rattle.std.proofs.lemmas.Bool.{false≢true, and_parts, and_from}
use Rattle.written_items.specs.declared.item.Item.{Item}
use Rattle.written_items.specs.Items.{item_eq}
use Rattle.formula_text.specs.HillOrder.{carbon_symbol}
use Rattle.formula_text.specs.Formulas.{count_in, has_carbon}
use Rattle.std.proofs.lemmas.Bool.{ltb-true, ltb-false}
use Rattle.formula_text.proofs.HillOrderLaws.{item_eq-itself, item_eq-same, same_tests}
use Rattle.formula_text.proofs.CountsInOrder.{count_in-cons, share}

abbrev is_carbon : Item → Bool
is_carbon q = bytes_eq q.symbol carbon_symbol

carbon_at : (ps : List (Item × ℕ)) → has_carbon ps ≡ true → (q : Item) × (is_carbon q ≡ true) × (0 < count_in ps q)
carbon_at [] h = absurd (false≢true h)
carbon_at (p ∷ ps) h =
    elim (is_carbon p.0 && ltb 0 p.1) as (λ b. (is_carbon p.0 && ltb 0 p.1) ≡ b → (b || has_carbon ps)
    ≡ true → (q : Item) × (is_carbon q ≡ true) × (0 < count_in (p ∷ ps) q)) [
      | true ↦ λ e _.
          let some : 0 < p.1 = omega (arith, ltb-true 0 p.1 ((and_parts (is_carbon p.0) _ e).1)) in
          let cons = count_in-cons p ps p.0 in
          let own : share p.0 p ≡ p.1 = ap (λ b. cond b p.1 0) (item_eq-itself p.0) in
          (p.0, (and_parts _ _ e).0, omega arith)
      | false ↦ λ e h.
          let rest : (q : Item) × (is_carbon q ≡ true) × (0 < count_in ps q) = carbon_at ps h in
          let cons = count_in-cons p ps rest.0 in
          let more : 0 < count_in ps rest.0 = rest.2 in
          (rest.0, rest.1, omega arith)
    ] refl h

carbon_from : (ps : List (Item × ℕ)) (q : Item) → is_carbon q ≡ true → 0 < count_in ps q → has_carbon ps ≡ true
carbon_from [] q c h = absurd (omega arith)
carbon_from (p ∷ ps) q c h =
    let cons = count_in-cons p ps q in
    elim (item_eq q p.0 && ltb 0 p.1) as (λ b. (item_eq q p.0 && ltb 0 p.1) ≡ b → has_carbon (p ∷ ps) ≡ true) [
      | true ↦ λ e.
          let own : (is_carbon p.0 && ltb 0 p.1) ≡ true =
          and_from _ _ (ap is_carbon (sym (item_eq-same q p.0 ((and_parts _ _ e).0)))
          ∙ c) ((and_parts (item_eq q p.0) _ e).1) in
          ap (λ b. b || has_carbon ps) own
      | false ↦ λ e.
          let nothing : share q p ≡ 0 = no_share (item_eq q p.0) p.1 e in
          any_rest (is_carbon p.0 && ltb 0 p.1) _ (carbon_from ps q c (omega arith))
    ] refl
  where
    no_share : (b : Bool) (n : ℕ) → (b && ltb 0 n) ≡ false → cond b n 0 ≡ 0
    no_share true n e = omega (arith, ltb-false 0 n e)
    no_share false n e = refl

    any_rest : (a b : Bool) → b ≡ true → (a || b) ≡ true
    any_rest true b e = refl
    any_rest false b e = e

-- whether carbon is there is told by the counts
pub has_carbon-same : (ps qs : List (Item × ℕ)) → ((q : Item) → count_in ps q ≡ count_in qs q)
    → has_carbon ps ≡ has_carbon qs
has_carbon-same ps qs same =
    same_tests _ _ (over ps qs same) (over qs ps (λ q. sym (same q)))
  where
    over : (ps qs : List (Item × ℕ)) → ((q : Item) → count_in ps q ≡ count_in qs q) → has_carbon ps ≡ true
        → has_carbon qs ≡ true
    over ps qs same h =
        let at = carbon_at ps h in
        let some : 0 < count_in ps at.0 = at.2 in
        let count = same at.0 in
        carbon_from qs at.0 at.1 (omega arith)
