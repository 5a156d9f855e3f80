-- Hill's order is total, and ties an item with itself alone.
use Rattle.std.proofs.Common.{◌≡◌, ℕ, Bool, true, false, eqb, T, refl, sym, ap, subst, ◌∙◌}
use Rattle.std.specs.Prelude.{IsTrue}
use Rattle.std.specs.declared.cmp.Ordering.{Ordering}
use Rattle.std.specs.declared.cmp.Ordering.TheVariants.{Less, Equal, Greater}
use Rattle.std.specs.Ordering.{ordering_then, eq_by_cmp, is_eq}
use Rattle.std.specs.Cmp.{IsTotalOrder}
use Rattle.std.specs.FinMap.{nat_cmp-IsAntisymmetric, slice_cmp-IsAntisymmetric}
use Rattle.std.specs.Str.{bytes_eq}
use Rattle.std.proofs.lemmas.Cmp.{nat_cmp_total, nat_list_cmp_total, on_total, then_total, tied_itself}
use Rattle.std.proofs.lemmas.Bool.{false≢true, and_parts, and_from}
use Rattle.written_items.specs.declared.item.Item.{Item}
use Rattle.written_items.specs.Items.{item_eq}
use Rattle.formula_text.specs.HillOrder.{hill_rank, hill_cmp}
use lib.Pointwise.{bytes_decides}
use Rattle.std.proofs.Math.Dec.{eqb→eq, eqb_refl}

pub hill_total : (carbon : Bool) → IsTotalOrder (hill_cmp carbon)
hill_total carbon =
    then_total (on_total (λ (i : Item). hill_rank carbon i.symbol) nat_cmp_total)
    (then_total (on_total (λ (i : Item). i.symbol) nat_list_cmp_total) (on_total (λ (i : Item). i.label) nat_cmp_total))

second_equal : (a b : Ordering) → ordering_then a b ≡ Equal → b ≡ Equal
second_equal Less b e = absurd (subst (λ r. T (is_eq r)) (sym e) tt)
second_equal Equal b e = e
second_equal Greater b e = absurd (subst (λ r. T (is_eq r)) (sym e) tt)

first_equal : (a b : Ordering) → ordering_then a b ≡ Equal → a ≡ Equal
first_equal Less b e = absurd (subst (λ r. T (is_eq r)) (sym e) tt)
first_equal Equal b e = refl
first_equal Greater b e = absurd (subst (λ r. T (is_eq r)) (sym e) tt)

same_item : (a b : Item) → a.symbol ≡ b.symbol → a.label ≡ b.label → a ≡ b
same_item a b p q = λ i. record { symbol = p i; label = q i }

-- items that tie in Hill's order are one item
pub hill_same : (carbon : Bool) (a b : Item) → hill_cmp carbon a b ≡ Equal → a ≡ b
hill_same carbon a b e =
    let more = second_equal _ _ e in
    same_item a b (slice_cmp-IsAntisymmetric nat_cmp-IsAntisymmetric a.symbol b.symbol (first_equal _ _ more))
    (nat_cmp-IsAntisymmetric a.label b.label (second_equal _ _ more))

pub item_eq-same : (a b : Item) → item_eq a b ≡ true → a ≡ b
item_eq-same a b e =
    same_item a b ((bytes_decides a.symbol b.symbol).0 ((and_parts _ _ e).0))
    (eqb→eq a.label b.label (subst T (sym ((and_parts (bytes_eq a.symbol b.symbol) _ e).1)) tt))

pub item_eq-itself : (a : Item) → item_eq a a ≡ true
item_eq-itself a = and_from _ _ ((bytes_decides a.symbol a.symbol).1 refl) (eqb_true a.label)
  where
    eqb_true : (n : ℕ) → eqb n n ≡ true
    eqb_true n = elim (eqb n n) as (λ b. T b → b ≡ true) [ true ↦ λ _. refl | false ↦ λ h. absurd h ] (eqb_refl n)

pub item_eq-other : (a b : Item) → item_eq a b ≡ false → a ≡ b → ⊥
item_eq-other a b e same = false≢true (sym e ∙ ap (item_eq a) (sym same) ∙ item_eq-itself a)

pub same_tests : (a b : Bool) → (a ≡ true → b ≡ true) → (b ≡ true → a ≡ true) → a ≡ b
same_tests true b p q = sym (p refl)
same_tests false true p q = q refl
same_tests false false p q = refl

pub item_eq-symm : (a b : Item) → item_eq a b ≡ item_eq b a
item_eq-symm a b =
    same_tests _ _
    (λ e. ap (λ x. item_eq x a) (sym (item_eq-same a b e)) ∙ item_eq-itself a)
    (λ e. ap (λ x. item_eq x b) (sym (item_eq-same b a e)) ∙ item_eq-itself b)

eq_from_is_eq : (o : Ordering) → is_eq o ≡ true → o ≡ Equal
eq_from_is_eq Less e = absurd (false≢true e)
eq_from_is_eq Equal e = refl
eq_from_is_eq Greater e = absurd (false≢true e)

-- an item ties with itself alone
pub hill_ties : (carbon : Bool) (a b : Item) → eq_by_cmp (hill_cmp carbon) a b ≡ item_eq a b
hill_ties carbon a b =
    same_tests _ _
    (λ e. ap (λ x. item_eq a x) (sym (hill_same carbon a b (eq_from_is_eq _ e))) ∙ item_eq-itself a)
    (λ e. ap (λ x. eq_by_cmp (hill_cmp carbon) a x) (sym (item_eq-same a b e))
    ∙ ap is_eq (tied_itself (hill_total carbon) a))

pub IsTrue-T : (b : Bool) → T b → IsTrue b
IsTrue-T true h = refl
IsTrue-T false h = absurd h

pub T-IsTrue : (b : Bool) → IsTrue b → T b
T-IsTrue b h = subst T (sym h) tt
