-- Numbers that bound the upper bounds of children.
use Rattle.std.proofs.Common.{◌≡◌, ℕ, ◌+◌, ◌<◌, ◌≤◌, Bool, true, false, cond, List, [], ◌∷◌, ◌++◌, length, refl, ◌∙◌, ap, arith, All}
use Rattle.std.specs.Prelude.{filter}
use Rattle.std.proofs.lemmas.Bool.{and_parts, ltb-true, leb-true}
use Rattle.std.proofs.lemmas.List.Elements.{All-nil, All-cons, All-append, All-weaker, All-head, All-tail}
use Rattle.multinomial_bounds.specs.Bounds.{ceiling_of}
use Rattle.multinomial_bounds.specs.Path.{bound_of}
use Rattle.sub_isotopologues.specs.Children.{moved, is_child_move, children_gaining, children_first, in_band, wanted_of, IsBoundUpTo}
use Rattle.sub_isotopologues.proofs.ChildLists.{children_gaining-none, children_gaining-more, children_first-none, children_first-more}

module _ (ws m x : List ℕ) (up_to : ℕ) where
  bounds-weaker : (b c : ℕ) (ys : List (List ℕ)) → b ≤ c → All (λ y. IsBoundUpTo ws up_to b y) ys →
      All (λ y. IsBoundUpTo ws up_to c y) ys
  bounds-weaker b c ys le all =
      All-weaker (λ y. IsBoundUpTo ws up_to b y) (λ y. IsBoundUpTo ws up_to c y)
      (λ y bound low. let h : bound_of ceiling_of ws y ≤ b = bound low in omega arith) ys all

  pub gaining_none : (i b : ℕ) → All (λ y. IsBoundUpTo ws up_to b y) (children_gaining m x i 0)
  gaining_none i b = rw (children_gaining-none m x i) (All-nil (λ y. IsBoundUpTo ws up_to b y))

  pub first_none : (b : ℕ) → All (λ y. IsBoundUpTo ws up_to b y) (children_first m x 0)
  first_none b = rw (children_first-none m x) (All-nil (λ y. IsBoundUpTo ws up_to b y))

  pub gaining_moves : (i n b c e : ℕ) → is_child_move m x i n ≡ true → b ≤ e → c ≤ e →
      All (λ y. IsBoundUpTo ws up_to b y) (children_gaining m x i n) → IsBoundUpTo ws up_to c (moved x i n) →
      All (λ y. IsBoundUpTo ws up_to e y) (children_gaining m x i (n + 1))
  gaining_moves i n b c e is b_le c_le all one =
      let split : children_gaining m x i (n + 1) ≡ children_gaining m x i n ++ moved x i n ∷ [] =
      children_gaining-more m x i n
      ∙ ap (λ (t : Bool). children_gaining m x i n ++ cond t (moved x i n ∷ []) []) is in
      rw split
      (All-append (λ y. IsBoundUpTo ws up_to e y) (children_gaining m x i n) (moved x i n ∷ [])
      (bounds-weaker b e (children_gaining m x i n) b_le all)
      (All-cons (λ y. IsBoundUpTo ws up_to e y) (moved x i n) []
      (λ low. let h : bound_of ceiling_of ws (moved x i n) ≤ c = one low in omega arith)
      (All-nil (λ y. IsBoundUpTo ws up_to e y))))

  pub gaining_stays : (i n b : ℕ) → is_child_move m x i n ≡ false →
      All (λ y. IsBoundUpTo ws up_to b y) (children_gaining m x i n) →
      All (λ y. IsBoundUpTo ws up_to b y) (children_gaining m x i (n + 1))
  gaining_stays i n b is all =
      let split : children_gaining m x i (n + 1) ≡ children_gaining m x i n ++ [] =
      children_gaining-more m x i n
      ∙ ap (λ (t : Bool). children_gaining m x i n ++ cond t (moved x i n ∷ []) []) is in
      rw split
      (All-append (λ y. IsBoundUpTo ws up_to b y) (children_gaining m x i n) [] all
      (All-nil (λ y. IsBoundUpTo ws up_to b y)))

  pub first_more : (n b c e : ℕ) → b ≤ e → c ≤ e → All (λ y. IsBoundUpTo ws up_to b y) (children_first m x n) →
      All (λ y. IsBoundUpTo ws up_to c y) (children_gaining m x n (length x)) →
      All (λ y. IsBoundUpTo ws up_to e y) (children_first m x (n + 1))
  first_more n b c e b_le c_le all one =
      rw (children_first-more m x n)
      (All-append (λ y. IsBoundUpTo ws up_to e y) (children_first m x n) (children_gaining m x n (length x))
      (bounds-weaker b e (children_first m x n) b_le all)
      (bounds-weaker c e (children_gaining m x n (length x)) c_le one))

-- Where the bound is out of the band, no child is in it.
none_in_band : (ws : List ℕ) (a u b : ℕ) (ys : List (List ℕ)) → b ≤ a → All (λ y. IsBoundUpTo ws u b y) ys →
    filter (in_band ws a u) ys ≡ []
none_in_band ws a u b [] low all = refl
none_in_band ws a u b (y ∷ ys) low all =
    let rest : filter (in_band ws a u) ys ≡ [] = none_in_band ws a u b ys low
    (All-tail (λ y. IsBoundUpTo ws u b y) y ys all) in
    let Goal : Bool → Type 0 = λ t. in_band ws a u y ≡ t → cond t (y ∷ filter (in_band ws a u) ys)
    (filter (in_band ws a u) ys) ≡ [] in
    (elim (in_band ws a u y) as Goal [
      | true ↦ λ band.
          let both = and_parts _ _ band in
          let above : a < bound_of ceiling_of ws y = ltb-true a (bound_of ceiling_of ws y) both.0 in
          let below : bound_of ceiling_of ws y ≤ b =
          All-head (λ y. IsBoundUpTo ws u b y) y ys all (leb-true (bound_of ceiling_of ws y) u both.1) in
          absurd (omega arith)
      | false ↦ λ band. rest
    ]) refl

pub none_wanted : (ws : List ℕ) (a u b : ℕ) (ys : List (List ℕ)) → b ≤ a → All (λ y. IsBoundUpTo ws u b y) ys →
    wanted_of ws a u ys ≡ []
unfolding wanted_of
none_wanted ws a u b ys low all = rw (none_in_band ws a u b ys low all) refl
