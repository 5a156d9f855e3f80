-- All counts of an element with an upper bound above a number: exactly those, each once.
use Rattle.std.proofs.Common.{◌≡◌, ◌≢◌, ℕ, ◌<◌, ltb, true, List, length, get_or, sym, ◌∙◌, subst, All}
use Rattle.std.specs.Prelude.{AllPairs, Contains}
use Rattle.std.specs.Ordering.{nat_cmp}
use Rattle.std.specs.declared.cmp.Ordering.{Ordering}
use Rattle.std.specs.declared.cmp.Ordering.TheVariants.{Less, Equal}
use Rattle.std.specs.Cmp.Lexicographic.{slice_cmp}
use Rattle.std.proofs.lemmas.Bool.{ltb-true, lt-ltb}
use Rattle.std.proofs.lemmas.Cmp.{nat_list_cmp_total, tied_itself}
use Rattle.std.proofs.lemmas.List.Elements.{All-filter, All-weaker, filter_passes}
use Rattle.std.proofs.lemmas.List.Kept.{AllPairs-filter}
use Rattle.multinomial_bounds.specs.Weight.{IsCounts}
use Rattle.multinomial_bounds.specs.Bounds.{ceiling_of}
use Rattle.multinomial_bounds.specs.Path.{bound_of}
use Rattle.multinomial_bounds.specs.Compositions.{compositions}
use Rattle.multinomial_bounds.proofs.CompositionLemmas.{compositions-IsCounts, compositions_complete}
use Rattle.multinomial_bounds.proofs.LexicographicOrder.{compositions_in_order}
use Rattle.sub_isotopologues.specs.Children.{counts_over}
use Rattle.sub_isotopologues.proofs.ListParts.{contains_filter}

less_apart : (a b : List ℕ) → slice_cmp nat_cmp a b ≡ Less → a ≢ b
less_apart a b less same =
    let itself : slice_cmp nat_cmp b b ≡ Equal = tied_itself nat_list_cmp_total b in
    let alike : slice_cmp nat_cmp b b ≡ Less = rw same at less in
    let both : ◌≡◌ {A = Ordering} Less Equal = sym alike ∙ itself in
    cc

-- no counts stand twice among all
pub compositions_distinct : (q n : ℕ) → AllPairs (λ a b. a ≢ b) (compositions q n)
compositions_distinct q n i j d before within =
    less_apart (get_or (compositions q n) i d) (get_or (compositions q n) j d)
    (compositions_in_order q n i j d before within)

-- each list of counts is among all
pub Contains-compositions : (ws : List ℕ) (n : ℕ) (y : List ℕ) → IsCounts ws n y → Contains
    (compositions (length ws) n) y
Contains-compositions ws n y is =
    let P : ℕ → Type 0 = λ q. Contains (compositions q n) y in
    subst P is.places_agree (compositions_complete y n is.atoms_agree)

module _ (ws : List ℕ) (n cut : ℕ) where
  pub over-IsCounts : All (IsCounts ws n) (counts_over ws n cut)
  unfolding counts_over
  over-IsCounts =
      All-filter (λ y. ltb cut (bound_of ceiling_of ws y)) (IsCounts ws n) (compositions (length ws) n)
      (compositions-IsCounts ws n)

  pub over-above : All (λ y. cut < bound_of ceiling_of ws y) (counts_over ws n cut)
  unfolding counts_over
  over-above =
      All-weaker (λ y. ltb cut (bound_of ceiling_of ws y) ≡ true) (λ y. cut < bound_of ceiling_of ws y)
      (λ y above. ltb-true cut (bound_of ceiling_of ws y) above) (counts_over ws n cut)
      (filter_passes (λ y. ltb cut (bound_of ceiling_of ws y)) (compositions (length ws) n))

  pub Contains-over : (y : List ℕ) → IsCounts ws n y → cut < bound_of ceiling_of ws y → Contains
      (counts_over ws n cut) y
  unfolding counts_over
  Contains-over y is above =
      contains_filter (λ y. ltb cut (bound_of ceiling_of ws y)) (compositions (length ws) n) y
      (lt-ltb cut (bound_of ceiling_of ws y) above) (Contains-compositions ws n y is)

  pub over-distinct : AllPairs (λ a b. a ≢ b) (counts_over ws n cut)
  unfolding counts_over
  over-distinct =
      AllPairs-filter (λ a b. a ≢ b) (λ y. ltb cut (bound_of ceiling_of ws y)) (compositions (length ws) n)
      (compositions_distinct (length ws) n)
