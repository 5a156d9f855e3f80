-- What an enumeration gives next.
use Rattle.std.proofs.Common.{◌≡◌, ℕ, true, Option, Some, None, List, [], ◌∷◌, sym, ap, ◌∙◌}
use Rattle.std.specs.List.{find, filter}
use Rattle.std.proofs.lemmas.Bool.{and_parts}
use Rattle.std.proofs.Math.Bool.{and-true}
use Rattle.std.proofs.lemmas.List.Elements.{filter_agree}
use Rattle.mass_scaling.specs.Masses.{mass_of}
use Rattle.decompose.specs.CountLists.{IsInBox, box_of, comes_after}
use Rattle.decompose.specs.Enumeration.{Enumeration, left, vectors, lists_after, after_given, is_within}
use Rattle.decompose.specs.Search.{is_left}
use Rattle.decompose.specs.declared.limits.Limit.{Limit}
use Rattle.mass_scaling.specs.declared.windows.Window.{Window}
use Rattle.decompose.proofs.FindAndFilter.{find_each, filter_none, filter_twice}
use Rattle.decompose.proofs.CountListOrder.{first_and_rest}
use Rattle.decompose.proofs.FirstOfBox.{Rises-box, IsInBox-box}

left_filter : (masses : List ℕ) (limits : List Limit) (window : Window) (given : Option (List ℕ)) →
    after_given (vectors masses limits window) given ≡ filter (is_left masses window given) (box_of limits)
unfolding vectors lists_after
left_filter masses limits window None =
    filter_agree _ _ (λ cs. sym (and-true (is_within window (mass_of masses cs)))) (box_of limits)
left_filter masses limits window (Some c) =
    filter_twice (λ cs. is_within window (mass_of masses cs)) (comes_after c) (box_of limits)

module _ (e : Enumeration) where
  left_is : left e ≡ filter (is_left e.masses e.window e.given) (box_of e.limits)
  unfolding left
  left_is = left_filter e.masses e.limits e.window e.given

  pub none_left : find (is_left e.masses e.window e.given) (box_of e.limits) ≡ None → left e ≡ []
  none_left h = left_is ∙ filter_none _ (box_of e.limits) h

  module _ (x : List ℕ) (found : find (is_left e.masses e.window e.given) (box_of e.limits) ≡ Some x) where
    pub first_left : left e ≡ x ∷ left record e { given = Some x }
    unfolding left
    first_left =
        left_is
        ∙ first_and_rest (λ cs. is_within e.window (mass_of e.masses cs)) e.given (box_of e.limits) x
        (Rises-box e.limits) found
        ∙ ap (λ xs. x ∷ xs) (sym (left_filter e.masses e.limits e.window (Some x)))

    pub first_in_box : IsInBox e.limits x
    first_in_box = (find_each (IsInBox e.limits) _ (box_of e.limits) x (IsInBox-box e.limits) found).0

    pub first_in_window : is_within e.window (mass_of e.masses x) ≡ true
    first_in_window =
        (and_parts _ _ (find_each (IsInBox e.limits) _ (box_of e.limits) x (IsInBox-box e.limits) found).1).0
