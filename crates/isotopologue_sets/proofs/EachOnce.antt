-- No isotopologue stands twice in the list of all.
use Rattle.std.proofs.Common.{◌≡◌, ℕ, List, get_or, sym, ◌∙◌}
use Rattle.std.specs.Prelude.{◌≢◌, AllPairs}
use Rattle.std.specs.Ordering.{nat_cmp}
use Rattle.std.specs.declared.cmp.Ordering.{Ordering}
use Rattle.std.specs.declared.cmp.Ordering.TheVariants.{Less, Equal}
use Rattle.std.specs.Cmp.Lexicographic.{slice_cmp}
use Rattle.std.proofs.lemmas.Cmp.{lists_total, nat_list_cmp_total, tied_itself}
use Rattle.multinomial_bounds.specs.Isotopologue.{Element}
use Rattle.multinomial_bounds.specs.Compositions.{isotopologues_of}
use Rattle.multinomial_bounds.proofs.LexicographicOrder.{isotopologues_in_order}

less_apart : (i j : List (List ℕ)) → slice_cmp (slice_cmp nat_cmp) i j ≡ Less → i ≢ j
less_apart i j less same =
    let itself : slice_cmp (slice_cmp nat_cmp) j j ≡ Equal = tied_itself (lists_total nat_list_cmp_total) j in
    let alike : slice_cmp (slice_cmp nat_cmp) j j ≡ Less = rw same at less in
    let both : ◌≡◌ {A = Ordering} Less Equal = sym alike ∙ itself in
    cc

pub isotopologues_distinct : (es : List Element) → AllPairs (λ i j. i ≢ j) (isotopologues_of es)
isotopologues_distinct es i j d before within =
    less_apart (get_or (isotopologues_of es) i d) (get_or (isotopologues_of es) j d)
    (isotopologues_in_order es i j d before within)
