-- Hill's order of the items of a formula (E. A. Hill, J. Am. Chem. Soc. 22 (1900) 478).
use Rattle.std.specs.Prelude.{ℕ, Bool, ◌&&◌, List, [], ◌∷◌, if◌then◌else◌}
use Rattle.std.specs.Str.{bytes_eq}
use Rattle.std.specs.declared.cmp.Ordering.{Ordering}
use Rattle.std.specs.Ordering.{nat_cmp, on, then_cmp}
use Rattle.std.specs.Cmp.Lexicographic.{slice_cmp}
use Rattle.written_items.specs.declared.item.Item.{Item}

-- the symbol C, of carbon
abbrev pub carbon_symbol : List ℕ
carbon_symbol = 67 ∷ []

-- the symbol H, of hydrogen
abbrev pub hydrogen_symbol : List ℕ
hydrogen_symbol = 72 ∷ []

-- where carbon is present, labelled or not, C stands first and H second; else none stands out
abbrev pub hill_rank : Bool → List ℕ → ℕ
hill_rank carbon symbol =
    if carbon && bytes_eq symbol carbon_symbol then 0 else (
    if carbon && bytes_eq symbol hydrogen_symbol then 1 else 2)

-- Hill's order: C and H as above, the others by the bytes of their symbols; within an element the
-- unlabelled item first, then by rising mass number
abbrev pub hill_cmp : Bool → Item → Item → Ordering
hill_cmp carbon =
    then_cmp (on (λ (i : Item). hill_rank carbon i.symbol) nat_cmp)
    (then_cmp
    (on (λ (i : Item). i.symbol) (slice_cmp nat_cmp))
    (on (λ (i : Item). i.label) nat_cmp))
