use Rattle.std.proofs.Common.{◌≡◌, ◌-◌, ◌+◌, ◌++◌, ℕ, length, map, take, drop}
use Rattle.std.specs.Prelude.{flat_map}
use Rattle.isotopologue_list.proofs.ProductLemmas.{ends_with}
use Rattle.isotopologue_list.proofs.list.+append_products.Given as goal

-- the elements that are left
abbrev pub decreases-append_products : goal.decreases-append_products
decreases-append_products l = length l.elements.now - l.place

-- the products with each of the counts so far are appended
abbrev pub invariant-loop-row : goal.invariant-loop-row
invariant-loop-row l =
    map {B = ℕ × ℕ} (λ e. (e.lo, e.hi)) l.enclosures.items
    ≡ map {B = ℕ × ℕ} (λ e. (e.lo, e.hi)) l.fn.enclosures.items
    ++ flat_map (ends_with (drop (l.place + 1) l.elements) l.before.lo l.before.hi) (take l.row l.element)
