-- Lists of items, masses and limits, and the entries that they make.
use Rattle.std.proofs.Common.{◌≡◌, ℕ, zero, suc, ◌+◌, ◌<◌, ◌≤◌, List, [], ◌∷◌, ◌++◌, length, map, take, get_or, refl}
use Rattle.std.proofs.Common.{sym, ap, subst, ◌∙◌, arith, add-one, take-suc}
use Rattle.std.proofs.lemmas.List.{length-map, map-append}
use Rattle.decompose.specs.declared.limits.Limit.{Limit}
use Rattle.written_items.specs.declared.item.Item.{Item}
use Rattle.alphabet_text.specs.declared.entries.AlphabetEntry.{AlphabetEntry}
use Rattle.alphabet_text.specs.Alphabets.{entries_of, IsAlphabet, HoldsAlphabet}

pub entries_of-maps : (es : List AlphabetEntry)
    → entries_of (map (λ e. e.item) es) (map (λ e. e.mass) es) (map (λ e. e.limit) es) ≡ es
entries_of-maps [] = refl
entries_of-maps (e ∷ es) = ap (λ t. e ∷ t) (entries_of-maps es)

pub holds : (es : List AlphabetEntry) → IsAlphabet es
    → HoldsAlphabet (map (λ e. e.item) es) (map (λ e. e.mass) es) (map (λ e. e.limit) es)
holds es is =
    record {
      one_mass_each =
          length-map es (λ (e : AlphabetEntry). e.mass) ∙ sym (length-map es (λ (e : AlphabetEntry). e.item));
      one_limit_each =
          length-map es (λ (e : AlphabetEntry). e.limit) ∙ sym (length-map es (λ (e : AlphabetEntry). e.item));
      alphabet = subst IsAlphabet (sym (entries_of-maps es)) is;
    }

pub map-items : (is : List Item) (ms : List ℕ) (ls : List Limit) → length ms ≡ length is → length ls ≡ length is
    → is ≡ map (λ e. e.item) (entries_of is ms ls)
map-items [] ms ls m l = refl
map-items (i ∷ is) [] ls m l = absurd (omega (arith, m))
map-items (i ∷ is) (m ∷ ms) [] a b = absurd (omega (arith, b))
map-items (i ∷ is) (m ∷ ms) (l ∷ ls) a b = ap (λ t. i ∷ t) (map-items is ms ls (omega (arith, a)) (omega (arith, b)))

pub map-masses : (is : List Item) (ms : List ℕ) (ls : List Limit) → length ms ≡ length is → length ls ≡ length is
    → ms ≡ map (λ e. e.mass) (entries_of is ms ls)
map-masses [] [] ls m l = refl
map-masses [] (m ∷ ms) ls a l = absurd (omega (arith, a))
map-masses (i ∷ is) [] ls m l = absurd (omega (arith, m))
map-masses (i ∷ is) (m ∷ ms) [] a b = absurd (omega (arith, b))
map-masses (i ∷ is) (m ∷ ms) (l ∷ ls) a b = ap (λ t. m ∷ t) (map-masses is ms ls (omega (arith, a)) (omega (arith, b)))

pub map-limits : (is : List Item) (ms : List ℕ) (ls : List Limit) → length ms ≡ length is → length ls ≡ length is
    → ls ≡ map (λ e. e.limit) (entries_of is ms ls)
map-limits [] ms [] m l = refl
map-limits [] ms (l ∷ ls) m a = absurd (omega (arith, a))
map-limits (i ∷ is) [] ls m l = absurd (omega (arith, m))
map-limits (i ∷ is) (m ∷ ms) [] a b = absurd (omega (arith, b))
map-limits (i ∷ is) (m ∷ ms) (l ∷ ls) a b = ap (λ t. l ∷ t) (map-limits is ms ls (omega (arith, a)) (omega (arith, b)))

-- the images of one more of the first elements
pub mapped-more : {X Y : Type 0} (f : X → Y) (xs : List X) (i : ℕ) (x : X) → i < length xs → x ≡ get_or xs i x
    → map f (take i xs) ++ f x ∷ [] ≡ map f (take (i + 1) xs)
mapped-more f xs i x within is =
    ap (λ y. map f (take i xs) ++ f y ∷ []) is
    ∙ sym (map-append f (take i xs) (get_or xs i x ∷ []))
    ∙ ap (map f) (sym (ap (λ n. take n xs) (add-one i) ∙ take-suc xs i x within))

-- the first elements are all where there are no more
pub take-long : {X : Type 0} (xs : List X) (i : ℕ) → length xs ≤ i → take i xs ≡ xs
take-long [] zero h = refl
take-long [] (suc i) h = refl
take-long (x ∷ xs) zero h = absurd (omega arith)
take-long (x ∷ xs) (suc i) h = ap (λ t. x ∷ t) (take-long xs i (omega arith))
