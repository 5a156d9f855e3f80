-- The masses of an alphabet are masses of a decomposition, and its limits are limits.
use Rattle.written_items.specs.declared.item.Item.{Item}
use Rattle.std.proofs.Math.ListN.{replicate, length-replicate}
use Rattle.std.proofs.Common.{◌≡◌, suc, ◌∷◌, refl, ap, ◌∙◌, ℕ, ◌≤◌, ◌<◌, ◌-◌, List, length, map, get_or, [], sym, subst, le_trans, lit≤, arith}
use Rattle.std.proofs.lemmas.List.{length-map, get_or-map}
use Rattle.std.specs.List.{All}
use Rattle.std.specs.Prelude.{AllPairs}
use Rattle.formula_text.specs.Formulas.{count_in}
use Rattle.candidates.specs.PeakFormulas.{counts_in, items_of, limits_of}
use Rattle.decompose.specs.Masses.{AreMasses, base_of}
use Rattle.decompose.specs.CountLists.{IsLimit, IsInBox}
use Rattle.alphabet_text.specs.Alphabets.{IsAlphabet}
use Rattle.alphabet_text.specs.declared.entries.AlphabetEntry.{AlphabetEntry}

mass_at : (alphabet : List AlphabetEntry) (k : ℕ) (d : ℕ) (e : AlphabetEntry) → k < length alphabet → (get_or alphabet k e).mass ≡ get_or (map (λ e. e.mass) alphabet) k d
mass_at alphabet k d e in_range = sym (get_or-map (λ (e : AlphabetEntry). e.mass) alphabet k e d in_range)

no_entry : AlphabetEntry
no_entry = record { item = record { symbol = []; label = 0 }; mass = 0; limit = record { low = 0; high = 0 } }

pub count-masses : (alphabet : List AlphabetEntry) → length (map (λ (e : AlphabetEntry). e.mass) alphabet) ≡ length alphabet
count-masses alphabet = length-map alphabet (λ (e : AlphabetEntry). e.mass)

pub are_masses : (alphabet : List AlphabetEntry) → IsAlphabet alphabet → AreMasses (map (λ e. e.mass) alphabet)
are_masses alphabet is = record {
  some = omega (arith, is.some, count-masses alphabet);
  few = omega (arith, is.few, count-masses alphabet);
  lower_limit = λ k d h.
      let here : k < length alphabet = omega (arith, h, count-masses alphabet) in
      subst (λ m. 500000000000 ≤ m) (mass_at alphabet k d no_entry here) ((is.sound.masses k no_entry here).from);
  upper_limit = λ k d h.
      let here : k < length alphabet = omega (arith, h, count-masses alphabet) in
      subst (λ m. m ≤ 1000000000000000000) (mass_at alphabet k d no_entry here)
      (le_trans ((is.sound.masses k no_entry here).to) (lit≤ tt));
  falling = λ i j d before h.
      let here : j < length alphabet = omega (arith, h, count-masses alphabet) in
      let first : i < length alphabet = omega (arith, before, here) in
      subst (λ m. m ≤ get_or (map (λ (e : AlphabetEntry). e.mass) alphabet) i d) (mass_at alphabet j d no_entry here)
      (subst (λ m. (get_or alphabet j no_entry).mass ≤ m) (mass_at alphabet i d no_entry first) (is.falling i j no_entry before here));
}

-- the last one is at most 400 Da
pub base_of-alphabet : (alphabet : List AlphabetEntry) → IsAlphabet alphabet →
    base_of (map (λ e. e.mass) alphabet) ≤ 400000000000000
base_of-alphabet alphabet is =
    let masses : List ℕ = map (λ (e : AlphabetEntry). e.mass) alphabet in
    let last : length masses - 1 < length alphabet = omega (arith, is.some, count-masses alphabet) in
    subst (λ m. m ≤ 400000000000000) (mass_at alphabet (length masses - 1) 0 no_entry last)
    ((is.sound.masses (length masses - 1) no_entry last).to)

-- the limits of its counts
pub are_limits : (alphabet : List AlphabetEntry) → IsAlphabet alphabet → All IsLimit (map (λ e. e.limit) alphabet)
are_limits alphabet is = λ k d h.
    let here : k < length alphabet = omega (arith, h, length-map alphabet (λ (e : AlphabetEntry). e.limit)) in
    subst IsLimit (sym (get_or-map (λ (e : AlphabetEntry). e.limit) alphabet k no_entry d here)) (is.sound.limits k no_entry here)

-- there is a count of 0 for each of its items
pub count-entries : (alphabet given : List AlphabetEntry) (items : List Item) (counts : List ℕ) → given ≡ alphabet
    → items ≡ map (λ e. e.item) given → counts ≡ replicate (length items) 0 → length counts ≡ length alphabet
count-entries alphabet given items counts same of_items of_counts =
    ap length of_counts ∙ length-replicate (length items) 0
    ∙ ap length of_items ∙ length-map given (λ (e : AlphabetEntry). e.item) ∙ ap length same

-- and a count for each of its items that a formula has
pub count-items : (alphabet : List AlphabetEntry) (formula : List (Item × ℕ))
    → length (counts_in alphabet formula) ≡ length alphabet
count-items alphabet formula =
    length-map (items_of alphabet) (count_in formula) ∙ length-map alphabet (λ (e : AlphabetEntry). e.item)

-- no item stands twice
pub apart-items : (alphabet : List AlphabetEntry) → IsAlphabet alphabet → AllPairs (λ (a b : Item). a ≡ b → ⊥) (items_of alphabet)
apart-items alphabet is = λ i j d before within same.
    let last : j < length alphabet = omega (arith, within, length-map alphabet (λ (e : AlphabetEntry). e.item)) in
    let first : i < length alphabet = omega (arith, before, last) in
    is.sound.distinct i j no_entry before last
    (sym (get_or-map (λ (e : AlphabetEntry). e.item) alphabet i no_entry d first) ∙ same
    ∙ get_or-map (λ (e : AlphabetEntry). e.item) alphabet j no_entry d last)

-- a count list of the box has a count for each of its items
pub box-length : (alphabet : List AlphabetEntry) (counts : List ℕ) → IsInBox (limits_of alphabet) counts
    → length counts ≡ length alphabet
box-length [] [] h = refl
box-length [] (c ∷ cs) h = absurd h
box-length (e ∷ es) [] h = absurd h
box-length (e ∷ es) (c ∷ cs) h = ap suc (box-length es cs h.2)
