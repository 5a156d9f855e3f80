-- The entries of a text, gathered one after another.
use Rattle.std.proofs.Common.{◌≡◌, ℕ, suc, ◌+◌, ◌<◌, true, false, ◌||◌, List, [], ◌∷◌, ◌++◌}
use Rattle.std.proofs.Common.{length, drop, get_or}
use Rattle.std.proofs.Common.{refl, sym, ap, ◌∙◌, arith, add-one, drop-cons, length-append}
use Rattle.std.specs.Prelude.{Result, Ok, Err, All, AllPairs, MatchBool, ⊤}
use Rattle.std.proofs.lemmas.Bool.{false≢true, and_from, eq-eqb}
use Rattle.std.proofs.lemmas.List.Elements.{All-push, All-nil, All-cons, All-tail}
use Rattle.std.proofs.lemmas.List.Kept.{AllPairs-cons}
use Rattle.std.specs.Cmp.Lexicographic.{bytes_decides}
use Rattle.decompose.specs.CountLists.{IsLimit}
use Rattle.element_table.specs.Elements.{TableEntries}
use Rattle.reader_answers.specs.Answers.{◌>>=◌, Gives}
use Rattle.written_items.specs.declared.item.Item.{Item}
use Rattle.written_items.specs.Items.{item_eq}
use Rattle.alphabet_text.specs.declared.entries.AlphabetEntry.{AlphabetEntry}
use Rattle.alphabet_text.specs.declared.fault.AlphabetFault.{AlphabetFault}
use Rattle.alphabet_text.specs.declared.written.WrittenEntry.{WrittenEntry}
use Rattle.alphabet_text.specs.Alphabets.{AreEntries, IsMassOfIsotope}
use Rattle.alphabet_text.specs.AlphabetFaults.{is_memory}
use Rattle.alphabet_text.specs.WrittenEntries.{entries_behind, entry_behind, has_item}

pub entries_behind-step : (table : TableEntries) (es : List AlphabetEntry) (ws : List WrittenEntry)
    (i : ℕ) (w : WrittenEntry) (e : AlphabetEntry)
    → i < length ws → w ≡ get_or ws i w → Ok e ≡ entry_behind table es w
    → entries_behind table es (drop i ws) ≡ entries_behind table (es ++ e ∷ []) (drop (i + 1) ws)
entries_behind-step table es ws i w e within is read =
    ap (entries_behind table es) (drop-cons ws i w within)
    ∙ ap (λ v. entry_behind table es v >>= λ x. entries_behind table (es ++ x ∷ []) (drop (suc i) ws)) (sym is)
    ∙ ap (λ r. r >>= λ x. entries_behind table (es ++ x ∷ []) (drop (suc i) ws)) (sym read)
    ∙ ap (λ n. entries_behind table (es ++ e ∷ []) (drop n ws)) (sym (add-one i))

pub entries_behind-stop : (table : TableEntries) (es : List AlphabetEntry) (ws : List WrittenEntry)
    (i : ℕ) (w : WrittenEntry) (f : AlphabetFault)
    → i < length ws → w ≡ get_or ws i w → Err f ≡ entry_behind table es w → entries_behind table es (drop i ws) ≡ Err f
entries_behind-stop table es ws i w f within is read =
    ap (entries_behind table es) (drop-cons ws i w within)
    ∙ ap (λ v. entry_behind table es v >>= λ x. entries_behind table (es ++ x ∷ []) (drop (suc i) ws)) (sym is)
    ∙ ap (λ r. r >>= λ x. entries_behind table (es ++ x ∷ []) (drop (suc i) ws)) (sym read)

-- an answer that is the expected one
pub Gives-same : {A : Type 0} (r x : Result A AlphabetFault) → x ≡ r → Gives is_memory r x
Gives-same (Ok v) x e = e
Gives-same {A} (Err f) x e = elim (is_memory f) as (λ b. MatchBool b ⊤ (x ≡ Err f)) [ true ↦ tt | false ↦ e ]

item_eq-itself : (a : Item) → item_eq a a ≡ true
item_eq-itself a = and_from _ _ ((bytes_decides a.symbol a.symbol).1 refl) (eq-eqb a.label a.label refl)

-- an item that stands in none of the entries differs from each
differs : (es : List AlphabetEntry) (e : AlphabetEntry) → has_item es e.item ≡ false → All (λ a. a.item ≡ e.item → ⊥) es
differs [] e h = All-nil _
differs (a ∷ es) e h =
    elim (item_eq a.item e.item) as (λ b. item_eq a.item e.item ≡ b → (b || has_item es e.item)
    ≡ false → All (λ a. a.item ≡ e.item → ⊥) (a ∷ es)) [
      | true ↦ λ is h. absurd (false≢true (sym h))
      | false ↦ λ is h.
          All-cons (λ (a : AlphabetEntry). a.item ≡ e.item → ⊥) a es
          (λ same. false≢true (sym is ∙ ap (λ i. item_eq i e.item) same ∙ item_eq-itself e.item)) (differs es e h)
    ] refl h

AllPairs-push : {X : Type 0} (R : X → X → Type 0) (xs : List X) (y : X) → AllPairs R xs → All (λ x. R x y) xs
    → AllPairs R (xs ++ y ∷ [])
AllPairs-push R [] y pairs all = AllPairs-cons R y [] (All-nil (R y)) (λ i j d before within. absurd (omega arith))
AllPairs-push {X} R (x ∷ xs) y pairs all =
    AllPairs-cons R x (xs ++ y ∷ [])
    (All-push (R x) xs y (λ k d h. pairs 0 (suc k) d (omega arith) (omega arith)) (all 0 x (omega arith)))
    (AllPairs-push R xs y (λ i j d before within. pairs (suc i) (suc j) d (omega arith) (omega arith))
    (All-tail (λ x. R x y) x xs all))

pub AreEntries-push : (es : List AlphabetEntry) (e : AlphabetEntry) → AreEntries es → IsMassOfIsotope e.mass
    → IsLimit e.limit
    → has_item es e.item ≡ false → AreEntries (es ++ e ∷ [])
AreEntries-push es e are mass limit new =
    record {
      masses = All-push (λ (a : AlphabetEntry). IsMassOfIsotope a.mass) es e are.masses mass;
      limits = All-push (λ (a : AlphabetEntry). IsLimit a.limit) es e are.limits limit;
      distinct = AllPairs-push (λ (a b : AlphabetEntry). a.item ≡ b.item → ⊥) es e are.distinct (differs es e new);
    }

-- one entry for each that is written
pub length-entries_behind : (table : TableEntries) (earlier : List AlphabetEntry) (ws : List WrittenEntry)
    (es : List AlphabetEntry)
    → entries_behind table earlier ws ≡ Ok es → length es ≡ length earlier + length ws
length-entries_behind table earlier [] es e = let same : earlier ≡ es = cc in omega (arith, ap length same)
length-entries_behind table earlier (w ∷ ws) es e =
    elim (entry_behind table earlier w) as (λ r. (r >>= λ x. entries_behind table (earlier ++ x ∷ []) ws) ≡ Ok es
    → length es ≡ length earlier + length (w ∷ ws)) [
      | Ok x ↦ λ e.
          let rest = length-entries_behind table (earlier ++ x ∷ []) ws es e in
          omega (arith, length-append earlier (x ∷ []))
      | Err f ↦ λ e. cc
    ] e
