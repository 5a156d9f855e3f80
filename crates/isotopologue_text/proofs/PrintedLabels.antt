-- Isotopes are printed by the texts of their items, from the last to the first.
use Rattle.std.proofs.Common.{◌≡◌, ℕ, zero, suc, ◌+◌, ◌++◌, ◌∷◌, ◌<◌, ◌≤◌, [], List, get_or, take, drop, length, arith}
use Rattle.std.proofs.Common.{refl, ap, sym, ◌∙◌}
use Rattle.std.proofs.lemmas.List.{length-map, append_assoc, drop_more, drop-append-le, take-append-drop}
use Rattle.std.proofs.lemmas.List.{length-take-le}
use Rattle.std.proofs.lemmas.Bool.{true≢false}
use Rattle.std.proofs.Math.Seq.{drop-append-add}
use Rattle.std.proofs.Common.{◌^◌, Bool, true, false, length-append}
use Rattle.std.proofs.lemmas.Fmt.{length-decimal-le}
use Rattle.std.specs.Fmt.{decimal}
use Rattle.std.specs.Prelude.{IsTrue, ◌==◌, if◌then◌else◌, Result, Ok, Err, OnOk}
use Rattle.element_table.specs.SymbolText.{is_symbol}
use Rattle.written_items.specs.declared.item.Item.{Item}
use Rattle.written_items.specs.Items.{item_text}
use Rattle.isotopologue_text.specs.declared.label.Label.{Label}
use Rattle.isotopologue_text.specs.Isotopologues.{counts_text, dash}
use Rattle.isotopologue_text.specs.Printed.{Printed, printed_text}
use Rattle.isotopologue_text.specs.Labels.{AreLabels, label_text, labelled_text, labels_text}

pub as_many_labels : (items : List Item) (labels : List Label) → AreLabels items labels → length labels ≡ length items
as_many_labels items labels are =
    sym (length-map labels label_text) ∙ ap length are ∙ length-map items item_text

-- labels are printed as their items are
pub labels-items : (items : List Item) (labels : List Label) (counts : List ℕ) → AreLabels items labels
    → labels_text labels counts ≡ counts_text items counts
labels-items [] [] counts are = refl
labels-items [] (l ∷ labels) counts are = absurd (omega (arith, ap length are))
labels-items (i ∷ items) [] counts are = absurd (omega (arith, ap length are))
labels-items (i ∷ items) (l ∷ labels) [] are = refl
labels-items (i ∷ items) (l ∷ labels) (c ∷ counts) are =
    let text : label_text l ≡ item_text i = ap (λ (ts : List (List ℕ)). get_or ts 0 []) are in
    let rest : AreLabels items labels = ap (λ (ts : List (List ℕ)). drop 1 ts) are in
    ap (λ (t : List ℕ). labelled_text t c ++ labels_text labels counts) text
    ∙ ap (λ (t : List ℕ). labelled_text (item_text i) c ++ t) (labels-items items labels counts rest)

no_counts : (labels : List Label) → labels_text labels [] ≡ []
no_counts [] = refl
no_counts (l ∷ labels) = refl

-- the first labels and the others
pub labels-split : (n : ℕ) (labels : List Label) (counts : List ℕ)
    → labels_text labels counts ≡ labels_text (take n labels) (take n counts) ++ labels_text (drop n labels) (drop n counts)
labels-split zero labels counts = refl
labels-split (suc n) [] counts = refl
labels-split (suc n) (l ∷ labels) [] = sym (no_counts (drop n labels))
labels-split (suc n) (l ∷ labels) (c ∷ counts) =
    let one = labelled_text (label_text l) c in
    ap (λ (t : List ℕ). one ++ t) (labels-split n labels counts)
    ∙ sym (append_assoc one (labels_text (take n labels) (take n counts)) (labels_text (drop n labels) (drop n counts)))

-- one more label before others
pub labels-front : (labels : List Label) (counts : List ℕ) (i : ℕ) (l : Label) (e : ℕ) → i < length labels → i < length counts
    → labels_text (drop i labels) (drop i counts)
    ≡ labelled_text (label_text (get_or labels i l)) (get_or counts i e) ++ labels_text (drop (i + 1) labels) (drop (i + 1) counts)
labels-front labels counts i l e within inside =
    rw (drop_more labels i l within, drop_more counts i e inside) refl

-- a label that was copied is in front of what was there
pub label-copied : (before end start : ℕ) (room bytes after : List ℕ) → before + length bytes ≡ end → end ≤ length room
    → start ≤ length bytes → take end after ≡ take before room ++ bytes → drop end after ≡ drop end room
    → drop (before + start) after ≡ drop start bytes ++ drop end room
label-copied before end start room bytes after ends fits within front rest =
    let begins : length (take before room) ≡ before = length-take-le before room (omega arith) in
    let parts : after ≡ take before room ++ (bytes ++ drop end room) =
    sym (take-append-drop end after)
    ∙ ap (λ (t : List ℕ). t ++ drop end after) front
    ∙ ap (λ (t : List ℕ). (take before room ++ bytes) ++ t) rest
    ∙ append_assoc (take before room) bytes (drop end room) in
    ap (λ (t : List ℕ). drop (before + start) t) parts
    ∙ ap (λ (n : ℕ). drop (n + start) (take before room ++ (bytes ++ drop end room))) (sym begins)
    ∙ drop-append-add (take before room) (bytes ++ drop end room) start
    ∙ drop-append-le start bytes (drop end room) within

-- the first labels and the others, by other names
pub labels-joined : (n : ℕ) (labels first others : List Label) (counts own more : List ℕ) → first ≡ take n labels
    → others ≡ drop n labels → own ≡ take n counts → more ≡ drop n counts
    → labels_text first own ++ labels_text others more ≡ labels_text labels counts
labels-joined n labels first others counts own more first_is others_is own_is more_is =
    rw (first_is, others_is, own_is, more_is) (sym (labels-split n labels counts))

-- labels that were appended are the text of an isotopologue
pub labels-pushed : {A E : Type 0} (answer : Result A E) (before after : List ℕ) (printed : Printed) (labels : List Label)
    (counts : List ℕ) → AreLabels printed.items labels → printed.has_plain ≡ true
    → OnOk answer (after ≡ before ++ labels_text labels counts) → OnOk answer (after ≡ before ++ printed_text printed counts)
labels-pushed (Ok x) before after printed labels counts are has pushed =
    pushed
    ∙ ap (λ (t : List ℕ). before ++ t) (labels-items printed.items labels counts are)
    ∙ ap (λ (b : Bool). before ++ (if b then counts_text printed.items counts else dash)) (sym has)
labels-pushed (Err e) before after printed labels counts are has pushed = tt

-- a symbol is short
pub symbol-short : (symbol : List ℕ) → IsTrue (is_symbol symbol) → length symbol ≤ 3
symbol-short [] is = omega arith
symbol-short (a ∷ []) is = omega arith
symbol-short (a ∷ b ∷ []) is = omega arith
symbol-short (a ∷ b ∷ c ∷ []) is = omega arith
symbol-short (a ∷ b ∷ c ∷ d ∷ more) is = absurd (true≢false (sym is))

-- and so is an item's text
pub item-short : (item : Item) → IsTrue (is_symbol item.symbol) → item.label < 2 ^ 32 → length (item_text item) ≤ 16
item-short item is few =
    let short : length item.symbol ≤ 3 = symbol-short item.symbol is in
    let digits : length (decimal item.label) ≤ 10 = length-decimal-le 10 item.label (omega arith) (omega arith) (omega arith) in
    let front : List ℕ = 91 ∷ decimal item.label in
    elim (item.label == 0) as (λ b. length (if b then item.symbol else (front ++ item.symbol ++ 93 ∷ [])) ≤ 16) [
      | true ↦ omega arith
      | false ↦ omega (arith, length-append (front ++ item.symbol) (93 ∷ []), length-append front item.symbol)
    ]
