-- The lists as they are started, one element after another.
use Rattle.std.proofs.Common.{◌≡◌, ℕ, ◌+◌, ◌-◌, ◌<◌, ◌≤◌, List, [], ◌∷◌, ◌++◌, map, length, get_or, set, take, drop}
use Rattle.std.proofs.Common.{fold, sym, ◌∙◌, ap, subst, arith, inl, inr, All}
use Rattle.std.proofs.lemmas.Bool.{cases_lt}
use Rattle.std.proofs.lemmas.List.{length-map, get_or-map, take-map, map_more, map-set, set-get_or, take_more}
use Rattle.std.proofs.lemmas.List.{get_or-set_same, get_or-set_other}
use Rattle.std.proofs.lemmas.List.Elements.{All-map, All-weaker, All-take, All-drop}
use Rattle.std.proofs.lemmas.List.Sums.{fold-append}
use Rattle.multinomial_bounds.specs.Bounds.{certainty, ceiling_of}
use Rattle.multinomial_bounds.specs.Weight.{IsWeights}
use Rattle.multinomial_bounds.specs.Mode.{mode_bound}
use Rattle.multinomial_bounds.specs.Isotopologue.{Element}
use Rattle.multinomial_bounds.proofs.ModeLemmas.{IsEnclosure-mode, IsWeights-positive}
use Rattle.isotopologue_sets.specs.Layers.{AreElements}
use Rattle.sub_isotopologues.specs.Listings.{Listing}
use Rattle.sub_isotopologues.specs.SubIsotopologues.{AreOthers}
use Rattle.layered_envelope.specs.Walks.{upper}
use Rattle.layered_envelope.specs.LayerLists.{elements_of, modes_of, AreLists, AreStarted}
use Rattle.layered_envelope.proofs.RoundedProducts.{fold-upper-some, fold-upper-most}

-- the upper bounds of modes are above 0 and at most 1
pub modes-some : (es : List Element) → All (λ e. IsWeights e.weights) es → All (λ b. 1 ≤ b) (modes_of es)
modes-some es ok =
    All-map (λ b. 1 ≤ b) (λ (e : Element). mode_bound ceiling_of e.weights e.atoms) es
    (All-weaker (λ (e : Element). IsWeights e.weights) (λ e. 1 ≤ mode_bound ceiling_of e.weights e.atoms)
    (λ e is. (IsEnclosure-mode e.weights is.some (IsWeights-positive e.weights is) e.atoms).positive) es ok)

pub modes-most : (es : List Element) → All (λ e. IsWeights e.weights) es → All (λ b. b ≤ certainty) (modes_of es)
modes-most es ok =
    All-map (λ b. b ≤ certainty) (λ (e : Element). mode_bound ceiling_of e.weights e.atoms) es
    (All-weaker (λ (e : Element). IsWeights e.weights) (λ e. mode_bound ceiling_of e.weights e.atoms ≤ certainty)
    (λ e is. (IsEnclosure-mode e.weights is.some (IsWeights-positive e.weights is) e.atoms).at_most_one) es ok)

pub modes_more : (lists : List Listing) (i : ℕ) (l : Listing) (so_far : List ℕ) (hi : ℕ) → i < length lists →
    l ≡ get_or lists i l → hi ≡ mode_bound ceiling_of l.element.weights l.element.atoms →
    so_far ≡ take i (modes_of (elements_of lists)) → so_far ++ hi ∷ [] ≡ take (i + 1) (modes_of (elements_of lists))
modes_more lists i l so_far hi within is bound before =
    let mode : Element → ℕ = λ e. mode_bound ceiling_of e.weights e.atoms in
    let es : List Element = elements_of lists in
    let here : hi ≡ mode (get_or es i l.element) =
    bound ∙ ap (λ (l : Listing). mode l.element) is
    ∙ ap mode (sym (get_or-map (λ (l : Listing). l.element) lists i l l.element within)) in
    ap (λ xs. xs ++ hi ∷ []) (before ∙ take-map mode i es)
    ∙ ap (λ (b : ℕ). map mode (take i es) ++ b ∷ []) here
    ∙ sym (map_more mode es i l.element (rw (length-map lists (λ (l : Listing). l.element)) within))
    ∙ sym (take-map mode (i + 1) es)

pub modes-length : (lists : List Listing) (modes : List ℕ) → modes ≡ modes_of (elements_of lists) →
    length modes ≡ length lists
modes-length lists modes are =
    ap length are
    ∙ length-map (elements_of lists) (λ (e : Element). mode_bound ceiling_of e.weights e.atoms)
    ∙ length-map lists (λ (l : Listing). l.element)

-- what is known of the others at each element
module _ (es : List Element) (ok : AreElements es) (modes : List ℕ) (are : modes ≡ modes_of es) (k before : ℕ)
    (is : before ≡ fold upper certainty (take k modes)) where
  some : All (λ b. 1 ≤ b) modes
  some = rw are (modes-some es ok.weights)

  pub most : All (λ b. b ≤ certainty) modes
  most = rw are (modes-most es ok.weights)

  pub before-most : before ≤ certainty
  before-most =
      rw is (fold-upper-most (take k modes) certainty (omega arith) (All-take (λ b. b ≤ certainty) k modes most))

  pub others_in_range : AreOthers before (take (length modes - (k + 1)) (drop (k + 1) modes))
  others_in_range = record {
    before_some = rw is (fold-upper-some (take k modes) certainty (omega arith) (All-take (λ b. 1 ≤ b) k modes some));
    before_most = before-most;
    after_some =
        All-take (λ b. 1 ≤ b) (length modes - (k + 1)) (drop (k + 1) modes) (All-drop (λ b. 1 ≤ b) (k + 1) modes some);
    after_most =
        All-take (λ b. b ≤ certainty) (length modes - (k + 1)) (drop (k + 1) modes)
        (All-drop (λ b. b ≤ certainty) (k + 1) modes most);
  }

  pub before_more : (mode more : ℕ) → k < length modes → mode ≡ get_or modes k 0 → more ≡ upper before mode →
      more ≡ fold upper certainty (take (k + 1) modes)
  before_more mode more within here product =
      product
      ∙ ap (λ (b : ℕ). upper b mode) is
      ∙ ap (upper (fold upper certainty (take k modes))) here
      ∙ sym (fold-append upper certainty (take k modes) (get_or modes k 0 ∷ []))
      ∙ ap (fold upper certainty) (sym (take_more modes k 0 within))

-- one list more is begun again
module _ (lists : List Listing) (place : ℕ) (l older : Listing) (within : place < length lists)
    (is : older ≡ get_or lists place older) (es : List Element) (modes : List ℕ) where
  set_elements : l.element ≡ older.element → elements_of (set lists place l) ≡ elements_of lists
  set_elements same =
      map-set (λ (l : Listing). l.element) lists place l
      ∙ ap (λ e. set (elements_of lists) place e)
      (same
      ∙ ap (λ (l : Listing). l.element) is
      ∙ sym (get_or-map (λ (l : Listing). l.element) lists place older older.element within))
      ∙ set-get_or (elements_of lists) place older.element

  set_at : (P : Listing → Type 0) (k : ℕ) (d : Listing) → k < place + 1 → (k < place → P (get_or lists k d)) →
      (place ≡ k → P l) → P (get_or (set lists place l) k d)
  set_at P k d inside first last =
      elim (cases_lt k place) [
        | inl below ↦ subst P (sym (get_or-set_other lists place k l d (omega arith))) (first below)
        | inr from ↦
            let here : place ≡ k = omega arith in
            subst (λ j. P (get_or (set lists place l) j d)) here
            (subst P (sym (get_or-set_same lists place l d within)) (last here))
      ]

  pub AreStarted_more : l.element ≡ older.element → l.before ≡ fold upper certainty (take place modes) →
      l.after ≡ drop (place + 1) modes → l.threshold ≡ certainty →
      AreStarted place lists es modes → AreStarted (place + 1) (set lists place l) es modes
  AreStarted_more same before after threshold started = record {
    elements_are = set_elements same ∙ started.elements_are;
    before = λ k d inside.
        set_at (λ x. x.before ≡ fold upper certainty (take k modes)) k d inside (λ h. started.before k d h)
        (λ h. before ∙ ap (λ (j : ℕ). fold upper certainty (take j modes)) h);
    after = λ k d inside.
        set_at (λ x. x.after ≡ drop (k + 1) modes) k d inside (λ h. started.after k d h)
        (λ h. after ∙ ap (λ (j : ℕ). drop (j + 1) modes) h);
    threshold = λ k d inside.
        set_at (λ x. x.threshold ≡ certainty) k d inside (λ h. started.threshold k d h) (λ h. threshold);
  }

-- all lists
module _ (lists : List Listing) (es : List Element) (modes : List ℕ) (ok : AreElements es) (are : modes ≡ modes_of es)
    (started : AreStarted (length lists) lists es modes) where
  pub lists_are : AreLists lists modes
  lists_are = record {
    elements = rw started.elements_are ok;
    modes_are = are ∙ ap modes_of (sym started.elements_are);
    before = started.before;
    after = started.after;
  }

  pub thresholds_are : All (λ l. l.threshold ≡ certainty) lists
  thresholds_are k d within = started.threshold k d within
