-- The triples of words, the first of them taken off.
use Rattle.std.proofs.Common.{◌≡◌, ℕ, List, [], ◌∷◌, ◌++◌, Option, Some, None, option_map, option_and_then, refl, sym}
use Rattle.std.proofs.Common.{◌∙◌, ap, append_assoc, ◌-◌, ◌<◌, ◌≤◌, false, ◌==◌, length, map, take, drop}
use Rattle.std.proofs.Common.{get_or, arith}
use Rattle.std.proofs.lemmas.List.{take_rest}
use Rattle.golden_rules.specs.RuleLines.{written_triple, written_triples}
use Rattle.golden_rules.specs.declared.rule.Triple.{Triple}

-- a triple behind others, and those of the other words behind it
pushed : (triples : List Triple) (t : Triple) (rest : Option (List Triple))
    → option_map (λ ts. triples ++ ts) (option_and_then (λ u. option_map (λ ts. u ∷ ts) rest) (Some t))
    ≡ option_map (λ ts. (triples ++ t ∷ []) ++ ts) rest
pushed triples t None = refl
pushed triples t (Some ts) = ap Some (sym (append_assoc triples (t ∷ []) ts))

pub written_triples-step : (triples : List Triple) (symbol above below : List ℕ) (words : List (List ℕ)) (t : Triple)
    → written_triple symbol above below ≡ Some t
    → option_map (λ ts. triples ++ ts) (written_triples (symbol ∷ above ∷ below ∷ words))
    ≡ option_map (λ ts. (triples ++ t ∷ []) ++ ts) (written_triples words)
written_triples-step triples symbol above below words t e =
    ap (λ o. option_map (λ ts. triples ++ ts)
    (option_and_then (λ u. option_map (λ ts. u ∷ ts) (written_triples words)) o)) e
    ∙ pushed triples t (written_triples words)

-- three words more are read
three : {A : Type 0} (f : A → List ℕ) (left : List A) (d : A) (triples : List Triple) (t : Triple)
    (all : Option (List Triple)) → 3 ≤ length left
    → option_map (λ ts. triples ++ ts) (written_triples (map f left)) ≡ all
    → written_triple (f (get_or left 0 d)) (f (get_or left 1 d)) (f (get_or left 2 d)) ≡ Some t
    → option_map (λ ts. (triples ++ t ∷ []) ++ ts) (written_triples (map f (drop 3 left))) ≡ all
three f [] d triples t all enough so_far e = absurd (omega arith)
three f (a ∷ []) d triples t all enough so_far e = absurd (omega arith)
three f (a ∷ b ∷ []) d triples t all enough so_far e = absurd (omega arith)
three f (a ∷ b ∷ c ∷ rest) d triples t all enough so_far e =
    sym (written_triples-step triples (f a) (f b) (f c) (map f rest) t e) ∙ so_far

pub triples-more : {A : Type 0} (f : A → List ℕ) (left : List A) (d : A) (triples pushed : List Triple)
    (t : Triple) (all : Option (List Triple)) → 3 ≤ length left
    → option_map (λ ts. triples ++ ts) (written_triples (map f left)) ≡ all
    → written_triple (f (get_or left 0 d)) (f (get_or left 1 d)) (f (get_or left 2 d)) ≡ Some t
    → pushed ≡ triples ++ t ∷ []
    → option_map (λ ts. pushed ++ ts) (written_triples (map f (take (length left - 3) (drop 3 left)))) ≡ all
triples-more f left d triples pushed t all enough so_far e is =
    ap (λ p. option_map (λ ts. p ++ ts) (written_triples (map f (take (length left - 3) (drop 3 left))))) is
    ∙ ap (λ rest. option_map (λ ts. (triples ++ t ∷ []) ++ ts) (written_triples (map f rest))) (take_rest left 3)
    ∙ three f left d triples t all enough so_far e

-- one or two words spell no triple
pub triples-short : {A : Type 0} (f : A → List ℕ) (left : List A) (triples : List Triple) (all : Option (List Triple))
    → length left < 3
    → false ≡ (length left == 0) → option_map (λ ts. triples ++ ts) (written_triples (map f left)) ≡ all → None ≡ all
triples-short f [] triples all short some so_far = absurd (cc)
triples-short f (a ∷ []) triples all short some so_far = so_far
triples-short f (a ∷ b ∷ []) triples all short some so_far = so_far
triples-short f (a ∷ b ∷ c ∷ rest) triples all short some so_far = absurd (omega arith)
