-- The symbol that a text begins with is the longest one, and the only such.
use Rattle.std.proofs.Common.{◌≡◌, ℕ, zero, suc, ◌+◌, ◌<◌, Bool, true, false, cond, ◌&&◌, List, [], ◌∷◌, ◌++◌, length}
use Rattle.std.proofs.Common.{take, drop, refl, sym, ap, ◌∙◌, arith}
use Rattle.std.specs.Prelude.{Option, Some, None, IfSome, IfNone}
use Rattle.std.specs.List.{prefix_len}
use Rattle.std.proofs.lemmas.Bool.{false≢true, and_parts}
use Rattle.std.proofs.lemmas.List.{take-append-drop}
use Rattle.std.proofs.Math.Seq.{drop-append_seam}
use Rattle.element_table.specs.SymbolText.{is_symbol, is_capital, is_small}
use Rattle.written_items.specs.WrittenItems.{begins, EndsSymbol, IsLeadingSymbol}
use Rattle.written_items.specs.LeadingItems.{symbol_letters, leading_symbol}

-- behind equal fronts there are equal rests
pub append-cancel : (a b x y : List ℕ) → a ≡ b → a ++ x ≡ b ++ y → x ≡ y
append-cancel a b x y same e =
    sym (drop-append_seam a x) ∙ ap (drop (length a)) e ∙ ap (λ c. drop (length c) (b ++ y)) same ∙ drop-append_seam b y

-- a text that begins with a symbol begins with a capital letter
pub begins-symbol : (s rest : List ℕ) → is_symbol s ≡ true → begins is_capital (s ++ rest) ≡ true
begins-symbol [] rest h = absurd (false≢true h)
begins-symbol (a ∷ []) rest h = h
begins-symbol (a ∷ b ∷ []) rest h = (and_parts (is_capital a) (is_small b) h).0
begins-symbol (a ∷ b ∷ c ∷ []) rest h =
    (and_parts (is_capital a) (is_small b) (and_parts (is_capital a && is_small b) (is_small c) h).0).0
begins-symbol (a ∷ b ∷ c ∷ d ∷ more) rest h = absurd (false≢true h)

no_small : (n : ℕ) (rest : List ℕ) → begins is_small rest ≡ false → prefix_len is_small (take n rest) ≡ 0
no_small zero rest h = refl
no_small (suc n) [] h = refl
no_small (suc n) (x ∷ rest) h = ap (λ b. cond b (1 + prefix_len is_small (take n rest)) 0) h

-- the letters of a symbol before a text that goes on with no small letter, where the symbol could take one
pub symbol_letters-written : (s rest : List ℕ) → is_symbol s ≡ true → EndsSymbol s rest → symbol_letters (s ++ rest) ≡ s
symbol_letters-written [] rest h ends = absurd (false≢true h)
symbol_letters-written (a ∷ []) rest h ends =
    ap (λ n. take (1 + n) (a ∷ rest)) (no_small 2 rest (ends (omega arith)))
symbol_letters-written (a ∷ b ∷ []) rest h ends =
    let small = (and_parts (is_capital a) (is_small b) h).1 in
    ap (λ t. take (1 + cond t (1 + prefix_len is_small (take 1 rest)) 0) (a ∷ b ∷ rest)) small
    ∙ ap (λ n. take (1 + (1 + n)) (a ∷ b ∷ rest)) (no_small 1 rest (ends (omega arith)))
symbol_letters-written (a ∷ b ∷ c ∷ []) rest h ends =
    let outer = and_parts (is_capital a && is_small b) (is_small c) h in
    let small = (and_parts (is_capital a) (is_small b) outer.0).1 in
    ap (λ t. take (1 + cond t (1 + cond (is_small c) (1 + 0) 0) 0) (a ∷ b ∷ c ∷ rest)) small
    ∙ ap (λ t. take (1 + (1 + cond t (1 + 0) 0)) (a ∷ b ∷ c ∷ rest)) outer.1
symbol_letters-written (a ∷ b ∷ c ∷ d ∷ more) rest h ends = absurd (false≢true h)

-- the symbol before such a text is read
pub leading_symbol-written : (s rest : List ℕ) → is_symbol s ≡ true → EndsSymbol s rest
    → leading_symbol (s ++ rest) ≡ Some s
leading_symbol-written s rest h ends =
    ap (λ t. cond (is_symbol t) (Some t) None) (symbol_letters-written s rest h ends) ∙ ap (λ b. cond b (Some s) None) h

-- no small letter follows the letters, where there are less than three
letters_end : (text : List ℕ) → length (symbol_letters text) < 3
    → begins is_small (drop (1 + prefix_len is_small (take 2 (drop 1 text))) text) ≡ false
letters_end [] h = refl
letters_end (a ∷ []) h = refl
letters_end (a ∷ b ∷ []) h =
    elim (is_small b) as (λ t. is_small b ≡ t → begins is_small (drop (1 + cond t (1 + 0) 0) (a ∷ b ∷ [])) ≡ false) [
      | true ↦ λ e. refl
      | false ↦ λ e. e
    ] refl
letters_end (a ∷ b ∷ c ∷ rest) h =
    elim (is_small b) as (λ t. is_small b
    ≡ t → length (take (1 + cond t (1 + cond (is_small c) (1 + 0) 0) 0) (a ∷ b ∷ c ∷ rest)) < 3
    → begins is_small (drop (1 + cond t (1 + cond (is_small c) (1 + 0) 0) 0) (a ∷ b ∷ c ∷ rest)) ≡ false) [
      | true ↦ λ e h. elim (is_small c) as (λ t. is_small c
          ≡ t → length (take (1 + (1 + cond t (1 + 0) 0)) (a ∷ b ∷ c ∷ rest)) < 3
          → begins is_small (drop (1 + (1 + cond t (1 + 0) 0)) (a ∷ b ∷ c ∷ rest)) ≡ false) [
            | true ↦ λ e h. absurd (omega (arith, h))
            | false ↦ λ e h. e
          ] refl h
      | false ↦ λ e h. e
    ] refl h

-- what is read is the longest symbol
pub leading_symbol-Some : (text s : List ℕ) → leading_symbol text ≡ Some s → IsLeadingSymbol text s
leading_symbol-Some text s e =
    let letters = symbol_letters text in
    elim (is_symbol letters) as (λ b. is_symbol letters ≡ b → cond b (Some letters) None
    ≡ Some s → IsLeadingSymbol text s) [
      | true ↦ λ is e.
          let same : letters ≡ s = cc in
          let n : ℕ = 1 + prefix_len is_small (take 2 (drop 1 text)) in
          record {
            is = sym (ap is_symbol same) ∙ is;
            rest = drop n text;
            spelled = sym (take-append-drop n text) ∙ ap (λ t. t ++ drop n text) same;
            ends = λ short. letters_end text (omega (arith, ap length same));
          }
      | false ↦ λ is e. cc
    ] refl e

and_true : (b : Bool) → (b && true) ≡ b
and_true true = refl
and_true false = refl

-- a text begins with a symbol where it begins with a capital letter
symbol_there : (text : List ℕ) → is_symbol (symbol_letters text) ≡ begins is_capital text
symbol_there [] = refl
symbol_there (a ∷ []) = refl
symbol_there (a ∷ b ∷ []) =
    elim (is_small b) as (λ t. is_small b ≡ t → is_symbol (take (1 + cond t (1 + 0) 0) (a ∷ b ∷ [])) ≡ is_capital a) [
      | true ↦ λ e. ap (λ t. is_capital a && t) e ∙ and_true (is_capital a)
      | false ↦ λ e. refl
    ] refl
symbol_there (a ∷ b ∷ c ∷ rest) =
    elim (is_small b) as (λ t. is_small b
    ≡ t → is_symbol (take (1 + cond t (1 + cond (is_small c) (1 + 0) 0) 0) (a ∷ b ∷ c ∷ rest)) ≡ is_capital a) [
      | true ↦ λ e. elim (is_small c) as (λ t. is_small c
          ≡ t → is_symbol (take (1 + (1 + cond t (1 + 0) 0)) (a ∷ b ∷ c ∷ rest)) ≡ is_capital a) [
            | true ↦ λ f. ap (λ t. (is_capital a && is_small b) && t) f ∙ and_true (is_capital a && is_small b)
                ∙ ap (λ t. is_capital a && t) e ∙ and_true (is_capital a)
            | false ↦ λ f. ap (λ t. is_capital a && t) e ∙ and_true (is_capital a)
          ] refl
      | false ↦ λ e. refl
    ] refl

pub leading_symbol-None : (text : List ℕ) → leading_symbol text ≡ None → begins is_capital text ≡ false
leading_symbol-None text e =
    let letters = symbol_letters text in
    elim (is_symbol letters) as (λ b. is_symbol letters ≡ b → cond b (Some letters) None ≡ None → begins is_capital text
    ≡ false) [
      | true ↦ λ is e. cc
      | false ↦ λ is e. sym (symbol_there text) ∙ is
    ] refl e

pub longest-leading_symbol : (text : List ℕ) (r : Option (List ℕ)) → r ≡ leading_symbol text
    → IfSome r (IsLeadingSymbol text)
longest-leading_symbol text None e = tt
longest-leading_symbol text (Some s) e = leading_symbol-Some text s (sym e)

pub none-leading_symbol : (text : List ℕ) (r : Option (List ℕ)) → r ≡ leading_symbol text
    → IfNone r (begins is_capital text ≡ false)
none-leading_symbol text None e = leading_symbol-None text (sym e)
none-leading_symbol text (Some s) e = tt
