use Rattle.std.proofs.Common.{◌≡◌, ◌∷◌, [], List, ℕ, Some, None, ap, sym, ◌∙◌}
use Rattle.std.specs.Option.{option_copied}
use Rattle.std.specs.Fmt.{decimal}
use Rattle.isotopologue_text.specs.Isotopologues.{isotope_item}
use Rattle.isotopologue_text.specs.ReadCounts.{behind}
use Rattle.isotopologue_text.proofs.IsotopeTexts.{goes-on, stops-at_number, stops-at_symbol}
use Rattle.isotopologue_text.proofs.read.behind_isotope.Goals as goal

pub returns-in_err-rest-2 : goal.returns-in_err-rest-2
returns-in_err-rest-2 c =
    let rest = c.in_ok-rest.rest.now in
    let bracket : behind (91 ∷ []) c.args.text.now ≡ Some rest =
    sym c.behind.ensures ∙ ap option_copied c.in_ok-rest.was in
    let number : c.as_bytes-number.result.now ≡ decimal c.args.isotope.now.number =
    c.as_bytes-number.ensures.value ∙ c.format.ensures.text in
    let none : behind (decimal c.args.isotope.now.number) rest ≡ None =
    ap (λ (digits : List ℕ). behind digits rest) (sym number) ∙ sym c.behind-2.ensures
    ∙ ap option_copied c.in_err-rest-2.was in
    ap option_copied c.from_residual-in_err-rest-2.ensures
    ∙ sym (stops-at_number (isotope_item c.args.item.now c.args.isotope.now) c.args.text.now rest c.requires bracket
    none)

pub returns-in_err-rest-3 : goal.returns-in_err-rest-3
returns-in_err-rest-3 c =
    let rest = c.in_ok-rest.rest.now in
    let more = c.in_ok-rest-2.rest.now in
    let bracket : behind (91 ∷ []) c.args.text.now ≡ Some rest =
    sym c.behind.ensures ∙ ap option_copied c.in_ok-rest.was in
    let digits : c.as_bytes-number.result.now ≡ decimal c.args.isotope.now.number =
    c.as_bytes-number.ensures.value ∙ c.format.ensures.text in
    let number : behind (decimal c.args.isotope.now.number) rest ≡ Some more =
    ap (λ (digits : List ℕ). behind digits rest) (sym digits) ∙ sym c.behind-2.ensures
    ∙ ap option_copied c.in_ok-rest-2.was in
    let none : behind c.args.item.now.symbol more ≡ None =
    ap (λ (letters : List ℕ). behind letters more) (sym c.text.ensures.letters) ∙ sym c.behind-3.ensures
    ∙ ap option_copied c.in_err-rest-3.was in
    ap option_copied c.from_residual-in_err-rest-3.ensures
    ∙ sym (stops-at_symbol (isotope_item c.args.item.now c.args.isotope.now) c.args.text.now rest c.requires bracket
    more
    number none)

pub returns : goal.returns
returns c =
    let rest = c.in_ok-rest.rest.now in
    let more = c.in_ok-rest-2.rest.now in
    let last = c.in_ok-rest-3.rest.now in
    let bracket : behind (91 ∷ []) c.args.text.now ≡ Some rest =
    sym c.behind.ensures ∙ ap option_copied c.in_ok-rest.was in
    let digits : c.as_bytes-number.result.now ≡ decimal c.args.isotope.now.number =
    c.as_bytes-number.ensures.value ∙ c.format.ensures.text in
    let number : behind (decimal c.args.isotope.now.number) rest ≡ Some more =
    ap (λ (digits : List ℕ). behind digits rest) (sym digits) ∙ sym c.behind-2.ensures
    ∙ ap option_copied c.in_ok-rest-2.was in
    let symbol : behind c.args.item.now.symbol more ≡ Some last =
    ap (λ (letters : List ℕ). behind letters more) (sym c.text.ensures.letters) ∙ sym c.behind-3.ensures
    ∙ ap option_copied c.in_ok-rest-3.was in
    c.behind-4.ensures
    ∙ sym (goes-on (isotope_item c.args.item.now c.args.isotope.now) c.args.text.now rest c.requires bracket more last
    number symbol)
