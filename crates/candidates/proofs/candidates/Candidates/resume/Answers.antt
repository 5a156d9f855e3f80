use Rattle.std.proofs.Common.{◌≡◌, map, Err, sym, ap, subst, ◌∙◌}
use Rattle.std.specs.Prelude.{Result, Some, is_some, option_map}
use Rattle.std.proofs.lemmas.Result.{err_from_is_err_and}
use Rattle.decompose.specs.CountLists.{IsInBox}
use Rattle.decompose.specs.declared.faults.ResumeFault.{ResumeFault}
use Rattle.decompose.specs.declared.faults.ResumeFault.TheVariants.{NotInBox, Memory}
use Rattle.candidates.specs.PeakFormulas.{limits_of, items_of, counts_in, counts_of, formula_at}
use Rattle.formula_text.specs.Formulas.{formula_of, count_in}
use Rattle.candidates.specs.Enumeration.{CandidateEnumeration}
use Rattle.candidates.specs.Tokens.{IsInAlphabetBox}
use Rattle.candidates.proofs.TokenCounts.{token-formula, token-same}
use Rattle.candidates.proofs.candidates.Candidates.resume.Goals as goal

not_both : {A : Type 0} (r : Result A ResumeFault) → r ≡ Err Memory → r ≡ Err NotInBox → ⊥
not_both r d e = cc

pub returns-in_err-last-clause-not_in_box : goal.returns-in_err-last-clause-not_in_box
returns-in_err-last-clause-not_in_box c =
    let p = err_from_is_err_and c.from_residual.result c.from_residual.ensures.1 in
    let within = c.is_in_box.ensures.in_box.0 c.if-not-is_in_box.false in
    let here : IsInAlphabetBox c.args.premises.now.alphabet c.args.after.now =
    subst (λ a. IsInAlphabetBox a c.args.after.now) c.alphabet-alphabet.ensures.alphabet within in
    (λ e _. not_both c.from_residual.result (p.1 ∙ ap Err p.2) e, λ no. absurd (no here))

pub returns-in_err-after-clause-not_in_box : goal.returns-in_err-after-clause-not_in_box
returns-in_err-after-clause-not_in_box c =
    let p = err_from_is_err_and c.from_residual-in_err-after.result c.from_residual-in_err-after.ensures.1 in
    let within = c.is_in_box.ensures.in_box.0 c.if-not-is_in_box.false in
    let here : IsInAlphabetBox c.args.premises.now.alphabet c.args.after.now =
    subst (λ a. IsInAlphabetBox a c.args.after.now) c.alphabet-alphabet.ensures.alphabet within in
    (λ e _. not_both c.from_residual-in_err-after.result (p.1 ∙ ap Err p.2) e, λ no. absurd (no here))

pub after-requires-clause-token : goal.after-requires-clause-token
after-requires-clause-token c =
    let premises = c.args.premises.now in
    let formula = c.args.after.now in
    let same = c.alphabet-alphabet.ensures.alphabet in
    let last : c.in_ok-last.last ≡ counts_in premises.alphabet formula =
    c.in_ok-last.ensures ∙ ap (map (count_in formula)) (c.items.ensures.items ∙ ap items_of same) in
    let within = c.is_in_box.ensures.in_box.0 c.if-not-is_in_box.false in
    let here : IsInAlphabetBox premises.alphabet formula = subst (λ a. IsInAlphabetBox a formula) same within in
    record {
      in_box = subst (IsInBox (limits_of premises.alphabet)) (sym last) here.counts;
      is_formula =
          ap (λ cs. is_some (formula_of (counts_of premises.alphabet cs))) last
          ∙ ap is_some (token-formula premises.alphabet formula c.alphabet-alphabet.ensures.premises.is_alphabet
          c.is_in_box.ensures.formula here.items);
    }

pub returns-clause-token : goal.returns-clause-token
returns-clause-token c =
    let premises = c.args.premises.now in
    let formula = c.args.after.now in
    let same = c.alphabet-alphabet.ensures.alphabet in
    let last : c.in_ok-last.last ≡ counts_in premises.alphabet formula =
    c.in_ok-last.ensures ∙ ap (map (count_in formula)) (c.items.ensures.items ∙ ap items_of same) in
    let within = c.is_in_box.ensures.in_box.0 c.if-not-is_in_box.false in
    let here : IsInAlphabetBox premises.alphabet formula = subst (λ a. IsInAlphabetBox a formula) same within in
    ap (λ (e : CandidateEnumeration). option_map (formula_at premises.alphabet) e.given) c.in_ok-after.ensures
    ∙ ap (λ cs. Some (formula_at premises.alphabet cs)) last
    ∙ ap Some (token-same premises.alphabet formula c.alphabet-alphabet.ensures.premises.is_alphabet
    c.is_in_box.ensures.formula here.items)
