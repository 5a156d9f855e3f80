-- Each factor gives the number for one isotope more, which is no smaller.
use Rattle.std.proofs.Common.{◌≡◌, ◌≤◌, ◌<◌, ◌+◌, ◌-◌, ◌*◌, ◌/◌, ◌^◌, ℕ, length, sym, ◌∙◌, ap, arith}
use Rattle.multinomial_bounds.specs.Compositions.{compositions}
use Rattle.isotopologue_list.proofs.CountLemmas.{many, many_one, many_is, many_some, many_grows, next_factor, product_fits}
use Rattle.isotopologue_list.proofs.count.compositions_up_to.Goals as goal
use Rattle.isotopologue_list.proofs.count.compositions_up_to.Goals.{After-at_most-in-loop-place}

pub returns-in_err-count : goal.returns-in_err-count
returns-in_err-count c =
    rw c.from_residual.ensures
    (λ few. c.in_err-count.ensures
    (omega (arith, many_is c.args.isotopes c.args.atoms c.requires.some, many_some (c.args.isotopes - 1) c.args.atoms)))

pub loop-place-init : goal.loop-place-init
loop-place-init c = record {
  few = omega (arith, c.in_ok-count.ensures);
  count = c.in_ok-count.ensures.1 ∙ sym (many_one c.args.atoms);
}

pub overflow_mul-product : goal.overflow_mul-product
overflow_mul-product c =
    let low : c.from.result < 2 ^ 64 = omega arith in
    let few : c.from-in-loop-place-2.result ≤ 20000 = omega arith in
    omega (arith, product_fits c.from.result c.from-in-loop-place-2.result low few)

next_is : (c : After-at_most-in-loop-place) →
    c.from.result * c.from-in-loop-place-2.result / c.from-in-loop-place-3.result ≡ many c.loop-place.place c.args.atoms
next_is c =
    next_factor c.args.atoms c.loop-place.place c.loop-place.count c.from.result c.from-in-loop-place-2.result
    c.from-in-loop-place-3.result c.from.ensures (omega arith) c.from-in-loop-place-3.ensures (omega arith)
    c.loop-place.invariant.count

pub returns-in_err-count-2 : goal.returns-in_err-count-2
returns-in_err-count-2 c =
    let at = (goal.at.returns-in_err-count-2 c).After-at_most-in-loop-place in
    rw c.from_residual-in_err-count-2.ensures
    (λ few. c.in_err-count-2.ensures
    (omega (
      arith,
      next_is at,
      many_is c.args.isotopes c.args.atoms c.requires.some,
      many_grows c.loop-place.place (c.args.isotopes - 1) c.args.atoms (omega arith),
    )))

pub loop-place-preserved : goal.loop-place-preserved
loop-place-preserved c =
    let at = (goal.at.loop-place-preserved c).After-at_most-in-loop-place in
    let same : c.in_ok-count-2.count ≡ many c.loop-place.place c.args.atoms = c.in_ok-count-2.ensures.1 ∙ next_is at in
    record {
      few = omega (arith, same, next_is at, c.in_ok-count-2.ensures.0);
      count = same ∙ ap (λ (p : ℕ). many p c.args.atoms) (let e : c.loop-place.place ≡ c.loop-place.place + 1 - 1 = omega arith in e);
    }

pub returns : goal.returns
returns c =
    let last : c.loop-place.place ≡ c.args.isotopes = omega arith in
    let all : c.loop-place.count ≡ length (compositions c.args.isotopes c.args.atoms) =
    c.loop-place.invariant.count
    ∙ ap (λ (p : ℕ). many (p - 1) c.args.atoms) last
    ∙ sym (many_is c.args.isotopes c.args.atoms c.requires.some) in
    (omega (arith, all), all)
