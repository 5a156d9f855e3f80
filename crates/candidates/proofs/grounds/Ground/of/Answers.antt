use Rattle.std.specs.Prelude.{AllPairs}
use Rattle.written_items.specs.declared.item.Item.{Item}
use Rattle.std.proofs.Common.{◌≡◌, sym, ap, subst, arith, Err}
use Rattle.decompose.specs.Masses.{AreMasses, base_of}
use Rattle.candidates.proofs.AlphabetMasses.{are_masses, base_of-alphabet, apart-items}
use Rattle.candidates.proofs.grounds.Ground.of.Goals as goal

pub of-requires : goal.of-requires
of-requires c = subst AreMasses (sym c.masses.ensures.masses) (are_masses c.args.alphabet c.masses.ensures.alphabet)

pub unreachable-requires : goal.unreachable-requires
unreachable-requires c =
    let heavy = c.in-Err-BaseTooHeavy.ensures.too_heavy.0 (ap Err c.in-Err-BaseTooHeavy.field-0-is) in
    let light = base_of-alphabet c.args.alphabet c.masses.ensures.alphabet in
    absurd (omega (arith, heavy, light, ap base_of c.masses.ensures.masses))

pub of-requires-2-clause-different : goal.of-requires-2-clause-different
of-requires-2-clause-different c =
    subst (AllPairs (λ (a b : Item). a ≡ b → ⊥)) (sym c.items.ensures.items) (apart-items c.args.alphabet c.items.ensures.alphabet)
