use Rattle.std.proofs.Common.{◌≡◌, ◌∙◌, rules}
use Rattle.decompose.proofs.mass_tables.Tables.of.Goals as goal

pub build-requires : goal.build-requires
build-requires c =
    let scaled = c.in_ok-scale.ensures.scaled in
    rw c.scaled.ensures record {
      some = scaled.some;
      few = scaled.few;
      falling = scaled.falling;
      upper_limit = scaled.upper_limit;
      modulus_above_zero = scaled.base_above_zero;
      modulus_in_range = scaled.base_in_range;
    }

pub invariant_of-result : goal.invariant_of-result
invariant_of-result c =
    let scale = c.in_ok-scale.ensures.scale in
    let masses : c.in_ok-masses.masses.items ≡ c.args.masses.now = search rules in
    rw masses record {
      scale_is = scale;
      scaled_ok = c.in_ok-scale.ensures.scaled;
      residues_are = c.in_ok-residues.ensures ∙ c.scaled.ensures ∙ scale.scaled;
    }
