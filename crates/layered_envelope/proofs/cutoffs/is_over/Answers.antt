use Rattle.std.proofs.Common.{◌<◌, ◌≤◌}
use Rattle.std.specs.Prelude.{◌↔◌, IsTrue}
use Rattle.std.proofs.Math.Nat.{le_trans}
use Rattle.multinomial_bounds.specs.Bounds.{certainty}
use Rattle.layered_envelope.specs.Walks.{upper}
use Rattle.layered_envelope.proofs.RoundedProducts.{upper-le_left}
use Rattle.layered_envelope.proofs.cutoffs.is_over.Goals as goal

pub returns : goal.returns
returns c threshold later is =
    let b = c.args.before in
    let i = c.args.item in
    let small : upper b i ≤ certainty = le_trans (upper-le_left b i c.requires.item) c.requires.before in
    let here = c.exceeds.ensures in
    let there = is (upper b i) small in
    ((λ h. there.1 (here.0 h)), (λ h. here.1 (there.0 h)))
