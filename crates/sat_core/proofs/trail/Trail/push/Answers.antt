use Rattle.std.proofs.Common.{◌≡◌, arith, length, length-set, Some}
use Rattle.sat_core.proofs.Counting.{placed-few}
use Rattle.sat_core.proofs.Placing.{Placed-push}
use Rattle.sat_core.proofs.trail.Trail.push.Goals as goal

pub overflow_cast-at : goal.overflow_cast-at
overflow_cast-at c =
    let few = c.args.self.now.few in
    let n = placed-few _ c.args.self.now.entries.items c.args.self.now.places.items c.args.self.now.placed in
    omega arith

pub invariant_of-self : goal.invariant_of-self
invariant_of-self c =
    let l = length-set c.args.self.now.places.items c.args.entry.lit.var (Some c.len-at.result) in
    let n : c.len-at.result ≡ length c.args.self.now.entries.items = omega arith in
    record {
      few = rw l c.args.self.now.few;
      placed = rw (l, c.in-Ok.ensures.items, n) (Placed-push _ _ _ _ c.args.self.now.placed c.requires.inside c.requires.free);
    }
