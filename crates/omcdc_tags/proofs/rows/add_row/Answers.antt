use Rattle.std.proofs.Common.{◌≡◌, List, Bool, true, sym, subst}
use Rattle.omcdc_tags.specs.Rows.{Adds}
use Rattle.omcdc_tags.specs.Tags.{has_bit}
use Rattle.omcdc_tags.proofs.BitSets.{adds_row}
use Rattle.omcdc_tags.proofs.rows.add_row.Goals as goal

pub returns : goal.returns
returns c = subst (λ (row : List Bool). Adds c.args.work.now row (λ k. has_bit c.args.row.now k ≡ true)) (sym c.or_with.ensures) (adds_row c.args.work.now c.args.row.now c.requires)
