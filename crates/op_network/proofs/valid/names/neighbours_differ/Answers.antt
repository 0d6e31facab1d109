use Rattle.std.proofs.Common.{◌≡◌, ◌≢◌, ◌+◌, ◌-◌, ◌≤◌, ◌∙◌, ap, arith, get_or, sym, true≢false}
use Rattle.std.proofs.lemmas.List.{get_or_default}
use Rattle.std.proofs.lemmas.List.Sorted.{all_adjacent_more}
use Rattle.std.proofs.lemmas.Slice.Eq.{bytes_eq-Decides}
use Rattle.op_network.specs.Valid.{name_at}
use Rattle.op_network.proofs.valid.names.neighbours_differ.Goals as goal

pub returns-then-eq : goal.returns-then-eq
returns-then-eq c =
    let edges = c.args.edges.now in
    let places = c.args.places.now in
    let i = c.loop-i.i in
    let same : name_at edges (get_or places (i - 1) 0) ≡ name_at edges (get_or places i 0) = sym c.name_at.ensures ∙ (bytes_eq-Decides c.name_at.result.now c.name_at-in-loop-i.result.now).0 (sym c.if-eq.ensures) ∙ c.name_at-in-loop-i.ensures in
    let some : 1 ≤ i = omega arith in
    let next : i ≡ i - 1 + 1 = omega arith in
    (λ h. cc, λ all. absurd (all (i - 1) 0 (omega arith) (same ∙ ap (λ j. name_at edges (get_or places j 0)) next)))

pub loop-i-preserved : goal.loop-i-preserved
loop-i-preserved c =
    let name = name_at c.args.edges.now in
    let places = c.args.places.now in
    let i = c.loop-i.i in
    all_adjacent_more places (λ a b. name a ≢ name b) i (omega arith) c.loop-i.invariant (λ d same.
    let first = get_or_default places (i - 1) 0 d (omega arith) in
    let second = get_or_default places i 0 d (omega arith) in
    let equal = c.name_at.ensures ∙ ap name first ∙ same ∙ ap name (sym second) ∙ sym c.name_at-in-loop-i.ensures in
    true≢false (sym ((bytes_eq-Decides c.name_at.result.now c.name_at-in-loop-i.result.now).1 equal) ∙ sym c.if-eq.ensures))
