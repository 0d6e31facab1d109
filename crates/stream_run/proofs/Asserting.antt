-- The assert edges of a valid network are edges.
use Rattle.std.proofs.Common.{◌≡◌, ◌<◌, List, length, get_or, sym, subst}
use Rattle.std.specs.List.{All}
use Rattle.op_network.specs.declared.edge.EdgeId.{EdgeId}
use Rattle.op_network.specs.declared.edge.Parts.{Parts}
use Rattle.op_network.specs.declared.value.Value.{Value}
use Rattle.op_network.specs.Valid.{IsValid}
use Rattle.lus_causality.proofs.Ending.{typed_within}

pub asserts_within : (parts : Parts) (asserts : List EdgeId) (frame : List Value) → IsValid parts → asserts ≡ parts.asserts → length frame ≡ length parts.edges → All (λ (e : EdgeId). e.0 < length frame) asserts
asserts_within parts asserts frame valid is size = subst (λ l. All (λ (e : EdgeId). e.0 < length frame) l) (sym is) (λ i e lt. subst (λ n. (get_or parts.asserts i e).0 < n) (sym size) (typed_within parts.edges (get_or parts.asserts i e) _ (valid.asserts i e lt)))
