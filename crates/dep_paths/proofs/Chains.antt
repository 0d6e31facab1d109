-- What a tag reaches, by the last port of a list of pairs.
use Rattle.std.proofs.Common.{◌≡◌, ◌∙◌, ◌⊎◌, inl, inr, ℕ, ◌+◌, Bool, true, false, cond, List, [], ◌∷◌, ◌++◌, Some, refl, sym, ap, subst, arith}
use Rattle.std.specs.List.{AllByRecursion}
use Rattle.std.proofs.lemmas.List.Elements.{All-nil, All-cons, All-push, recursion_from_All}
use Rattle.op_network.specs.declared.edge.Edge.{Edge}
use Rattle.op_network.specs.declared.edge.EdgeId.{EdgeId}
use Rattle.dep_paths.specs.Activation.{Frames}
use Rattle.dep_paths.specs.Conditions.{operand_at}
use Rattle.dep_paths.specs.Observed.{Tag, PortAt, HasValue, IsUnmasked, Follows, AllFollow, ReachesEdge, Comes, LastPort, ReachIsPassedOn, after, last}

last_after : (first : PortAt) (rest : List PortAt) (at : PortAt) → last first (rest ++ at ∷ []) ≡ at
last_after first [] at = refl
last_after first (x ∷ rest) at = last_after x rest at

follow_more : (edges : List Edge) (first : PortAt) (rest : List PortAt) (at : PortAt) → AllFollow edges first rest → Follows edges (last first rest) at → AllFollow edges first (rest ++ at ∷ [])
follow_more edges first [] at all follows = (follows, tt)
follow_more edges first (x ∷ rest) at all follows = (all.0, follow_more edges x rest at all.1 follows)

-- a list of one pair
starting : (edges : List Edge) (frames : Frames) (tag : Tag) (at : PortAt) → at.port ≡ tag.condition → HasValue edges frames tag.value at → IsUnmasked edges frames at → ReachesEdge edges frames tag at.port.edge (after edges at)
starting edges frames tag at same value unmasked = record {
  first = at;
  rest = [];
  starts = same;
  value = value;
  unmasked = All-cons (IsUnmasked edges frames) at [] unmasked (All-nil (IsUnmasked edges frames));
  follow = tt;
  edge = refl;
  instant = refl;
}

-- a list of pairs with one pair more
going_on : (edges : List Edge) (frames : Frames) (tag : Tag) (at : PortAt) (a : EdgeId) → operand_at edges at.port ≡ Some a → ReachesEdge edges frames tag a at.instant → IsUnmasked edges frames at → ReachesEdge edges frames tag at.port.edge (after edges at)
going_on edges frames tag at a read r unmasked = record {
  first = r.first;
  rest = r.rest ++ at ∷ [];
  starts = r.starts;
  value = r.value;
  unmasked = All-push (IsUnmasked edges frames) (r.first ∷ r.rest) at r.unmasked unmasked;
  follow = follow_more edges r.first r.rest at r.follow (record { reads = read ∙ ap (λ (e : EdgeId). Some e) (sym r.edge); instant = sym r.instant });
  edge = ap (λ (p : PortAt). p.port.edge) (last_after r.first r.rest at);
  instant = ap (λ (p : PortAt). after edges p) (last_after r.first r.rest at);
}

-- Soundness: what comes to an unmasked port reaches its edge.
pub reaches_behind : (edges : List Edge) (frames : Frames) (tag : Tag) (at : PortAt) → Comes edges frames tag at → IsUnmasked edges frames at → ReachesEdge edges frames tag at.port.edge (after edges at)
reaches_behind edges frames tag at (inl c) unmasked = starting edges frames tag at c.0 c.1 unmasked
reaches_behind edges frames tag at (inr c) unmasked = going_on edges frames tag at c.0 c.1 c.2 unmasked

along : (edges : List Edge) (frames : Frames) (tag : Tag) (at : PortAt) (rest : List PortAt) → Comes edges frames tag at → IsUnmasked edges frames at
    → AllFollow edges at rest → AllByRecursion (IsUnmasked edges frames) rest → Comes edges frames tag (last at rest) × IsUnmasked edges frames (last at rest)
along edges frames tag at [] comes unmasked follow all = (comes, unmasked)
along edges frames tag at (next ∷ rest) comes unmasked follow all =
    along edges frames tag next rest
    (inr (at.port.edge, follow.0.reads, subst (λ (u : ℕ). ReachesEdge edges frames tag at.port.edge u) (sym follow.0.instant) (reaches_behind edges frames tag at comes unmasked)))
    all.0 follow.1 all.1

-- Completeness: what a tag reaches it reaches through a last port, by recursion on the list.
pub last_port : (edges : List Edge) (frames : Frames) (tag : Tag) (e : EdgeId) (t : ℕ) → ReachesEdge edges frames tag e t → LastPort edges frames tag e t
last_port edges frames tag e t r =
    let all : AllByRecursion (IsUnmasked edges frames) (r.first ∷ r.rest) = recursion_from_All (IsUnmasked edges frames) (r.first ∷ r.rest) r.unmasked in
    let end : Comes edges frames tag (last r.first r.rest) × IsUnmasked edges frames (last r.first r.rest) = along edges frames tag r.first r.rest (inl (r.starts, r.value)) all.0 r.follow all.1 in
    record { at = last r.first r.rest; edge = r.edge; instant = r.instant; unmasked = end.1; comes = end.0 }

-- The forward equation: a tag reaches an edge exactly through a last port.
pub through_last : (edges : List Edge) (frames : Frames) (tag : Tag) (e : EdgeId) (t : ℕ) → LastPort edges frames tag e t → ReachesEdge edges frames tag e t
through_last edges frames tag e t l =
    subst (λ (u : ℕ). ReachesEdge edges frames tag e u) l.instant
    (subst (λ (d : EdgeId). ReachesEdge edges frames tag d (after edges l.at)) l.edge (reaches_behind edges frames tag l.at l.comes l.unmasked))

pub passed_on : ReachIsPassedOn
passed_on edges frames tag e t = (last_port edges frames tag e t, through_last edges frames tag e t)

-- the instant before is one
pub one_instant : (pre : Bool) (u t : ℕ) → cond pre (u + 1) u ≡ cond pre (t + 1) t → u ≡ t
one_instant true u t same = omega (arith, same)
one_instant false u t same = same
