-- A frame more changes nothing at the instants before it.
use Rattle.std.proofs.Common.{◌≡◌, ◌↔◌, ℕ, ◌+◌, ◌<◌, ◌≤◌, Bool, true, false, cond, List, [], ◌∷◌, ◌++◌, sym, subst, arith, length}
use Rattle.std.proofs.Math.ListN.{get_or-append}
use Rattle.std.specs.List.{AllByRecursion}
use Rattle.std.proofs.lemmas.List.Elements.{recursion_from_All, All-from_recursion}
use Rattle.op_network.specs.declared.edge.Edge.{Edge}
use Rattle.op_network.specs.declared.edge.EdgeId.{EdgeId}
use Rattle.op_network.specs.declared.value.Value.{Value}
use Rattle.op_network.specs.declared.value.Value.TheVariants.{Truth}
use Rattle.op_network.specs.Operators.{at_edge, is_unmasked}
use Rattle.dep_paths.specs.Activation.{Frames, frame_at}
use Rattle.op_network.specs.declared.edge.Parts.{Parts}
use Rattle.dep_paths.specs.Observed.{IsObserved, Tag, PortAt, HasValue, IsUnmasked, AllFollow, ReachesEdge, after, is_pre_edge, last}

-- two lists of frames agree below an instant
pub record AgreeBelow (V W : Frames) (n : ℕ) : Type 0 where
  pub same : (t : ℕ) → t < n → frame_at V t ≡ frame_at W t

no_earlier : (pre : Bool) (u : ℕ) → u ≤ cond pre (u + 1) u
no_earlier true u = omega arith
no_earlier false u = omega arith

-- the instants of a list of pairs are at most that which it reaches
all_below : (edges : List Edge) (n : ℕ) (first : PortAt) (rest : List PortAt) → AllFollow edges first rest → after edges (last first rest) < n → AllByRecursion (λ (at : PortAt). at.instant < n) (first ∷ rest)
all_below edges n first [] follow below = (omega (arith, below, no_earlier (is_pre_edge edges first.port.edge) first.instant), tt)
all_below edges n first (next ∷ rest) follow below =
    let later : AllByRecursion (λ (at : PortAt). at.instant < n) (next ∷ rest) = all_below edges n next rest follow.1 below in
    (omega (arith, later.0, follow.0.instant, no_earlier (is_pre_edge edges first.port.edge) first.instant), later)

unmasked_both : (edges : List Edge) (V W : Frames) (n : ℕ) (at : PortAt) → AgreeBelow V W n → at.instant < n → IsUnmasked edges V at → IsUnmasked edges W at
unmasked_both edges V W n at agree below u = record {
  edge = u.edge;
  there = u.there;
  unmasked = subst (λ (f : List Value). is_unmasked u.edge.op at.port.port f at.instant ≡ true) (agree.same at.instant below) u.unmasked;
}

pub value_both : (edges : List Edge) (V W : Frames) (n : ℕ) (v : Bool) (at : PortAt) → AgreeBelow V W n → at.instant < n → HasValue edges V v at → HasValue edges W v at
value_both edges V W n v at agree below h = record {
  operand = h.operand;
  read = h.read;
  has = subst (λ (f : List Value). at_edge f h.operand ≡ Truth v) (agree.same at.instant below) h.has;
}

all_both : (edges : List Edge) (V W : Frames) (n : ℕ) (pairs : List PortAt) → AgreeBelow V W n → AllByRecursion (λ (at : PortAt). at.instant < n) pairs → AllByRecursion (IsUnmasked edges V) pairs → AllByRecursion (IsUnmasked edges W) pairs
all_both edges V W n [] agree below all = tt
all_both edges V W n (at ∷ pairs) agree below all = (unmasked_both edges V W n at agree below.0 all.0, all_both edges V W n pairs agree below.1 all.1)

-- what a tag reaches below an instant depends on the frames below it alone
pub reaches_both : (edges : List Edge) (V W : Frames) (n : ℕ) (tag : Tag) (e : EdgeId) (t : ℕ) → AgreeBelow V W n → t < n → ReachesEdge edges V tag e t → ReachesEdge edges W tag e t
reaches_both edges V W n tag e t agree below r =
    let all : AllByRecursion (λ (at : PortAt). at.instant < n) (r.first ∷ r.rest) = all_below edges n r.first r.rest r.follow (omega (arith, below, r.instant)) in
    record {
      first = r.first;
      rest = r.rest;
      starts = r.starts;
      value = value_both edges V W n tag.value r.first agree all.0 r.value;
      unmasked = All-from_recursion (IsUnmasked edges W) (r.first ∷ r.rest) (all_both edges V W n (r.first ∷ r.rest) agree all (recursion_from_All (IsUnmasked edges V) (r.first ∷ r.rest) r.unmasked));
      follow = r.follow;
      edge = r.edge;
      instant = r.instant;
    }

-- a list and the same with more frames
pub agree_more : (V W : Frames) → AgreeBelow V (V ++ W) (length V)
agree_more V W = record { same = λ t below. sym (get_or-append V W [] t below) }

pub agree_back : (V W : Frames) (n : ℕ) → AgreeBelow V W n → AgreeBelow W V n
agree_back V W n agree = record { same = λ t below. sym (agree.same t below) }

-- what a tag reaches at an instant of a list, it reaches there after more frames, and the other way
pub reaches_more : (edges : List Edge) (V W : Frames) (tag : Tag) (e : EdgeId) (t : ℕ) → t < length V → ReachesEdge edges V tag e t ↔ ReachesEdge edges (V ++ W) tag e t
reaches_more edges V W tag e t below = (
  λ r. reaches_both edges V (V ++ W) (length V) tag e t (agree_more V W) below r,
  λ r. reaches_both edges (V ++ W) V (length V) tag e t (agree_back V (V ++ W) (length V) (agree_more V W)) below r,
)

pub observed_more : (net : Parts) (V W : Frames) (tag : Tag) (t : ℕ) → t < length V → IsObserved net V tag t ↔ IsObserved net (V ++ W) tag t
observed_more net V W tag t below = (
  λ o. record { output = o.output; listed = o.listed; reaches = (reaches_more net.edges V W tag o.output t below).0 o.reaches },
  λ o. record { output = o.output; listed = o.listed; reaches = (reaches_more net.edges V W tag o.output t below).1 o.reaches },
)
