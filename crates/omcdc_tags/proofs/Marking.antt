-- Marks on edges, by the forward equation.
use Rattle.std.proofs.Common.{◌≡◌, ◌∙◌, ◌⊎◌, ⊎_elim, inl, inr, ℕ, ◌+◌, ◌↔◌, Bool, true, false, cond, List, Option, Some, None, sym, ap, subst, arith, get_or, replicate, slice_get}
use Rattle.std.proofs.lemmas.Bool.{cases_eq, cases_lt}
use Rattle.std.proofs.lemmas.List.{get_or-replicate, get_or_past, length-replicate}
use Rattle.std.specs.Option.{option_map_or}
use Rattle.op_network.specs.declared.edge.Edge.{Edge}
use Rattle.op_network.specs.declared.edge.EdgeId.{EdgeId}
use Rattle.dep_paths.specs.Activation.{Frames}
use Rattle.dep_paths.specs.Conditions.{operand_at}
use Rattle.dep_paths.specs.Observed.{Comes, HasValue, IsUnmasked, LastPort, PortAt, ReachesEdge, Tag, instant_after, is_pre_edge}
use Rattle.omcdc_tags.specs.Order.{StandsBefore}
use Rattle.dep_paths.proofs.Chains.{reaches_behind, last_port, one_instant}

-- A tag comes through a port: the port is unmasked, and it is the condition and its operand has the value, or its
-- operand is marked.
pub record ComesThrough (edges : List Edge) (frames : Frames) (tag : Tag) (Marked : EdgeId → Type 0) (at : PortAt) : Type 0 where
  pub operand : EdgeId
  pub read : operand_at edges at.port ≡ Some operand
  pub unmasked : IsUnmasked edges frames at
  pub comes : ((at.port ≡ tag.condition) × HasValue edges frames tag.value at) ⊎ Marked operand

-- a tag comes through a port of the edge
pub record ComesTo (edges : List Edge) (frames : Frames) (tag : Tag) (Marked : EdgeId → Type 0) (e : EdgeId) (t : ℕ) : Type 0 where
  pub port : ℕ
  pub comes : ComesThrough edges frames tag Marked (record { port = record { edge = e; port = port }; instant = t })

-- an operand of the edge is marked exactly where the tag reaches it at t
pub record TellsOperands (edges : List Edge) (frames : Frames) (tag : Tag) (Marked : EdgeId → Type 0) (e : EdgeId) (t : ℕ) : Type 0 where
  pub each : (port : ℕ) (a : EdgeId) → operand_at edges (record { edge = e; port = port }) ≡ Some a → Marked a ↔ ReachesEdge edges frames tag a t

behind : (edges : List Edge) (frames : Frames) (tag : Tag) (Marked : EdgeId → Type 0) (e : EdgeId) (port u : ℕ) (a : EdgeId) → TellsOperands edges frames tag Marked e u
    → operand_at edges (record { edge = e; port = port }) ≡ Some a
    → ((record { edge = e; port = port } ≡ tag.condition) × HasValue edges frames tag.value (record { port = record { edge = e; port = port }; instant = u })) ⊎ Marked a
    → Comes edges frames tag (record { port = record { edge = e; port = port }; instant = u })
behind edges frames tag Marked e port u a told read (inl c) = inl c
behind edges frames tag Marked e port u a told read (inr m) = inr (a, read, (told.each port a read).0 m)

-- what comes to an edge by the marks of its operands reaches it
pub comes_reaches : (edges : List Edge) (frames : Frames) (tag : Tag) (Marked : EdgeId → Type 0) (e : EdgeId) (u : ℕ) → TellsOperands edges frames tag Marked e u
    → ComesTo edges frames tag Marked e u → ReachesEdge edges frames tag e (instant_after edges e u)
comes_reaches edges frames tag Marked e u told c =
    reaches_behind edges frames tag (record { port = record { edge = e; port = c.port }; instant = u })
    (behind edges frames tag Marked e c.port u c.comes.operand told c.comes.read c.comes.comes) c.comes.unmasked

ahead : (edges : List Edge) (frames : Frames) (tag : Tag) (Marked : EdgeId → Type 0) (e : EdgeId) (port u : ℕ) → TellsOperands edges frames tag Marked e u
    → IsUnmasked edges frames (record { port = record { edge = e; port = port }; instant = u })
    → Comes edges frames tag (record { port = record { edge = e; port = port }; instant = u })
    → ComesThrough edges frames tag Marked (record { port = record { edge = e; port = port }; instant = u })
ahead edges frames tag Marked e port u told unmasked (inl c) = record { operand = c.1.operand; read = c.1.read; unmasked = unmasked; comes = inl c }
ahead edges frames tag Marked e port u told unmasked (inr c) = record { operand = c.0; read = c.1; unmasked = unmasked; comes = inr ((told.each port c.0 c.1).1 c.2) }

-- what reaches an edge comes to it by the marks of its operands
pub reaches_comes : (edges : List Edge) (frames : Frames) (tag : Tag) (Marked : EdgeId → Type 0) (e : EdgeId) (u : ℕ) → TellsOperands edges frames tag Marked e u
    → ReachesEdge edges frames tag e (instant_after edges e u) → ComesTo edges frames tag Marked e u
reaches_comes edges frames tag Marked e u told r =
    let l : LastPort edges frames tag e (instant_after edges e u) = last_port edges frames tag e (instant_after edges e u) r in
    let same : instant_after edges e l.at.instant ≡ instant_after edges e u =
    ap (λ (d : EdgeId). instant_after edges d l.at.instant) (sym l.edge) ∙ l.instant in
    let now : l.at.instant ≡ u = one_instant (is_pre_edge edges e) l.at.instant u same in
    let Port : EdgeId → ℕ → PortAt = λ (d : EdgeId) (v : ℕ). record { port = record { edge = d; port = l.at.port.port }; instant = v } in
    let moved : IsUnmasked edges frames (Port e u) × Comes edges frames tag (Port e u) =
    subst (λ (v : ℕ). IsUnmasked edges frames (Port e v) × Comes edges frames tag (Port e v)) now
    (subst (λ (d : EdgeId). IsUnmasked edges frames (Port d l.at.instant) × Comes edges frames tag (Port d l.at.instant)) l.edge (l.unmasked, l.comes)) in
    record { port = l.at.port.port; comes = ahead edges frames tag Marked e l.at.port.port u told moved.0 moved.1 }

-- an edge that is no `Pre`: the tag reaches it where it comes to it by the marks of the same instant
pub same_instant : (edges : List Edge) (frames : Frames) (tag : Tag) (Marked : EdgeId → Type 0) (e : EdgeId) (t : ℕ) → is_pre_edge edges e ≡ false → TellsOperands edges frames tag Marked e t
    → ComesTo edges frames tag Marked e t ↔ ReachesEdge edges frames tag e t
same_instant edges frames tag Marked e t other told =
    let same : instant_after edges e t ≡ t = ap (λ (b : Bool). cond b (t + 1) t) other in (
      λ c. subst (λ (u : ℕ). ReachesEdge edges frames tag e u) same (comes_reaches edges frames tag Marked e t told c),
      λ r. reaches_comes edges frames tag Marked e t told (subst (λ (u : ℕ). ReachesEdge edges frames tag e u) (sym same) r),
    )

-- a `Pre`: the tag reaches it where it comes to it by the marks of the instant before
pub instant_before : (edges : List Edge) (frames : Frames) (tag : Tag) (Marked : EdgeId → Type 0) (e : EdgeId) (t u : ℕ) → is_pre_edge edges e ≡ true → t ≡ u + 1 → TellsOperands edges frames tag Marked e u
    → ComesTo edges frames tag Marked e u ↔ ReachesEdge edges frames tag e t
instant_before edges frames tag Marked e t u pre later told =
    let same : instant_after edges e u ≡ t = ap (λ (b : Bool). cond b (u + 1) u) pre ∙ sym later in (
      λ c. subst (λ (v : ℕ). ReachesEdge edges frames tag e v) same (comes_reaches edges frames tag Marked e u told c),
      λ r. reaches_comes edges frames tag Marked e u told (subst (λ (v : ℕ). ReachesEdge edges frames tag e v) (sym same) r),
    )

not_zero : (b : Bool) (u : ℕ) → b ≡ true → cond b (u + 1) u ≡ 0 → ⊥
not_zero true u pre zero = omega (arith, zero)
not_zero false u pre zero = grind (arith, pre)

pub none_some : (a : EdgeId) → None ≡ Some a → ⊥
none_some a same = grind (arith, same)

pub false_true : false ≡ true → ⊥
false_true same = grind (arith, same)

-- nothing reaches a `Pre` at the first instant
pub first_instant : (edges : List Edge) (frames : Frames) (tag : Tag) (e : EdgeId) (t : ℕ) → is_pre_edge edges e ≡ true → t ≡ 0 → ReachesEdge edges frames tag e t → ⊥
first_instant edges frames tag e t pre zero r =
    let l : LastPort edges frames tag e t = last_port edges frames tag e t r in
    not_zero (is_pre_edge edges e) l.at.instant pre (ap (λ (d : EdgeId). instant_after edges d l.at.instant) (sym l.edge) ∙ l.instant ∙ zero)

pub same_edge : (d e : EdgeId) → d.0 ≡ e.0 → d ≡ e
same_edge d e same =
    let edge : ℕ → EdgeId = λ (n : ℕ). record { 0 = n } in
    ap edge same

pub unmarked : (n i : ℕ) → get_or (replicate n false) i false ≡ true → ⊥
unmarked n i m = ⊎_elim
    (λ below. false_true (sym (get_or-replicate n i false false below) ∙ m))
    (λ past. false_true (sym (get_or_past (replicate n false) i false (omega (arith, past, length-replicate n false))) ∙ m))
    (cases_lt i n)

pub some_same : (d e : EdgeId) → Some d ≡ Some e → d ≡ e
some_same d e same = ap (λ (o : Option EdgeId). option_map_or (λ (x : EdgeId). x) o d) same

pub stands_earlier : (sequence : List EdgeId) (i : ℕ) (e d : EdgeId) → slice_get sequence i ≡ Some e → StandsBefore sequence (i + 1) d → (d ≡ e) ⊎ StandsBefore sequence i d
stands_earlier sequence i e d there s = ⊎_elim
    (λ same. inl (some_same d e (sym s.there ∙ ap (λ (k : ℕ). slice_get sequence k) same ∙ there)))
    (λ apart. inr (record { place = s.place; before = omega (arith, s.before, apart); there = s.there }))
    (cases_eq s.place i)
