-- The bit of one port and value in each row, as marks.
use Rattle.std.proofs.Common.{◌≡◌, ◌∙◌, ◌⊎◌, ⊎_elim, inl, inr, ◌↔◌, ℕ, zero, suc, ◌+◌, ◌<◌, Bool, true, false, List, [], Option, Some, refl, sym, ap, subst, arith, length, slice_get, slice_set}
use Rattle.std.proofs.lemmas.List.{get_or-set_same, get_or-set_other}
use Rattle.std.proofs.lemmas.Bool.{cases_eq}
use Rattle.std.specs.Option.{option_map_or}
use Rattle.op_network.specs.declared.edge.Edge.{Edge}
use Rattle.op_network.specs.declared.edge.EdgeId.{EdgeId}
use Rattle.op_network.specs.declared.edge.Op.{Op}
use Rattle.op_network.specs.declared.form.Form.{Form}
use Rattle.op_network.specs.declared.form.Form.TheVariants.{Input, Const, One, Two, Ite, Arrow, Pre}
use Rattle.op_network.specs.declared.value.Value.{Value}
use Rattle.op_network.specs.Operators.{form_of, is_unmasked, is_unmasked_by}
use Rattle.lus_causality.specs.Causality.{is_pre}
use Rattle.dep_paths.specs.declared.path.Condition.{Condition}
use Rattle.dep_paths.specs.Activation.{Frames, frame_at}
use Rattle.dep_paths.specs.Conditions.{operand_at}
use Rattle.omcdc_tags.specs.declared.limits.TheConstants.{MOST_OPERANDS}
use Rattle.dep_paths.specs.Observed.{ReachesEdge, is_pre_edge}
use Rattle.omcdc_tags.specs.Order.{StandsBefore, IsInOrder}
use Rattle.omcdc_tags.specs.Ports.{IsTable, index_of}
use Rattle.omcdc_tags.specs.Rows.{ComesIn, EdgeComes, PutsRow, StartsBit, kind_of, Ready, OpensAt}
use Rattle.omcdc_tags.specs.Tags.{AreReached, AreValues, OperandHas, RowsTell, has_bit, bit_of_tag, row_at}
use Rattle.omcdc_tags.proofs.Marking.{ComesTo, TellsOperands, false_true, same_instant, instant_before, first_instant, stands_earlier, same_edge}
use Rattle.omcdc_tags.proofs.Tables.{narrow_port, same_port}

-- the bit is in the row of an edge
abbrev IsIn : ℕ → List (List Bool) → EdgeId → Type 0
IsIn k rows e = has_bit (row_at rows e) k ≡ true

-- a bit tells its place
same_place : (i j : ℕ) (v : Bool) → (bit_of_tag i v ≡ bit_of_tag j true) ⊎ (bit_of_tag i v ≡ bit_of_tag j false) → j ≡ i
same_place i j true (inl h) = omega (arith, h)
same_place i j true (inr h) = omega (arith, h)
same_place i j false (inl h) = omega (arith, h)
same_place i j false (inr h) = omega (arith, h)

one_of_both : (i : ℕ) (v : Bool) → (bit_of_tag i v ≡ bit_of_tag i true) ⊎ (bit_of_tag i v ≡ bit_of_tag i false)
one_of_both i true = inl refl
one_of_both i false = inr refl

pub same_condition : (b c : Condition) → Some b ≡ Some c → b ≡ c
same_condition b c same = ap (λ (o : Option Condition). option_map_or (λ (x : Condition). x) o b) same

-- the port at a place of the table
starts_at : (edges : List Edge) (ports : List Condition) (table : List (Option ℕ)) (values : List Bool) (e : EdgeId) (p i : ℕ) (c : Condition) (v : Bool) → IsTable (length edges) ports table → p < MOST_OPERANDS → slice_get ports i ≡ Some c
    → StartsBit table values (record { edge = e; port = p }) (bit_of_tag i v) → record { edge = e; port = p } ≡ c
starts_at edges ports table values e p i c v placed narrow there s =
    let same : s.place ≡ i = same_place i s.place v s.bit in
    let at = placed.placed s.place (index_of (record { edge = e; port = p })) s.there in
    let is : at.0 ≡ c = same_condition at.0 c (sym at.1 ∙ ap (λ (j : ℕ). slice_get ports j) same ∙ there) in
    same_port (record { edge = e; port = p }) at.0 narrow (placed.narrow s.place at.0 at.1) (sym at.2) ∙ is

-- a bit comes to an edge where its port and value come to it by their column
pub column_comes : (edges : List Edge) (ports : List Condition) (table : List (Option ℕ)) (frames : Frames) (frame : List Value) (t u : ℕ) (rows : List (List Bool)) (values : List Bool) (e : EdgeId) (i : ℕ) (c : Condition) (v : Bool)
    → IsTable (length edges) ports table → slice_get ports i ≡ Some c → OpensAt edges frames frame t u e → AreValues edges ports (frame_at frames u) values
    → ComesIn edges table frame t rows values e (bit_of_tag i v) ↔ ComesTo edges frames (record { condition = c; value = v }) (IsIn (bit_of_tag i v) rows) e u
column_comes edges ports table frames frame t u rows values e i c v placed there opens starts = (
  λ b.
      let port : Condition = record { edge = e; port = b.port } in
      record {
        port = b.port;
        comes = record {
          operand = b.comes.operand;
          read = b.comes.read;
          unmasked = (opens.open_iff b.port).0 b.comes.unmasked;
          comes = ⊎_elim
              (λ s.
              let same : port ≡ c = starts_at edges ports table values e b.port i c v placed (narrow_port edges e b.port b.comes.operand b.comes.read) there s in
              let bit : has_bit values (bit_of_tag i v) ≡ true = s.has in
              let has : OperandHas edges (frame_at frames u) v c = (starts.each i c v there).0 bit in
              let moved : OperandHas edges (frame_at frames u) v port = subst (λ (q : Condition). OperandHas edges (frame_at frames u) v q) (sym same) has in
              inl (same, record { operand = moved.operand; read = moved.read; has = moved.has }))
              (λ h. inr h)
              b.comes.comes;
        };
      },
  λ b.
      let port : Condition = record { edge = e; port = b.port } in
      record {
        port = b.port;
        comes = record {
          operand = b.comes.operand;
          read = b.comes.read;
          unmasked = (opens.open_iff b.port).1 b.comes.unmasked;
          comes = ⊎_elim
              (λ s.
              let had : OperandHas edges (frame_at frames u) v port = record { operand = s.1.operand; read = s.1.read; has = s.1.has } in
              inl (record {
                place = i;
                there = ap (λ (q : Condition). slice_get table (index_of q)) s.0 ∙ placed.found i c there;
                bit = one_of_both i v;
                has = (starts.each i c v there).1 (subst (λ (q : Condition). OperandHas edges (frame_at frames u) v q) s.0 had);
              }))
              (λ m. inr m)
              b.comes.comes;
        };
      },
)

-- rows that tell the operands of an edge do so for each bit
pub column_tells : (edges : List Edge) (ports : List Condition) (frames : Frames) (t : ℕ) (Done : EdgeId → Type 0) (rows : List (List Bool)) (e : EdgeId) (i : ℕ) (c : Condition) (v : Bool)
    → slice_get ports i ≡ Some c → RowsTell edges ports frames t Done rows → ((p : ℕ) (a : EdgeId) → operand_at edges (record { edge = e; port = p }) ≡ Some a → Done a)
    → TellsOperands edges frames (record { condition = c; value = v }) (IsIn (bit_of_tag i v) rows) e t
column_tells edges ports frames t Done rows e i c v there told done = record { each = λ p a read. told.each i c v a there (done p a read) }

-- ports of `Pre` are always unmasked
pre_open : (form : Form) (p : ℕ) (frame : List Value) (t : ℕ) → is_pre form ≡ true → is_unmasked_by form p frame t ≡ true
pre_open (Pre a) p frame t pre = refl
pre_open (Input i) p frame t pre = refl
pre_open (Const v) p frame t pre = refl
pre_open (One o a) p frame t pre = refl
pre_open (Two o a b) p frame t pre = absurd (false_true pre)
pre_open (Ite a b c) p frame t pre = absurd (false_true pre)
pre_open (Arrow a b) p frame t pre = absurd (false_true pre)

pre_there : (edges : List Edge) (e : EdgeId) (edge : Edge) → slice_get edges e.0 ≡ Some edge → is_pre_edge edges e ≡ true → is_pre (form_of edge.op) ≡ true
pre_there edges e edge there pre = rw there at pre

pub opens_pre : (edges : List Edge) (frames : Frames) (frame : List Value) (t u : ℕ) (e : EdgeId) → is_pre_edge edges e ≡ true → OpensAt edges frames frame t u e
opens_pre edges frames frame t u e pre = record {
  open_iff = λ p. (
    λ o. record { edge = o.edge; there = o.there; unmasked = pre_open (form_of o.edge.op) p (frame_at frames u) u (pre_there edges e o.edge o.there pre) },
    λ o. record { edge = o.edge; there = o.there; unmasked = pre_open (form_of o.edge.op) p frame t (pre_there edges e o.edge o.there pre) },
  );
}

-- whether a port is unmasked depends on the instant only in that it is the first or not
late : (form : Form) (p : ℕ) (frame : List Value) (t : ℕ) → is_unmasked_by form p frame 1 ≡ is_unmasked_by form p frame (t + 1)
late (Pre a) p frame t = refl
late (Input i) p frame t = refl
late (Const v) p frame t = refl
late (One o a) p frame t = refl
late (Two o a b) p frame t = refl
late (Ite a b c) p frame t = refl
late (Arrow a b) zero frame t = grind arith
late (Arrow a b) (suc p) frame t = grind arith

same_open : (edges : List Edge) (frames : Frames) (frame : List Value) (s t : ℕ) (e : EdgeId) → frame_at frames t ≡ frame → ((op : Op) (p : ℕ) → is_unmasked op p frame s ≡ is_unmasked op p frame t) → OpensAt edges frames frame s t e
same_open edges frames frame s t e now same = record {
  open_iff = λ p. (
    λ o. record { edge = o.edge; there = o.there; unmasked = subst (λ (f : List Value). is_unmasked o.edge.op p f t ≡ true) (sym now) (sym (same o.edge.op p) ∙ o.unmasked) },
    λ o. record { edge = o.edge; there = o.there; unmasked = same o.edge.op p ∙ subst (λ (f : List Value). is_unmasked o.edge.op p f t ≡ true) now o.unmasked },
  );
}

pub opens_first : (edges : List Edge) (frames : Frames) (frame : List Value) (t : ℕ) (e : EdgeId) → frame_at frames t ≡ frame → t ≡ 0 → OpensAt edges frames frame 0 t e
opens_first edges frames frame t e now first = same_open edges frames frame 0 t e now (λ op p. ap (λ (u : ℕ). is_unmasked op p frame u) (sym first))

pub opens_later : (edges : List Edge) (frames : Frames) (frame : List Value) (t u : ℕ) (e : EdgeId) → frame_at frames t ≡ frame → t ≡ u + 1 → OpensAt edges frames frame 1 t e
opens_later edges frames frame t u e now later = same_open edges frames frame 1 t e now (λ op p. late (form_of op) p frame u ∙ ap (λ (w : ℕ). is_unmasked op p frame w) (sym later))

both_iff : {A B C : Type 0} → A ↔ B → B ↔ C → A ↔ C
both_iff f g = (λ a. g.0 (f.0 a), λ c. f.1 (g.1 c))

opens_now : (edges : List Edge) (ports : List Condition) (table : List (Option ℕ)) (frames : Frames) (t : ℕ) (frame : List Value) (begun : Bool) (before : List (List Bool)) (earlier starts : List Bool) (e : EdgeId)
    → Ready edges ports table frames t frame begun before earlier starts → OpensAt edges frames frame (kind_of begun) t e
opens_now edges ports table frames t frame true before earlier starts e r = opens_later edges frames frame t (r.later refl).0 e r.now (r.later refl).1
opens_now edges ports table frames t frame false before earlier starts e r = opens_first edges frames frame t e r.now (r.first refl)

told_by : (pre begun : Bool) (edges : List Edge) (ports : List Condition) (table : List (Option ℕ)) (frames : Frames) (t : ℕ) (frame : List Value) (before : List (List Bool)) (earlier starts : List Bool) (rows : List (List Bool)) (sequence : List EdgeId) (place : ℕ) (e : EdgeId) (i : ℕ) (c : Condition) (v : Bool)
    → is_pre_edge edges e ≡ pre → IsInOrder edges sequence → slice_get sequence place ≡ Some e
    → Ready edges ports table frames t frame begun before earlier starts → RowsTell edges ports frames t (StandsBefore sequence place) rows → slice_get ports i ≡ Some c
    → EdgeComes pre begun (ComesIn edges table frame (kind_of begun) before earlier e) (ComesIn edges table frame (kind_of begun) rows starts e) (bit_of_tag i v) ↔ ReachesEdge edges frames (record { condition = c; value = v }) e t
told_by true true edges ports table frames t frame before earlier starts rows sequence place e i c v pre order at r told there =
    let u : ℕ = (r.later refl).0 in
    both_iff (column_comes edges ports table frames frame 1 u before earlier e i c v r.placed there (opens_pre edges frames frame 1 u e pre) (r.later refl).3)
    (instant_before edges frames (record { condition = c; value = v }) (IsIn (bit_of_tag i v) before) e t u pre (r.later refl).1
    (column_tells edges ports frames u (λ a. a.0 < length edges) before e i c v there (r.later refl).2 (λ p a read. order.operands (record { edge = e; port = p }) a read)))
told_by true false edges ports table frames t frame before earlier starts rows sequence place e i c v pre order at r told there =
    (λ none. absurd none, λ reaches. first_instant edges frames (record { condition = c; value = v }) e t pre (r.first refl) reaches)
told_by false begun edges ports table frames t frame before earlier starts rows sequence place e i c v other order at r told there =
    both_iff (column_comes edges ports table frames frame (kind_of begun) t rows starts e i c v r.placed there (opens_now edges ports table frames t frame begun before earlier starts e r)
    (subst (λ (f : List Value). AreValues edges ports f starts) (sym r.now) r.fresh))
    (same_instant edges frames (record { condition = c; value = v }) (IsIn (bit_of_tag i v) rows) e t other
    (column_tells edges ports frames t (StandsBefore sequence place) rows e i c v there told (λ p a read. order.behind place e a p at other read)))

-- the next edge of the sequence is told by the row that is put
pub next_row : (edges : List Edge) (ports : List Condition) (table : List (Option ℕ)) (frames : Frames) (t : ℕ) (frame : List Value) (begun : Bool) (before : List (List Bool)) (earlier starts : List Bool) (rows new : List (List Bool)) (sequence : List EdgeId) (place : ℕ) (e : EdgeId)
    → IsInOrder edges sequence → slice_get sequence place ≡ Some e → e.0 < length rows
    → Ready edges ports table frames t frame begun before earlier starts → RowsTell edges ports frames t (StandsBefore sequence place) rows
    → PutsRow edges table frame begun before earlier rows starts e new → RowsTell edges ports frames t (StandsBefore sequence (place + 1)) new
next_row edges ports table frames t frame begun before earlier starts rows new sequence place e order at within r told put =
    subst (λ (made : List (List Bool)). RowsTell edges ports frames t (StandsBefore sequence (place + 1)) made) (sym put.put) (record {
      each = λ i c v d there done.
          let here : (has_bit put.row (bit_of_tag i v) ≡ true) ↔ ReachesEdge edges frames (record { condition = c; value = v }) e t =
          both_iff (put.each (bit_of_tag i v)) (told_by (is_pre_edge edges e) begun edges ports table frames t frame before earlier starts rows sequence place e i c v refl order at r told there) in
          let Goal : EdgeId → List Bool → Type 0 = λ (x : EdgeId) (row : List Bool). (has_bit row (bit_of_tag i v) ≡ true) ↔ ReachesEdge edges frames (record { condition = c; value = v }) x t in
          let mine : Goal e (row_at (slice_set rows e.0 put.row) e) = subst (λ (row : List Bool). Goal e row) (sym (get_or-set_same rows e.0 put.row [] within)) here in
          ⊎_elim
          (λ same. subst (λ (x : EdgeId). Goal x (row_at (slice_set rows e.0 put.row) x)) (sym same) mine)
          (λ earlier_edge. ⊎_elim
          (λ same. subst (λ (x : EdgeId). Goal x (row_at (slice_set rows e.0 put.row) x)) (sym (same_edge d e same)) mine)
          (λ apart. subst (λ (row : List Bool). Goal d row) (sym (get_or-set_other rows e.0 d.0 put.row [] apart)) (told.each i c v d there earlier_edge))
          (cases_eq d.0 e.0))
          (stands_earlier sequence place e d at done);
    })

-- nothing stands before the first place
pub no_rows : (edges : List Edge) (ports : List Condition) (frames : Frames) (t : ℕ) (sequence : List EdgeId) (rows : List (List Bool)) → RowsTell edges ports frames t (StandsBefore sequence 0) rows
no_rows edges ports frames t sequence rows = record { each = λ i c v e there done. absurd (omega (arith, done.before)) }

-- at the end of the sequence each edge is told
pub all_rows : (edges : List Edge) (ports : List Condition) (frames : Frames) (t : ℕ) (sequence : List EdgeId) (rows : List (List Bool)) → IsInOrder edges sequence
    → RowsTell edges ports frames t (StandsBefore sequence (length sequence)) rows → AreReached edges ports frames t rows
all_rows edges ports frames t sequence rows order told = record { each = λ i c v e there within. told.each i c v e there (order.whole e within) }
