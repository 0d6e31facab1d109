-- What is kept stands for a list of frames, and after a step for the list with a frame more.
use Rattle.std.proofs.Common.{◌≡◌, ◌∙◌, ℕ, ◌+◌, ◌<◌, Bool, true, false, List, [], ◌∷◌, ◌++◌, Option, Some, refl, sym, ap, subst, arith, length, length-append, slice_get}
use Rattle.std.specs.List.{All}
use Rattle.std.proofs.lemmas.Option.{slice_get_within, slice_get-get_or, get_or_from_slice_get}
use Rattle.std.proofs.Math.Seq.{get_or-append_seam}
use Rattle.op_network.specs.declared.edge.Edge.{Edge}
use Rattle.op_network.specs.declared.edge.EdgeId.{EdgeId}
use Rattle.op_network.specs.declared.edge.Parts.{Parts}
use Rattle.op_network.specs.declared.value.Value.{Value}
use Rattle.dep_paths.specs.declared.path.Condition.{Condition}
use Rattle.dep_paths.specs.Activation.{Frames}
use Rattle.omcdc_tags.specs.Ports.{IsTable}
use Rattle.omcdc_tags.specs.Rows.{JoinsRows, OutputHasBelow, Ready}
use Rattle.omcdc_tags.specs.Tags.{AreObserved, AreReached, AreValues, SetsStandFor, Sets, TellLast, bit_of_tag}
use Rattle.omcdc_tags.proofs.Marking.{false_true}
use Rattle.dep_paths.proofs.Prefix.{reaches_more, agree_more}

tells_more : (edges : List Edge) (ports : List Condition) (V : Frames) (f : List Value) (t : ℕ) (rows : List (List Bool)) → t < length V → AreReached edges ports V t rows → AreReached edges ports (V ++ f ∷ []) t rows
tells_more edges ports V f t rows below told = record {
  each = λ i c v e there within. (
    λ h. (reaches_more edges V (f ∷ []) (record { condition = c; value = v }) e t below).0 ((told.each i c v e there within).0 h),
    λ r. (told.each i c v e there within).1 ((reaches_more edges V (f ∷ []) (record { condition = c; value = v }) e t below).1 r),
  );
}

pub ready_of : (net : Parts) (ports : List Condition) (table : List (Option ℕ)) (V : Frames) (f : List Value) (sets : Sets) (starts : List Bool)
    → IsTable (length net.edges) ports table → SetsStandFor net ports V sets → AreValues net.edges ports f starts
    → Ready net.edges ports table (V ++ f ∷ []) (length V) f sets.begun sets.reached sets.values starts
ready_of net ports table V f sets starts placed stands fresh = record {
  placed = placed;
  now = get_or-append_seam V f [] [];
  fresh = fresh;
  first = λ was. ap (λ (frames : Frames). length frames) (stands.empty was);
  later = λ was.
      let at = stands.tell was in
      let last = at.1.last in
      let below : at.0 < length V = omega (arith, last) in (
        at.0,
        last,
        tells_more net.edges ports V f at.0 sets.reached below at.1.reached,
        subst (λ (frame : List Value). AreValues net.edges ports frame sets.values) ((agree_more V (f ∷ [])).same at.0 below) at.1.values,
      );
}

-- what the outputs' rows have is what is observed
pub joined_observed : (net : Parts) (ports : List Condition) (V : Frames) (t : ℕ) (rows : List (List Bool)) (row : List Bool) → All (λ (e : EdgeId). e.0 < length net.edges) net.outputs
    → AreReached net.edges ports V t rows → JoinsRows net.outputs rows row → AreObserved net ports V t row
joined_observed net ports V t rows row inside told joins =
    let within : (i : ℕ) (e : EdgeId) → slice_get net.outputs i ≡ Some e → e.0 < length net.edges =
    λ i e there. subst (λ (d : EdgeId). d.0 < length net.edges) (get_or_from_slice_get net.outputs i e e there) (inside i e (slice_get_within net.outputs i e there)) in record {
      each = λ i c v there. (
        λ h.
            let o : OutputHasBelow net.outputs rows (length net.outputs) (bit_of_tag i v) = (joins.each (bit_of_tag i v)).0 h in
            record {
              output = o.output;
              listed = (o.place, slice_get_within net.outputs o.place o.output o.there, get_or_from_slice_get net.outputs o.place o.output o.output o.there);
              reaches = (told.each i c v o.output there (within o.place o.output o.there)).0 o.has;
            },
        λ o.
            let at : slice_get net.outputs o.listed.0 ≡ Some o.output = slice_get-get_or net.outputs o.listed.0 o.output o.listed.1 ∙ ap (λ (e : EdgeId). Some e) o.listed.2 in
            (joins.each (bit_of_tag i v)).1 (record {
              place = o.listed.0;
              output = o.output;
              before = o.listed.1;
              there = at;
              has = (told.each i c v o.output there (within o.listed.0 o.output at)).1 o.reaches;
            }),
      );
    }

pub stands_next : (net : Parts) (ports : List Condition) (V : Frames) (f : List Value) (reached : List (List Bool)) (observed starts : List Bool) → AreValues net.edges ports f starts
    → AreReached net.edges ports (V ++ f ∷ []) (length V) reached → AreObserved net ports (V ++ f ∷ []) (length V) observed
    → SetsStandFor net ports (V ++ f ∷ []) (record { reached = reached; observed = observed; values = starts; begun = true })
stands_next net ports V f reached observed starts fresh told seen = record {
  empty = λ was. absurd (false_true (sym was));
  tell = λ was. (
    length V,
    record {
      last = length-append V (f ∷ []);
      reached = told;
      observed = seen;
      values = subst (λ (frame : List Value). AreValues net.edges ports frame starts) (sym (get_or-append_seam V f [] [])) fresh;
    },
  );
}

-- before the first frame
pub stands_for_none : (net : Parts) (ports : List Condition) (sets : Sets) → sets.begun ≡ false → SetsStandFor net ports [] sets
stands_for_none net ports sets was = record { empty = λ _. refl; tell = λ begun. absurd (false_true (sym was ∙ begun)) }

tell_at : (net : Parts) (ports : List Condition) (V : Frames) (sets : Sets) (t : ℕ) (begun : Bool) → sets.begun ≡ begun → SetsStandFor net ports V sets → length V ≡ t + 1 → TellLast net ports V sets t
tell_at net ports V sets t false was stands long = absurd (omega (arith, long, ap (λ (frames : Frames). length frames) (stands.empty was)))
tell_at net ports V sets t true was stands long =
    let tell = stands.tell was in
    let last = tell.1.last in
    let same : tell.0 ≡ t = omega (arith, long, last) in
    subst (λ (u : ℕ). TellLast net ports V sets u) same tell.1

-- at the last instant
pub tell_last : (net : Parts) (ports : List Condition) (V : Frames) (sets : Sets) (t : ℕ) → SetsStandFor net ports V sets → length V ≡ t + 1 → TellLast net ports V sets t
tell_last net ports V sets t stands long = tell_at net ports V sets t sets.begun refl stands long
