-- Streams that grow by a value at each instant, and their lines.
use Rattle.std.proofs.Common.{◌≡◌, ℕ, suc, zero, ◌+◌, ◌<◌, List, [], ◌∷◌, ◌++◌, length, map, take, drop, set, get_or, refl, sym, ap, ◌∙◌, subst, append_assoc, arith, false}
use Rattle.std.proofs.lemmas.List.{append-nil, length-map, map_push}
use Rattle.std.specs.Prelude.{Some, slice_get}
use Rattle.std.proofs.lemmas.Option.{get_or_from_slice_get}
use Rattle.op_network.specs.declared.edge.EdgeId.{EdgeId}
use Rattle.op_network.specs.declared.edge.Parts.{Parts}
use Rattle.op_network.specs.declared.value.Value.{Value}
use Rattle.op_network.specs.declared.value.Value.TheVariants.{Truth}
use Rattle.op_network.specs.Operators.{at_edge}
use Rattle.cov_report.specs.Values.{edge_line}
use Rattle.cov_station.specs.NetworkText.{edge_lines, stream_in}
use Rattle.cov_station.specs.Playing.{GoOnBy, stream_lines}

-- the streams in these frames, of which the first ones have the value of one frame more
abbrev pub extended_to : ℕ → List (List Value) → List Value → List EdgeId → List (List Value)
extended_to i frames frame ids =
    map (stream_in (frames ++ frame ∷ [])) (take i ids) ++ map (stream_in frames) (drop i ids)

-- one stream more has the value of its edge
extended_more : (frames : List (List Value)) (frame : List Value) (ids : List EdgeId) (i : ℕ) (z : EdgeId) (d : List Value)
    → i < length ids
    → set (extended_to i frames frame ids) i (get_or (extended_to i frames frame ids) i d ++ at_edge frame (get_or ids i z) ∷ [])
    ≡ extended_to (i + 1) frames frame ids
extended_more frames frame [] i z d lt = absurd (omega (arith, lt))
extended_more frames frame (e ∷ ids) zero z d lt =
    ap (λ s. s ∷ map (stream_in frames) ids) (sym (map_push (λ f. at_edge f e) frames frame))
extended_more frames frame (e ∷ ids) (suc i) z d lt =
    ap (λ l. stream_in (frames ++ frame ∷ []) e ∷ l) (extended_more frames frame ids i z d (omega (arith, lt)))
    ∙ ap (λ n. extended_to n frames frame (e ∷ ids)) (next i)
  where
    next : (n : ℕ) → suc (n + 1) ≡ suc n + 1
    next n = omega arith

-- at the places before this one the streams go on by a frame
pub record GoOnTo (place : ℕ) (frame : List Value) (ids : List EdgeId) (old now : List (List Value)) : Type 0 where
  pub each : (frames : List (List Value)) → old ≡ map (stream_in frames) ids → now ≡ extended_to place frames frame ids

pub none_longer : (frame : List Value) (ids : List EdgeId) (old : List (List Value)) → GoOnTo 0 frame ids old old
none_longer frame ids old = record { each = λ frames is. is }

pub one_longer : (frame : List Value) (ids : List EdgeId) (old now : List (List Value)) (i : ℕ) (z : EdgeId) (d longer : List Value) (v : Value)
    → i < length ids → slice_get frame (get_or ids i z).0 ≡ Some v
    → longer ≡ get_or now i d ++ v ∷ []
    → GoOnTo i frame ids old now → GoOnTo (i + 1) frame ids old (set now i longer)
one_longer frame ids old now i z d longer v lt value is_longer so_far =
    let there : at_edge frame (get_or ids i z) ≡ v = get_or_from_slice_get frame (get_or ids i z).0 v (Truth false) value in
    record {
      each = λ frames is.
          ap (λ s. set now i s) (is_longer ∙ ap (λ w. get_or now i d ++ w ∷ []) (sym there))
          ∙ ap (λ l. set l i (get_or l i d ++ at_edge frame (get_or ids i z) ∷ [])) (so_far.each frames is)
          ∙ extended_more frames frame ids i z d lt;
    }

pub all_longer : (frame : List Value) (ids : List EdgeId) (old new : List (List Value)) (n : ℕ) → n ≡ length ids → GoOnTo n frame ids old new → GoOnBy frame ids old new
all_longer frame ids old new n all longer =
    record { each = λ frames is. longer.each frames is ∙ ap (λ k. extended_to k frames frame ids) all ∙ whole frames ids }
  where
    whole : (frames : List (List Value)) (es : List EdgeId) → extended_to (length es) frames frame es ≡ map (stream_in (frames ++ frame ∷ [])) es
    whole frames [] = refl
    whole frames (e ∷ es) = ap (λ l. stream_in (frames ++ frame ∷ []) e ∷ l) (whole frames es)

-- items that were all written are the new ones
written_back : {A : Type 0} (old new : List A) → length new ≡ length old → take (length old) (new ++ drop (length new) old) ≡ new
written_back [] [] size = refl
written_back [] (y ∷ new) size = absurd (omega (arith, size))
written_back (x ∷ old) [] size = absurd (omega (arith, size))
written_back (x ∷ old) (y ∷ new) size = ap (λ l. y ∷ l) (written_back old new (omega (arith, size)))

-- streams that were lent go on by a frame
pub lent_go_on : (frame shown : List Value) (ids outputs : List EdgeId) (old lent new : List (List Value))
    → outputs ≡ ids → shown ≡ frame → lent ≡ old → GoOnBy shown outputs lent new
    → GoOnBy frame ids old (take (length old) (new ++ drop (length new) old))
lent_go_on frame shown ids outputs old lent new same_ids same_frame same_streams goes = record { each = λ frames is. go frames is }
  where
    on : GoOnBy frame ids old new
    on = subst (λ l. GoOnBy frame ids l new) same_streams
        (subst (λ f. GoOnBy f ids lent new) same_frame (subst (λ (es : List EdgeId). GoOnBy shown es lent new) same_ids goes))

    go : (frames : List (List Value)) → old ≡ map (stream_in frames) ids
        → take (length old) (new ++ drop (length new) old) ≡ map (stream_in (frames ++ frame ∷ [])) ids
    go frames is =
        let longer = on.each frames is in
        let size : length new ≡ length old =
        ap length longer ∙ length-map ids (stream_in (frames ++ frame ∷ [])) ∙ sym (ap length is ∙ length-map ids (stream_in frames)) in
        written_back old new size ∙ longer

-- ---- their lines

-- one line more
lines_more : (parts : Parts) (ids : List EdgeId) (streams : List (List Value)) (i : ℕ) (z : EdgeId) (d : List Value)
    → i < length ids → length streams ≡ length ids
    → stream_lines parts (take i ids) (take i streams) ++ edge_line parts (get_or ids i z) (get_or streams i d)
    ≡ stream_lines parts (take (i + 1) ids) (take (i + 1) streams)
lines_more parts [] streams i z d lt size = absurd (omega (arith, lt))
lines_more parts (e ∷ ids) [] i z d lt size = absurd (omega (arith, size))
lines_more parts (e ∷ ids) (s ∷ streams) zero z d lt size = sym (append-nil (edge_line parts e s))
lines_more parts (e ∷ ids) (s ∷ streams) (suc i) z d lt size =
    append_assoc (edge_line parts e s) (stream_lines parts (take i ids) (take i streams)) (edge_line parts (get_or ids i z) (get_or streams i d))
    ∙ ap (λ w. edge_line parts e s ++ w) (lines_more parts ids streams i z d (omega (arith, lt)) (omega (arith, size)))
    ∙ ap (λ n. stream_lines parts (take n (e ∷ ids)) (take n (s ∷ streams))) (next i)
  where
    next : (n : ℕ) → suc (n + 1) ≡ suc n + 1
    next n = omega arith

-- the line of one output more was added
pub line_pushed : (parts : Parts) (ids items : List EdgeId) (streams : List (List Value)) (i : ℕ) (z : EdgeId) (d stream : List Value) (start old new : List ℕ)
    → items ≡ ids → i < length items → length streams ≡ length ids → stream ≡ get_or streams i d
    → new ≡ old ++ edge_line parts (get_or items i z) stream
    → old ≡ start ++ stream_lines parts (take i ids) (take i streams)
    → new ≡ start ++ stream_lines parts (take (i + 1) ids) (take (i + 1) streams)
line_pushed parts ids items streams i z d stream start old new same lt size is added so_far =
    added ∙ ap (λ w. w ++ edge_line parts (get_or items i z) stream) so_far
    ∙ ap (λ s. (start ++ stream_lines parts (take i ids) (take i streams)) ++ edge_line parts (get_or items i z) s) is
    ∙ ap (λ (es : List EdgeId). (start ++ stream_lines parts (take i ids) (take i streams)) ++ edge_line parts (get_or es i z) (get_or streams i d)) same
    ∙ append_assoc start (stream_lines parts (take i ids) (take i streams)) (edge_line parts (get_or ids i z) (get_or streams i d))
    ∙ ap (λ w. start ++ w) (lines_more parts ids streams i z d (subst (λ (es : List EdgeId). i < length es) same lt) size)

-- the lines of the streams in all frames
pub lines_in : (parts : Parts) (frames : List (List Value)) (ids : List EdgeId)
    → stream_lines parts ids (map (stream_in frames) ids) ≡ edge_lines parts frames ids
lines_in parts frames [] = refl
lines_in parts frames (e ∷ ids) = ap (λ w. edge_line parts e (stream_in frames e) ++ w) (lines_in parts frames ids)
