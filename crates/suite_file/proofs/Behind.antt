-- The records behind a state: the next one, and those behind it.
use Rattle.std.proofs.Common.{◌≡◌, ◌<◌, ◌≤◌, ◌+◌, ◌∙◌, ℕ, zero, suc, Bool, true, false, ◌&&◌, ◌==◌, if◌then◌else◌, List, [], ◌∷◌, ◌++◌, length, drop, take, map, Option, Some, None, ◌-◌, refl, sym, ap, ap₂, subst, arith, slice_index_or, inl, Bor}
use Rattle.std.proofs.lemmas.Bool.{false≢true}
use Rattle.csv.specs.Machine.{Read, step, in_field, start_field, start_record, after_end, ends_with, is_end, ends_at_end, next_record, fields_after, field_after}
use Rattle.csv.specs.Reading.{default_config, records_from, records_next, strip_bom, is_bom, took_first, Reached, ReadRecord, Ready}
use Rattle.csv.specs.declared.parser.State.{State}
use Rattle.csv.specs.declared.parser.State.TheVariants as st
use Rattle.csv.specs.declared.parser.Action.{Action}
use Rattle.csv.specs.declared.parser.Action.TheVariants as act
use Rattle.csv.specs.declared.parser.Terminator.TheVariants as term
use Rattle.csv.specs.declared.reader.Reader.{Reader}
use Rattle.csv.proofs.ReadFacts.{rows-more, rows-end}
use Rattle.csv.specs.Reading.{reader_trim}
use Rattle.csv.specs.Records.{Row, fields_of, field_at, field_count, cut_from}
use Rattle.std.specs.List.{list_all}
use Rattle.std.specs.Prelude.{option_map, slice_get}
use Rattle.csv.specs.declared.reader.Trim.TheVariants as trim
use Rattle.suite_file.specs.Records.{Text, is_blank, trimmed_end, trimmed, fields}
use Rattle.suite_file.specs.Reading.{records_behind, slice_left, unread, IsReading, ReadsOne}

-- ---- the byte order mark

whole : (xs : Text) (n : ℕ) → length xs ≤ n → take n xs ≡ xs
whole [] zero h = refl
whole [] (suc n) h = refl
whole (x ∷ xs) zero h = absurd (omega arith)
whole (x ∷ xs) (suc n) h = ap (λ t. x ∷ t) (whole xs n (omega arith))

pub mark_is : (bytes : Text) → 3 ≤ length bytes → is_bom (slice_index_or bytes 0 0) (slice_index_or bytes 1 0) (slice_index_or bytes 2 0) ≡ true → strip_bom bytes ≡ take (length bytes - 3) (drop 3 bytes)
unfolding strip_bom
mark_is [] h e = absurd (omega arith)
mark_is (a ∷ []) h e = absurd (omega arith)
mark_is (a ∷ b ∷ []) h e = absurd (omega arith)
mark_is (a ∷ b ∷ c ∷ rest) h e = rw e (sym (whole rest _ (omega arith)))

pub no_mark : (bytes : Text) → 3 ≤ length bytes → is_bom (slice_index_or bytes 0 0) (slice_index_or bytes 1 0) (slice_index_or bytes 2 0) ≡ false → strip_bom bytes ≡ bytes
unfolding strip_bom
no_mark [] h e = absurd (omega arith)
no_mark (a ∷ []) h e = absurd (omega arith)
no_mark (a ∷ b ∷ []) h e = absurd (omega arith)
no_mark (a ∷ b ∷ c ∷ rest) h e = rw e refl

-- ---- what a record takes

-- if an action ends the record, its state stands between records
abbrev IsBetween : State × Action → Type 0
IsBetween p = is_end p.1 ≡ true → ends_at_end p.0 ≡ false

choose : (b : Bool) (x y : State × Action) → IsBetween x → IsBetween y → IsBetween (if b then x else y)
choose true x y h k = h
choose false x y h k = k

after_between : (c : ℕ) → ends_at_end (after_end term.CRLF c) ≡ false
after_between c = go (c == 13)
  where
    go : (b : Bool) → ends_at_end (if b then st.AfterCr else st.StartRecord) ≡ false
    go true = refl
    go false = refl

in_field_between : (c : ℕ) → IsBetween (in_field default_config c)
in_field_between c = choose (c == 44) _ _ (λ e. absurd (false≢true e)) (choose (ends_with term.CRLF c) _ _ (λ e. after_between c) (λ e. absurd (false≢true e)))

start_field_between : (c : ℕ) → IsBetween (start_field default_config c)
start_field_between c = choose (true && (c == 34)) _ _ (λ e. absurd (false≢true e)) (in_field_between c)

start_record_between : (c : ℕ) → IsBetween (start_record default_config c)
start_record_between c = choose (ends_with term.CRLF c) (st.StartRecord, act.Skip) (start_field default_config c) (λ e. absurd (false≢true e)) (start_field_between c)

-- after a record the reader stands between records
ended_between : (s : State) (c : ℕ) → IsBetween (step default_config s c)
ended_between st.StartRecord c = start_record_between c
ended_between st.StartField c = start_field_between c
ended_between st.InField c = in_field_between c
ended_between st.InQuoted c = choose (true && (c == 34)) _ _ (λ e. absurd (false≢true e)) (λ e. absurd (false≢true e))
ended_between st.InEscape c = λ e. absurd (false≢true e)
ended_between st.AfterQuote c = choose (true && (true && (c == 34))) _ _ (λ e. absurd (false≢true e)) (in_field_between c)
ended_between st.InComment c = choose (c == 10) _ _ (λ e. absurd (false≢true e)) (λ e. absurd (false≢true e))
ended_between st.AfterCr c = choose (c == 10) _ _ (λ e. absurd (false≢true e)) (start_record_between c)

-- what is left of a text once a record was read
abbrev Leaves : Text → Read → Type 0
Leaves xs p = (length p.2 ≤ length xs) × (ends_at_end p.1 ≡ false)

ended_leaves : (p : Read) (read : List Text) (ends : Bool) → (if ends then Some (read, st.StartRecord, []) else None) ≡ Some p → Leaves [] p
ended_leaves p read true e = let q : (read, st.StartRecord, []) ≡ p = cc e in subst (Leaves []) q (omega arith, refl)
ended_leaves p read false e = absurd (cc e)

pub next_leaves : (s : State) (before : List Text) (field xs : Text) (p : Read) → next_record default_config s before field xs ≡ Some p → Leaves xs p
unfolding next_record
next_leaves s before field [] p e = ended_leaves p (before ++ (field ∷ [])) (ends_at_end s) e
next_leaves s before field (c ∷ rest) p e = go (is_end (step default_config s c).1) (next_leaves (step default_config s c).0 (fields_after (step default_config s c).1 before field) (field_after (step default_config s c).1 c field) rest p) refl e
  where
    go : (b : Bool) → (next_record default_config (step default_config s c).0 (fields_after (step default_config s c).1 before field) (field_after (step default_config s c).1 c field) rest ≡ Some p → Leaves rest p)
        → is_end (step default_config s c).1 ≡ b
        → (if b then Some (fields_after (step default_config s c).1 before field, (step default_config s c).0, rest)
        else next_record default_config (step default_config s c).0 (fields_after (step default_config s c).1 before field) (field_after (step default_config s c).1 c field) rest) ≡ Some p → Leaves (c ∷ rest) p
    go true more h g =
        let q : (fields_after (step default_config s c).1 before field, (step default_config s c).0, rest) ≡ p = cc g in
        subst (Leaves (c ∷ rest)) q (omega arith, ended_between s c h)
    go false more h g = let t = more g in (omega (arith, t.0), t.1)

-- between two records, reading one takes a byte at least
pub next_takes : (s : State) (xs : Text) (p : Read) → ends_at_end s ≡ false → next_record default_config s [] [] xs ≡ Some p → (length p.2 < length xs) × (ends_at_end p.1 ≡ false)
unfolding next_record
next_takes s [] p h e = absurd (cc (rw h at e))
next_takes s (c ∷ rest) p h e = go (is_end (step default_config s c).1) refl e
  where
    go : (b : Bool) → is_end (step default_config s c).1 ≡ b
        → (if b then Some (fields_after (step default_config s c).1 [] [], (step default_config s c).0, rest)
        else next_record default_config (step default_config s c).0 (fields_after (step default_config s c).1 [] []) (field_after (step default_config s c).1 c []) rest) ≡ Some p
        → (length p.2 < suc (length rest)) × (ends_at_end p.1 ≡ false)
    go true k g =
        let q : (fields_after (step default_config s c).1 [] [], (step default_config s c).0, rest) ≡ p = cc g in
        subst (λ (p : Read). (length p.2 < suc (length rest)) × (ends_at_end p.1 ≡ false)) q (omega arith, ended_between s c k)
    go false k g = let t = next_leaves _ _ _ rest p g in (omega (arith, t.0), t.1)

-- ---- the list behind a state

-- any number of turns that suffices gives the same list
pub enough : (n m : ℕ) (s : State) (xs : Text) → ends_at_end s ≡ false → length xs < n → length xs < m → records_from default_config n s xs ≡ records_from default_config m s xs
unfolding records_from
enough zero m s xs h k l = absurd (omega arith)
enough (suc n) zero s xs h k l = absurd (omega arith)
enough (suc n) (suc m) s xs h k l = go (enough n m) (next_record default_config s [] [] xs) refl
  where
    go : ((s : State) (xs : Text) → ends_at_end s ≡ false → length xs < n → length xs < m → records_from default_config n s xs ≡ records_from default_config m s xs)
        → (o : Option Read) → next_record default_config s [] [] xs ≡ o → records_next (records_from default_config n) o ≡ records_next (records_from default_config m) o
    go more None e = refl
    go more (Some p) e = let t = next_takes s xs p h e in ap (λ r. p.0 ∷ r) (more p.1 p.2 t.1 (omega (arith, t.0, k)) (omega (arith, t.0, l)))

pub behind_some : (s : State) (xs : Text) (p : Read) → ends_at_end s ≡ false → next_record default_config s [] [] xs ≡ Some p → records_behind s (Some xs) ≡ map trimmed p.0 ∷ records_behind p.1 (Some p.2)
unfolding records_from
behind_some s xs p h e =
    let t = next_takes s xs p h e in
    let one_more : length xs + 1 ≡ suc (length xs) = omega arith in
    let first : records_from default_config (length xs + 1) s xs ≡ p.0 ∷ records_from default_config (length xs) p.1 p.2 = rw (one_more, e) refl in
    ap (map (map trimmed)) (first ∙ ap (λ r. p.0 ∷ r) (enough (length xs) (length p.2 + 1) p.1 p.2 t.1 t.0 (omega arith)))

pub behind_none : (s : State) (xs : Text) → next_record default_config s [] [] xs ≡ None → records_behind s (Some xs) ≡ []
unfolding records_from
behind_none s xs e =
    let one_more : length xs + 1 ≡ suc (length xs) = omega arith in
    rw (one_more, e) refl

-- ---- one read

read_some : (a b : Reader (Bor Text)) (f : List Text) → IsReading a → took_first b ≡ true → ReadRecord slice_left a b true f → IsReading b × (unread a ≡ map trimmed f ∷ unread b)
unfolding Reached
read_some a b f h t r =
    let m = rows-more slice_left a b f default_config a.state h.bytes h.bytes [] h.config h.known (refl, refl) r in
    let p = m.2.0 in
    let state : p.1 ≡ b.state = m.2.3.0 in
    let left : p.2 ≡ m.0 = m.2.3.1 in
    let takes = next_takes a.state h.bytes p h.between m.2.1 in (
      record {
        config = r.2 ∙ h.config;
        trim = r.3 ∙ h.trim;
        ready = inl t;
        between = subst (λ s. ends_at_end s ≡ false) state takes.1;
        bytes = m.0;
        known = m.1;
      },
      rw (h.known, m.1) (behind_some a.state h.bytes p h.between m.2.1 ∙ ap₂ (λ (x : List Text) (y : List (List Text)). map trimmed x ∷ y) (sym m.2.2) (ap₂ (λ (s : State) (y : Text). records_behind s (Some y)) state left)),
    )

read_none : (a b : Reader (Bor Text)) (f : List Text) → IsReading a → ReadRecord slice_left a b false f → unread a ≡ []
read_none a b f h r = rw h.known (behind_none a.state h.bytes (rows-end slice_left a b f default_config h.bytes h.config h.known r))

pub row_read : (a b : Reader (Bor Text)) (found : Bool) (row : Row) → IsReading a → took_first b ≡ true
    → (reader_trim a ≡ trim.None → Ready a → ReadRecord slice_left a b found (fields_of row))
    → ReadsOne found a b row
row_read a b true row h t r = read_some a b (fields_of row) h t (r h.trim h.ready)
row_read a b false row h t r = read_none a b (fields_of row) h (r h.trim h.ready)

-- ---- one field

pub trimmed_at : (row : List Text) (i : ℕ) → slice_get (map trimmed row) i ≡ option_map trimmed (field_at row i)
unfolding field_at
trimmed_at [] i = refl
trimmed_at (f ∷ fs) zero = refl
trimmed_at (f ∷ fs) (suc i) = trimmed_at fs i

fields_cut : (start : ℕ) (ends : List ℕ) (bytes : Text) → length (map trimmed (cut_from start ends bytes)) ≡ length ends
unfolding cut_from
fields_cut start [] bytes = refl
fields_cut start (end ∷ ends) bytes = ap suc (fields_cut end ends bytes)

pub field_number : (row : Row) → length (fields row) ≡ field_count row
field_number row = fields_cut 0 row.ends row.bytes

-- ---- blanks at the end

all_more : (front : Text) (b : ℕ) → is_blank b ≡ true → list_all is_blank (front ++ b ∷ []) ≡ list_all is_blank front
all_more [] b h = rw h refl
all_more (a ∷ front) b h = ap (λ t. is_blank a && t) (all_more front b h)

and_false : (b : Bool) → (b && false) ≡ false
and_false true = refl
and_false false = refl

not_all : (front : Text) (b : ℕ) → is_blank b ≡ false → list_all is_blank (front ++ b ∷ []) ≡ false
not_all [] b h = rw h refl
not_all (a ∷ front) b h = rw (not_all front b h) (and_false (is_blank a))

blank_end : (front : Text) (b : ℕ) → is_blank b ≡ true → trimmed_end (front ++ b ∷ []) ≡ trimmed_end front
blank_end [] b h = rw h refl
blank_end (a ∷ front) b h = rw (all_more front b h, blank_end front b h) refl

other_end : (front : Text) (b : ℕ) → is_blank b ≡ false → trimmed_end (front ++ b ∷ []) ≡ front ++ b ∷ []
other_end [] b h = rw h refl
other_end (a ∷ front) b h = rw (not_all front b h, and_false (is_blank a), other_end front b h) refl

split_last : (xs : Text) (n : ℕ) → length xs ≡ suc n → xs ≡ take n xs ++ slice_index_or xs n 0 ∷ []
split_last [] n h = absurd (omega arith)
split_last (x ∷ []) zero h = refl
split_last (x ∷ []) (suc n) h = absurd (omega arith)
split_last (x ∷ y ∷ rest) zero h = absurd (omega arith)
split_last (x ∷ y ∷ rest) (suc n) h = ap (λ t. x ∷ t) (split_last (y ∷ rest) n (omega arith))

pub last_blank : (xs : Text) → 1 ≤ length xs → is_blank (slice_index_or xs (length xs - 1) 0) ≡ true → trimmed_end (take (length xs - 1) xs) ≡ trimmed_end xs
last_blank xs h b = sym (ap trimmed_end (split_last xs (length xs - 1) (omega arith)) ∙ blank_end (take (length xs - 1) xs) _ b)

pub last_other : (xs : Text) → 1 ≤ length xs → is_blank (slice_index_or xs (length xs - 1) 0) ≡ false → xs ≡ trimmed_end xs
last_other xs h b = let e = split_last xs (length xs - 1) (omega arith) in e ∙ sym (ap trimmed_end e ∙ other_end (take (length xs - 1) xs) _ b)
